use Rattle.std.specs.Prelude.{map, take, length, ◌<◌, ◌≤◌, ◌+◌, ◌++◌}
use Rattle.std.proofs.Common.{sym, subst, ap, ◌∙◌}
use Rattle.std.proofs.lemmas.List.{take_all}
use Rattle.ci_verilog.specs.Values.{joined, item_bits, of_width}
use Rattle.ci_verilog.specs.private.Held.{ItemFits}
use Rattle.ci_gates.specs.private.Scopes.{Stands}
use Rattle.ci_verilog.specs.Modules.{wires_of}
use Rattle.ci_gates.proofs.ScopeLaws.{nothing_stands, items_more, item_fits_at}
use Rattle.ci_gates.proofs.scopes.Scope.items.Goals as goal

pub loop-item-init : goal.loop-item-init
loop-item-init c =
    let wires = wires_of c.args.self.now.wide c.args.self.now.wires.now in
    let words = c.args.self.now.words.now in
    subst (λ bits. Stands wires words bits (λ names. of_width 0 0)) (sym c.new-bits.ensures.items) (nothing_stands wires words)

pub item-requires-clause-fits : goal.item-requires-clause-fits
item-requires-clause-fits c =
    let wires = wires_of c.args.self.now.wide c.args.self.now.wires.now in
    subst (ItemFits wires) (sym c.item-item.is)
    (item_fits_at wires c.args.items.now c.requires.fits.0 c.loop-item.item-index c.item-item.result c.requires.fits.2
    (let e : c.loop-item.item-index < length c.args.items.now = c.loop-item-test.true in e))

pub loop-item-preserved : goal.loop-item-preserved
loop-item-preserved c =
    let wires = wires_of c.args.self.now.wide c.args.self.now.wires.now in
    let words = c.args.self.now.words.now in
    let k = c.loop-item.item-index in
    let low = c.in_ok-lower.lower.items in
    let high = c.loop-item.bits.items in
    subst (λ bits. Stands wires words bits (λ names. joined (map (item_bits names) (take (k + 1) c.args.items.now))))
    (sym (c.in_ok-extend_from_slice.ensures.items ∙ ap (λ l. low ++ l) c.deref.ensures.value))
    (items_more wires words low high c.args.items.now k c.item-item.result
    (let e : k < length c.args.items.now = c.loop-item-test.true in e) c.item-item.is c.in_ok-lower.ensures c.loop-item.invariant)

pub returns : goal.returns
returns c =
    let items = c.args.items.now in
    let past : length items ≤ c.loop-item.item-index = c.loop-item-test.false in
    subst (λ l. Stands (wires_of c.args.self.now.wide c.args.self.now.wires.now) c.args.self.now.words.now c.loop-item.bits.items (λ names. joined (map (item_bits names) l)))
    (take_all c.loop-item.item-index items past) c.loop-item.invariant
