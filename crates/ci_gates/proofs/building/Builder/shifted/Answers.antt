use Rattle.std.proofs.Common.{◌∙◌, sym, ap, subst, length, if◌then◌else◌}
use Rattle.std.specs.List.{slice_index_or}
use Rattle.ci_netlist.specs.declared.bits.Bit.TheVariants.{Zero}
use Rattle.ci_netlist.specs.Netlists.{AreBits, bit_value, spelt}
use Rattle.ci_gates.specs.private.Growing.{moved_bits}
use Rattle.ci_gates.proofs.ShiftLaws.{IsShifted, shifted_none, shifted_more, moved_are}
use Rattle.ci_gates.proofs.building.Builder.shifted.Goals as goal

pub loop-k-init : goal.loop-k-init
loop-k-init c =
    let gates = c.args.self.now in
    let bits = c.args.bits.now in
    subst (λ word. IsShifted gates gates c.args.direction bits c.args.amount.now word 0) (sym c.in_ok-word.ensures.items)
    (shifted_none gates c.args.direction bits c.args.amount.now c.requires.bits_are)

pub choice-requires-clause-first_are : goal.choice-requires-clause-first_are
choice-requires-clause-first_are c =
    let word = c.loop-k.word.items in
    let here = c.deref-in-loop-k.ensures.value ∙ c.in_ok-moved.ensures
    ∙ (λ t. moved_bits c.args.direction (c.deref.ensures.value t) c.distance.result) in
    subst (AreBits (length c.loop-k.self)) (sym here)
    (moved_are (length c.loop-k.self) c.args.direction word c.distance.result c.loop-k.invariant.makes.are_bits)

pub loop-k-preserved : goal.loop-k-preserved
loop-k-preserved c =
    let word = c.loop-k.word.items in
    let bits = c.args.bits.now in
    let amount = c.args.amount.now in
    let moved = c.deref-in-loop-k.result.now in
    let k = c.loop-k.k in
    let here = c.deref-in-loop-k.ensures.value ∙ c.in_ok-moved.ensures
    ∙ (λ t. moved_bits c.args.direction (c.deref.ensures.value t) c.distance.result) in
    shifted_more c.args.self.now c.loop-k.self c.choice.new.self c.args.direction bits amount word moved
    c.in_ok-chosen.chosen.items k c.distance.result c.loop-k.invariant c.loop-k-test.true c.distance.ensures here
    c.in_ok-chosen.ensures.makes
    (λ arguments gives settled.
    let holds = bit_value arguments gives in
    c.in_ok-chosen.ensures.value arguments gives settled
    ∙ ap (λ l. if holds (slice_index_or amount k Zero) then spelt holds moved else spelt holds l) c.deref-in-loop-k-2.ensures.value)
