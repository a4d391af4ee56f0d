use Rattle.std.proofs.Common.{sym, subst, arith, drop, ◌+◌}
use Rattle.ci_verilog.specs.Modules.{wires_of, known_by, IsItem}
use Rattle.ci_verilog.specs.private.Held.{InRange, IsHeld}
use Rattle.ci_verilog.proofs.VectorLaws.{above_in_range}
use Rattle.ci_verilog.proofs.ScopeLaws.{IsAbove, item_at, next_found, all_above}
use Rattle.ci_verilog.proofs.evaluation.Scope.items.Goals as goal

pub item-requires-clause-fits : goal.item-requires-clause-fits
item-requires-clause-fits c =
    let self = c.args.self.now in
    let at =
    item_at self.arguments (wires_of self.wide self.wires.now) self.values.now c.requires.held c.args.items.now c.requires.fits.0
    c.loop-item.item-index c.item-item.result c.requires.fits.2 (omega arith) in
    (at.0, subst (λ i. IsItem (known_by (wires_of self.wide self.wires.now)) i at.0) (sym c.item-item.is) at.1)

pub above-bits-requires : goal.above-bits-requires
above-bits-requires c =
    let self = c.args.self.now in
    let found =
    next_found self.arguments (wires_of self.wide self.wires.now) self.values.now c.requires.held c.args.items.now c.loop-item.item-index
    c.item-item.result c.loop-item.bits c.item.result c.requires.fits (omega arith) c.item-item.is
    (c.loop-item.invariant.is_above c.requires.held) c.item.ensures in
    record { narrow = found.narrow; high_in_range = c.loop-item.invariant.in_range; low_in_range = found.in_range }

pub loop-item-preserved : goal.loop-item-preserved
loop-item-preserved c =
    let self = c.args.self.now in
    let found =
    λ (held : IsHeld self.arguments (wires_of self.wide self.wires.now) self.values.now).
    next_found self.arguments (wires_of self.wide self.wires.now) self.values.now held c.args.items.now c.loop-item.item-index
    c.item-item.result c.loop-item.bits c.item.result c.requires.fits (omega arith) c.item-item.is
    (c.loop-item.invariant.is_above held) c.item.ensures in
    record {
      in_range =
          subst (λ v. InRange v) (sym c.above-bits.ensures)
          (above_in_range c.loop-item.bits c.item.result c.loop-item.invariant.in_range (found c.requires.held).in_range);
      is_above =
          λ held.
          subst
          (λ v. IsAbove self.arguments (wires_of self.wide self.wires.now) self.values.now held v (drop (c.loop-item.item-index + 1) c.args.items.now)
          c.args.items.now)
          (sym c.above-bits.ensures) (found held).is_above;
    }

pub returns : goal.returns
returns c =
    let self = c.args.self.now in
    all_above self.arguments (wires_of self.wide self.wires.now) self.values.now c.requires.held c.loop-item.bits c.args.items.now
    c.loop-item.item-index (omega arith) (c.loop-item.invariant.is_above c.requires.held)
