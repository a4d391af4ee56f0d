use Rattle.std.proofs.Common.{◌-◌, ◌+◌, arith, sym, inl, inr}
use Rattle.ci_verilog.specs.Modules.{IsModule}
use Rattle.ci_vread.specs.private.Building.{left, begins_module, module_of, modules_of, many}
use Rattle.ci_vread.proofs.ManyTokens.{goes_on, stops, next_keeps}
use Rattle.ci_vread.proofs.building.Builder.units.Goals as goal
use Rattle.ci_vread.proofs.building.Builder.units.Goals.{else-loop-number-test, then-loop-number-test+then-not-begins_module}

pub unit-requires : goal.unit-requires
unfolding modules_of
unit-requires c =
    next_keeps begins_module module_of (many begins_module module_of 32 0 (left c.args.self.now)) IsModule
    (32 - c.loop-number.number) (31 - c.loop-number.number) c.loop-number.number c.loop-number.units.items
    (left c.loop-number.self) (omega arith) (sym c.if-not-begins_module.ensures) c.loop-number.invariant c.requires

pub loop-number-preserved : goal.loop-number-preserved
loop-number-preserved c =
    goes_on begins_module module_of (many begins_module module_of 32 0 (left c.args.self.now)) (32 - c.loop-number.number)
    (32 - (c.loop-number.number + 1)) c.loop-number.number c.loop-number.units.items c.push.new.self.items c.in_ok-unit.field-0
    (left c.loop-number.self) (left c.unit.new.self) (omega arith) (sym c.if-not-begins_module.ensures)
    c.in_ok-unit.ensures.value c.in_ok-unit.ensures.rest c.in_ok-push.ensures.items c.loop-number.invariant

pub returns : goal.returns
unfolding modules_of
returns c =
    (stops begins_module module_of (many begins_module module_of 32 0 (left c.args.self.now)) (32 - c.loop-number.number)
    c.loop-number.number c.loop-number.units.items (left c.loop-number.self)
    (elim c.loop-number-test.branch [
      | else-loop-number-test w ↦ inl (omega arith)
      | then-loop-number-test+then-not-begins_module w ↦ inr (sym w.if-not-begins_module.ensures)
    ])
    c.loop-number.invariant).0
