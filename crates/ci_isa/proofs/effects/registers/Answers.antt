use Rattle.std.proofs.Common.{◌∙◌}
use Rattle.ci_isa.proofs.Registers.{from_list_more}
use Rattle.ci_isa.proofs.effects.registers.Goals as goal

pub loop-number-preserved : goal.loop-number-preserved
loop-number-preserved c = c.insert.ensures
    ∙ from_list_more c.args.numbers.now c.loop-number.number-index c.loop-number.row c.loop-number-test.true
    c.loop-number.invariant
