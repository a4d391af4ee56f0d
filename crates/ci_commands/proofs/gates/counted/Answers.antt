-- The count of one module more.
use Rattle.std.proofs.Common.{arith}
use Rattle.ci_commands.proofs.GateLaws.{one_together, spelled_few}
use Rattle.ci_commands.proofs.gates.counted.Goals as goal

pub overflow_add-gates : goal.overflow_add-gates
overflow_add-gates c = omega (arith, c.count-gates.ensures.most, c.loop-number.invariant.few)

pub overflow_cast-result : goal.overflow_cast-result
overflow_cast-result c =
    let few = spelled_few c.requires.0 c.args.modules.now c.requires.1 in omega (arith, few, c.loop-number-test.true)

pub returns-then-gates-gt-MOST-clause-many : goal.returns-then-gates-gt-MOST-clause-many
returns-then-gates-gt-MOST-clause-many c =
    let before = c.loop-number in
    let module_ = c.index-modules-number in
    record {
      there = c.loop-number-test.true;
      together =
          one_together c.args.modules.now before.number module_.result before.gates c.count-gates.result
          c.loop-number-test.true module_.is before.invariant.together c.count-gates.ensures.value;
      many = c.if-gates-gt-MOST.true;
      before = before.gates;
      together_before = before.invariant.together;
      few_before = before.invariant.few;
    }

pub loop-number-preserved : goal.loop-number-preserved
loop-number-preserved c =
    let before = c.loop-number in
    let module_ = c.index-modules-number in
    record {
      together =
          one_together c.args.modules.now before.number module_.result before.gates c.count-gates.result
          c.loop-number-test.true module_.is before.invariant.together c.count-gates.ensures.value;
      few = omega (arith, c.if-gates-gt-MOST.false);
    }
