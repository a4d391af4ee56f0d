use Rattle.std.proofs.Common.{arith, ◌∙◌}
use Rattle.std.proofs.lemmas.List.{length-set}
use Rattle.ci_plan.specs.declared.steps.Step.TheVariants.{Plus}
use Rattle.ci_plan.proofs.StepLaws.{made_more}
use Rattle.ci_plan.proofs.plans.make.Goals as goal

pub loop-step-preserved : goal.loop-step-preserved
loop-step-preserved c =
    let l = c.loop-step in
    record {
      whole = length-set l.words l.place c.value.result ∙ l.invariant.whole;
      place_is = let e = l.invariant.place_is in omega (arith, e);
      made =
          made_more c.args.words.now l.words c.args.steps.now l.step-index l.place c.value.result (Plus 0 0 0) l.invariant.made
          c.loop-step-test.true l.invariant.place_is c.value.ensures;
    }
