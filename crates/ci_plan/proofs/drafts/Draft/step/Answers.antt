use Rattle.std.proofs.Common.{rules}
use Rattle.ci_plan.proofs.DraftLaws.{grows_in_array}
use Rattle.ci_plan.proofs.drafts.Draft.step.Goals as goal

pub returns-then-place-from-clause-grows : goal.returns-then-place-from-clause-grows
returns-then-place-from-clause-grows c =
    let d = c.self.inside in
    grows_in_array c.args.self.now d.words d.lowest d.count c.from-then-place-from.result d.steps c.args.step c.self.view_is
    c.self.invariant.0 (search rules) (search rules) (search rules) c.requires
