use Rattle.std.proofs.Common.{sym, ◌∙◌, ap}
use Rattle.ci_select.specs.declared.acceptance.Verdict.TheVariants.{Rejected}
use Rattle.ci_select.proofs.acceptance.rejected.Goals as goal

pub returns : goal.returns
returns c =
    let (history, follows) = c.requires in
    ap (λ round. Rejected round c.args.wrong.leader c.args.wrong.item c.args.wrong.reason)
    (c.round.ensures history follows ∙ sym follows.round_is)
