use Rattle.std.proofs.Common.{suc, [], inl, inr, arith, ltb-true, lt-ltb}
use Rattle.std.proofs.lemmas.Bool.{cases_lt}
use Rattle.ci_cut.specs.Prefixes.{eligible_nodes}
use Rattle.ci_cut.specs.Need.{IsOpen}
use Rattle.ci_cut.proofs.ListCountLaws.{AtLeast-fewer}
use Rattle.ci_cut.proofs.NeedLaws.{reached_none}
use Rattle.ci_check.proofs.need.needs_more.Goals as goal

pub walk-all-requires-clause-represents : goal.walk-all-requires-clause-represents
walk-all-requires-clause-represents c = ([], c.none-first.ensures _)

pub returns : goal.returns
returns c =
    let graph = c.args.graph.now in
    let limits = c.args.limits.now in
    let walked = c.walk-all.ensures.walked [] (eligible_nodes graph) (c.none-first.ensures _) (omega arith) (reached_none graph limits) in (
      λ e. AtLeast-fewer (IsOpen graph limits) walked.found (suc c.args.budget)
          (omega (arith, ltb-true _ _ e, walked.is_open, c.from.ensures, c.from-2.ensures)),
      λ needed. elim (cases_lt c.from-2.result c.walk-all.result.open) [
        | inl over ↦ lt-ltb _ _ over
        | inr within ↦
            absurd (omega (
              arith,
              walked.all (omega (arith, within, c.from.ensures, c.from-2.ensures))
                  (suc c.args.budget) needed,
              walked.is_open,
              within,
              c.from.ensures,
              c.from-2.ensures,
            ))
      ],
    )
