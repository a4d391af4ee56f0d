use Rattle.std.proofs.Common.{[], refl, sym, subst}
use Rattle.ci_pair.specs.declared.rules.PairIncumbent.{PairIncumbent}
use Rattle.ci_pair.specs.private.Judged.{IsMeasured}
use Rattle.ci_pair.specs.private.SearchTrees.{IsReady}
use Rattle.ci_pair.proofs.SearchLaws.{none_ready, match_as}
use Rattle.ci_pair.proofs.AnswerLaws.{needed}
use Rattle.ci_pair.proofs.searching.search_all.Goals as goal

pub search_from-requires-clause-ready : goal.search_from-requires-clause-ready
search_from-requires-clause-ready c = (
  [],
  subst (λ (best : PairIncumbent). IsReady c.args.graph.now c.args.limits.now c.none-none.result _ best []) (sym c.requires.none)
      (none_ready c.args.graph.now c.args.limits.now c.none-none.result _ (c.none-none.ensures _)),
)

pub search_from-requires-clause-measured : goal.search_from-requires-clause-measured
search_from-requires-clause-measured c =
    subst (λ (best : PairIncumbent). IsMeasured c.args.graph.now c.args.limits.now best) (sym c.requires.none)
    (record { good = tt; gain_is = refl })

pub returns : goal.returns
returns c =
    match_as c.search_from.result
    (λ spent. (spent.0, needed c.args.graph.now c.args.limits.now _ spent.1)) (λ root is. is)
    (c.search_from.ensures.searched []
    (subst (λ (best : PairIncumbent). IsReady c.args.graph.now c.args.limits.now c.none-none.result _ best []) (sym c.requires.none)
    (none_ready c.args.graph.now c.args.limits.now c.none-none.result _ (c.none-none.ensures _))))
