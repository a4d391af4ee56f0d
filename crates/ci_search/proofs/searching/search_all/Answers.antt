use Rattle.std.proofs.Common.{◌≡◌, ℕ, List, [], inl, inr, refl, sym, subst, arith}
use Rattle.std.proofs.lemmas.Bool.{cases_eq}
use Rattle.std.proofs.lemmas.Bool.Decides.{not_from_Decides}
use Rattle.ci_region.specs.BoundedMap.{used}
use Rattle.ci_cut.specs.declared.incumbent.Incumbent.{Incumbent}
use Rattle.ci_check.specs.Representation.{IsMeasured}
use Rattle.ci_search.specs.private.Searched.{IsReady}
use Rattle.ci_search.proofs.AnswerLaws.{none_ready, needed, emptied}
use Rattle.ci_search.proofs.searching.search_all.Goals as goal
use Rattle.ci_search.proofs.searching.search_all.Goals.{After-none-first}

ready : (c : After-none-first) (delays : List ℕ)
    → IsReady c.args.graph.now c.args.limits.now c.none-first.result delays c.args.best.now []
ready c delays =
    subst (λ (best : Incumbent). IsReady c.args.graph.now c.args.limits.now c.none-first.result delays best []) (sym c.requires.none)
    (none_ready c.args.graph.now (c.none-first.ensures []).kept c.args.limits.now c.none-first.result delays (c.none-first.ensures delays))

pub search_from-requires-clause-ready : goal.search_from-requires-clause-ready
search_from-requires-clause-ready c = ([], ready (goal.at.search_from-requires-clause-ready c).After-none-first _)

pub search_from-requires-clause-measured : goal.search_from-requires-clause-measured
search_from-requires-clause-measured c =
    subst (λ (best : Incumbent). IsMeasured c.args.graph.now c.args.limits.now best) (sym c.requires.none)
    (record { good = tt; gain_is = refl })

pub search_from-requires-clause-room : goal.search_from-requires-clause-room
search_from-requires-clause-room c =
    let represents = c.none-first.ensures [] in
    omega (arith, represents.within, represents.kept.few)

pub returns-in_default : goal.returns-in_default
returns-in_default c =
    let graph = c.args.graph.now in
    let limits = c.args.limits.now in
    let before = c.args.region.now in
    let flows = (c.none-first.ensures []).kept in
    let alone = not_from_Decides _ c.needs_more_beside_others.ensures c.if-needs_more_beside_others.false in
    let spent = c.in_default.ensures.searched [] (ready (goal.at.returns-in_default c).After-none-first _) in
    let need = needed graph flows limits _ spent.1 in
    let none : used before ≡ 0 = elim (cases_eq (used before) 0) [ inl same ↦ same | inr apart ↦ absurd (alone (apart, need)) ] in
    (emptied graph flows limits before c.search_from.new.region none spent.0 c.clear.new.self c.clear.ensures, need)

pub returns : goal.returns
returns c = c.in-Some.ensures.searched [] (ready (goal.at.returns c).After-none-first _)
