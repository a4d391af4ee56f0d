-- What a search answers once it has passed all sets.
use Rattle.std.proofs.Common.{◌≡◌, ℕ, suc, ◌-◌, ◌↔◌, inl, List, [], Option, Some, None, MatchOption, refl, sym, ap, ◌∙◌, subst, arith, pos}
use Rattle.std.specs.FinMap as map
use Rattle.std.specs.FinMap.{empty_of_len}
use Rattle.std.specs.FinSet as set
use Rattle.ci_region.specs.BoundedMap.{BoundedMap, used}
use Rattle.ci_cut.specs.declared.graph.Limits.{Limits}
use Rattle.ci_cut.specs.FlowGraph.{FlowGraph}
use Rattle.ci_cut.specs.GraphRules.{IsFlowGraph}
use Rattle.ci_cut.specs.Best.{IsBest, HasNoCut}
use Rattle.ci_log.specs.declared.flattening.Child.{Child}
use Rattle.ci_log.specs.declared.flattening.LogNode.{LogNode}
use Rattle.ci_region.proofs.TreeLaws.{rest_is_kept}
use Rattle.ci_cut.specs.declared.prefix.PrefixTerms.{PrefixTerms}
use Rattle.ci_cut.specs.declared.incumbent.Incumbent.{Incumbent}
use Rattle.ci_cut.specs.Prefixes.{eligible_nodes}
use Rattle.ci_cut.specs.ListCounts.{AtLeast}
use Rattle.ci_cut.specs.Need.{IsOpen, IsNeed, NeedExceeds, continuations}
use Rattle.ci_check.specs.Rules.{Given}
use Rattle.ci_cut.specs.Representation.{Represents}
use Rattle.ci_check.proofs.Acceptance.{accepted_is_best}
use Rattle.ci_cut.proofs.NeedLaws.{reached_none}
use Rattle.ci_search.specs.Answered.{free, HasLog, IsAnswer, IsSpent, IsOptimal}
use Rattle.ci_search.specs.private.Searched.{undecided, IsReady, IsGivenUp}
use Rattle.ci_search.specs.private.Trees.{IsSearched, found_at, answer_of}

module _ (graph : FlowGraph) (flows : IsFlowGraph graph) (limits : Limits) where
  pub none_ready : (terms : PrefixTerms) (delays : List ℕ) → Represents graph [] terms delays
      → IsReady graph limits terms delays (record { cut = None; gain = pos 0 }) []
  none_ready terms delays represents = record { represents = represents; after_best = tt; reached = reached_none graph limits }

  all_undecided : undecided graph [] ≡ eligible_nodes graph
  all_undecided = omega arith

  -- what is open from the beginning on is all that is open
  pub needed : (budget : ℕ) → AtLeast (IsOpen graph limits) (suc budget) (continuations (undecided graph []) []) → NeedExceeds graph limits budget
  needed budget = subst (λ (n : ℕ). AtLeast (IsOpen graph limits) (suc budget) (continuations n [])) all_undecided

  module _ (before after : BoundedMap LogNode) where
    -- a region that held nothing holds nothing again
    pub emptied : used before ≡ 0 → after.capacity ≡ before.capacity → (last : BoundedMap LogNode)
        → last ≡ record after { values = map.empty } → last ≡ before
    emptied none same last cleared =
        let bare = empty_of_len before.values none in
        cleared ∙ (λ i. record { values = sym bare i; capacity = same i })

    -- the search of all sets ended so, with this best cut
    abbrev Ended : Option Child → Incumbent → Type 0
    Ended root best = MatchOption root (IsGivenUp graph limits before after)
        (IsSearched graph limits [] (record { cut = None; gain = pos 0 }) best before after)

    log_of : (root : Child) (best : Incumbent) → IsSearched graph limits [] (record { cut = None; gain = pos 0 }) best before after root
        → HasLog graph limits best.cut before after root
    log_of root best is = record {
      items = is.items;
      tree = is.tree;
      accepted = record {
        good = is.logged.measured.good;
        tree = is.logged.tree;
        right = is.logged.right best.cut (inl refl);
      };
    }

    answer_at : (cut : Given) (root : Child) → HasLog graph limits cut before after root → IsAnswer graph limits before after (found_at cut root)
    answer_at None root log = log
    answer_at (Some cut) root log = log

    pub answer_is : (root : Option Child) (best : Incumbent) (budget : ℕ) → budget ≡ free before → Ended root best
        → IsAnswer graph limits before after (answer_of root best.cut budget)
    answer_is None best budget is_free (same, found) = (is_free, same)
    answer_is (Some root) best budget is_free is = answer_at best.cut root (log_of root best is)

    not_spent : (cut : Given) (root : Child) → ¬ IsSpent (found_at cut root)
    not_spent None root is = is
    not_spent (Some cut) root is = is

    pub spent_is : (root : Option Child) (best : Incumbent) (budget : ℕ) → Ended root best
        → IsSpent (answer_of root best.cut budget) ↔ NeedExceeds graph limits (free before)
    spent_is None best budget (same, found) = (λ _. found, λ _. tt)
    spent_is (Some root) best budget is = (
      λ spent. absurd (not_spent best.cut root spent),
      λ needed.
          let fewer = is.walked.all (omega (arith, is.within, is.same_capacity)) (suc (free before))
          (subst (λ (n : ℕ). AtLeast (IsOpen graph limits) (suc (free before)) (continuations n []))
          (sym all_undecided) needed) in
          absurd (omega (arith, fewer, is.walked.is_open, is.within, is.same_capacity)),
    )

    pub optimal_is : (root : Option Child) (best : Incumbent) (budget : ℕ) → Ended root best
        → IsOptimal graph limits (answer_of root best.cut budget)
    unfolding log_of
    optimal_is None best budget is = tt
    optimal_is (Some root) best budget is =
        by_cut best.cut (accepted_is_best graph flows limits best.cut is.items (log_of root best is).accepted)
      where
        by_cut : (cut : Given) → MatchOption cut (HasNoCut graph limits)
            (λ cut. IsBest graph limits (set.contains cut)) → IsOptimal graph limits (found_at cut root)
        by_cut None optimal = optimal
        by_cut (Some cut) optimal = optimal

    pub kept_is : (root : Option Child) (best : Incumbent) → Ended root best
        → (slot : ℕ) (node : LogNode) → map.get before.values slot ≡ Some node → map.get after.values slot ≡ Some node
    kept_is None best (same, found) slot node here = subst (λ (m : BoundedMap LogNode). map.get m.values slot ≡ Some node) (sym same) here
    kept_is (Some root) best is slot node here = rest_is_kept is.tree slot node here

    pub capacity_is : (root : Option Child) (best : Incumbent) → Ended root best
        → after.capacity ≡ before.capacity
    capacity_is None best (same, found) = ap (λ (m : BoundedMap LogNode). m.capacity) same
    capacity_is (Some root) best is = is.same_capacity

    pub slots_are : (root : Option Child) (best : Incumbent) (budget : ℕ) → Ended root best
        → ¬ IsSpent (answer_of root best.cut budget) → IsNeed graph limits (used after - used before)
    slots_are None best budget (same, found) not_spent = absurd (not_spent tt)
    slots_are (Some root) best budget is not_spent =
        let count : is.walked.count ≡ used after - used before = omega (arith, is.walked.is_open) in
        subst (IsNeed graph limits) count (record {
          at_least = subst (λ (n : ℕ). AtLeast (IsOpen graph limits) is.walked.count (continuations n [])) all_undecided is.walked.found;
          no_more = λ n has.
              is.walked.all (omega (arith, is.within, is.same_capacity)) n
              (subst (λ (m : ℕ). AtLeast (IsOpen graph limits) n (continuations m [])) (sym all_undecided) has);
        })
