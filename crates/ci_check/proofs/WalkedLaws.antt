-- What a walk over the prefixes has found.
use Rattle.std.proofs.Common.{◌≡◌, ℕ, zero, suc, ◌+◌, ◌<◌, ◌≤◌, true, false, inl, inr, IsTrue, ◌∷◌, ◌++◌, sym, subst, arith}
use Rattle.ci_cut.specs.declared.graph.Limits.{Limits}
use Rattle.ci_cut.specs.FlowGraph.{FlowGraph}
use Rattle.ci_cut.specs.GraphRules.{IsFlowGraph}
use Rattle.ci_cut.specs.ListCounts.{AtLeast, none, counted}
use Rattle.ci_cut.specs.Prefixes.{Prefix, is_next}
use Rattle.ci_cut.specs.Need.{IsOpen, continuations}
use Rattle.ci_cut.specs.private.Reached.{IsReachedBefore, IsReachedBehind}
use Rattle.ci_cut.proofs.ListCountLaws.{AtLeast-nil, AtLeast-cases, AtLeast-left, AtLeast-both, AtLeast-split}
use Rattle.ci_cut.proofs.NeedLaws.{none_open, continuations-more, reached_closed, reached_behind}
use Rattle.ci_check.specs.declared.need.Walked.{Walked}
use Rattle.ci_check.specs.private.Walked.{IsWalked}

module _ (graph : FlowGraph) (flows : IsFlowGraph graph) (limits : Limits) (budget : ℕ) (prefix : Prefix) where
  -- all nodes are decided
  pub walked_whole : (undecided : ℕ) → undecided ≡ 0 → (before after : Walked) → after.open ≡ before.open
      → IsReachedBehind graph limits prefix after.reached
      → IsWalked graph limits budget undecided prefix before after
  unfolding continuations
  walked_whole zero whole before after same reached = record {
    count = 0;
    is_open = omega arith;
    found = none;
    all = λ _ n found. omega (arith, AtLeast-nil (IsOpen graph limits) found);
    reached = λ _. reached;
  }
  walked_whole (suc undecided) whole before after same reached = absurd (omega arith)

  -- the prefix isn't open
  pub walked_closed : (undecided : ℕ) (before : Walked) → ¬ IsOpen graph limits prefix
      → IsReachedBefore graph limits prefix before.reached
      → IsWalked graph limits budget undecided prefix before before
  walked_closed undecided before closed reached = record {
    count = 0;
    is_open = omega arith;
    found = none;
    all = λ _ n found. omega (arith, none_open graph limits flows undecided n prefix closed found);
    reached = λ _. reached_closed graph flows limits prefix before.reached reached closed;
  }

  module _ (undecided left : ℕ) (one_less : undecided ≡ suc left) (is : IsOpen graph limits prefix)
      (before here : Walked) (one_more : here.open ≡ before.open + 1) where
    -- at least so many of all prefixes from here on
    at_least : (n : ℕ) → AtLeast (IsOpen graph limits) n
        (prefix ∷ (continuations left (true ∷ prefix) ++ continuations left (false ∷ prefix)))
        → AtLeast (IsOpen graph limits) n (continuations undecided prefix)
    at_least n = subst (AtLeast (IsOpen graph limits) n) (sym (continuations-more undecided left prefix one_less))

    -- and it is the last one in the budget
    pub walked_here : budget < here.open → IsWalked graph limits budget undecided prefix before here
    walked_here over = record {
      count = 1;
      is_open = one_more;
      found = at_least 1 (counted is none);
      all = λ within. absurd (omega arith);
      reached = λ within. absurd (omega arith);
    }

    module _ (first : Walked) (by_first : IsWalked graph limits budget left (true ∷ prefix) here first) where
      -- the budget is passed with the next node in
      pub walked_first : budget < first.open → IsWalked graph limits budget undecided prefix before first
      walked_first over = record {
        count = suc by_first.count;
        is_open = omega (arith, by_first.is_open);
        found = at_least (suc by_first.count) (counted is (AtLeast-left (IsOpen graph limits) by_first.found (continuations left (false ∷ prefix))));
        all = λ within. absurd (omega arith);
        reached = λ within. absurd (omega arith);
      }

      module _ (after : Walked) (by_second : IsWalked graph limits budget left (false ∷ prefix) first after) where
        parts_within : (m : ℕ) → after.open ≤ budget
            → AtLeast (IsOpen graph limits) m (continuations left (true ∷ prefix)
            ++ continuations left (false ∷ prefix)) → m ≤ by_first.count + by_second.count
        parts_within m within has =
            let parts = AtLeast-split (IsOpen graph limits) (continuations left (true ∷ prefix)) (continuations left (false ∷ prefix)) has in
            omega (arith, parts.4, by_first.all (omega (arith, by_second.is_open)) parts.0 parts.2, by_second.all within parts.1 parts.3)

        all_within : (n : ℕ) → after.open ≤ budget
            → AtLeast (IsOpen graph limits) n (continuations undecided prefix)
            → n ≤ suc (by_first.count + by_second.count)
        all_within n within has = elim (AtLeast-cases (IsOpen graph limits)
            (subst (AtLeast (IsOpen graph limits) n) (continuations-more undecided left prefix one_less) has)) [
              | inl zero_ ↦ omega arith
              | inr (inl (m, is_suc, open_, rest)) ↦ omega (arith, parts_within m within rest)
              | inr (inr rest) ↦ omega (arith, parts_within n within rest)
            ]

        pub walked_both : (node : ℕ) → IsTrue (is_next graph prefix node) → IsWalked graph limits budget undecided prefix before after
        walked_both node next = record {
          count = suc (by_first.count + by_second.count);
          is_open = omega (arith, by_first.is_open, by_second.is_open);
          found = at_least (suc (by_first.count + by_second.count))
              (counted is (AtLeast-both (IsOpen graph limits)
              (continuations left (false ∷ prefix)) by_first.found by_second.found));
          all = λ within n has. all_within n within has;
          reached = λ within. reached_behind graph flows limits prefix after.reached node next (by_second.reached within);
        }
