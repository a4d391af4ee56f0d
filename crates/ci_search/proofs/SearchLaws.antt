-- What a search has found at a prefix, from what it has found behind it.
use Rattle.std.proofs.Common.{◌≡◌, ℕ, suc, ◌+◌, ◌<◌, ◌≤◌, true, false, IsTrue, List, [], ◌∷◌, ◌++◌, length, refl, sym, ap, ◌∙◌, subst, arith, ℤ}
use Rattle.std.specs.Ordering.{nat_cmp}
use Rattle.std.specs.FinSet as set
use Rattle.ci_region.specs.BoundedMap.{BoundedMap, used}
use Rattle.ci_cut.specs.declared.graph.Limits.{Limits}
use Rattle.ci_cut.specs.FlowGraph.{FlowGraph}
use Rattle.ci_cut.specs.GraphRules.{IsFlowGraph}
use Rattle.ci_log.specs.declared.log.Item.{Item}
use Rattle.ci_log.specs.declared.log.Item.TheVariants.{B, F}
use Rattle.ci_log.specs.declared.flattening.Child.{Child}
use Rattle.ci_log.specs.declared.flattening.Child.TheVariants.{Leaf}
use Rattle.ci_log.specs.declared.flattening.LogNode.{LogNode}
use Rattle.ci_log.proofs.RegionTreeLaws.{at_leaf}
use Rattle.ci_cut.specs.declared.prefix.PrefixTerms.{PrefixTerms}
use Rattle.ci_cut.specs.declared.incumbent.Incumbent.{Incumbent}
use Rattle.ci_cut.specs.Prefixes.{Prefix, eligible_nodes, is_next, taken}
use Rattle.ci_cut.specs.ListCounts.{AtLeast, counted, passed}
use Rattle.ci_cut.specs.Need.{IsOpen, continuations}
use Rattle.ci_check.specs.Rules.{IsAfterBest, IsRight}
use Rattle.ci_cut.specs.Representation.{Represents}
use Rattle.ci_check.specs.Representation.{IsMeasured}
use Rattle.ci_check.specs.private.Walked.{IsWalked}
use Rattle.ci_cut.proofs.ListCountLaws.{AtLeast-left, AtLeast-both, AtLeast-fewer}
use Rattle.ci_cut.proofs.NeedLaws.{reached_whole, reached_in, reached_between, continuations-more}
use Rattle.ci_check.proofs.WalkedLaws.{walked_whole, walked_closed, walked_both}
use Rattle.ci_search.specs.Answered.{free}
use Rattle.ci_cut.specs.Incumbents.{IsImproved}
use Rattle.ci_cut.specs.private.Reached.{IsReachedBefore}
use Rattle.ci_search.specs.private.Searched.{undecided, IsReady, Prunes, IsSpentAt}
use Rattle.ci_search.specs.private.Trees.{IsSearched}
use Rattle.ci_search.specs.private.Branches.{AreTreesOf, IsBranch}
use Rattle.ci_search.proofs.LogLaws.{bar_closes, logged_bar, bar_is_leaf, logged_whole, reached_with_whole, after_in, after_between, logged_branch}

-- the same walk, counted from one more
one_later : {graph : FlowGraph} {limits : Limits} (prefix : Prefix) (left budget start end : ℕ) (before after : ℤ)
    → IsWalked graph limits budget left prefix (record { «open» = start; reached = before }) (record { «open» = end; reached = after })
    → end ≤ budget → (other last : ℕ) → last ≡ end + 1
    → IsWalked graph limits other left prefix (record { «open» = start + 1; reached = before }) (record { «open» = last; reached = after })
one_later prefix left budget start end before after walked within other last is = record {
  count = walked.count;
  is_open = omega (arith, walked.is_open);
  found = walked.found;
  all = λ _. walked.all within;
  reached = λ _. walked.reached within;
}

-- ---- leaves

module _ (graph : FlowGraph) (flows : IsFlowGraph graph) (limits : Limits) (prefix : Prefix) (best : Incumbent)
    (is : IsMeasured graph limits best) (after_best : IsAfterBest graph best.cut prefix) (reached : IsReachedBefore graph limits prefix best.gain)
    (region : BoundedMap LogNode) (within : used region ≤ region.capacity) where
  pub searched_whole : eligible_nodes graph ≤ length prefix → (cut : set.FinSet nat_cmp) → set.contains cut ≡ taken graph prefix → (later : Incumbent)
      → IsImproved graph limits best cut later → IsSearched graph limits prefix best later region region (Leaf F)
  searched_whole whole cut same later better = record {
    items = F ∷ [];
    tree = at_leaf tt;
    same_capacity = refl;
    within = within;
    logged = logged_whole graph flows limits best later is cut prefix same after_best whole better;
    walked = walked_whole graph flows limits region.capacity prefix (undecided graph prefix) (omega arith) _ _ refl
        (reached_whole graph flows limits prefix best.gain whole later.gain reached
        (reached_with_whole graph flows limits best later is cut prefix same after_best better));
  }

  pub searched_bar : (item : Item) → Prunes item → IsRight graph limits best.cut prefix item
      → IsSearched graph limits prefix best best region region (Leaf item)
  searched_bar item bar right = record {
    items = item ∷ [];
    tree = at_leaf (bar_is_leaf graph flows limits best is prefix item bar);
    same_capacity = refl;
    within = within;
    logged = logged_bar graph flows limits best is prefix after_best item bar right;
    walked = walked_closed graph flows limits region.capacity prefix (undecided graph prefix) _
        (bar_closes graph flows limits best is prefix reached item bar right) reached;
  }

-- ---- a branch

-- the next node is taken in
pub ready_in : (graph : FlowGraph) (limits : Limits) (prefix : Prefix) (terms : PrefixTerms) (delays : List ℕ) (best : Incumbent)
    → IsReady graph limits terms delays best prefix → (node : ℕ) → IsTrue (is_next graph prefix node)
    → (with_node : PrefixTerms) (later : List ℕ) → Represents graph (true ∷ prefix) with_node later
    → IsReady graph limits with_node later best (true ∷ prefix)
ready_in graph limits prefix terms delays best ready node next with_node later represents = record {
  represents = represents;
  after_best = after_in graph represents.kept limits prefix node next best.cut ready.after_best;
  reached = reached_in graph represents.kept limits prefix best.gain ready.reached;
}

module _ (graph : FlowGraph) (limits : Limits) (prefix : Prefix) (terms : PrefixTerms) (delays : List ℕ) (best : Incumbent)
    (ready : IsReady graph limits terms delays best prefix) (is : IsMeasured graph limits best)
    (region : BoundedMap LogNode) where
  flows : IsFlowGraph graph
  flows = ready.represents.kept

  module _ (node : ℕ) (next : IsTrue (is_next graph prefix node)) (some : length prefix < eligible_nodes graph) where
    one_less : undecided graph prefix ≡ suc (undecided graph (true ∷ prefix))
    one_less = omega arith

    more_open : (n : ℕ) → AtLeast (IsOpen graph limits) n
        (prefix ∷ (continuations (undecided graph (true ∷ prefix)) (true ∷ prefix)
        ++ continuations (undecided graph (false ∷ prefix)) (false ∷ prefix)))
        → AtLeast (IsOpen graph limits) n (continuations (undecided graph prefix) prefix)
    more_open n = subst (AtLeast (IsOpen graph limits) n) (sym (continuations-more (undecided graph prefix) (undecided graph (true ∷ prefix)) prefix one_less))

    pub spent_in : (after : BoundedMap LogNode) → IsSpentAt graph limits (true ∷ prefix) region after → IsSpentAt graph limits prefix region after
    spent_in after (same, found) = (
      same,
      more_open _
          (passed (AtLeast-left (IsOpen graph limits) found
          (continuations (undecided graph (false ∷ prefix)) (false ∷ prefix)))),
    )

    module _ (between : BoundedMap LogNode) (in_best : Incumbent) (in_root : Child)
        (first : IsSearched graph limits (true ∷ prefix) best in_best region between in_root) where
      pub ready_out : (without_node : PrefixTerms) (later : List ℕ) → Represents graph (false ∷ prefix) without_node later
          → IsReady graph limits without_node later in_best (false ∷ prefix)
      ready_out without_node later represents = record {
        represents = represents;
        after_best = after_between graph flows limits prefix node next in_best.cut first.logged.passed;
        reached = reached_between graph flows limits prefix in_best.gain node next
            (first.walked.reached (omega (arith, first.within, first.same_capacity)));
      }

      pub spent_out : (after : BoundedMap LogNode) → IsSpentAt graph limits (false ∷ prefix) between after
          → IsSpentAt graph limits prefix region after
      spent_out after (same, found) = (
        same ∙ first.same_capacity,
        more_open _ (passed (AtLeast-fewer (IsOpen graph limits)
            (AtLeast-both (IsOpen graph limits) (continuations (undecided graph (false ∷ prefix)) (false ∷ prefix))
            first.walked.found found)
            (suc (free region)) (omega (arith, first.walked.is_open, first.same_capacity)))),
      )

      module _ (after : BoundedMap LogNode) (out_best : Incumbent) (out_root : Child)
          (second : IsSearched graph limits (false ∷ prefix) in_best out_best between after out_root) where
        pub trees : AreTreesOf after in_root out_root first.items second.items region.values
        trees = record { between = between.values; out_tree = second.tree; in_tree = first.tree }

        pub spent_here : IsOpen graph limits prefix → used after ≡ after.capacity → (last : BoundedMap LogNode)
            → last ≡ after → IsSpentAt graph limits prefix region last
        spent_here is_open full last same = (
          ap (λ (m : BoundedMap LogNode). m.capacity) same ∙ second.same_capacity ∙ first.same_capacity,
          more_open _ (AtLeast-fewer (IsOpen graph limits)
              (counted is_open (AtLeast-both (IsOpen graph limits)
              (continuations (undecided graph (false ∷ prefix)) (false ∷ prefix)) first.walked.found
              second.walked.found))
              (suc (free region)) (omega (arith, first.walked.is_open, second.walked.is_open, first.same_capacity, second.same_capacity))),
        )

        pub searched_branch : IsOpen graph limits prefix → (last : BoundedMap LogNode) (root : Child) → IsBranch after last in_root out_root root
            → IsSearched graph limits prefix best out_best region last root
        searched_branch is_open last root joined = record {
          items = B ∷ (first.items ++ second.items);
          tree = joined.tree first.items second.items region.values trees;
          same_capacity = joined.same_capacity ∙ second.same_capacity ∙ first.same_capacity;
          within = omega (arith, joined.one_more, joined.was_free, joined.same_capacity);
          logged = logged_branch graph flows limits prefix node next best in_best out_best first.items second.items first.logged second.logged some;
          walked = walked_both graph flows limits region.capacity prefix (undecided graph prefix) (undecided graph (true ∷ prefix)) one_less is_open
              (record { «open» = used region; reached = best.gain }) (record { «open» = used region + 1; reached = best.gain }) refl
              (record { «open» = used between + 1; reached = in_best.gain })
              (one_later (true ∷ prefix) _ _ _ _ _ _ first.walked (omega (arith, first.within, first.same_capacity)) region.capacity _ refl)
              (record { «open» = used last; reached = out_best.gain })
              (one_later (false ∷ prefix) _ _ _ _ _ _ second.walked (omega (arith, second.within, second.same_capacity)) region.capacity _ joined.one_more)
              node next;
        }
