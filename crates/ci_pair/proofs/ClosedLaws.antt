-- What one set shows of a pair.
use Rattle.std.proofs.Common.{◌≡◌, ℕ, ◌<◌, ◌⊎◌, IsTrue, [], ◌∷◌, inl, inr, false, sym, ◌∙◌, true≢false, arith}
use Rattle.ci_cut.specs.declared.graph.Limits.{Limits}
use Rattle.ci_cut.specs.FlowGraph.{FlowGraph}
use Rattle.ci_cut.specs.Prefixes as cuts
use Rattle.ci_cut.proofs.PrefixLaws.{decided_newest, decided_cases, decided_earlier, next_below, is_decided-none}
use Rattle.ci_pair.specs.declared.log.PairItem.{PairItem}
use Rattle.ci_pair.specs.declared.log.PairItem.TheVariants.{B, O, C, I, X, M, G, F}
use Rattle.ci_cut.specs.Walks.{IsConvex}
use Rattle.ci_cut.specs.Ports.{outputs}
use Rattle.ci_cut.proofs.Decisions.{taken_out}
use Rattle.ci_pair.specs.Pairs.{Label, First, Second, Out, Cross}
use Rattle.ci_pair.specs.Prefixes.{PairPrefix, choices, labelled, is_label, IsMirrored}
use Rattle.ci_pair.specs.Trees.{IsLeaf}
use Rattle.ci_pair.specs.private.Judged.{IsClosedBy}
use Rattle.ci_pair.specs.Rules.{Given, IsRight}
use Rattle.ci_pair.proofs.PrefixLaws.{same_next}
use Rattle.ci_pair.specs.private.Searched.{IsUnclosed}
use Rattle.ci_pair.proofs.SetTests.{both_as}
use Rattle.ci_pair.proofs.NeedLaws.{own_label}

module _ (graph : FlowGraph) (limits : Limits) (best : Given) (prefix : PairPrefix) where
  pub closed_first : (item : PairItem) → IsClosedBy graph limits (choices First prefix) item
      → IsLeaf item × IsRight graph limits best prefix item
  closed_first O more = (tt, inl more)
  closed_first C way_back = (tt, λ both. way_back both.0)
  closed_first B none = absurd none
  closed_first I none = absurd none
  closed_first X none = absurd none
  closed_first M none = absurd none
  closed_first G none = absurd none
  closed_first F none = absurd none

  pub closed_second : (item : PairItem) → IsClosedBy graph limits (choices Second prefix) item
      → IsLeaf item × IsRight graph limits best prefix item
  closed_second O more = (tt, inr more)
  closed_second C way_back = (tt, λ both. way_back both.1)
  closed_second B none = absurd none
  closed_second I none = absurd none
  closed_second X none = absurd none
  closed_second M none = absurd none
  closed_second G none = absurd none
  closed_second F none = absurd none

-- the first node that is labelled is in the first set, or the second set has the greatest
pub mirrored_at_once : (graph : FlowGraph) (prefix : PairPrefix) (node : ℕ)
    → IsTrue (cuts.is_next graph (choices First prefix) node) → ((k : ℕ) → ¬ IsTrue (labelled graph First prefix k))
    → IsMirrored graph (Second ∷ prefix)
mirrored_at_once graph prefix node next none = (
  node,
  decided_newest graph (λ b. b) (is_label Second Second) (choices Second prefix) node (same_next graph First Second prefix node next) (own_label Second),
  λ j in_. absurd (elim (decided_cases graph (λ b. b) (is_label First Second) (choices First prefix) j in_) [
    | inl newest ↦ true≢false (sym newest.1)
    | inr earlier ↦ none j earlier
  ]),
)

-- ---- the second set hasn't the greatest node

module _ (graph : FlowGraph) (prefix : PairPrefix) (before : ¬ IsMirrored graph prefix) where
  pub not_mirrored_by : (l : Label) → is_label Second l ≡ false → ¬ IsMirrored graph (l ∷ prefix)
  not_mirrored_by l other (k, in_, above) = before (
    k,
    elim (decided_cases graph (λ b. b) (is_label Second l) (choices Second prefix) k in_) [
      | inl newest ↦ absurd (true≢false (sym newest.1 ∙ other))
      | inr earlier ↦ earlier
    ],
    λ j here. above j (decided_earlier graph (λ b. b) (is_label First l) (choices First prefix) j here),
  )

  -- where the first set has some node
  pub not_mirrored_second : ¬ ((k : ℕ) → ¬ IsTrue (labelled graph First prefix k)) → ¬ IsMirrored graph (Second ∷ prefix)
  not_mirrored_second some (k, in_, above) = some (λ j here.
      let later = above j (decided_earlier graph (λ b. b) (is_label First Second) (choices First prefix) j here) in
      elim (decided_cases graph (λ b. b) (is_label Second Second) (choices Second prefix) k in_) [
        | inl newest ↦ omega (arith, later, next_below graph (λ b. b) (choices First prefix) k j (same_next graph Second First prefix k newest.0) here)
        | inr earlier ↦ before (k, earlier, λ i there. above i (decided_earlier graph (λ b. b) (is_label First Second) (choices First prefix) i there))
      ])

-- no node is labelled
pub not_mirrored_none : (graph : FlowGraph) → ¬ IsMirrored graph []
not_mirrored_none graph (k, in_, above) = absurd (true≢false (sym in_ ∙ is_decided-none graph (λ b. b) k))

-- a node left out closes nothing by outputs, ways back or crossing walks
pub unclosed_out : (graph : FlowGraph) (limits : Limits) (prefix : PairPrefix) (node : ℕ) → IsTrue (cuts.is_next graph (choices First prefix) node)
    → IsUnclosed graph limits prefix → IsUnclosed graph limits (Out ∷ prefix)
unclosed_out graph limits prefix node next unclosed =
    let first : labelled graph First prefix ≡ labelled graph First (Out ∷ prefix) = sym (taken_out graph (choices First prefix) node next) in
    let second : labelled graph Second prefix ≡ labelled graph Second (Out ∷ prefix) =
    sym (taken_out graph (choices Second prefix) node (same_next graph First Second prefix node next)) in
    record {
      outputs = both_as (λ s t. ¬ ((limits.outputs < outputs graph s) ⊎ (limits.outputs < outputs graph t))) first second unclosed.outputs;
      convex = both_as (λ s t. ¬ (¬ (IsConvex graph s × IsConvex graph t))) first second unclosed.convex;
      one_way = both_as (λ s t. ¬ Cross graph s t) first second unclosed.one_way;
    }
