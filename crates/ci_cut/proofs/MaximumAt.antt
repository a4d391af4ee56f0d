-- The maximum of the delays at the nodes among the sources, one source more.
use Rattle.std.proofs.Common.{◌≡◌, ℕ, ◌+◌, ◌<◌, max, List, length, get_or, take, slice_index, IsTrue, ◌⊎◌, refl, sym, ap, ◌∙◌, inl, inr, arith}
use Rattle.std.proofs.lemmas.Bool.{or_cases, or_left, or_right, eqb-true, eq-eqb, cases_lt}
use Rattle.std.proofs.lemmas.List.Folds.{list_any_more}
use Rattle.std.specs.List.{list_any}
use Rattle.ci_cut.specs.declared.graph.Source.{Source}
use Rattle.ci_cut.specs.declared.graph.Source.TheVariants.{Entry, Made}
use Rattle.ci_cut.specs.FlowGraph.{is_source}
use Rattle.ci_cut.specs.private.ChainDelays.{HasMaker, IsMaximumAt}

module _ (sources : List Source) (i : ℕ) (d : Source) (below : i < length sources) where
  -- the nodes among one source more
  maker_cases : (source : Source) → get_or sources i d ≡ source → (k : ℕ) → HasMaker (take (i + 1) sources) k
      → HasMaker (take i sources) k ⊎ IsTrue (is_source (Made k) source)
  maker_cases source same k has =
      elim (or_cases (list_any (is_source (Made k)) (take i sources)) (is_source (Made k) (get_or sources i d))
      (sym (list_any_more (is_source (Made k)) sources i d below) ∙ has)) [
        | inl earlier ↦ inl earlier
        | inr here ↦ inr (sym (ap (is_source (Made k)) same) ∙ here)
      ]

  maker_earlier : (k : ℕ) → HasMaker (take i sources) k → HasMaker (take (i + 1) sources) k
  maker_earlier k has = list_any_more (is_source (Made k)) sources i d below ∙ or_left _ _ has

  maker_here : (k : ℕ) → get_or sources i d ≡ Made k → HasMaker (take (i + 1) sources) k
  maker_here k same =
      list_any_more (is_source (Made k)) sources i d below
      ∙ or_right _ _ (ap (is_source (Made k)) same ∙ eq-eqb k k refl)

  reached_earlier : (delays : List ℕ) (most : ℕ) → IsMaximumAt delays (take i sources) most
      → (most ≡ 0) ⊎ ((k : ℕ) × HasMaker (take (i + 1) sources) k × (slice_index delays k ≡ most))
  reached_earlier delays most so_far =
      elim so_far.reached [
        | inl none ↦ inl none
        | inr (k, has, same) ↦ inr (k, maker_earlier k has, same)
      ]

  -- a register more
  pub IsMaximumAt-entry : (delays : List ℕ) (most r : ℕ) → get_or sources i d ≡ Entry r
      → IsMaximumAt delays (take i sources) most → IsMaximumAt delays (take (i + 1) sources) most
  IsMaximumAt-entry delays most r same so_far = record {
    bound = λ k has. elim (maker_cases (Entry r) same k has) [ inl earlier ↦ so_far.bound k earlier | inr here ↦ cc ];
    reached = reached_earlier delays most so_far;
  }

  -- a node more
  pub IsMaximumAt-made : (delays : List ℕ) (most m : ℕ) → get_or sources i d ≡ Made m
      → IsMaximumAt delays (take i sources) most
      → IsMaximumAt delays (take (i + 1) sources) (max most (slice_index delays m))
  IsMaximumAt-made delays most m same so_far = record {
    bound = λ k has.
        elim (maker_cases (Made m) same k has) [
          | inl earlier ↦ omega (arith, so_far.bound k earlier)
          | inr here ↦ omega (arith, ap (λ j. slice_index delays j) (eqb-true k m here))
        ];
    reached =
        elim (cases_lt most (slice_index delays m)) [
          | inl more ↦ inr (m, maker_here m same, omega arith)
          | inr less ↦ elim (reached_earlier delays most so_far) [
            | inl none ↦ inl (omega arith)
            | inr (k, has, is_most) ↦ inr (k, has, omega arith)
          ]
        ];
  }
