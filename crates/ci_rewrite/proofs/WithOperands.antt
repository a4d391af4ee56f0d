-- Folding keeps a block where all units take the hidden operands.
use Rattle.std.specs.Prelude.{◌≡◌, ℕ, zero, suc, ◌<◌, Bool, true, false, not, ◌&&◌, ◌||◌, ◌==◌, List, [], ◌∷◌, take, slice_index, All}
use Rattle.std.specs.FinSet as finite
use Rattle.std.specs.Ordering.{nat_cmp}
use Rattle.std.proofs.Common.{refl, sym, subst, arith, lit<, inl, inr}
use Rattle.std.proofs.lemmas.Bool.{or_cases, or_left, or_right, and_parts, and_from, not_from_false, eqb-true, eq-eqb}
use Rattle.ci_isa.specs.declared.instruction.Insn.{Insn}
use Rattle.ci_lat.specs.Latencies.{Latencies}
use Rattle.ci_machine.specs.Actions.{Units}
use Rattle.ci_machine.specs.Agreement.{AreRelated}
use Rattle.ci_machine.specs.Cores.{Core}
use Rattle.ci_machine.specs.Outcomes.{Reached}
use Rattle.ci_machine.specs.Words.{MakesWords}
use Rattle.ci_machine.proofs.ExtendedMeaning.{five_words}
use Rattle.ci_cut.specs.declared.graph.Limits.{Limits}
use Rattle.ci_cut.specs.Gain.{Fits}
use Rattle.ci_dfg.specs.BlockGraph.{graph_of}
use Rattle.ci_unit.specs.Units.{unit_of, IsTripleOf}
use Rattle.ci_unit.specs.Uses.{passes}
use Rattle.ci_unit.proofs.SourceLaws.{not_true}
use Rattle.ci_rewrite.specs.BareWords.{OfBareWords}
use Rattle.ci_rewrite.specs.Blocks.{IsBlock, live_behind}
use Rattle.ci_rewrite.specs.FoldedBlock.{IsFolded}
use Rattle.ci_rewrite.specs.SameEffect.{IgnoresOperands, Serve, ComputesUnit, FoldingKeeps, FoldingKeepsAgreement}
use Rattle.ci_rewrite.proofs.BareUnits.{DoTheSame, turned, effect_carried, bare_units, serve_passed, computes_passed, do_the_same}
use Rattle.ci_rewrite.proofs.BareWordLaws.{bare_along, bare_by_place, stands_bare, bare_has}
use Rattle.ci_rewrite.proofs.Keeping.{folding_keeps_passed, members_act, stands_folded, words_folded, few_bare}
use Rattle.ci_rewrite.proofs.Lists.{all_those, take_those}
use Rattle.ci_rewrite.proofs.PassedUnits.{KeepsPassed}
use Rattle.ci_rewrite.proofs.TwoCores.{passed_keeps_agreement}
use Rattle.ci_rewrite.proofs.UnitIsOne.{triple_is_one}

-- the actions of a block do the same where some units take no operands that ignore them
acts_bare : (bare : ℕ → Bool) (units : Units) (insns : List Insn) (n : ℕ) → IsBlock insns n → Serve units insns
    → ((m : ℕ) → bare m ≡ true → IgnoresOperands units m) → DoTheSame units (bare_units bare units) (take n insns)
acts_bare bare units insns n block serve ignores =
    do_the_same bare units serve.operands ignores (take n insns)
    (subst (All (MakesWords units)) (sym (take_those insns n block.actions.within))
    (all_those (MakesWords units) insns (λ _. true) n (λ k below passes. serve.words k (let within = block.actions.within in omega arith))))

-- ---- from one core

module _ (insns : List Insn) (n : ℕ) (live_out : finite.FinSet nat_cmp) (table : Latencies) (limits : Limits) (cut : ℕ → Bool)
    (number : ℕ) (folded : List Insn) (block : IsBlock insns n) (fits : Fits (graph_of insns live_out table) limits cut) (small : number < 32)
    (is : IsFolded insns (graph_of insns live_out table) cut number folded) where
  abbrev passed : Bool
  passed = passes (graph_of insns live_out table) cut

  -- what holds of the numbers of the bare words, and of the unit's number where its word is bare, holds of the numbers there
  pub stay_bare : (P : ℕ → Type 0) → (passed ≡ false → P number) → OfBareWords P insns → OfBareWords P folded
  stay_bare P has bare =
      bare_by_place P folded (stands_folded insns n live_out table limits cut number folded block fits small is P (bare_along P insns bare) has)

  -- a unit of no more than three inputs gives one triple of values that differ past the third
  pub three_matter : passed ≡ false → (a b c d e p q : ℕ) (given others : List ℕ)
      → IsTripleOf (unit_of insns (graph_of insns live_out table) cut) (a ∷ b ∷ c ∷ d ∷ e ∷ []) given
      → IsTripleOf (unit_of insns (graph_of insns live_out table) cut) (a ∷ b ∷ c ∷ p ∷ q ∷ []) others → given ≡ others
  three_matter none a b c d e p q given others one other =
      triple_is_one insns live_out table cut
      (λ k member. let acts = (members_act insns n live_out table limits cut block fits k member).0 in omega (arith, acts, block.actions.within))
      (a ∷ b ∷ c ∷ d ∷ e ∷ []) (a ∷ b ∷ c ∷ p ∷ q ∷ [])
      (λ i below. agree i (omega (arith, below, few_bare insns n live_out table limits cut number folded block fits small is none))) given others one other
    where
      agree : (i : ℕ) → i < 3 → slice_index (a ∷ b ∷ c ∷ d ∷ e ∷ []) i ≡ slice_index (a ∷ b ∷ c ∷ p ∷ q ∷ []) i
      agree zero below = refl
      agree (suc zero) below = refl
      agree (suc (suc zero)) below = refl
      agree (suc (suc (suc i))) below = absurd (omega arith)

  module _ (units : Units) (serve : Serve units insns) (computes : ComputesUnit units number (unit_of insns (graph_of insns live_out table) cut)) where
    -- so it ignores the hidden operands
    unit_ignores : passed ≡ false → IgnoresOperands units number
    unit_ignores none a b c d e words =
        three_matter none a b c d e 0 0 _ _ (computes.value a b c d e words)
        (computes.value a b c 0 0 (five_words a b c 0 0 (words 0) (words 1) (words 2) (lit< tt) (lit< tt)))

    serve_folded : Serve units folded
    serve_folded = record {
      operands = serve.operands;
      bare = stay_bare (IgnoresOperands units) unit_ignores serve.bare;
      words = words_folded insns n live_out table limits cut number folded block fits small is units serve.words computes.words;
    }

    -- the units of the bare words of the block, and the cut's where its word is bare
    abbrev bare : ℕ → Bool
    bare m = stands_bare insns m || ((number == m) && not passed)

    bare_ignore : (m : ℕ) → bare m ≡ true → IgnoresOperands units m
    bare_ignore m is_bare = elim (or_cases (stands_bare insns m) ((number == m) && not passed) is_bare) [
      | inl old ↦ bare_has (IgnoresOperands units) insns serve.bare m old
      | inr new ↦
          let (same, none) = and_parts (number == m) (not passed) new in
          subst (IgnoresOperands units) (eqb-true number m same) (unit_ignores (not_true passed none))
    ]

    number_bare : passed ≡ false → bare number ≡ true
    number_bare none =
        or_right (stands_bare insns number) ((number == number) && not passed)
        (and_from (number == number) (not passed) (eq-eqb number number refl) (not_from_false passed none))

pub folding_keeps : FoldingKeeps
folding_keeps text units insns n live_out table limits cut number folded block named fits small is serve computes = record {
  shape = kept.shape;
  effect = effect_carried bares units text (live_behind insns n live_out) (take n insns) (take n folded)
      (turned units bares (take n insns) (acts_bare test units insns n block serve ignore))
      (turned units bares (take n folded) (acts_bare test units folded n kept.shape.is_block again ignore)) kept.effect;
  covers = kept.covers;
  serve = again;
}
  where
    test : ℕ → Bool
    test = bare insns n live_out table limits cut number folded block fits small is units serve computes

    bares : Units
    bares = bare_units test units

    ignore : (m : ℕ) → test m ≡ true → IgnoresOperands units m
    ignore = bare_ignore insns n live_out table limits cut number folded block fits small is units serve computes

    kept : KeepsPassed text bares insns n live_out folded
    kept =
        folding_keeps_passed text bares insns n live_out table limits cut number folded block named fits small is
        (serve_passed test units serve.operands ignore insns
        (λ m stands. or_left (stands_bare insns m) ((number == m) && not (passes (graph_of insns live_out table) cut)) stands) serve.words)
        (computes_passed test units serve.operands ignore (passes (graph_of insns live_out table) cut) number
        (unit_of insns (graph_of insns live_out table) cut) computes
        (number_bare insns n live_out table limits cut number folded block fits small is units serve computes))

    again : Serve units folded
    again = serve_folded insns n live_out table limits cut number folded block fits small is units serve computes

-- ---- from two cores

pub folding_keeps_agreement : FoldingKeepsAgreement
folding_keeps_agreement text set units insns folded n live_out left right block named serve keeps covers left_words right_words outside agree clear =
    let test : ℕ → Bool = stands_bare insns in
    let bares = bare_units test units in
    let ignore = bare_has (IgnoresOperands units) insns serve.bare in
    let old = acts_bare test units insns n block serve ignore in
    let new = acts_bare test units folded n keeps.shape.is_block keeps.serve ignore in
    let (leaves, related) =
    passed_keeps_agreement text set bares insns folded n live_out left right block named
    (serve_passed test units serve.operands ignore insns (λ m stands. stands) serve.words)
    (record {
      shape = keeps.shape;
      effect = effect_carried units bares text (live_behind insns n live_out) (take n insns) (take n folded) old new keeps.effect;
      covers = keeps.covers;
    })
    covers right_words outside agree ((old.leaves_text text left left_words).0 clear) in (
      (new.leaves_text text right right_words).1 leaves,
      subst (λ (p : Reached Core × Reached Core). AreRelated text (live_behind insns n live_out) p.0 p.1)
          (λ i. (sym (old.runs left left_words) i, sym (new.runs right right_words) i)) related,
    )
