-- Which words a bundle has, where bundles are whole.
use Rattle.std.specs.Prelude.{◌≡◌, ℕ, zero, suc, ◌+◌, ◌-◌, ◌<◌, ◌≤◌, ◌⊎◌, true, List, length}
use Rattle.std.proofs.Common.{refl, sym, ap, ◌∙◌, arith, inl, inr, true≢false}
use Rattle.std.proofs.lemmas.Bool.{cases_lt}
use Rattle.ci_isa.specs.declared.instruction.Insn.{Insn}
use Rattle.ci_isa.specs.declared.instruction.Insn.TheVariants.{Unit, Cread, Cput}
use Rattle.ci_isa.specs.Sequences.{nth_insn}
use Rattle.ci_dfg.specs.BlockGraph.{stay_together, is_joined}
use Rattle.ci_dfg.specs.BundleArcs.{IsSpan}
use Rattle.ci_dfg.specs.Bundles.{another, left_by, MayFollow, Bundled}
use Rattle.ci_dfg.specs.Arcs.{BundlesAreShort}
use Rattle.ci_dfg.proofs.ArcLaws.{past_the_end}
use Rattle.ci_dfg.proofs.BundledLists.{by_place, is_bundled}

-- the place of a word in a bundle of four
rank : Insn → ℕ
rank (Unit number rd rs1 rs2 rs3) = 1
rank (Cread rd index) = 2 + index
rank insn = 0

-- a word of a bundle has the place behind that of the word before it
rank_rises : (first second : Insn) → stay_together first second ≡ true → MayFollow (left_by first) second
    → (rank second ≡ suc (rank first)) × (rank second ≤ 3)
unfolding rank
rank_rises (Cput rs1 rs2) (Unit number rd a b c) is may = (refl, omega arith)
rank_rises (Cput rs1 rs2) second is may = absurd may
rank_rises (Unit number rd a b c) (Cread q index) is may = let first : index ≡ 0 = may in (omega arith, omega arith)
rank_rises (Unit number rd a b c) second is may = cc
rank_rises (Cread rd zero) (Cread q index) is may = let second : index ≡ 1 = may in (omega arith, omega arith)
rank_rises (Cread rd (suc n)) (Cread q index) is may = absurd may
rank_rises (Cread rd index) second is may = cc
rank_rises first second is may = cc

module _ (insns : List Insn) (bundled : Bundled another insns) where
  next_rank : (k : ℕ) → suc k < length insns → is_joined insns (suc k) ≡ true
      → (rank (nth_insn insns (suc k)) ≡ suc (rank (nth_insn insns k))) × (rank (nth_insn insns (suc k)) ≤ 3)
  next_rank k within is = rank_rises (nth_insn insns k) (nth_insn insns (suc k)) is (by_place another insns bundled (suc k) within)

  within_list : (k : ℕ) → is_joined insns k ≡ true → k < length insns
  within_list k is = elim (cases_lt k (length insns)) [
    | inl below ↦ below
    | inr past ↦ absurd (true≢false (sym is ∙ past_the_end insns k past))
  ]

  rank_at : (count first last : ℕ) → last ≡ first + count → IsSpan (is_joined insns) first last
      → (last ≡ first) ⊎ ((rank (nth_insn insns last) ≡ count + rank (nth_insn insns first)) × (rank (nth_insn insns last) ≤ 3))
  rank_at zero first last same span = inl (omega arith)
  rank_at (suc count) first zero same span = absurd (omega arith)
  rank_at (suc count) first (suc last) same span =
      let joined = span.inside (suc last) (omega arith) (omega arith) in
      let (next, few) = next_rank last (within_list (suc last) joined) joined in
      elim (rank_at count first last (omega arith) (record { rises = omega arith; inside = λ i above below. span.inside i above (omega arith) })) [
        | inl alone ↦
            let one : rank (nth_insn insns last) ≡ rank (nth_insn insns first) = ap (λ n. rank (nth_insn insns n)) alone in
            inr (omega arith, few)
        | inr (so_far, low) ↦ inr (omega arith, few)
      ]

pub bundles_are_short : BundlesAreShort
bundles_are_short insns first last fit bundled bundle =
    let rises = bundle.one.rises in
    elim (rank_at insns (is_bundled insns fit bundled) (last - first) first last (omega arith) bundle.one) [
      | inl alone ↦ omega arith
      | inr (same, few) ↦ omega arith
    ]
