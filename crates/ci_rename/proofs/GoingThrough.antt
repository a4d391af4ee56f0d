-- What becomes of a node that is gone through.
use Rattle.std.specs.Prelude.{◌≡◌, ℕ, ◌+◌, ◌≤◌, ◌<◌, ◌↔◌, Bool, true, false, List, [], ◌∷◌, length, IsTrue}
use Rattle.std.specs.FinSet as finite
use Rattle.std.specs.Ordering.{nat_cmp}
use Rattle.std.proofs.Common.{refl, sym, ap, ◌∙◌, subst, arith, add-one, true≢false}
use Rattle.std.proofs.lemmas.Bool.Decides.{nat_tests}
use Rattle.std.proofs.lemmas.List.{get_or-map, length-map}
use Rattle.ci_word.specs.Numbers.{numbers_below}
use Rattle.ci_word.proofs.NumberLaws.{get_or-all_below, length-all_below}
use Rattle.ci_isa.specs.declared.instruction.Insn.{Insn}
use Rattle.ci_isa.specs.Effects.{is_among, padded, results, writes_register}
use Rattle.ci_isa.specs.Sequences.{nth_insn}
use Rattle.ci_isa.specs.declared.instruction.Insn.TheVariants.{Alu, Ebreak}
use Rattle.ci_rename.specs.private.Passes.{IsStep}
use Rattle.ci_rename.specs.Renaming.{AreGoneThrough, IsGoneThrough, IsLeastFree, IsLocal, IsTied, renamed, renamed_insn, renames, stays, more}

few_results : (insn : Insn) → length (results insn) ≤ 1
few_results (Alu op rd rs1 rs2) = omega arith
few_results insn = omega arith

-- the one register that an instruction writes
pub destination_is : (insn : Insn) (d r : ℕ) → d ∷ [] ≡ padded 1 (results insn) → writes_register insn r ≡ true → d ≡ r
destination_is insn d r same wrote = only (results insn) (few_results insn) same wrote
  where
    only : (registers : List ℕ) → length registers ≤ 1 → d ∷ [] ≡ padded 1 registers → is_among registers r ≡ true → d ≡ r
    only [] few same among = absurd (nothing among)
      where
        nothing : is_among [] r ≡ true → ⊥
        nothing among = grind (arith, nat_tests)
    only (n ∷ []) few same among = let one : d ≡ n = cc in one ∙ first among
      where
        first : is_among (n ∷ []) r ≡ true → n ≡ r
        first among = grind (arith, nat_tests)
    only (n ∷ m ∷ rest) few same among = absurd (omega arith)

module _ (live_out : finite.FinSet nat_cmp) (insns : List Insn) (i : ℕ) where
  -- a node whose value isn't local in its register stays,
  pub not_local_stays : (d : ℕ) (test : Bool) → d ∷ [] ≡ padded 1 (results (nth_insn insns i)) → (IsTrue test ↔ IsLocal live_out insns i d)
      → test ≡ false → IsGoneThrough live_out insns i insns 0
  not_local_stays d test here found fails = stays (λ r to may.
      let same : r ≡ d = sym (destination_is (nth_insn insns i) d r here may.is_local.writes) in
      true≢false (sym (found.1 (subst (λ n. IsLocal live_out insns i n) same may.is_local)) ∙ fails))

  -- and so does one whose value isn't tied
  pub not_tied_stays : (d : ℕ) (test : Bool) → d ∷ [] ≡ padded 1 (results (nth_insn insns i)) → (IsTrue test ↔ IsTied insns i d)
      → test ≡ false → IsGoneThrough live_out insns i insns 0
  not_tied_stays d test here found fails = stays (λ r to may.
      let same : r ≡ d = sym (destination_is (nth_insn insns i) d r here may.is_local.writes) in
      true≢false (sym (found.1 (subst (λ n. IsTied insns i n) same may.tied)) ∙ fails))

  pub moves : (d to : ℕ) (next : List Insn) → IsLocal live_out insns i d → IsTied insns i d → IsLeastFree live_out insns to → next ≡ renamed insns i to
      → IsGoneThrough live_out insns i next 1
  moves d to next found tied least same =
      subst (λ list. IsGoneThrough live_out insns i list 1) (sym same) (renames d to (record { is_local = found; tied = tied; least = least }))

-- what stands at a place
pub renamed_at : (insns : List Insn) (i to k : ℕ) → k < length insns → nth_insn (renamed insns i to) k ≡ renamed_insn insns i to k
renamed_at insns i to k below =
    get_or-map (renamed_insn insns i to) (numbers_below (length insns) (λ _. true)) k k Ebreak (rw length-all_below below)
    ∙ ap (renamed_insn insns i to) (get_or-all_below (length insns) k k below)

-- the length stays
pub through_length : (live_out : finite.FinSet nat_cmp) (insns : List Insn) (i : ℕ) (next : List Insn) (values : ℕ) → IsGoneThrough live_out insns i next values
    → length next ≡ length insns
through_length live_out insns i _ _ (renames r to may) =
    length-map (numbers_below (length insns) (λ _. true)) (renamed_insn insns i to) ∙ length-all_below (length insns)
through_length live_out insns i _ _ (stays never) = refl

-- one node more
pub one_more : (live_out : finite.FinSet nat_cmp) (insns before next : List Insn) (i values later : ℕ)
    → AreGoneThrough live_out insns i before values → IsStep live_out i before values next later → AreGoneThrough live_out insns (i + 1) next later
one_more live_out insns before next i values later through step =
    subst (λ n. AreGoneThrough live_out insns (i + 1) next n) (sym step.counted)
    (subst (λ n. AreGoneThrough live_out insns n next (values + step.further)) (sym (add-one i))
    (more i before next values step.further through step.gone))
