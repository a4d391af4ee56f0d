-- What a bundle finds in the hidden registers, it has written.
use Rattle.std.proofs.Common.{◌≡◌, ◌≢◌, ℕ, zero, suc, ◌+◌, ◌<◌, ◌≤◌, refl, ap, sym, ◌∙◌, arith, inl, inr, subst, List, [], ◌∷◌, length, true≢false}
use Rattle.std.specs.Prelude.{Bool, true, false, not, ◌&&◌, ◌||◌, ◌==◌}
use Rattle.std.specs.List.{list_any}
use Rattle.std.proofs.lemmas.Bool.{and_from, or_from, or_left, or_right, false_from_ne_true}
use Rattle.std.proofs.lemmas.Bool.Decides.{nat_tests}
use Rattle.ci_isa.specs.declared.instruction.Insn.{Insn}
use Rattle.ci_isa.specs.declared.instruction.Insn.TheVariants.{Unit, Cread, Cput}
use Rattle.ci_isa.specs.FieldBounds.{FieldsFit}
use Rattle.ci_isa.specs.Effects.{is_among, is_unit, is_cread, is_cput, operands}
use Rattle.ci_isa.specs.Sequences.{nth_insn}
use Rattle.ci_isa.proofs.OperandLaws.{read_below}
use Rattle.ci_machine.specs.Cores.{hidden_operands}
use Rattle.ci_machine.specs.Actions.{Units}
use Rattle.ci_machine.specs.Agreement.{reads, writes, needed}
use Rattle.ci_dfg.specs.Bundles.{is_read_of, AreBundled}
use Rattle.ci_rewrite.specs.private.Bundles.{is_unit_of, TakeGiven, AreGiven, given_behind, given_at}
use Rattle.ci_rewrite.specs.private.Bundles.{BundlesAreGiven, NoHiddenNeeded}

-- ---- which hidden registers an instruction reads and writes

-- a hidden register among the sources of a unit word is one of its further ones
pub further_only : (rs1 rs2 rs3 r : ℕ) (further : List ℕ) → rs1 < 32 → rs2 < 32 → rs3 < 32 → 32 ≤ r → is_among (rs1 ∷ rs2 ∷ rs3 ∷ further) r ≡ true → is_among further r ≡ true
further_only rs1 rs2 rs3 r further a b c hidden among = regrouped (list_any (λ n. n == r) further) among
  where
    regrouped : (more : Bool) → (not (r == 0) && ((rs1 == r) || ((rs2 == r) || ((rs3 == r) || more)))) ≡ true → (not (r == 0) && more) ≡ true
    regrouped more is = grind (arith, nat_tests)

alone : (q r : ℕ) → is_among (q ∷ []) r ≡ true → q ≡ r
alone q r is = grind (arith, nat_tests)

operands_written : (insn : Insn) (r : ℕ) → is_cput insn ≡ true → is_among hidden_operands r ≡ true → writes insn r ≡ true
operands_written (Cput rs1 rs2) r is among = among
operands_written insn r is among = cc

results_written : (insn : Insn) (n : ℕ) → is_unit insn ≡ true → n < 2 → writes insn (32 + n) ≡ true
results_written (Unit number rd rs1 rs2 rs3) n is below = both n below
  where
    both : (n : ℕ) → n < 2 → is_among (rd ∷ 32 ∷ 33 ∷ []) (32 + n) ≡ true
    both zero below = grind (arith, nat_tests)
    both (suc zero) below = grind (arith, nat_tests)
    both (suc (suc n)) below = absurd (omega arith)
results_written insn n is below = cc

read_is_cread : (n : ℕ) (insn : Insn) → is_read_of n insn → is_cread insn ≡ true
read_is_cread n (Cread rd index) is = refl
read_is_cread n insn is = absurd is

module _ (units : Units) (insns : List Insn) (bundled : AreBundled insns) (take : TakeGiven units insns) where
  -- a `cread` of index 0 finds both results
  found_first : (k : ℕ) → k < length insns → is_read_of 0 (nth_insn insns k) → (n : ℕ) → n < 2 → given_at insns k (32 + n) ≡ true
  found_first k below reads n small =
      let (u, same, unit) = bundled.first k below reads in
      ap (λ j. given_at insns j (32 + n)) same ∙ or_left (writes (nth_insn insns u) (32 + n)) _ (results_written (nth_insn insns u) n unit small)

  found_result : (k index : ℕ) → k < length insns → index < 2 → is_read_of index (nth_insn insns k) → given_at insns k (32 + index) ≡ true
  found_result k zero below small reads = found_first k below reads 0 (omega arith)
  found_result k (suc zero) below small reads =
      let (u, same, first) = bundled.second k below reads in
      ap (λ j. given_at insns j 33) same
      ∙ or_right (writes (nth_insn insns u) 33) (is_cread (nth_insn insns u) && given_at insns u 33)
      (and_from (is_cread (nth_insn insns u)) (given_at insns u 33) (read_is_cread 0 (nth_insn insns u) first)
      (found_first u (omega arith) first 1 (omega arith)))
  found_result k (suc (suc index)) below small reads = absurd (omega arith)

  found_operand : (number k r : ℕ) → k < length insns → is_unit_of number (nth_insn insns k) → is_among (units.further number) r ≡ true → given_at insns k r ≡ true
  found_operand number k r below unit among = elim (take.bare number k below unit) [
    | inl (u, same, put) ↦
        ap (λ j. given_at insns j r) same ∙ or_left (writes (nth_insn insns u) r) _ (operands_written (nth_insn insns u) r put (take.operands number r among))
    | inr none ↦ absurd (nothing r (sym (ap (λ l. is_among l r) none) ∙ among))
  ]
    where
      nothing : (r : ℕ) → is_among [] r ≡ true → ⊥
      nothing r is = grind (arith, nat_tests)

  pub found : (k r : ℕ) → k < length insns → (insn : Insn) → nth_insn insns k ≡ insn → FieldsFit insn → 32 ≤ r → reads units insn r ≡ true
      → given_at insns k r ≡ true
  found k r below (Unit number rd rs1 rs2 rs3) same fit hidden is =
      found_operand number k r below (subst (is_unit_of number) (sym same) refl)
      (further_only rs1 rs2 rs3 r (units.further number) fit.2 fit.3 fit.4 hidden is)
  found k r below (Cread rd index) same fit hidden is =
      ap (given_at insns k) (sym (alone (32 + index) r is)) ∙ found_result k index below fit.1 (subst (is_read_of index) (sym same) refl)
  found k r below insn same fit hidden is = let named = read_below insn r fit is in absurd (omega arith)

pub bundles_are_given : BundlesAreGiven
bundles_are_given units insns bundled take fit k r below hidden is =
    found units insns bundled take k r below (nth_insn insns k) refl (fit k below) hidden is

-- ---- lists

no_more : (p q w g : Bool) → p ≡ false → (w ≡ false → q ≡ false) → (p || (q && not w)) ≡ false
no_more p q true g none rest = grind arith
no_more p q false g none rest = grind (arith, rest refl)

-- none of the hidden registers that aren't given is needed
hidden_not_needed : (units : Units) (given : ℕ → Bool) (insns : List Insn) (set : ℕ → Bool) → AreGiven units given insns
    → (r : ℕ) → 32 ≤ r → given r ≡ false → set r ≡ false → needed units insns set r ≡ false
hidden_not_needed units given [] set are r hidden none out = out
hidden_not_needed units given (insn ∷ insns) set are r hidden none out =
    no_more (reads units insn r) (needed units insns set r) (writes insn r) false
    (false_from_ne_true (reads units insn r) (λ is. true≢false (sym (are.0 r hidden is) ∙ none)))
    (λ unwritten. hidden_not_needed units (given_behind insn given) insns set are.1 r hidden
    (or_from (writes insn r) (is_cread insn && given r) unwritten (no_cread (is_cread insn) (given r) none)) out)
  where
    no_cread : (c g : Bool) → g ≡ false → (c && g) ≡ false
    no_cread c g is = grind arith

pub no_hidden_needed : NoHiddenNeeded
no_hidden_needed units insns set are out r hidden = hidden_not_needed units (λ _. false) insns set are r hidden refl (out r hidden)
