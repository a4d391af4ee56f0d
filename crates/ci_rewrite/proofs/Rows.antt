-- Which unit words stand bare, by a list with two uses: a bare one, and one that a `cput` passes operands.
use Rattle.std.specs.Prelude.{◌≡◌, ◌==◌, zero, suc, true, false, List, [], ◌∷◌}
use Rattle.std.proofs.Common.{refl, ap, arith, true≢false}
use Rattle.ci_isa.specs.declared.instruction.Insn.{Insn}
use Rattle.ci_isa.specs.declared.instruction.Insn.TheVariants.{Unit, Cread, Cput}
use Rattle.ci_rewrite.specs.BareWords.{is_passed_to, OfBareWords}

unfoldable uses : List Insn
uses = Unit 3 5 6 7 8 ∷ Cput 9 10 ∷ Unit 4 5 6 7 8 ∷ Cread 11 0 ∷ Unit 3 5 6 7 8 ∷ []

passed : (is_passed_to uses 0 ≡ false) × (is_passed_to uses 1 ≡ false) × (is_passed_to uses 2 ≡ true)
    × (is_passed_to uses 3 ≡ false) × (is_passed_to uses 4 ≡ false)
unfolding uses
passed = (refl, refl, refl, refl, refl)

-- the numbers of the bare ones are 3, and nothing is said of the other
bare_are_threes : OfBareWords (λ number. number ≡ 3) uses
unfolding uses
bare_are_threes zero below none = refl
bare_are_threes (suc zero) below none = tt
bare_are_threes (suc (suc zero)) below none = cc
bare_are_threes (suc (suc (suc zero))) below none = tt
bare_are_threes (suc (suc (suc (suc zero)))) below none = refl
bare_are_threes (suc (suc (suc (suc (suc k))))) below none = absurd (omega arith)

-- so they aren't all fours
not_fours : ¬ OfBareWords (λ number. number ≡ 4) uses
unfolding uses
not_fours fours = true≢false (ap (λ n. n == 3) (fours 0 (omega arith) refl))
