-- Where the text ends, and that no access behind it moves any.
use Rattle.std.proofs.Common.{◌≡◌, ℕ, zero, suc, ◌+◌, ◌-◌, ◌<◌, ◌≤◌, ◌%◌, ◌^◌, inl, inr, refl, sym, ◌∙◌, arith, List, [], ◌∷◌, length, get_or, Some, None}
use Rattle.std.specs.Prelude.{Bool, false, find}
use Rattle.std.specs.List.{slice_get}
use Rattle.std.proofs.lemmas.Bool.{cases_Bool, cases_lt}
use Rattle.std.proofs.lemmas.Option.{get_or_from_slice_get, slice_get-get_or}
use Rattle.ci_elf.specs.declared.ranges.Range.{Range}
use Rattle.ci_elf.specs.Executables.{end_of, in_text, IsAscending}
use Rattle.ci_elf.proofs.RangeLaws.{range_holding}
use Rattle.ci_isa.specs.declared.instruction.Width.{Width}
use Rattle.ci_isa.specs.declared.instruction.Width.TheVariants.{Byte, Half, Word}
use Rattle.ci_isa.specs.Effects.{width_bytes}
use Rattle.ci_machine.specs.Accesses.{addresses}
use Rattle.ci_emu.specs.private.Fetched.{IsTextBelow}

-- what passes no test from an address on is not found there
module _ (text : ℕ → Bool) (end : ℕ) (none : IsTextBelow text end) where
  nothing_found : (n address : ℕ) → end ≤ address → address + n ≤ 2 ^ 32 → find text (addresses n address) ≡ None
  nothing_found zero address from fits = refl
  nothing_found (suc n) address from fits =
      let clear : text (address % 2 ^ 32) ≡ false = none (address % 2 ^ 32) (omega arith) in
      rw clear (nothing_found n (address + 1) (omega arith) (omega arith))

  pub nothing_behind : (address : ℕ) (width : Width) → end ≤ address → address ≤ 0xfffffffc
      → find text (addresses (width_bytes width) address) ≡ None
  nothing_behind address Byte from below = nothing_found 1 address from (omega arith)
  nothing_behind address Half from below = nothing_found 2 address from (omega arith)
  nothing_behind address Word from below = nothing_found 4 address from (omega arith)

-- no text ends where there is none
pub none_below : (ranges : List Range) → slice_get ranges (length ranges - 1) ≡ None → IsTextBelow (in_text ranges) 0
none_below [] empty address from = refl
none_below (range ∷ ranges) empty address from =
    let some = slice_get-get_or (range ∷ ranges) (length (range ∷ ranges) - 1) range (omega arith) in
    absurd (cc (sym some ∙ empty))

-- all text ends where its last range does
module _ (ranges : List Range) (ascending : IsAscending ranges) (last : Range) (is : slice_get ranges (length ranges - 1) ≡ Some last) where
  ends_before : (k : ℕ) (d : Range) → k < length ranges → end_of (get_or ranges k d) ≤ end_of last
  ends_before k d below =
      let here : get_or ranges (length ranges - 1) d ≡ last = get_or_from_slice_get ranges (length ranges - 1) last d is in
      elim (cases_lt k (length ranges - 1)) [
        | inl before ↦
            let apart = ascending k (length ranges - 1) d before (omega arith) in
            omega (arith, rw here at apart)
        | inr at ↦
            let same : k ≡ length ranges - 1 = omega arith in
            rw (same, here) (omega arith)
      ]

  pub below_last : IsTextBelow (in_text ranges) (end_of last)
  below_last address from = elim (cases_Bool (in_text ranges address)) [
    | inl text ↦
        let held = range_holding ranges address text in
        absurd (omega (arith, rw held.3 at (ends_before held.0 held.1 held.2), held.4.1))
    | inr none ↦ none
  ]
