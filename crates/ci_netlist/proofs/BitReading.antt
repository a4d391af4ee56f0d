-- Reading a bit is exact.
use Rattle.std.proofs.Common.{◌≡◌, ℕ, zero, suc, ◌+◌, ◌-◌, ◌*◌, ◌/◌, ◌%◌, ◌<◌}
use Rattle.std.proofs.Common.{◌≤◌, Bool, true, false, ◌&&◌, eqb, cond, nat_le, nat_lt}
use Rattle.std.proofs.Common.{List, [], ◌∷◌, ◌++◌, refl, sym, ap, ◌∙◌, subst, arith, lit≤, zero-le, Option, Some, None}
use Rattle.std.specs.Char.{is_ascii_digit}
use Rattle.std.specs.Fmt.{decimal}
use Rattle.std.proofs.lemmas.Bool.{eqb-true}
use Rattle.std.proofs.lemmas.Bool.Decides.{nat_tests}
use Rattle.ci_reading.proofs.Languages.{Plainly, joined, Mapped, mapped}
use Rattle.ci_reading.proofs.Exact.{IsExact, also}
use Rattle.ci_reading.proofs.WordReading.{IsWord, is_word}
use Rattle.ci_reading.proofs.NumberReading.{IsAlone}
use Rattle.ci_reading.proofs.Readers.{part, shown, a_word, a_number_alone}
use Rattle.ci_netlist.specs.declared.bits.Bit.{Bit}
use Rattle.ci_netlist.specs.declared.bits.Bit.TheVariants as bit
use Rattle.ci_netlist.specs.declared.starts.Start.{Start}
use Rattle.ci_netlist.specs.declared.starts.Start.TheVariants.{Zero, One, Input, Made}
use Rattle.ci_netlist.specs.Netlists.{IsBit}
use Rattle.ci_netlist.specs.Texts.{bit_text}
use Rattle.ci_netlist.specs.private.Reading.{Kinds, numbers, start_of, bit_behind, bit_read}
use Rattle.ci_netlist.proofs.FoundReading.{Other, most, TextReader, a_found}

-- ---- how a bit begins

-- the byte with which it begins
abbrev pub IsStartByte : ℕ → ℕ → Start → Type 0
IsStartByte made x Zero = x ≡ 48
IsStartByte made x One = x ≡ 49
IsStartByte made x (Input letter) = (x ≡ 97 + letter) × (letter ≤ 4)
IsStartByte made x Made = (x ≡ 103) × (0 < made)

abbrev by_tests : ℕ → Bool → Bool → Bool → Bool → Option Start
by_tests x a b c d =
    cond a (Some Zero) (cond b (Some One) (cond c (Some (Input (x - 97))) (cond d (Some Made) None)))

start_is_by : (made x : ℕ) (s : Start) (a b c d : Bool) → eqb x 48 ≡ a → eqb x 49 ≡ b
    → (nat_le 97 x && nat_le x 101) ≡ c
    → (eqb x 103 && nat_lt 0 made) ≡ d → by_tests x a b c d ≡ Some s → IsStartByte made x s
start_is_by made x s true b c d is_a is_b is_c is_d e =
    let same : Zero ≡ s = cc in subst (IsStartByte made x) same (eqb-true x 48 is_a)
start_is_by made x s false true c d is_a is_b is_c is_d e =
    let same : One ≡ s = cc in subst (IsStartByte made x) same (eqb-true x 49 is_b)
start_is_by made x s false false true d is_a is_b is_c is_d e =
    let same : Input (x - 97) ≡ s = cc in
    let low : 97 ≤ x = grind (arith, nat_tests, is_c) in
    let high : x ≤ 101 = grind (arith, nat_tests, is_c) in
    subst (IsStartByte made x) same (omega (arith, low), omega (arith, high))
start_is_by made x s false false false true is_a is_b is_c is_d e =
    let same : Made ≡ s = cc in
    let letter : x ≡ 103 = grind (arith, nat_tests, is_d) in
    let some : 0 < made = grind (arith, nat_tests, is_d) in
    subst (IsStartByte made x) same (letter, some)
start_is_by made x s false false false false is_a is_b is_c is_d e = absurd cc

start_is : (made x : ℕ) (s : Start) → start_of made x ≡ Some s → IsStartByte made x s
start_is made x s e =
    start_is_by made x s (eqb x 48) (eqb x 49) (nat_le 97 x && nat_le x 101)
    (eqb x 103 && nat_lt 0 made) refl refl refl refl e

letter_starts : (made letter : ℕ) → letter ≤ 4 → start_of made (97 + letter) ≡ Some (Input letter)
letter_starts made zero most = refl
letter_starts made (suc zero) most = refl
letter_starts made (suc (suc zero)) most = refl
letter_starts made (suc (suc (suc zero))) most = refl
letter_starts made (suc (suc (suc (suc zero)))) most = refl
letter_starts made (suc (suc (suc (suc (suc n))))) most = absurd (omega arith)

made_starts : (made : ℕ) → 0 < made → start_of made 103 ≡ Some Made
made_starts made some =
    let test : nat_lt 0 made ≡ true = grind (arith, nat_tests, some) in
    ap (λ b. cond b (Some Made) None) test

-- ---- what stands behind its first byte

module _ (made end : ℕ) (few : made ≤ 4194304) (no_digit : is_ascii_digit end ≡ false) where
  abbrev letter_numbers : TextReader ℕ
  letter_numbers = a_number_alone (numbers 0 31 end) zero-le (lit≤ tt) no_digit refl

  abbrev gate_numbers : TextReader ℕ
  gate_numbers = a_number_alone (numbers 0 (made - 1) end) zero-le (omega (arith, few)) no_digit refl

  abbrev IsBehind : Start → List ℕ → Bit → Type 0
  IsBehind Zero = Mapped (λ u. bit.Zero) (IsWord (end ∷ []))
  IsBehind One = Mapped (λ u. bit.One) (IsWord (end ∷ []))
  IsBehind (Input letter) = Mapped (λ n. bit.Input (32 * letter + n)) (IsAlone (numbers 0 31 end))
  IsBehind Made = Mapped (λ g. bit.Made g) (IsAlone (numbers 0 (made - 1) end))

  behind_exact : (s : Start) (n : ℕ) → IsExact Other most n (bit_behind made end s) (Plainly (IsBehind s))
  behind_exact Zero n =
      (shown {S = ℕ} {K = Kinds} {Other = Other} {most = most} (λ u. bit.Zero) (a_word (end ∷ []))).exact n
  behind_exact One n =
      (shown {S = ℕ} {K = Kinds} {Other = Other} {most = most} (λ u. bit.One) (a_word (end ∷ []))).exact n
  behind_exact (Input letter) n = (shown (λ n. bit.Input (32 * letter + n)) letter_numbers).exact n
  behind_exact Made n = (shown (λ g. bit.Made g) gate_numbers).exact n

  behind_some : (s : Start) → (ys : List ℕ) × (b : Bit) × IsBehind s ys b
  behind_some Zero = (end ∷ [], bit.Zero, mapped (end ∷ []) tt is_word)
  behind_some One = (end ∷ [], bit.One, mapped (end ∷ []) tt is_word)
  behind_some (Input letter) =
      (decimal 0 ++ end ∷ [], bit.Input (32 * letter + 0), mapped (decimal 0 ++ end ∷ []) 0 (zero-le, zero-le, refl))
  behind_some Made = (decimal 0 ++ end ∷ [], bit.Made 0, mapped (decimal 0 ++ end ∷ []) 0 (zero-le, zero-le, refl))

  abbrev a_behind : Start → TextReader Bit
  a_behind s = record { read = bit_behind made end s; Is = IsBehind s; exact = behind_exact s; some = behind_some s }

  abbrev bit_parts : TextReader Bit
  bit_parts = part (a_found (start_of made) 48 Zero refl) a_behind

  -- ---- bits

  abbrev pub IsBitText : List ℕ → Bit → Type 0
  IsBitText ys b = IsBit made b × (ys ≡ bit_text b ++ end ∷ [])

  to_bit_by : (x : ℕ) (s : Start) (zs : List ℕ) (b : Bit) → IsStartByte made x s → IsBehind s zs b
      → IsBitText (x ∷ zs) b
  to_bit_by x Zero _ _ at (mapped _ _ is_word) = (record { names = tt }, ap (λ v. v ∷ end ∷ []) at)
  to_bit_by x One _ _ at (mapped _ _ is_word) = (record { names = tt }, ap (λ v. v ∷ end ∷ []) at)
  to_bit_by x (Input letter) _ _ at (mapped zs n is) =
      let row : (32 * letter + n) / 32 ≡ letter = omega (arith, is.1) in
      let column : (32 * letter + n) % 32 ≡ n = omega (arith, is.1) in (
        record { names = omega (arith, is.1, at.1) },
        λ i. (at.0 ∙ ap (λ m. 97 + m) (sym row)) i ∷ (is.2 ∙ ap (λ m. decimal m ++ end ∷ []) (sym column)) i,
      )
  to_bit_by x Made _ _ at (mapped zs g is) =
      (record { names = omega (arith, is.1, at.1) }, λ i. at.0 i ∷ is.2 i)

  to_bit : (ys : List ℕ) (b : Bit) → bit_parts.Is ys b → IsBitText ys b
  to_bit _ _ (joined ys zs s b f behind) =
      subst (λ v. IsBitText (v ++ zs) b) (sym f.1) (to_bit_by f.0 s zs b (start_is made f.0 s f.2) behind)

  from_bit_by : (b : Bit) → IsBit made b → bit_parts.Is (bit_text b ++ end ∷ []) b
  from_bit_by bit.Zero is = joined (48 ∷ []) (end ∷ []) Zero bit.Zero (48, refl, refl) (mapped (end ∷ []) tt is_word)
  from_bit_by bit.One is = joined (49 ∷ []) (end ∷ []) One bit.One (49, refl, refl) (mapped (end ∷ []) tt is_word)
  from_bit_by (bit.Input n) is =
      let letter = n / 32 in
      let place = n % 32 in
      let whole : 32 * letter + place ≡ n = omega arith in
      subst (λ m. bit_parts.Is ((97 + letter) ∷ (decimal place ++ end ∷ [])) (bit.Input m)) whole
      (joined ((97 + letter) ∷ []) (decimal place ++ end ∷ []) (Input letter) (bit.Input (32 * letter + place))
      (97 + letter, refl, letter_starts made letter (let within = is.names in omega (arith, within)))
      (mapped (decimal place ++ end ∷ []) place (zero-le, omega arith, refl)))
  from_bit_by (bit.Made g) is =
      let below : g < made = is.names in
      joined (103 ∷ []) (decimal g ++ end ∷ []) Made (bit.Made g) (103, refl, made_starts made (omega (arith, below)))
      (mapped (decimal g ++ end ∷ []) g (zero-le, omega (arith, below), refl))

  from_bit : (ys : List ℕ) (b : Bit) → IsBitText ys b → bit_parts.Is ys b
  from_bit ys b is = subst (λ v. bit_parts.Is v b) (sym is.1) (from_bit_by b is.0)

  pub bit_exact : (n : ℕ) → IsExact Other most n (bit_read made end) (Plainly IsBitText)
  unfolding bit_read
  bit_exact n = also to_bit from_bit (bit_parts.exact n)

  abbrev pub a_bit : TextReader Bit
  a_bit = record {
    read = bit_read made end;
    Is = IsBitText;
    exact = bit_exact;
    some = (48 ∷ end ∷ [], bit.Zero, (record { names = tt }, refl));
  }
