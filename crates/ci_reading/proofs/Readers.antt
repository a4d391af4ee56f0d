-- Readers with their languages, in one value each: what stands one after the other is one definition.
use Rattle.std.proofs.Common.{◌≡◌, ℕ, ◌≤◌, ◌⊎◌, inl, Bool, true, false, cond, eqb, List, [], ◌∷◌, ◌++◌, Option, None}
use Rattle.std.specs.Char.{is_ascii_digit}
use Rattle.std.specs.Fmt.{decimal}
use Rattle.ci_reading.specs.declared.fields.Numbers.{Numbers}
use Rattle.ci_reading.specs.LineReading.{Read, ◌>>=◌, view, first_passes, word, with_items, repetition}
use Rattle.ci_reading.specs.Fields.{address, number_alone}
use Rattle.ci_reading.specs.Hex.{eight_hex_digits}
use Rattle.ci_reading.proofs.Languages.{Plainly, Then, joined, Mapped, mapped, SeenBy, IsFirst, first_on, Begins}
use Rattle.ci_reading.proofs.Exact.{IsExact, also, follows, and_then, seen, seen_plainly, either}
use Rattle.ci_reading.proofs.WordReading.{IsWord, is_word, word_exact}
use Rattle.ci_reading.proofs.AddressReading.{IsAddress, zero_address, address_exact}
use Rattle.ci_reading.proofs.NumberReading.{IsAlone, least_alone, number_alone_exact}
use Rattle.ci_reading.proofs.Repetitions.{AreMany, no_more, repetition_exact}

-- what is read, the language of what is read, and that there is a text
pub record Reader (S K A : Type 0) (Other : K → S → Type 0) (most : ℕ) : Type 1 where
  pub read : List S → Read S K A
  pub Is : List S → A → Option K → Type 0
  pub exact : (n : ℕ) → IsExact Other most n read Is
  pub some : (ys : List S) × (a : A) × Is ys a None

-- a reader of a language without kinds
pub record PlainReader (S K A : Type 0) (Other : K → S → Type 0) (most : ℕ) : Type 1 where
  pub read : List S → Read S K A
  pub Is : List S → A → Type 0
  pub exact : (n : ℕ) → IsExact Other most n read (Plainly Is)
  pub some : (ys : List S) × (a : A) × Is ys a

module _ {S K : Type 0} {Other : K → S → Type 0} {most : ℕ} where
  -- each plain reader is one
  abbrev pub any : {A : Type 0} → PlainReader S K A Other most → Reader S K A Other most
  any r = record { read = r.read; Is = Plainly r.Is; exact = r.exact; some = r.some }

  -- a part, and then another
  pub some_joined : {A B : Type 0} (first : PlainReader S K A Other most) (M : A → List S → B → Type 0) → ((a : A) → (zs : List S) × (b : B) × M a zs b)
      → (ys : List S) × (b : B) × Then first.Is M ys b
  some_joined first M second =
      let ys = first.some in
      let zs = second ys.1 in
      (ys.0 ++ zs.0, zs.1, joined ys.0 zs.0 ys.1 zs.1 ys.2 zs.2)

  abbrev pub part : {A B : Type 0} → PlainReader S K A Other most → (A → PlainReader S K B Other most) → PlainReader S K B Other most
  part first second = record {
    read = λ xs. first.read xs >>= λ x. (second x.0).read x.1;
    Is = Then first.Is (λ a. (second a).Is);
    exact = λ n. and_then n first.read (λ a. (second a).read) first.Is (first.exact n) (λ a. (second a).Is)
        (λ ys a l. (second a).exact n) (λ ys a l. (second a).some);
    some = some_joined first (λ a. (second a).Is) (λ a. (second a).some);
  }

  abbrev pub part_before : {A B : Type 0} → PlainReader S K A Other most → (A → Reader S K B Other most) → Reader S K B Other most
  part_before first second = record {
    read = λ xs. first.read xs >>= λ x. (second x.0).read x.1;
    Is = λ ys b far. Then first.Is (λ a zs b. (second a).Is zs b far) ys b;
    exact = λ n. follows n first.read (λ a. (second a).read) first.Is (first.exact n) (λ a. (second a).Is)
        (λ ys a l. (second a).exact n) (λ ys a l. (second a).some);
    some = some_joined first (λ a zs b. (second a).Is zs b None) (λ a. (second a).some);
  }

  -- what was read, seen by a function
  abbrev pub shown : {A B : Type 0} → (A → B) → PlainReader S K A Other most → PlainReader S K B Other most
  shown f r = record {
    read = λ xs. view f (r.read xs);
    Is = Mapped f r.Is;
    exact = λ n. seen_plainly n r.read f r.Is (r.exact n);
    some = (r.some.0, f r.some.1, mapped r.some.0 r.some.1 r.some.2);
  }

  abbrev pub shown_any : {A B : Type 0} → (A → B) → Reader S K A Other most → Reader S K B Other most
  shown_any f r = record {
    read = λ xs. view f (r.read xs);
    Is = SeenBy f r.Is;
    exact = λ n. seen n r.read f r.Is (r.exact n);
    some = (r.some.0, f r.some.1, mapped r.some.0 r.some.1 r.some.2);
  }

  -- one or the other, by a test of the first symbol
  abbrev pub choice : {A : Type 0} → (test : S → Bool) (left right : Reader S K A Other most)
      → Begins test true left.Is → Begins test false right.Is → Reader S K A Other most
  choice test left right begins others = record {
    read = λ xs. cond (first_passes test xs) (left.read xs) (right.read xs);
    Is = λ ys a far. left.Is ys a far ⊎ right.Is ys a far;
    exact = λ n. either n test left.read right.read left.Is right.Is (left.exact n) (right.exact n) begins others;
    some = (left.some.0, left.some.1, inl left.some.2);
  }

  -- as often as there is something that begins so, and then the tail
  abbrev pub repeated_before : {X F : Type 0} → (test : S → Bool) (one : Reader S K (List X) Other most) (tail : Reader S K (List X × F) Other most)
      → Begins test true one.Is → Begins test false tail.Is → Reader S K (List X × F) Other most
  repeated_before test one tail begins others = record {
    read = λ xs. repetition test one.read xs >>= λ s. view (with_items s.0) (tail.read s.1);
    Is = AreMany one.Is tail.Is;
    exact = λ n. repetition_exact test one.read tail.read one.Is tail.Is n (one.exact n) (tail.exact n) begins others tail.some;
    some = (tail.some.0, tail.some.1, no_more tail.some.0 tail.some.1 None tail.some.2);
  }

  -- the same reader, with its language said in another way
  abbrev pub said : {A : Type 0} (r : PlainReader S K A Other most) (Is : List S → A → Type 0) → ((ys : List S) (a : A) → r.Is ys a → Is ys a)
      → ((ys : List S) (a : A) → Is ys a → r.Is ys a) → PlainReader S K A Other most
  said r Is to from = record { read = r.read; Is = Is; exact = λ n. also to from (r.exact n); some = (r.some.0, r.some.1, to r.some.0 r.some.1 r.some.2) }

-- ---- bytes

module _ {K : Type 0} {Other : K → ℕ → Type 0} {most : ℕ} where
  abbrev pub a_word : List ℕ → PlainReader ℕ K (Unit {0}) Other most
  a_word due = record { read = word due; Is = IsWord due; exact = λ n. word_exact n due; some = (due, tt, is_word) }

  abbrev pub behind : {A : Type 0} → List ℕ → PlainReader ℕ K A Other most → PlainReader ℕ K A Other most
  behind due r = part (a_word due) (λ x. r)

  abbrev pub behind_any : {A : Type 0} → List ℕ → Reader ℕ K A Other most → Reader ℕ K A Other most
  behind_any due r = part_before (a_word due) (λ x. r)

  abbrev pub an_address : PlainReader ℕ K ℕ Other most
  an_address = record { read = address 8 0; Is = IsAddress; exact = λ n. address_exact n; some = (eight_hex_digits 0, 0, zero_address) }

  abbrev pub a_number_alone : (numbers : Numbers) → numbers.low ≤ numbers.high → numbers.high ≤ 9999999
      → is_ascii_digit numbers.end ≡ false → numbers.listed ≡ false → PlainReader ℕ K ℕ Other most
  a_number_alone numbers range few no_digit alone = record {
    read = number_alone numbers;
    Is = IsAlone numbers;
    exact = λ n. number_alone_exact numbers range few no_digit alone n;
    some = (decimal numbers.low ++ numbers.end ∷ [], numbers.low, least_alone numbers range);
  }

  -- what stands behind a word begins as it does
  pub begins_as : {A : Type 0} (test : ℕ → Bool) (is : Bool) (due : List ℕ) (r : Reader ℕ K A Other most)
      → IsFirst test is due → Begins test is (behind_any due r).Is
  begins_as test is due r first _ _ far (joined _ zs _ _ is_word m) = first_on test is due zs first

  -- one form, by its first byte, or the others
  abbrev pub by_first : {A : Type 0} (byte : ℕ) (due : List ℕ) (r others : Reader ℕ K A Other most) → IsFirst (λ x. eqb x byte) true due
      → Begins (λ x. eqb x byte) false others.Is → Reader ℕ K A Other most
  by_first byte due r others first other = choice (λ x. eqb x byte) (behind_any due r) others (begins_as (λ x. eqb x byte) true due r first) other
