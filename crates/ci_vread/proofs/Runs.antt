-- Classes of bytes, and runs of them.
use Rattle.std.proofs.Common.{◌≡◌, ℕ, suc, ◌+◌, ◌<◌, ◌≤◌, Bool, true, false, cond, List, [], ◌∷◌, ◌++◌, length, take, drop, refl, ap, ◌∙◌}
use Rattle.std.proofs.Common.{arith, take-append-drop}
use Rattle.std.specs.List.{list_all, AllByRecursion}
use Rattle.std.specs.Char.{digit_value, is_ascii_alphabetic, is_ascii_digit, is_ascii_hexdigit}
use Rattle.std.specs.Str.Parse.{AllDigits}
use Rattle.std.proofs.Math.Seq.{take-append_seam, drop-append_seam}
use Rattle.std.proofs.lemmas.Bool.{and_parts}
use Rattle.std.proofs.lemmas.Bool.Decides.{nat_tests}
use Rattle.std.proofs.lemmas.List.{length-take-le}
use Rattle.std.proofs.lemmas.List.Sums.{prefix_len-le-length}
use Rattle.ci_vread.specs.declared.bytes.ByteClass.{ByteClass}
use Rattle.ci_vread.specs.declared.bytes.ByteClass.TheVariants.{Blank, InName, Digit, HexDigit}
use Rattle.ci_vread.specs.Lexicon.{IsBlank}
use Rattle.ci_vread.specs.private.Scanning.{belongs, run, front, byte_at}

pub true_is_not_false : {b : Bool} → b ≡ true → b ≡ false → ⊥
true_is_not_false is not = cc

-- ---- classes

pub digit_below : (c : ℕ) → is_ascii_digit c ≡ true → digit_value c < 10
digit_below c e = grind (arith, nat_tests)

pub below_digit : (c : ℕ) → digit_value c < 10 → is_ascii_digit c ≡ true
below_digit c h = grind (arith, nat_tests)

pub hex_below : (c : ℕ) → is_ascii_hexdigit c ≡ true → digit_value c < 16
hex_below c e = grind (arith, nat_tests)

pub below_hex : (c : ℕ) → digit_value c < 16 → is_ascii_hexdigit c ≡ true
below_hex c h = grind (arith, nat_tests)

pub letter_in_name : (c : ℕ) → is_ascii_alphabetic c ≡ true → belongs InName c ≡ true
letter_in_name c e = grind (arith, nat_tests)

pub digit_no_letter : (c : ℕ) → is_ascii_digit c ≡ true → is_ascii_alphabetic c ≡ false
digit_no_letter c e = grind (arith, nat_tests)

pub blank_yes : (c : ℕ) → belongs Blank c ≡ true → IsBlank c
blank_yes c e = grind (arith, nat_tests)

pub blank_no : (c : ℕ) → IsBlank c → belongs Blank c ≡ true
blank_no c h = grind (arith, nat_tests)

-- ---- runs

-- each byte is of the class
abbrev pub AllOf : ByteClass → List ℕ → Type 0
AllOf class bytes = AllByRecursion (λ c. belongs class c ≡ true) bytes

pub all_by_test : (class : ByteClass) (bytes : List ℕ) → list_all (belongs class) bytes ≡ true → AllOf class bytes
all_by_test class [] e = tt
all_by_test class (c ∷ bytes) e =
    let both = and_parts (belongs class c) (list_all (belongs class) bytes) e in
    (both.0, all_by_test class bytes both.1)

run_by : (class : ByteClass) (b : Bool) (c : ℕ) (text : List ℕ) → belongs class c ≡ b → AllOf class (front class text)
    → AllOf class (take (cond b (1 + run class text) 0) (c ∷ text))
run_by class true c text e others =
    let one : 1 + run class text ≡ suc (run class text) = omega arith in
    rw one (e, others)
run_by class false c text e others = tt

-- the bytes of a run
pub run_all : (class : ByteClass) (text : List ℕ) → AllOf class (front class text)
run_all class [] = tt
run_all class (c ∷ text) = run_by class (belongs class c) c text refl (run_all class text)

-- a run goes on behind a byte of its class
pub front_more : (class : ByteClass) (c : ℕ) (text : List ℕ) → belongs class c ≡ true → front class (c ∷ text) ≡ c ∷ front class text
front_more class c text e =
    let one : 1 + run class text ≡ suc (run class text) = omega arith in
    rw (e, one) refl

pub run_length : (class : ByteClass) (text : List ℕ) → length (front class text) ≡ run class text
run_length class text = length-take-le (run class text) text (prefix_len-le-length (belongs class) text)

pub run_splits : (class : ByteClass) (text : List ℕ) → front class text ++ drop (run class text) text ≡ text
run_splits class text = take-append-drop (run class text) text

-- no such bytes are more than a run
pub run_most : (class : ByteClass) (bytes rest : List ℕ) → AllOf class bytes → length bytes ≤ run class (bytes ++ rest)
run_most class [] rest all = omega arith
run_most class (c ∷ bytes) rest all = let others = run_most class bytes rest all.1 in rw all.0 (omega arith)

-- no byte of the class stands first
abbrev pub Stops : ByteClass → List ℕ → Type 0
Stops class rest = belongs class (byte_at rest 0) ≡ false

run_none : (class : ByteClass) (rest : List ℕ) → Stops class rest → run class rest ≡ 0
run_none class [] stops = refl
run_none class (c ∷ rest) stops = rw stops refl

-- and all of them are the run where no further one stands
pub run_exact : (class : ByteClass) (bytes rest : List ℕ) → AllOf class bytes → Stops class rest → run class (bytes ++ rest) ≡ length bytes
run_exact class [] rest all stops = run_none class rest stops
run_exact class (c ∷ bytes) rest all stops =
    let others = run_exact class bytes rest all.1 stops in
    rw all.0 (omega arith)

pub front_exact : (class : ByteClass) (bytes rest : List ℕ) → AllOf class bytes → Stops class rest → front class (bytes ++ rest) ≡ bytes
front_exact class bytes rest all stops =
    ap (λ n. take n (bytes ++ rest)) (run_exact class bytes rest all stops) ∙ take-append_seam bytes rest

pub rest_exact : (class : ByteClass) (bytes rest : List ℕ) → AllOf class bytes → Stops class rest
    → drop (run class (bytes ++ rest)) (bytes ++ rest) ≡ rest
rest_exact class bytes rest all stops =
    ap (λ n. drop n (bytes ++ rest)) (run_exact class bytes rest all stops) ∙ drop-append_seam bytes rest

-- ---- digits

pub digits_all : (bytes : List ℕ) → AllDigits 10 bytes → AllOf Digit bytes
digits_all [] all = tt
digits_all (c ∷ bytes) all = (below_digit c all.0, digits_all bytes all.1)

pub all_digits : (bytes : List ℕ) → AllOf Digit bytes → AllDigits 10 bytes
all_digits [] all = tt
all_digits (c ∷ bytes) all = (digit_below c all.0, all_digits bytes all.1)

pub hex_all : (bytes : List ℕ) → AllDigits 16 bytes → AllOf HexDigit bytes
hex_all [] all = tt
hex_all (c ∷ bytes) all = (below_hex c all.0, hex_all bytes all.1)

pub all_hex : (bytes : List ℕ) → AllOf HexDigit bytes → AllDigits 16 bytes
all_hex [] all = tt
all_hex (c ∷ bytes) all = (hex_below c all.0, all_hex bytes all.1)
