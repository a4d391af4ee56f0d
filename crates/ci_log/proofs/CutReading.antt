-- Reading the nodes of a cut is exact: rising numbers, which are those of one set in ascending order.
use Rattle.std.proofs.Common.{◌≡◌, ◌≢◌, ℕ, zero, suc, ◌+◌, ◌<◌, ◌≤◌, ◌⊎◌, inl, inr, Bool, true, false, cond, ◌&&◌, ◌||◌}
use Rattle.std.proofs.Common.{nat_le, nat_lt, eqb, lit≤, zero-le, true≢false, if◌then◌else◌, List, [], ◌∷◌, ◌++◌}
use Rattle.std.proofs.Common.{length, refl, sym, ap, ◌∙◌, subst, arith, append_assoc, append-nil, Ok, Err, IsTrue}
use Rattle.std.specs.Prelude.{codes}
use Rattle.std.specs.List.{flat_map, list_any}
use Rattle.std.specs.Fmt.{decimal}
use Rattle.std.specs.Ordering.{nat_cmp}
use Rattle.std.specs.FinSet as set
use Rattle.std.proofs.lemmas.Bool.{eqb-true, cases_lt}
use Rattle.std.proofs.lemmas.Bool.Decides.{nat_tests}
use Rattle.ci_word.specs.Numbers.{numbers_below}
use Rattle.ci_word.proofs.NumberLaws.{numbers_below-zero, numbers_below-suc, contains-insert_nat, same_numbers, list_any-numbers_below}
use Rattle.ci_word.specs.Members.{members_text}
use Rattle.ci_log.specs.Books.{IsCut}
use Rattle.ci_reading.specs.LineReading.{Stop, ◌>>=◌, view, stop}
use Rattle.ci_reading.specs.Fields.{ends, number}
use Rattle.ci_reading.proofs.Languages.{Plainly, Then, joined, Mapped, mapped, IsGiven, given}
use Rattle.ci_reading.proofs.Exact.{IsExact, also, and_then, seen_plainly, give}
use Rattle.ci_reading.proofs.NumberReading.{IsNumber, both_true, number_exact, number_read}
use Rattle.ci_reading.proofs.Readers.{PlainReader}
use Rattle.ci_log.specs.private.Reading.{Read, BehindTree, nodes_from, nodes, with_numbers, set_of}

-- ---- rising numbers

-- the text of rising numbers from this one on, behind the blank before the first
pub data AreRising : ℕ → List ℕ → List ℕ → Type 0 where
  last : (low n : ℕ) → low ≤ n → n ≤ 255 → AreRising low (decimal n ++ 10 ∷ []) (n ∷ [])
  more : (low n : ℕ) (ys ns : List ℕ) → low ≤ n → AreRising (n + 1) ys ns → AreRising low (decimal n ++ 32 ∷ ys) (n ∷ ns)

data AreAfter : ℕ × ℕ → List ℕ → List ℕ → Type 0 where
  none_after : (x : ℕ × ℕ) → x.1 ≡ 10 → AreAfter x [] (x.0 ∷ [])
  some_after : (x : ℕ × ℕ) (ys ns : List ℕ) → eqb x.1 10 ≡ false → AreRising (x.0 + 1) ys ns → AreAfter x ys (x.0 ∷ ns)

low_of : (low : ℕ) (ys ns : List ℕ) → AreRising low ys ns → low ≤ 255
low_of _ _ _ (last low n from to) = omega (arith, from, to)
low_of _ _ _ (more low n ys ns from others) = omega (arith, from, low_of (n + 1) ys ns others)

-- behind which a number ends that is not the last
blank_of : (low : ℕ) (x : ℕ × ℕ) → ends (nodes_from low) x.0 x.1 ≡ true → eqb x.1 10 ≡ false → (x.1 ≡ 32) × (x.0 < 255)
blank_of low x e not =
    let tests = both_true (nat_le low x.0) (eqb x.1 10 || (true && eqb x.1 32 && nat_lt x.0 255)) e in
    let other : (true && eqb x.1 32 && nat_lt x.0 255) ≡ true = sym (ap (λ b. b || (true && eqb x.1 32 && nat_lt x.0 255)) not) ∙ tests.1 in
    let parts = both_true (true && eqb x.1 32) (nat_lt x.0 255) other in
    let blank = parts.0 in
    let less = parts.1 in
    (eqb-true x.1 32 blank, grind (arith, nat_tests, less))

-- what stands behind a number, which a newline ends or not
abbrev after : ℕ → ℕ × ℕ → Bool → List ℕ → Read (List ℕ)
after count x b xs = cond b (Ok (x.0 ∷ [], xs)) (view (λ others. x.0 ∷ others) (nodes count (x.0 + 1) xs))

module _ {Other : BehindTree → ℕ → Type 0} {most : ℕ} (bound count low : ℕ)
    (later : (next : ℕ) → next ≤ 255 → 256 ≤ next + count
    → IsExact Other most bound (nodes count next) (Plainly (AreRising next)))
    (enough : 256 ≤ low + suc count) where
  all_read : (x : ℕ × ℕ) → x.1 ≡ 10 → IsExact Other most bound (λ xs. Ok (x.0 ∷ [], xs)) (Plainly (AreAfter x))
  all_read x at = also to from (give bound (x.0 ∷ []))
    where
      to : (ys ns : List ℕ) → IsGiven (x.0 ∷ []) ys ns → AreAfter x ys ns
      to _ _ given = none_after x at

      from : (ys ns : List ℕ) → AreAfter x ys ns → IsGiven (x.0 ∷ []) ys ns
      from _ _ (none_after _ is) = given
      from _ _ (some_after x ys ns not others) = let yes : eqb x.1 10 ≡ true = grind (arith, nat_tests, at) in absurd (cc)

  goes_on : (x : ℕ × ℕ) (ys : List ℕ) → IsNumber (nodes_from low) ys x → eqb x.1 10 ≡ false
      → IsExact Other most bound (λ xs. view (λ others. x.0 ∷ others) (nodes count (x.0 + 1) xs))
      (Plainly (AreAfter x))
  goes_on x ys is not =
      let blank = blank_of low x is.ended not in
      also to from
      (seen_plainly bound (nodes count (x.0 + 1)) (λ others. x.0 ∷ others) (AreRising (x.0 + 1))
      (later (x.0 + 1) (omega (arith, blank.1)) (omega (arith, enough, is.low))))
    where
      to : (ys ns : List ℕ) → Mapped (λ others. x.0 ∷ others) (AreRising (x.0 + 1)) ys ns → AreAfter x ys ns
      to _ _ (mapped ys ns r) = some_after x ys ns not r

      from : (ys ns : List ℕ) → AreAfter x ys ns → Mapped (λ others. x.0 ∷ others) (AreRising (x.0 + 1)) ys ns
      from _ _ (none_after x at) = let yes : eqb x.1 10 ≡ true = grind (arith, nat_tests, at) in absurd (cc)
      from _ _ (some_after x ys ns _ others) = mapped ys ns others

  after_exact : (ys : List ℕ) (x : ℕ × ℕ) → IsNumber (nodes_from low) ys x → IsExact Other most bound (after count x (eqb x.1 10)) (Plainly (AreAfter x))
  after_exact ys x is = by (eqb x.1 10) refl
    where
      by : (b : Bool) → eqb x.1 10 ≡ b → IsExact Other most bound (after count x (eqb x.1 10)) (Plainly (AreAfter x))
      by true e = subst (λ b. IsExact Other most bound (after count x b) (Plainly (AreAfter x))) (sym e) (all_read x (eqb-true x.1 10 e))
      by false e = subst (λ b. IsExact Other most bound (after count x b) (Plainly (AreAfter x))) (sym e) (goes_on x ys is e)

some_after_it : (low : ℕ) (ys : List ℕ) (x : ℕ × ℕ) → IsNumber (nodes_from low) ys x → (zs ns : List ℕ) × AreAfter x zs ns
some_after_it low ys x is = by (eqb x.1 10) refl
  where
    by : (b : Bool) → eqb x.1 10 ≡ b → (zs ns : List ℕ) × AreAfter x zs ns
    by true e = ([], x.0 ∷ [], none_after x (eqb-true x.1 10 e))
    by false e =
        let blank = blank_of low x is.ended e in
        (decimal (x.0 + 1) ++ 10 ∷ [], x.0 ∷ (x.0 + 1) ∷ [], some_after x _ _ e (last (x.0 + 1) (x.0 + 1) (omega arith) (omega (arith, blank.1))))

pub nodes_exact : {Other : BehindTree → ℕ → Type 0} {most : ℕ} (bound count low : ℕ) → low ≤ 255 → 256 ≤ low + count
    → IsExact Other most bound (nodes count low) (Plainly (AreRising low))
unfolding nodes
nodes_exact bound zero low small enough = absurd (omega (arith, small, enough))
nodes_exact bound (suc count) low small enough =
    also to from
    (and_then bound (number (nodes_from low)) (λ x. after count x (eqb x.1 10)) (IsNumber (nodes_from low))
    (number_exact (nodes_from low) small (lit≤ tt) refl bound) AreAfter (after_exact bound count low (nodes_exact bound count) enough) (some_after_it low))
  where
    either_end : (x : ℕ × ℕ) (ys zs ns : List ℕ) → IsNumber (nodes_from low) ys x → AreAfter x zs ns → AreRising low (ys ++ zs) ns
    either_end _ ys _ _ is (none_after x at) =
        subst (λ v. AreRising low v (x.0 ∷ [])) (sym (append-nil ys ∙ (is.text ∙ ap (λ b. decimal x.0 ++ b ∷ []) at))) (last low x.0 is.low is.high)
    either_end _ ys _ _ is (some_after x zs ns not others) =
        let blank = blank_of low x is.ended not in
        subst (λ v. AreRising low v (x.0 ∷ ns)) (sym
        (ap (λ v. v ++ zs) (is.text ∙ ap (λ b. decimal x.0 ++ b ∷ []) blank.0)
        ∙ append_assoc (decimal x.0) (32 ∷ []) zs)) (more low x.0 zs ns is.low others)

    to : (ys ns : List ℕ) → Then (IsNumber (nodes_from low)) AreAfter ys ns → AreRising low ys ns
    to _ _ (joined ys zs x ns is others) = either_end x ys zs ns is others

    from : (ys ns : List ℕ) → AreRising low ys ns → Then (IsNumber (nodes_from low)) AreAfter ys ns
    from _ _ (last low n low_is high) =
        let test : nat_le low n ≡ true = grind (arith, nat_tests) in
        subst (λ v. Then (IsNumber (nodes_from low)) AreAfter v (n ∷ [])) (append-nil (decimal n ++ 10 ∷ []))
        (joined (decimal n ++ 10 ∷ []) [] (n, 10) (n ∷ []) (record { low = low_is; high = high; ended = rw test refl; text = refl }) (none_after (n, 10) refl))
    from _ _ (more low n ys ns low_is others) =
        let top = low_of (n + 1) ys ns others in
        let test : nat_le low n ≡ true = grind (arith, nat_tests) in
        let below : nat_lt n 255 ≡ true = grind (arith, nat_tests) in
        subst (λ v. Then (IsNumber (nodes_from low)) AreAfter v (n ∷ ns)) (append_assoc (decimal n) (32 ∷ []) ys)
        (joined (decimal n ++ 32 ∷ []) ys (n, 32) (n ∷ ns)
        (record { low = low_is; high = omega (arith, top); ended = rw (test, below) refl; text = refl })
        (some_after (n, 32) ys ns refl others))

-- ---- sets

-- rising numbers from low on and below high
abbrev AreBetween : ℕ → ℕ → List ℕ → Type 0
AreBetween low high [] = Unit {0}
AreBetween low high (n ∷ ns) = (low ≤ n) × (n < high) × AreBetween (n + 1) high ns

abbrev is_one : ℕ → List ℕ → Bool
is_one k ns = list_any (λ n. eqb n k) ns

none_below : (low high k : ℕ) (ns : List ℕ) → AreBetween low high ns → k < low → is_one k ns ≡ false
none_below low high k [] are less = refl
none_below low high k (n ∷ ns) are less =
    let from = are.0 in
    let here : eqb n k ≡ false = grind (arith, nat_tests, from) in
    rw here (none_below (n + 1) high k ns are.2 (omega (arith, less, are.0)))

one_same : (n : ℕ) (ns : List ℕ) → is_one n (n ∷ ns) ≡ true
one_same n ns = let here : eqb n n ≡ true = grind (arith, nat_tests) in rw here refl

-- rising numbers are known by which they are
same_rising : (low high : ℕ) (ms ns : List ℕ) → AreBetween low high ms → AreBetween low high ns → ((k : ℕ) → is_one k ms ≡ is_one k ns) → ms ≡ ns
same_rising low high [] [] a b same = refl
same_rising low high [] (n ∷ ns) a b same = absurd (true≢false (sym (same n ∙ one_same n ns)))
same_rising low high (m ∷ ms) [] a b same = absurd (true≢false (sym (one_same m ms) ∙ same m))
same_rising low high (m ∷ ms) (n ∷ ns) a b same = by (λ c d e. same_rising (n + 1) high ms ns c d e) (cases_lt m n) (cases_lt n m)
  where
    by : (AreBetween (n + 1) high ms → AreBetween (n + 1) high ns → ((k : ℕ) → is_one k ms ≡ is_one k ns) → ms ≡ ns)
        → (m < n) ⊎ (n ≤ m) → (n < m) ⊎ (m ≤ n) → m ∷ ms ≡ n ∷ ns
    by others (inl less) _ = absurd (true≢false (sym (one_same m ms) ∙ (same m ∙ none_below n high m (n ∷ ns) (omega arith, b.1, b.2) less)))
    by others (inr _) (inl less) = absurd (true≢false (sym (one_same n ns) ∙ (sym (same n) ∙ none_below m high n (m ∷ ms) (omega arith, a.1, a.2) less)))
    by others (inr le) (inr ge) =
        let e : m ≡ n = omega (arith, le, ge) in
        λ i. e i ∷ others (subst (λ v. AreBetween (v + 1) high ms) e a.2) b.2 (λ k. tails e k (cases_lt k (n + 1))) i
      where
        tails : m ≡ n → (k : ℕ) → (k < n + 1) ⊎ (n + 1 ≤ k) → is_one k ms ≡ is_one k ns
        tails e k (inl less) = none_below (m + 1) high k ms a.2 (omega (arith, less, e)) ∙ sym (none_below (n + 1) high k ns b.2 less)
        tails e k (inr past) =
            let left : eqb m k ≡ false = grind (arith, nat_tests) in
            let right : eqb n k ≡ false = grind (arith, nat_tests) in
            sym (ap (λ t. t || is_one k ms) left) ∙ (same k ∙ ap (λ t. t || is_one k ns) right)

higher : (low high : ℕ) (ns : List ℕ) → AreBetween low high ns → AreBetween low (suc high) ns
higher low high [] are = tt
higher low high (n ∷ ns) are = (are.0, omega (arith, are.1), higher (n + 1) high ns are.2)

with_top : (low high : ℕ) (ns : List ℕ) → low ≤ high → AreBetween low high ns → AreBetween low (suc high) (ns ++ high ∷ [])
with_top low high [] le are = (le, omega arith, tt)
with_top low high (n ∷ ns) le are = (are.0, omega (arith, are.1), with_top (n + 1) high ns (omega (arith, are.1)) are.2)

numbers_rise : (n : ℕ) (p : ℕ → Bool) → AreBetween 0 n (numbers_below n p)
numbers_rise zero p = subst (AreBetween 0 0) (sym (numbers_below-zero p)) tt
numbers_rise (suc n) p = subst (AreBetween 0 (suc n)) (sym (numbers_below-suc n p)) (by (numbers_rise n p) (p n))
  where
    by : AreBetween 0 n (numbers_below n p) → (b : Bool) → AreBetween 0 (suc n) (numbers_below n p ++ (if b then n ∷ [] else []))
    by are true = with_top 0 n (numbers_below n p) zero-le are
    by are false = subst (AreBetween 0 (suc n)) (sym (append-nil (numbers_below n p))) (higher 0 n (numbers_below n p) are)

contains-with_numbers : (cut : set.FinSet nat_cmp) (ns : List ℕ) (k : ℕ) → set.contains (with_numbers cut ns) k ≡ (is_one k ns || set.contains cut k)
contains-with_numbers cut [] k = refl
contains-with_numbers cut (n ∷ ns) k =
    let one = contains-insert_nat cut n k in
    let same : eqb k n ≡ eqb n k = grind (arith, nat_tests) in
    let others = contains-with_numbers (set.insert cut n) ns k in
    by (eqb n k) (is_one k ns) (set.contains cut k) (others ∙ (ap (λ b. is_one k ns || b) (one ∙ ap (λ b. b || set.contains cut k) same)))
  where
    by : (a b c : Bool) → set.contains (with_numbers cut (n ∷ ns)) k ≡ (b || (a || c)) → set.contains (with_numbers cut (n ∷ ns)) k ≡ ((a || b) || c)
    by true true c e = e
    by true false c e = e
    by false b c e = e

none_above : (low high k : ℕ) (ns : List ℕ) → AreBetween low high ns → high ≤ k → is_one k ns ≡ false
none_above low high k [] are past = refl
none_above low high k (n ∷ ns) are past =
    let below = are.1 in
    let here : eqb n k ≡ false = grind (arith, nat_tests, below) in
    rw here (none_above (n + 1) high k ns are.2 past)

-- ---- the text of a cut

rising_between : (low : ℕ) (ys ns : List ℕ) → AreRising low ys ns → AreBetween low 256 ns
rising_between _ _ _ (last low n from to) = (from, omega (arith, to), tt)
rising_between _ _ _ (more low n ys ns from others) = (from, omega (arith, low_of (n + 1) ys ns others), rising_between (n + 1) ys ns others)

rising_text : (low : ℕ) (ys ns : List ℕ) → AreRising low ys ns → 32 ∷ ys ≡ flat_map (λ node. codes " " ++ decimal node) ns ++ 10 ∷ []
rising_text _ _ _ (last low n from to) = ap (λ v. 32 ∷ (v ++ 10 ∷ [])) (sym (append-nil (decimal n)))
rising_text _ _ _ (more low n ys ns from others) =
    ap (λ v. 32 ∷ (decimal n ++ v)) (rising_text (n + 1) ys ns others)
    ∙ ap (λ v. 32 ∷ v) (sym (append_assoc (decimal n) (flat_map (λ node. codes " " ++ decimal node) ns) (10 ∷ [])))

some_rising : (low n : ℕ) (ns : List ℕ) → AreBetween low 256 (n ∷ ns) → (ys : List ℕ) × AreRising low ys (n ∷ ns)
some_rising low n [] are = (decimal n ++ 10 ∷ [], last low n are.0 (omega (arith, are.1)))
some_rising low n (m ∷ ns) are = let o = some_rising (n + 1) m ns are.2 in (decimal n ++ 32 ∷ o.0, more low n o.0 (m ∷ ns) are.0 o.1)

numbers_again : (ns : List ℕ) (k : ℕ) → set.contains (with_numbers set.empty ns) k ≡ is_one k ns
numbers_again ns k = let none = set.contains-empty nat_cmp k in contains-with_numbers set.empty ns k
    ∙ (ap (λ b. is_one k ns || b) none ∙ or_false (is_one k ns))
  where
    or_false : (b : Bool) → (b || false) ≡ b
    or_false true = refl
    or_false false = refl

-- the members of the set of rising numbers are these
same_members : (ns : List ℕ) → AreBetween 0 256 ns → numbers_below 256 (set.contains (with_numbers set.empty ns)) ≡ ns
same_members ns are =
    let p = set.contains (with_numbers set.empty ns) in
    same_rising 0 256 (numbers_below 256 p) ns (numbers_rise 256 p) are
    (λ k. list_any-numbers_below 256 p k ∙ (ap (λ b. nat_lt k 256 && b) (numbers_again ns k)
    ∙ by k (cases_lt k 256)))
  where
    by : (k : ℕ) → (k < 256) ⊎ (256 ≤ k) → (nat_lt k 256 && is_one k ns) ≡ is_one k ns
    by k (inl less) = let test : nat_lt k 256 ≡ true = grind (arith, nat_tests) in ap (λ b. b && is_one k ns) test
    by k (inr past) = let test : nat_lt k 256 ≡ false = grind (arith, nat_tests) in ap (λ b. b && is_one k ns) test ∙ sym (none_above 0 256 k ns are past)

first_one : (low : ℕ) (ys ns : List ℕ) → AreRising low ys ns → (n : ℕ) × (n < 256) × (is_one n ns ≡ true)
first_one _ _ _ (last low n from to) = (n, omega (arith, to), one_same n [])
first_one _ _ _ (more low n ys ns from others) = (n, omega (arith, low_of (n + 1) ys ns others), one_same n ns)

-- a cut's nodes behind the first blank, and the newline
abbrev pub IsCutText : List ℕ → set.FinSet nat_cmp → Type 0
IsCutText ys cut = IsCut cut × (members_text (set.contains cut) ++ codes "\n" ≡ 32 ∷ ys)

cut_of : (ys ns : List ℕ) → AreRising 0 ys ns → IsCutText ys (with_numbers set.empty ns)
cut_of ys ns are =
    let between = rising_between 0 ys ns are in
    let one = first_one 0 ys ns are in
    let in_it : set.contains (with_numbers set.empty ns) one.0 ≡ true = numbers_again ns one.0 ∙ one.2 in (
      record { node = one.0; has_node = in_it; below = λ k has. by k has (cases_lt k 256) },
      ap (λ v. flat_map (λ node. codes " " ++ decimal node) v ++ 10 ∷ []) (same_members ns between) ∙ sym (rising_text 0 ys ns are),
    )
  where
    by : (k : ℕ) → IsTrue (set.contains (with_numbers set.empty ns) k) → (k < 256) ⊎ (256 ≤ k) → k < 256
    by k has (inl less) = less
    by k has (inr past) = absurd (true≢false (sym has ∙ (numbers_again ns k ∙ none_above 0 256 k ns (rising_between 0 ys ns are) past)))

record HasNumbers (ys : List ℕ) (cut : set.FinSet nat_cmp) : Type 0 where
  ns : List ℕ
  are : AreRising 0 ys ns
  same : with_numbers set.empty ns ≡ cut

member : (cut : set.FinSet nat_cmp) → IsCut cut → (k : ℕ) → is_one k (numbers_below 256 (set.contains cut)) ≡ set.contains cut k
member cut is k = list_any-numbers_below 256 (set.contains cut) k ∙ inside (set.contains cut k) refl
  where
    and_false : (b : Bool) → (b && false) ≡ false
    and_false true = refl
    and_false false = refl

    inside : (b : Bool) → set.contains cut k ≡ b → (nat_lt k 256 && b) ≡ b
    inside true has = let below = is.below k has in let test : nat_lt k 256 ≡ true = grind (arith, nat_tests, below) in ap (λ b. b && true) test
    inside false has = and_false (nat_lt k 256)

numbers_of : (ys : List ℕ) (cut : set.FinSet nat_cmp) → IsCutText ys cut → HasNumbers ys cut
numbers_of ys cut is = by (numbers_below 256 (set.contains cut)) refl
  where
    by : (ns : List ℕ) → numbers_below 256 (set.contains cut) ≡ ns → HasNumbers ys cut
    by [] none = absurd (true≢false (sym is.0.has_node ∙ (sym (member cut is.0 is.0.node) ∙ ap (is_one is.0.node) none)))
    by (n ∷ ns) some =
        let o = some_rising 0 n ns (subst (AreBetween 0 256) some (numbers_rise 256 (set.contains cut))) in
        let text : 32 ∷ o.0 ≡ 32 ∷ ys = rising_text 0 o.0 (n ∷ ns) o.1
        ∙ (ap (λ v. flat_map (λ node. codes " " ++ decimal node) v ++ 10 ∷ []) (sym some) ∙ is.1) in
        let rest : o.0 ≡ ys = cc in
        record {
          ns = n ∷ ns;
          are = subst (λ v. AreRising 0 v (n ∷ ns)) rest o.1;
          same = same_numbers (with_numbers set.empty (n ∷ ns)) cut (λ k. numbers_again (n ∷ ns) k ∙ (ap (is_one k) (sym some) ∙ member cut is.0 k));
        }

pub rising_cut : (ys : List ℕ) (cut : set.FinSet nat_cmp) → Mapped (with_numbers set.empty) (AreRising 0) ys cut → IsCutText ys cut
rising_cut _ _ (mapped ys ns are) = cut_of ys ns are

pub cut_rises : (ys : List ℕ) (cut : set.FinSet nat_cmp) → IsCutText ys cut → Mapped (with_numbers set.empty) (AreRising 0) ys cut
cut_rises ys cut is = let o = numbers_of ys cut is in subst (Mapped (with_numbers set.empty) (AreRising 0) ys) o.same (mapped ys o.ns o.are)

-- there is a cut with a text
pub some_cut : (ys : List ℕ) × (cut : set.FinSet nat_cmp) × IsCutText ys cut
some_cut = (decimal 0 ++ 10 ∷ [], with_numbers set.empty (0 ∷ []), cut_of (decimal 0 ++ 10 ∷ []) (0 ∷ []) (last 0 0 zero-le zero-le))

-- each cut has a text
pub some_cut_text : (cut : set.FinSet nat_cmp) → IsCut cut → (ys : List ℕ) × IsCutText ys cut
some_cut_text cut is = by (numbers_below 256 (set.contains cut)) refl
  where
    by : (ns : List ℕ) → numbers_below 256 (set.contains cut) ≡ ns → (ys : List ℕ) × IsCutText ys cut
    by [] none = absurd (true≢false (sym is.has_node ∙ (sym (member cut is is.node) ∙ ap (is_one is.node) none)))
    by (n ∷ ns) some =
        let o = some_rising 0 n ns (subst (AreBetween 0 256) some (numbers_rise 256 (set.contains cut))) in
        (o.0, (is, ap (λ v. flat_map (λ node. codes " " ++ decimal node) v ++ 10 ∷ []) some ∙ sym (rising_text 0 o.0 (n ∷ ns) o.1)))

-- a cut, behind the blank before its first node
abbrev pub a_cut : {Other : BehindTree → ℕ → Type 0} {most : ℕ} → PlainReader ℕ BehindTree (set.FinSet nat_cmp) Other most
a_cut = record {
  read = λ xs. set_of (nodes 256 0 xs);
  Is = IsCutText;
  exact = λ n. also rising_cut cut_rises (seen_plainly n (nodes 256 0) (with_numbers set.empty) (AreRising 0) (nodes_exact n 256 0 zero-le (lit≤ tt)));
  some = some_cut;
}

-- ---- a loop over nodes

-- what is read, put into a set
abbrev pub numbers_put : set.FinSet nat_cmp → Read (List ℕ) → Read (set.FinSet nat_cmp)
numbers_put cut r = view (with_numbers cut) r

put_first : (cut : set.FinSet nat_cmp) (n : ℕ) (r : Read (List ℕ)) → numbers_put cut (view (λ others. n ∷ others) r) ≡ numbers_put (set.insert cut n) r
put_first cut n (Ok x) = refl
put_first cut n (Err s) = refl

module _ (cut : set.FinSet nat_cmp) (count left low : ℕ) (xs : List ℕ) (some : left ≡ suc count) where
  nodes_step : nodes left low xs ≡ (number (nodes_from low) xs >>= λ n. after count n.0 (eqb n.0.1 10) n.1)
  unfolding nodes
  nodes_step = ap (λ n. nodes n low xs) some

  behind_number : (x : ℕ × ℕ) (rest : List ℕ) (b : Bool)
      → number {K = BehindTree} (nodes_from low) xs ≡ Ok (x, rest) → eqb x.1 10 ≡ b
      → numbers_put cut (nodes left low xs) ≡ numbers_put cut (after count x b rest)
  behind_number x rest b e is = ap (numbers_put cut)
      (nodes_step ∙ (ap (λ r. r >>= λ n. after count n.0 (eqb n.0.1 10) n.1) e ∙ ap (λ b. after count x b rest) is))

  pub last_node : (n b : ℕ) (rest : List ℕ) → number {K = BehindTree} (nodes_from low) xs ≡ Ok ((n, b), rest)
      → b ≡ 10 → numbers_put cut (nodes left low xs) ≡ Ok (set.insert cut n, rest)
  last_node n b rest e at = behind_number (n, b) rest true e (grind (arith, nat_tests, at))

  pub next_node : (n b : ℕ) (rest : List ℕ) → number {K = BehindTree} (nodes_from low) xs ≡ Ok ((n, b), rest)
      → b ≢ 10 → numbers_put cut (nodes left low xs) ≡ numbers_put (set.insert cut n) (nodes count (n + 1) rest)
  next_node n b rest e not = behind_number (n, b) rest false e (grind (arith, nat_tests, not)) ∙ put_first cut n (nodes count (n + 1) rest)

  pub node_stops : (s : Stop BehindTree) → number {K = BehindTree} (nodes_from low) xs ≡ Err s → numbers_put cut (nodes left low xs) ≡ Err s
  node_stops s stopped = ap (numbers_put cut) (nodes_step ∙ ap (λ r. r >>= λ n. after count n.0 (eqb n.0.1 10) n.1) stopped)

pub no_node_left : (cut : set.FinSet nat_cmp) (left low : ℕ) (xs : List ℕ) → left ≡ 0 → numbers_put cut (nodes left low xs) ≡ Err (stop (length xs))
unfolding nodes
no_node_left cut left low xs none = ap (λ n. numbers_put cut (nodes n low xs)) none

-- a node that was read is below 256, and where others follow it below 255
pub node_small : (low n b : ℕ) (xs after : List ℕ) → low ≤ 255
    → number {K = BehindTree} (nodes_from low) xs ≡ Ok ((n, b), after) → (n ≤ 255) × (b ≢ 10 → n + 1 ≤ 255)
node_small low n b xs after small e =
    let is = number_read (nodes_from low) small (lit≤ tt) refl xs (n, b) after e in
    (is.1.high, λ not. let no_newline : eqb b 10 ≡ false = grind (arith, nat_tests, not) in omega (arith, (blank_of low (n, b) is.1.ended no_newline).1))
