-- Laws of the sets of numbers below a bound, and of what is counted and summed over them.
use Rattle.std.specs.Prelude.{◌≡◌, ℕ, suc, zero, ◌+◌, ◌*◌, ◌<◌, ◌≤◌, Bool, true, false, not, ◌&&◌, ◌||◌, if◌then◌else◌}
use Rattle.std.specs.Prelude.{List, [], ◌∷◌, ◌++◌, IsTrue, ◌↔◌, nat_lt, nat_eq, length, Contains}
use Rattle.std.specs.Ordering.{nat_cmp}
use Rattle.std.specs.Cmp.{nat_cmp_total, unsigned_tied}
use Rattle.std.specs.FinSet as set
use Rattle.std.proofs.Common.{refl, sym, ap, ◌∙◌, inl, inr, arith, lit<, zero-le, le_refl, lt-suc_self, add-zero}
use Rattle.std.proofs.Common.{add-one, add-suc, add_assoc, get_or, append-nil, length-append, true≢false}
use Rattle.std.proofs.lemmas.Bool.{le-ltb, lt-ltb, cases_eq, cond_both, false_from_ne_true, or_cases, or_left, or_right}
use Rattle.std.proofs.Math.ListN.{get_or-append}
use Rattle.std.proofs.Math.Seq.{get_or-append_seam}
use Rattle.std.proofs.lemmas.List.Elements.{Contains-append_cases, Contains-append_left, Contains-append_right}
pub use Rattle.ci_word.specs.private.SetLaws.{list_any-numbers_below, contains-set_below}
use Rattle.ci_word.specs.Numbers.{numbers_below, count_below, sum_below, some_below, set_below}

-- ---- one number more

pub numbers_below-zero : (p : ℕ → Bool) → numbers_below 0 p ≡ []
unfolding numbers_below
numbers_below-zero p = refl

pub numbers_below-suc : (n : ℕ) (p : ℕ → Bool) → numbers_below (suc n) p ≡ numbers_below n p ++ (if p n then n ∷ [] else [])
unfolding numbers_below
numbers_below-suc n p = refl

pub count_below-zero : (p : ℕ → Bool) → count_below 0 p ≡ 0
unfolding count_below
count_below-zero p = refl

pub count_below-suc : (n : ℕ) (p : ℕ → Bool) → count_below (suc n) p ≡ count_below n p + (if p n then 1 else 0)
unfolding count_below
count_below-suc n p = refl

pub sum_below-zero : (p : ℕ → Bool) (f : ℕ → ℕ) → sum_below 0 p f ≡ 0
unfolding sum_below
sum_below-zero p f = refl

pub sum_below-suc : (n : ℕ) (p : ℕ → Bool) (f : ℕ → ℕ) → sum_below (suc n) p f ≡ sum_below n p f + (if p n then f n else 0)
unfolding sum_below
sum_below-suc n p f = refl

pub some_below-zero : (p : ℕ → Bool) → some_below 0 p ≡ false
unfolding some_below
some_below-zero p = refl

pub some_below-suc : (n : ℕ) (p : ℕ → Bool) → some_below (suc n) p ≡ (some_below n p || p n)
unfolding some_below
some_below-suc n p = refl

-- ---- which numbers are in

-- a test that implies another, and both
test_implied : (a b : Bool) → (b ≡ true → a ≡ true) → (a && b) ≡ b
test_implied true b implies = refl
test_implied false true implies = implies refl
test_implied false false implies = refl

-- sets that contain the same numbers are one
pub same_numbers : (s t : set.FinSet nat_cmp) → ((k : ℕ) → set.contains s k ≡ set.contains t k) → s ≡ t
same_numbers s t same = set.same_set nat_cmp_total set.nat_cmp-IsAntisymmetric s t same

-- the numbers of a set all of whose numbers are below n are those that it contains
pub set_below-contains : (n : ℕ) (s : set.FinSet nat_cmp) → ((k : ℕ) → IsTrue (set.contains s k) → k < n) → set_below n (set.contains s) ≡ s
set_below-contains n s below =
    same_numbers _ _
    (λ k. contains-set_below n (set.contains s) k ∙ test_implied (nat_lt k n) (set.contains s k) (λ e. lt-ltb k n (below k e)))

-- the list of one number or none
in_last : (n k : ℕ) (b : Bool) → Contains (if b then n ∷ [] else []) k → (n ≡ k) × IsTrue b
in_last n k true (zero, within, is) = (is, refl)
in_last n k true (suc j, within, is) = absurd (omega arith)
in_last n k false (j, within, is) = absurd (omega arith)

last_in : (n : ℕ) (b : Bool) → IsTrue b → Contains (if b then n ∷ [] else []) n
last_in n true e = (0, lit< tt, refl)
last_in n false e = absurd (true≢false (sym e))

-- what the list of the numbers below n that pass the test contains
pub Contains-numbers_below_iff : (n : ℕ) (p : ℕ → Bool) (k : ℕ) → Contains (numbers_below n p) k ↔ ((k < n) × IsTrue (p k))
unfolding numbers_below
Contains-numbers_below_iff zero p k = (λ (j, within, is). absurd (omega arith), λ (below, e). absurd (omega arith))
Contains-numbers_below_iff (suc n) p k =
    let last : List ℕ = if p n then n ∷ [] else [] in (
      λ found. elim (Contains-append_cases (numbers_below n p) last k found) [
        | inl earlier ↦ let h = (Contains-numbers_below_iff n p k).0 earlier in (omega (arith, h.0), h.1)
        | inr here ↦ let h = in_last n k (p n) here in (omega (arith, h.0), ap p (sym h.0) ∙ h.1)
      ],
      λ (below, e). elim (cases_eq k n) [
        | inl same ↦ Contains-append_right (numbers_below n p) last k (rw same (last_in n (p n) (ap p (sym same) ∙ e)))
        | inr other ↦ Contains-append_left (numbers_below n p) last k ((Contains-numbers_below_iff n p k).1 (omega arith, e))
      ],
    )

-- ---- some number

pub some_below_iff : (n : ℕ) (p : ℕ → Bool) → IsTrue (some_below n p) ↔ ((k : ℕ) × (k < n) × IsTrue (p k))
unfolding some_below
some_below_iff zero p = (λ e. absurd (true≢false (sym e)), λ (k, below, e). absurd (omega arith))
some_below_iff (suc n) p = (
  λ e. elim (or_cases (some_below n p) (p n) e) [
    | inl earlier ↦ let found = (some_below_iff n p).0 earlier in (found.0, omega (arith, found.1), found.2)
    | inr last ↦ (n, omega arith, last)
  ],
  λ (k, below, e). elim (cases_eq k n) [
    | inl same ↦ or_right (some_below n p) (p n) (ap p (sym same) ∙ e)
    | inr other ↦ or_left (some_below n p) (p n) ((some_below_iff n p).1 (k, omega arith, e))
  ],
)

-- ---- tests that agree below n

same_choice : (b c : Bool) (x y : ℕ) → b ≡ c → (IsTrue b → x ≡ y) → (if b then x else 0) ≡ (if c then y else 0)
same_choice true c x y agree same = rw (← agree) (same refl)
same_choice false c x y agree same = rw (← agree)

pub numbers_below-same : (n : ℕ) (p q : ℕ → Bool) → ((k : ℕ) → k < n → p k ≡ q k) → numbers_below n p ≡ numbers_below n q
unfolding numbers_below
numbers_below-same zero p q agree = refl
numbers_below-same (suc n) p q agree =
    λ i. numbers_below-same n p q (λ k h. agree k (omega arith)) i ++ (if agree n (lt-suc_self n) i then n ∷ [] else [])

pub count_below-same : (n : ℕ) (p q : ℕ → Bool) → ((k : ℕ) → k < n → p k ≡ q k) → count_below n p ≡ count_below n q
unfolding count_below
count_below-same zero p q agree = refl
count_below-same (suc n) p q agree =
    λ i. count_below-same n p q (λ k h. agree k (omega arith)) i + (if agree n (lt-suc_self n) i then 1 else 0)

-- tests that agree below n, and values that agree where the test passes
pub sum_below-same : (n : ℕ) (p q : ℕ → Bool) (f g : ℕ → ℕ) → ((k : ℕ) → k < n → p k ≡ q k)
    → ((k : ℕ) → k < n → IsTrue (p k) → f k ≡ g k) → sum_below n p f ≡ sum_below n q g
unfolding sum_below
sum_below-same zero p q f g agree same = refl
sum_below-same (suc n) p q f g agree same =
    let last = same_choice (p n) (q n) (f n) (g n) (agree n (lt-suc_self n)) (same n (lt-suc_self n)) in
    λ i. sum_below-same n p q f g (λ k h. agree k (omega arith)) (λ k h. same k (omega arith)) i + last i

-- ---- bounds

larger_choice : (b c : Bool) (x y : ℕ) → (IsTrue b → IsTrue c) → (IsTrue b → x ≤ y) → (if b then x else 0) ≤ (if c then y else 0)
larger_choice true c x y implies rise = rw (implies refl) (rise refl)
larger_choice false c x y implies rise = zero-le

pub count_below-le : (n : ℕ) (p : ℕ → Bool) → count_below n p ≤ n
unfolding count_below
count_below-le zero p = zero-le
count_below-le (suc n) p =
    let rest = count_below-le n p in
    cond_both (p n) 1 0 (λ last. count_below n p + last ≤ suc n) (λ _. omega arith) (λ _. omega arith)

-- where each number that passes the first test passes the second, no fewer pass the second
pub count_below-mono : (n : ℕ) (p q : ℕ → Bool) → ((k : ℕ) → k < n → IsTrue (p k) → IsTrue (q k)) → count_below n p ≤ count_below n q
unfolding count_below
count_below-mono zero p q implies = zero-le
count_below-mono (suc n) p q implies =
    let rest = count_below-mono n p q (λ k h. implies k (omega arith)) in
    let last = larger_choice (p n) (q n) 1 1 (implies n (lt-suc_self n)) (λ _. le_refl 1) in
    omega arith

-- where each number that passes the first test passes the second, and its value does not fall, the sum does not fall
pub sum_below-mono : (n : ℕ) (p q : ℕ → Bool) (f g : ℕ → ℕ) → ((k : ℕ) → k < n → IsTrue (p k) → IsTrue (q k))
    → ((k : ℕ) → k < n → IsTrue (p k) → f k ≤ g k) → sum_below n p f ≤ sum_below n q g
unfolding sum_below
sum_below-mono zero p q f g implies rise = zero-le
sum_below-mono (suc n) p q f g implies rise =
    let rest = sum_below-mono n p q f g (λ k h. implies k (omega arith)) (λ k h. rise k (omega arith)) in
    let last = larger_choice (p n) (q n) (f n) (g n) (implies n (lt-suc_self n)) (rise n (lt-suc_self n)) in
    omega arith

-- a bound on each value bounds the sum
pub sum_below-le : (n : ℕ) (p : ℕ → Bool) (f : ℕ → ℕ) (b : ℕ) → ((k : ℕ) → k < n → f k ≤ b) → sum_below n p f ≤ n * b
unfolding sum_below
sum_below-le zero p f b bound = zero-le
sum_below-le (suc n) p f b bound =
    let rest = sum_below-le n p f b (λ k h. bound k (omega arith)) in
    let last = bound n (lt-suc_self n) in
    cond_both (p n) (f n) 0 (λ x. sum_below n p f + x ≤ suc n * b) (λ _. omega arith) (λ _. omega arith)

-- ---- counts in parts, and of sets

-- the numbers below m + n are those below m, and n further ones
pub count_below-add : (m n : ℕ) (p : ℕ → Bool) → count_below (m + n) p ≡ count_below m p + count_below n (λ k. p (m + k))
unfolding count_below
count_below-add m zero p = ap (λ x. count_below x p) (add-zero m) ∙ sym (add-zero (count_below m p))
count_below-add m (suc n) p =
    ap (λ x. count_below x p) (add-suc m n)
    ∙ ap (λ x. x + (if p (m + n) then 1 else 0)) (count_below-add m n p)
    ∙ add_assoc (count_below m p) (count_below n (λ k. p (m + k))) (if p (m + n) then 1 else 0)

-- where no number passes both tests, those that pass one of them are as many as pass each
pub count_below-or :
    (n : ℕ) (p q : ℕ → Bool) → ((k : ℕ) → IsTrue (p k) → ¬ IsTrue (q k))
    → count_below n (λ k. p k || q k) ≡ count_below n p + count_below n q
unfolding count_below
count_below-or zero p q apart = refl
count_below-or (suc n) p q apart =
    let rest = count_below-or n p q apart in
    cond_both (p n) 1 0
    (λ x. count_below n (λ k. p k || q k) + (if p n || q n then 1 else 0) ≡ count_below n p + x + (count_below n q + (if q n then 1 else 0)))
    (λ e. let other = false_from_ne_true (q n) (apart n e) in rw (e, other) (omega arith))
    (λ e. rw e (omega arith))

pub sum_below-add : (m n : ℕ) (p : ℕ → Bool) (f : ℕ → ℕ) → sum_below (m + n) p f ≡ sum_below m p f + sum_below n (λ k. p (m + k)) (λ k. f (m + k))
unfolding sum_below
sum_below-add m zero p f = ap (λ x. sum_below x p f) (add-zero m) ∙ sym (add-zero (sum_below m p f))
sum_below-add m (suc n) p f =
    ap (λ x. sum_below x p f) (add-suc m n)
    ∙ ap (λ x. x + (if p (m + n) then f (m + n) else 0)) (sum_below-add m n p f)
    ∙ add_assoc (sum_below m p f) (sum_below n (λ k. p (m + k)) (λ k. f (m + k))) (if p (m + n) then f (m + n) else 0)

pub sum_below-first : (n : ℕ) (p : ℕ → Bool) (f : ℕ → ℕ) → sum_below (suc n) p f ≡ (if p 0 then f 0 else 0) + sum_below n (λ k. p (suc k)) (λ k. f (suc k))
unfolding sum_below
sum_below-first zero p f = omega arith
sum_below-first (suc n) p f =
    ap (λ x. x + (if p (suc n) then f (suc n) else 0)) (sum_below-first n p f)
    ∙ add_assoc (if p 0 then f 0 else 0) (sum_below n (λ k. p (suc k)) (λ k. f (suc k))) (if p (suc n) then f (suc n) else 0)

-- ---- none

pub sum_below-none : (n : ℕ) (p : ℕ → Bool) (f : ℕ → ℕ) → ((k : ℕ) → k < n → p k ≡ false) → sum_below n p f ≡ 0
unfolding sum_below
sum_below-none zero p f none = refl
sum_below-none (suc n) p f none = λ i. sum_below-none n p f (λ k lt. none k (omega arith)) i + (if none n (omega arith) i then f n else 0)

pub count_below-none : (n : ℕ) (p : ℕ → Bool) → ((k : ℕ) → k < n → p k ≡ false) → count_below n p ≡ 0
unfolding count_below
count_below-none zero p none = refl
count_below-none (suc n) p none = λ i. count_below-none n p (λ k lt. none k (omega arith)) i + (if none n (omega arith) i then 1 else 0)

pub length-numbers_below : (n : ℕ) (p : ℕ → Bool) → length (numbers_below n p) ≡ count_below n p
unfolding numbers_below count_below
length-numbers_below zero p = refl
length-numbers_below (suc n) p =
    length-append (numbers_below n p) (if p n then n ∷ [] else [])
    ∙ (λ i. length-numbers_below n p i + last (p n) i)
  where
    last : (b : Bool) → length (if b then n ∷ [] else []) ≡ (if b then 1 else 0)
    last true = refl
    last false = refl

pub len-set_below : (n : ℕ) (p : ℕ → Bool) → set.len (set_below n p) ≡ count_below n p
unfolding numbers_below count_below
len-set_below zero p = set.len-empty nat_cmp
len-set_below (suc n) p = len_one_more (len-set_below n p) (p n)
  where
    absent : set.contains (set_below n p) n ≡ false
    absent = contains-set_below n p n ∙ ap (λ b. b && p n) (le-ltb n n (le_refl n))

    len_one_more : set.len (set_below n p) ≡ count_below n p → (b : Bool)
        → set.len (set.from_list {R = nat_cmp} (numbers_below n p ++ (if b then n ∷ [] else [])))
        ≡ count_below n p + (if b then 1 else 0)
    len_one_more before true =
        ap set.len (set.from_list_push nat_cmp_total set.nat_cmp-IsAntisymmetric (numbers_below n p) n)
        ∙ set.len-insert nat_cmp_total (set_below n p) n
        ∙ ap (λ b. if b then set.len (set_below n p) else set.len (set_below n p) + 1) absent
        ∙ ap (λ x. x + 1) before
    len_one_more before false =
        ap (λ xs. set.len (set.from_list {R = nat_cmp} xs)) (append-nil (numbers_below n p)) ∙ before ∙ sym (add-zero (count_below n p))

-- ---- all numbers below a bound

pub length-all_below : (n : ℕ) → length (numbers_below n (λ _. true)) ≡ n
unfolding numbers_below
length-all_below zero = refl
length-all_below (suc n) =
    length-append (numbers_below n (λ _. true)) (n ∷ []) ∙ ap (λ m. m + 1) (length-all_below n) ∙ add-one n

-- each stands at its own place
pub get_or-all_below : (n k past : ℕ) → k < n → get_or (numbers_below n (λ _. true)) k past ≡ k
unfolding numbers_below
get_or-all_below zero k past below = absurd (omega arith)
get_or-all_below (suc n) k past below = elim (cases_eq k n) [
  | inl same ↦
      ap (λ (i : ℕ). get_or (numbers_below n (λ _. true) ++ n ∷ []) i past) (same ∙ sym (length-all_below n))
      ∙ get_or-append_seam (numbers_below n (λ _. true)) n [] past
      ∙ sym same
  | inr other ↦
      let earlier : k < n = omega arith in
      get_or-append (numbers_below n (λ _. true)) (n ∷ []) past k (rw length-all_below earlier) ∙ get_or-all_below n k past earlier
]

-- ---- a set all of whose numbers are below n

-- a set all of whose numbers are below n has as many as it contains below n
pub len-count_below : (n : ℕ) (s : set.FinSet nat_cmp) → ((k : ℕ) → IsTrue (set.contains s k) → k < n) → set.len s ≡ count_below n (set.contains s)
len-count_below n s below = ap set.len (sym (set_below-contains n s below)) ∙ len-set_below n (set.contains s)

-- ---- a number put in, and one taken out

pub contains-insert_nat : (s : set.FinSet nat_cmp) (n k : ℕ) → set.contains (set.insert s n) k ≡ (nat_eq k n || set.contains s k)
contains-insert_nat s n k = set.contains-insert nat_cmp_total s n k ∙ ap (λ b. b || set.contains s k) (unsigned_tied k n)

pub contains-remove_nat : (s : set.FinSet nat_cmp) (n k : ℕ) → set.contains (set.remove s n) k ≡ (not (nat_eq k n) && set.contains s k)
contains-remove_nat s n k = set.contains-remove nat_cmp_total s n k ∙ ap (λ b. not b && set.contains s k) (unsigned_tied k n)
