-- The half bytes of items, as they follow on one another: behind each leaf, those of the items behind it.
use Rattle.std.proofs.Common.{◌≡◌, ℕ, zero, suc, ◌+◌, ◌/◌, ◌%◌, ◌<◌, Bool, true, false, cond, eqb, nat_lt}
use Rattle.std.proofs.Common.{List, [], ◌∷◌, ◌++◌, replicate, refl, sym, ap, ◌∙◌, arith, append-nil}
use Rattle.std.specs.Prelude.{◌&&◌}
use Rattle.std.specs.List.{flat_map}
use Rattle.std.proofs.lemmas.Bool.{eqb-true}
use Rattle.ci_log.specs.declared.log.Item.{Item}
use Rattle.ci_log.specs.declared.log.Item.TheVariants.{B, O, C, I, G, F}
use Rattle.ci_log.specs.Packed.{half_byte, Run, are_equal_leaves, alone, in_front, runs, last_leaves, more_leaves, run_halves, half_bytes}
use Rattle.ci_log.specs.private.PackedReading.{item_at, halves_behind}

-- ---- equal leaves

pub item_back : (i : Item) → item_at (half_byte i) ≡ i
item_back B = refl
item_back O = refl
item_back C = refl
item_back I = refl
item_back G = refl
item_back F = refl

and_first : (b c : Bool) → (b && c) ≡ true → b ≡ true
and_first true c e = refl
and_first false c e = e

and_second : (b c : Bool) → (b && c) ≡ true → c ≡ true
and_second true c e = e
and_second false c e = absurd (cc)

pub same_leaf : (i j : Item) → are_equal_leaves i j ≡ true → i ≡ j
same_leaf i j e =
    let same : half_byte i ≡ half_byte j = eqb-true (half_byte i) (half_byte j) (and_second (nat_lt 0 (half_byte i)) _ e) in
    sym (item_back i) ∙ (ap item_at same ∙ item_back j)

pub first_leaf : (i j : Item) → are_equal_leaves i j ≡ true → nat_lt 0 (half_byte i) ≡ true
first_leaf i j e = and_first (nat_lt 0 (half_byte i)) (eqb (half_byte i) (half_byte j)) e

pub equal_to_itself : (i : Item) → nat_lt 0 (half_byte i) ≡ true → are_equal_leaves i i ≡ true
equal_to_itself B is = is
equal_to_itself O is = refl
equal_to_itself C is = refl
equal_to_itself I is = refl
equal_to_itself G is = refl
equal_to_itself F is = refl

-- the items don't begin with the same leaf again
abbrev pub BeginsNo : Item → List Item → Type 0
BeginsNo i [] = Unit {0}
BeginsNo i (j ∷ items) = are_equal_leaves i j ≡ false

-- no branch is the same leaf
pub behind_branch : (i : Item) → nat_lt 0 (half_byte i) ≡ false → (items : List Item) → BeginsNo i items
behind_branch i is [] = tt
behind_branch i is (j ∷ items) = ap (λ b. b && eqb (half_byte i) (half_byte j)) is

-- ---- from runs to what stands behind a leaf

abbrev a_run : Item → ℕ → Run
a_run i more = record { item = i; more = more }

-- runs behind a leaf and so many more of its kind
abbrev behind_run : Item → ℕ → List Run → List Run
behind_run i more [] = a_run i more ∷ []
behind_run i more (r ∷ rs) = cond (are_equal_leaves i r.item) (a_run i (more + suc r.more) ∷ rs) (a_run i more ∷ r ∷ rs)

abbrev spelt : List Run → List ℕ
spelt rs = flat_map run_halves rs

front_is : (i : Item) (rs : List Run) → in_front i rs ≡ behind_run i 0 rs
front_is i [] = refl
front_is i (r ∷ rs) = ap (λ k. cond (are_equal_leaves i r.item) (a_run i k ∷ rs) (alone i ∷ r ∷ rs)) (let e : suc r.more ≡ 0 + suc r.more = omega arith in e)

-- the leaf once more
once_more : (i : Item) (more : ℕ) (rs : List Run) → are_equal_leaves i i ≡ true → behind_run i more (in_front i rs) ≡ behind_run i (suc more) rs
once_more i more [] is =
    ap (λ b. cond b (a_run i (more + 1) ∷ []) (a_run i more ∷ alone i ∷ [])) is
    ∙ ap (λ k. a_run i k ∷ []) (let e : more + 1 ≡ suc more = omega arith in e)
once_more i more (r ∷ rs) is = by (are_equal_leaves i r.item)
  where
    by : (b : Bool) → behind_run i more (cond b (a_run i (suc r.more) ∷ rs) (alone i ∷ r ∷ rs))
        ≡ cond b (a_run i (suc more + suc r.more) ∷ rs) (a_run i (suc more) ∷ r ∷ rs)
    by true =
        ap (λ b. cond b (a_run i (more + suc (suc r.more)) ∷ rs) (a_run i more ∷ a_run i (suc r.more) ∷ rs)) is
        ∙ ap (λ k. a_run i k ∷ rs) (let e : more + suc (suc r.more) ≡ suc more + suc r.more = omega arith in e)
    by false =
        ap (λ b. cond b (a_run i (more + 1) ∷ r ∷ rs) (a_run i more ∷ alone i ∷ r ∷ rs)) is
        ∙ ap (λ k. a_run i k ∷ r ∷ rs) (let e : more + 1 ≡ suc more = omega arith in e)

-- another item
another : (i j : Item) (more : ℕ) (rs : List Run) → are_equal_leaves i j ≡ false → behind_run i more (in_front j rs) ≡ a_run i more ∷ in_front j rs
another i j more [] not = ap (λ b. cond b (a_run i (more + 1) ∷ []) (a_run i more ∷ alone j ∷ [])) not
another i j more (r ∷ rs) not = by (are_equal_leaves j r.item)
  where
    by : (b : Bool) → behind_run i more (cond b (a_run j (suc r.more) ∷ rs) (alone j ∷ r ∷ rs))
        ≡ a_run i more ∷ cond b (a_run j (suc r.more) ∷ rs) (alone j ∷ r ∷ rs)
    by true = ap (λ b. cond b (a_run i (more + suc (suc r.more)) ∷ rs) (a_run i more ∷ a_run j (suc r.more) ∷ rs)) not
    by false = ap (λ b. cond b (a_run i (more + 1) ∷ r ∷ rs) (a_run i more ∷ alone j ∷ r ∷ rs)) not

runs_behind : (items : List Item) (i : Item) (more : ℕ) → spelt (behind_run i more (runs items)) ≡ half_byte i ∷ halves_behind i more items
runs_behind [] i more = append-nil (half_byte i ∷ more_leaves more)
runs_behind (j ∷ items) i more = by (are_equal_leaves i j) refl (runs_behind items i (suc more)) (runs_behind items j 0)
  where
    by : (b : Bool) → are_equal_leaves i j ≡ b
        → spelt (behind_run i (suc more) (runs items)) ≡ half_byte i ∷ halves_behind i (suc more) items
        → spelt (behind_run j 0 (runs items)) ≡ half_byte j ∷ halves_behind j 0 items
        → spelt (behind_run i more (in_front j (runs items)))
        ≡ half_byte i ∷ cond b (halves_behind i (suc more) items) (more_leaves more ++ half_byte j ∷ halves_behind j 0 items)
    by true is again other =
        let same : i ≡ j = same_leaf i j is in
        let itself : are_equal_leaves i i ≡ true = equal_to_itself i (first_leaf i j is) in
        ap (λ k. spelt (behind_run i more (in_front k (runs items)))) (sym same)
        ∙ (ap spelt (once_more i more (runs items) itself) ∙ again)
    by false is again other =
        ap spelt (another i j more (runs items) is)
        ∙ ap (λ v. half_byte i ∷ (more_leaves more ++ v)) (ap spelt (front_is j (runs items)) ∙ other)

pub halves_are : (i : Item) (items : List Item) → half_bytes (i ∷ items) ≡ half_byte i ∷ halves_behind i 0 items
halves_are i items = ap spelt (front_is i (runs items)) ∙ runs_behind items i 0

pub item_behind : (i j : Item) (items : List Item) → are_equal_leaves i j ≡ false → halves_behind i 0 (j ∷ items) ≡ half_byte j ∷ halves_behind j 0 items
item_behind i j items not = ap (λ b. cond b (halves_behind i 1 items) (half_byte j ∷ halves_behind j 0 items)) not

-- behind a branch the half bytes begin anew
pub from_start : (items : List Item) → halves_behind B 0 items ≡ half_bytes items
from_start [] = refl
from_start (j ∷ items) = sym (halves_are j items)

-- ---- more leaves of a run

ten_leaves : (more : ℕ) → more_leaves (more + 10) ≡ 15 ∷ more_leaves more
ten_leaves more =
    let e : (more + 10) / 10 ≡ suc (more / 10) = omega arith in
    let f : (more + 10) % 10 ≡ more % 10 = omega arith in
    λ i. replicate (e i) 15 ++ last_leaves (f i)

pub few_leaves : (more : ℕ) → more < 9 → more_leaves (suc more) ≡ (5 + suc more) ∷ []
few_leaves more few =
    let e : suc more / 10 ≡ 0 = omega (arith, few) in
    let f : suc more % 10 ≡ suc more = omega (arith, few) in
    λ i. replicate (e i) 15 ++ last_leaves (f i)

pub ten_behind : (items : List Item) (i : Item) (more : ℕ) → halves_behind i (more + 10) items ≡ 15 ∷ halves_behind i more items
ten_behind [] i more = ten_leaves more
ten_behind (j ∷ items) i more = by (are_equal_leaves i j) (ten_behind items i (suc more))
  where
    by : (b : Bool) → halves_behind i (suc more + 10) items ≡ 15 ∷ halves_behind i (suc more) items
        → cond b (halves_behind i (suc (more + 10)) items) (more_leaves (more + 10) ++ half_byte j ∷ halves_behind j 0 items)
        ≡ 15 ∷ cond b (halves_behind i (suc more) items) (more_leaves more ++ half_byte j ∷ halves_behind j 0 items)
    by true again = ap (λ k. halves_behind i k items) (let e : suc (more + 10) ≡ suc more + 10 = omega arith in e) ∙ again
    by false again = ap (λ v. v ++ half_byte j ∷ halves_behind j 0 items) (ten_leaves more)

-- where the run ends, its half bytes stand before those of the others
pub run_ends : (i : Item) (more : ℕ) (items : List Item) → BeginsNo i items → halves_behind i more items ≡ more_leaves more ++ halves_behind i 0 items
run_ends i more [] ends = sym (append-nil (more_leaves more))
run_ends i more (j ∷ items) ends =
    ap (λ b. cond b (halves_behind i (suc more) items) (more_leaves more ++ half_byte j ∷ halves_behind j 0 items)) ends
    ∙ ap (λ v. more_leaves more ++ v) (sym (item_behind i j items ends))

pub more_behind : (count : ℕ) (i : Item) (more : ℕ) (items : List Item) → are_equal_leaves i i ≡ true
    → halves_behind i more (replicate count i ++ items) ≡ halves_behind i (more + count) items
more_behind zero i more items is = ap (λ k. halves_behind i k items) (let e : more ≡ more + 0 = omega arith in e)
more_behind (suc count) i more items is =
    ap (λ b. cond b (halves_behind i (suc more) (replicate count i ++ items)) (more_leaves more ++ half_byte i ∷ halves_behind i 0 (replicate count i ++ items))) is
    ∙ (more_behind count i (suc more) items is ∙ ap (λ k. halves_behind i k items) (let e : suc more + count ≡ more + suc count = omega arith in e))
