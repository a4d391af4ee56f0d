-- What a half byte stands for, and that there is one for the items that are due.
use Rattle.std.proofs.Common.{◌≡◌, ℕ, zero, suc, ◌+◌, ◌-◌, ◌<◌, ◌≤◌, ◌⊎◌, inl, inr, Bool, true, false, cond, eqb, nat_lt}
use Rattle.std.proofs.Common.{List, [], ◌∷◌, ◌++◌, length, length-append, replicate, refl, sym, ap, ◌∙◌, subst, arith}
use Rattle.std.proofs.Common.{Some, None, true≢false}
use Rattle.std.specs.Prelude.{◌||◌, not}
use Rattle.std.proofs.lemmas.List.{length-replicate}
use Rattle.std.proofs.lemmas.Bool.{eqb-true, cases_lt}
use Rattle.std.proofs.lemmas.Bool.Decides.{nat_tests}
use Rattle.ci_log.specs.declared.log.Item.{Item}
use Rattle.ci_log.specs.declared.log.Item.TheVariants.{B, O, C, I, G, F}
use Rattle.ci_log.specs.declared.packed.Place.{Place}
use Rattle.ci_log.specs.declared.packed.Step.{Step}
use Rattle.ci_log.specs.Trees.{IsLeaf}
use Rattle.ci_log.specs.Packed.{half_byte, are_equal_leaves, more_leaves}
use Rattle.ci_log.specs.private.Reading.{due_after}
use Rattle.ci_log.specs.private.PackedReading.{item_at, item_step, run_step, half_step, listed, halves_behind}
use Rattle.ci_log.proofs.DueTrees.{AreTrees, item_first, behind_item, some_item, leaves_first, behind_leaves, due_few}
use Rattle.ci_log.proofs.PackedHalves.{item_back, same_leaf, equal_to_itself, BeginsNo, behind_branch, item_behind, few_leaves, ten_behind, run_ends, more_behind}

-- ---- places

-- only of a leaf there may be more
abbrev pub IsPlace : Place → Type 0
IsPlace p = p.in_run ≡ true → nat_lt 0 (half_byte p.last) ≡ true

-- these items may stand behind the place
pub record Stands (p : Place) (items : List Item) : Type 0 where
  pub are : AreTrees p.due items
  pub ends : p.in_run ≡ false → BeginsNo p.last items

-- and have these half bytes there
abbrev pub halves_at : Place → List Item → List ℕ
halves_at p items = halves_behind p.last 0 items

pub record IsStep (p : Place) (half : ℕ) (s : Step) : Type 0 where
  pub is_place : IsPlace s.next
  pub stands : (items : List Item) → Stands s.next items → Stands p (listed s ++ items)
  pub halves : (items : List Item) → Stands s.next items → halves_at p (listed s ++ items) ≡ half ∷ halves_at s.next items
  pub few : length (listed s) + s.next.due ≤ p.due + 2

is_leaf : (i : Item) → nat_lt 0 (half_byte i) ≡ true → IsLeaf i
is_leaf B e = absurd (true≢false (sym e))
is_leaf O e = tt
is_leaf C e = tt
is_leaf I e = tt
is_leaf G e = tt
is_leaf F e = tt

-- ---- steps of items

half_again : (half : ℕ) → nat_lt half 6 ≡ true → half_byte (item_at half) ≡ half
half_again half less = by (eqb half 0) refl (eqb half 1) refl (eqb half 2) refl (eqb half 3) refl (eqb half 4) refl
  where
    is : (code : ℕ) → eqb half code ≡ true → code ≡ half
    is code e = sym (eqb-true half code e)

    by : (b : Bool) → eqb half 0 ≡ b → (o : Bool) → eqb half 1 ≡ o → (c : Bool) → eqb half 2 ≡ c → (k : Bool)
        → eqb half 3 ≡ k → (g : Bool) → eqb half 4 ≡ g
        → half_byte (cond b B (cond o O (cond c C (cond k I (cond g G F))))) ≡ half
    by true e o _ c _ k _ g _ = is 0 e
    by false _ true e c _ k _ g _ = is 1 e
    by false _ false _ true e k _ g _ = is 2 e
    by false _ false _ false _ true e g _ = is 3 e
    by false _ false _ false _ false _ true e = is 4 e
    by false d false e false f false g false h = let last : 5 ≡ half = grind (arith, nat_tests, d, e, f, g, h, less) in last

abbrev of_item : Place → Item → Step
of_item p i = record { item = i; count = 1; next = record { due = due_after i (p.due - 1); last = i; in_run = nat_lt 0 (half_byte i) } }

item_is : (p : Place) (i : Item) → 0 < p.due → are_equal_leaves p.last i ≡ false → IsStep p (half_byte i) (of_item p i)
item_is p i some apart = record {
  is_place = λ e. e;
  stands = λ items s. record { are = item_first i p.due items some s.are; ends = λ e. apart };
  halves = λ items s. item_behind p.last i items apart;
  few = omega (arith, due_few i (p.due - 1), some);
}

-- ---- steps of runs

abbrev of_run : Place → ℕ → Step
of_run p more = record { item = p.last; count = more; next = record { due = p.due - more; last = p.last; in_run = eqb more 10 } }

module _ (p : Place) (more : ℕ) (is_place : IsPlace p) (in_run : p.in_run ≡ true) (due : more ≤ p.due) (some : 0 < more) (few : more ≤ 10) where
  of_a_leaf : nat_lt 0 (half_byte p.last) ≡ true
  of_a_leaf = is_place in_run

  to_run : (items : List Item) → halves_at p (replicate more p.last ++ items) ≡ halves_behind p.last more items
  to_run items = more_behind more p.last 0 items (equal_to_itself p.last of_a_leaf)
      ∙ ap (λ k. halves_behind p.last k items) (let e : 0 + more ≡ more = omega arith in e)

  run_halves_are : (items : List Item) → (eqb more 10 ≡ false → BeginsNo p.last items) → halves_at p (replicate more p.last ++ items) ≡ (5 + more) ∷ halves_behind p.last 0 items
  run_halves_are items ends = by (cases_lt more 10)
    where
      by : (more < 10) ⊎ (10 ≤ more) → halves_at p (replicate more p.last ++ items) ≡ (5 + more) ∷ halves_behind p.last 0 items
      by (inr full) =
          let ten : more ≡ 10 = omega (arith, full, few) in
          to_run items ∙ (ap (λ k. halves_behind p.last k items) ten ∙ (ten_behind items p.last 0 ∙ ap (λ k. (5 + k) ∷ halves_behind p.last 0 items) (sym ten)))
      by (inl less) =
          let test : eqb more 10 ≡ false = grind (arith, nat_tests, less) in
          let one : more ≡ suc (more - 1) = omega (arith, some) in
          let leaves : more_leaves more ≡ (5 + more) ∷ [] =
          ap more_leaves one ∙ (few_leaves (more - 1) (omega (arith, less, some)) ∙ ap (λ k. (5 + k) ∷ []) (sym one)) in
          to_run items ∙ (run_ends p.last more items (ends test) ∙ ap (λ v. v ++ halves_behind p.last 0 items) leaves)

  run_is : IsStep p (5 + more) (of_run p more)
  run_is = record {
    is_place = λ e. of_a_leaf;
    stands = λ items s. record {
      are = leaves_first more p.due p.last items (is_leaf p.last of_a_leaf) due s.are;
      ends = λ e. absurd (true≢false (sym in_run ∙ e));
    };
    halves = λ items s. run_halves_are items s.ends;
    few = omega (arith, length-replicate more p.last, due);
  }

-- ---- any half byte

pub step_is : (p : Place) (half : ℕ) (s : Step) → IsPlace p → 0 < p.due → half < 16 → half_step p half ≡ Some s → IsStep p half s
step_is p half s is_place some small read = by (nat_lt half 6) refl read
  where
    of_some : (step : Step) → IsStep p half step → (b : Bool) → cond b None (Some step) ≡ Some s → IsStep p half s
    of_some step is true e = absurd (cc)
    of_some step is false e = let same : step ≡ s = cc in subst (IsStep p half) same is

    an_item : nat_lt half 6 ≡ true → (b : Bool) → are_equal_leaves p.last (item_at half) ≡ b → cond b None (Some (of_item p (item_at half))) ≡ Some s → IsStep p half s
    an_item less true is e = absurd (cc)
    an_item less false is e =
        of_some (of_item p (item_at half)) (subst (λ h. IsStep p h (of_item p (item_at half))) (half_again half less) (item_is p (item_at half) some is)) false e

    a_run : nat_lt half 6 ≡ false → (r : Bool) → p.in_run ≡ r → (d : Bool) → nat_lt p.due (half - 5) ≡ d
        → cond (not r || d) None (Some (of_run p (half - 5))) ≡ Some s → IsStep p half s
    a_run great false is d less e = absurd (cc)
    a_run great true is true less e = absurd (cc)
    a_run great true is false less e =
        let past : 6 ≤ half = grind (arith, nat_tests, great) in
        let due : half - 5 ≤ p.due = grind (arith, nat_tests, less) in
        let whole : 5 + (half - 5) ≡ half = omega (arith, past) in
        of_some (of_run p (half - 5))
        (subst (λ h. IsStep p h (of_run p (half - 5))) whole (run_is p (half - 5) is_place is due (omega (arith, past)) (omega (arith, small, past)))) false e

    by : (b : Bool) → nat_lt half 6 ≡ b → cond b (item_step p (item_at half)) (run_step p (half - 5)) ≡ Some s → IsStep p half s
    by true less e = an_item less (are_equal_leaves p.last (item_at half)) refl e
    by false great e = a_run great p.in_run refl (nat_lt p.due (half - 5)) refl e

-- ---- the half byte of what stands next

pub record HasStep (p : Place) (items : List Item) : Type 0 where
  pub half : ℕ
  pub small : half < 16
  pub step : Step
  pub is : half_step p half ≡ Some step
  pub rest : List Item
  pub splits : items ≡ listed step ++ rest
  pub stands : Stands step.next rest
  pub shorter : length rest < length items

half_less : (i : Item) → half_byte i < 6
half_less B = omega arith
half_less O = omega arith
half_less C = omega arith
half_less I = omega arith
half_less G = omega arith
half_less F = omega arith

item_next : (p : Place) (i : Item) (items : List Item) → 0 < p.due → are_equal_leaves p.last i ≡ false → AreTrees p.due (i ∷ items) → HasStep p (i ∷ items)
item_next p i items some apart are =
    let less = half_less i in
    let test : nat_lt (half_byte i) 6 ≡ true = grind (arith, nat_tests, less) in
    record {
      half = half_byte i;
      small = omega (arith, less);
      step = of_item p i;
      is = ap (λ b. cond b (item_step p (item_at (half_byte i))) (run_step p (half_byte i - 5))) test
          ∙ (ap (item_step p) (item_back i) ∙ ap (λ b. cond b None (Some (of_item p i))) apart);
      rest = items;
      splits = refl;
      stands = record { are = behind_item i p.due items are; ends = λ e. behind_branch i e items };
      shorter = omega arith;
    }

run_next : (p : Place) (more : ℕ) (items rest : List Item) → p.in_run ≡ true → nat_lt 0 (half_byte p.last) ≡ true → 0 < more
    → more ≤ 10 → items ≡ replicate more p.last ++ rest → (eqb more 10 ≡ false → BeginsNo p.last rest) → AreTrees p.due items → HasStep p items
run_next p more items rest in_run leaf some few splits ends are =
    let o = behind_leaves more p.due p.last rest (is_leaf p.last leaf) (subst (AreTrees p.due) splits are) in
    let enough = o.0 in
    let great : nat_lt (5 + more) 6 ≡ false = grind (arith, nat_tests, some) in
    let due : nat_lt p.due more ≡ false = grind (arith, nat_tests, enough) in
    let back : 5 + more - 5 ≡ more = omega arith in
    record {
      half = 5 + more;
      small = omega (arith, few);
      step = of_run p more;
      is = ap (λ b. cond b (item_step p (item_at (5 + more))) (run_step p (5 + more - 5))) great
          ∙ (ap (run_step p) back
          ∙ (ap (λ b. cond (not b || nat_lt p.due more) None (Some (of_run p more))) in_run ∙ ap (λ b. cond b None (Some (of_run p more))) due));
      rest = rest;
      splits = splits;
      stands = record { are = o.1; ends = ends };
      shorter = omega (arith, some, ap length splits, length-append (replicate more p.last) rest, length-replicate more p.last);
    }

-- how often the leaf stands first
record Leading (i : Item) (items : List Item) : Type 0 where
  count : ℕ
  rest : List Item
  splits : items ≡ replicate count i ++ rest
  ends : BeginsNo i rest

leading : (i : Item) (items : List Item) → Leading i items
leading i [] = record { count = 0; rest = []; splits = refl; ends = tt }
leading i (j ∷ items) = by (are_equal_leaves i j) refl (leading i items)
  where
    by : (b : Bool) → are_equal_leaves i j ≡ b → Leading i items → Leading i (j ∷ items)
    by false is o = record { count = 0; rest = j ∷ items; splits = refl; ends = is }
    by true is o = record {
      count = suc o.count;
      rest = o.rest;
      splits = λ k. sym (same_leaf i j is) k ∷ o.splits k;
      ends = o.ends;
    }

leaves_apart : (more count : ℕ) (i : Item) (rest : List Item) → replicate (more + count) i ++ rest ≡ replicate more i ++ (replicate count i ++ rest)
leaves_apart zero count i rest = ap (λ k. replicate k i ++ rest) (let e : zero + count ≡ count = omega arith in e)
leaves_apart (suc more) count i rest =
    ap (λ k. replicate k i ++ rest) (let e : suc more + count ≡ suc (more + count) = omega arith in e) ∙ ap (λ v. i ∷ v) (leaves_apart more count i rest)

leading_next : (p : Place) (items : List Item) → p.in_run ≡ true → nat_lt 0 (half_byte p.last) ≡ true → AreTrees p.due items
    → (o : Leading p.last items) → 0 < o.count → HasStep p items
leading_next p items in_run leaf are o some = by (cases_lt o.count 10)
  where
    by : (o.count < 10) ⊎ (10 ≤ o.count) → HasStep p items
    by (inl less) = run_next p o.count items o.rest in_run leaf some (omega (arith, less)) o.splits (λ e. o.ends) are
    by (inr full) =
        let parts : o.count ≡ 10 + (o.count - 10) = omega (arith, full) in
        run_next p 10 items (replicate (o.count - 10) p.last ++ o.rest) in_run leaf (omega arith) (omega arith)
        (o.splits ∙ (ap (λ k. replicate k p.last ++ o.rest) parts ∙ leaves_apart 10 (o.count - 10) p.last o.rest))
        (λ e. absurd (true≢false e)) are

pub some_step : (p : Place) (items : List Item) → IsPlace p → 0 < p.due → Stands p items → HasStep p items
some_step p [] is_place some s = absurd (some_item p.due some s.are)
some_step p (i ∷ items) is_place some s = by (are_equal_leaves p.last i) refl p.in_run refl (leading p.last (i ∷ items))
  where
    by : (b : Bool) → are_equal_leaves p.last i ≡ b → (r : Bool) → p.in_run ≡ r → Leading p.last (i ∷ items) → HasStep p (i ∷ items)
    by false apart r is o = item_next p i items some apart s.are
    by true same false is o = absurd (true≢false (sym same ∙ s.ends is))
    by true same true is o = leading_next p (i ∷ items) is (is_place is) s.are o (counted o.count refl)
      where
        counted : (count : ℕ) → o.count ≡ count → 0 < o.count
        counted (suc count) e = omega (arith, e)
        counted zero e = absurd (none o.rest (o.splits ∙ ap (λ k. replicate k p.last ++ o.rest) e) o.ends)
          where
            none : (rest : List Item) → i ∷ items ≡ rest → BeginsNo p.last rest → ⊥
            none rest e ends = let apart : are_equal_leaves p.last i ≡ false = subst (BeginsNo p.last) (sym e) ends in true≢false (sym same ∙ apart)
