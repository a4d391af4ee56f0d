-- Reading a packed tree is exact: its bytes are those of one tree, and so are those up to any byte, with leaves behind them.
use Rattle.std.proofs.Common.{◌≡◌, ℕ, zero, suc, ◌+◌, ◌*◌, ◌/◌, ◌%◌, ◌^◌, ◌<◌, ◌≤◌, Bool, true, false}
use Rattle.std.proofs.Common.{cond, eqb, nat_lt, List, [], ◌∷◌, ◌++◌, length, length-append, replicate, refl, sym, ap}
use Rattle.std.proofs.Common.{◌∙◌, subst, arith, Option, Some, None, Ok, Err, zero-le}
use Rattle.std.proofs.lemmas.List.{length-replicate}
use Rattle.std.proofs.lemmas.Bool.{eqb-true}
use Rattle.std.proofs.lemmas.Bool.Decides.{nat_tests}
use Rattle.std.proofs.Math.Nat.{mod-lt}
use Rattle.ci_log.specs.declared.log.Item.{Item}
use Rattle.ci_log.specs.declared.log.Item.TheVariants.{B, O, C, I, G, F}
use Rattle.ci_log.specs.declared.packed.Place.{Place}
use Rattle.ci_log.specs.declared.packed.Step.{Step}
use Rattle.ci_log.specs.declared.packed.Pair.{Pair}
use Rattle.ci_reading.specs.LineReading.{Stop, view, stop}
use Rattle.ci_reading.proofs.Languages.{Plainly}
use Rattle.ci_reading.proofs.Exact.{IsStop, IsExact, plain_stop, plain_exact}
use Rattle.ci_log.specs.Trees.{IsLeaf, IsTree, IsLog}
use Rattle.ci_log.specs.Packed.{are_equal_leaves, filled, packed}
use Rattle.ci_log.specs.private.Reading.{BehindTree, Read}
use Rattle.ci_log.specs.private.PackedReading.{opening, half_step, low_step, with_low, then_low, byte_step, listed, with_pair, packed_trees}
use Rattle.ci_log.proofs.Ends.{NotDue, most}
use Rattle.ci_log.proofs.DueTrees.{AreTrees, is_tree, are_trees, none_due, leaves_are}
use Rattle.ci_log.proofs.PackedHalves.{BeginsNo, from_start}
use Rattle.ci_log.proofs.PackedSteps.{IsPlace, Stands, halves_at, IsStep, step_is, HasStep, some_step}

-- ---- a byte

pub record IsPair (p : Place) (x : ℕ) (pair : Pair) : Type 0 where
  pub is_place : IsPlace pair.low.next
  pub stands : (items : List Item) → Stands pair.low.next items → Stands p (listed pair.high ++ (listed pair.low ++ items))
  pub bytes : (items : List Item) → Stands pair.low.next items
      → filled (halves_at p (listed pair.high ++ (listed pair.low ++ items))) ≡ x ∷ filled (halves_at pair.low.next items)
  pub few : length (listed pair.high) + length (listed pair.low) + pair.low.next.due ≤ p.due + 4

abbrev two : Step → Step → Pair
two high low = record { high = high; low = low }

-- a filling half
abbrev filling : Place → Step
filling p = record { item = p.last; count = 0; next = p }

module _ (p : Place) (x : ℕ) (small : x < 256) where
  whole : x / 16 * 16 + x % 16 ≡ x
  whole = omega arith

  two_halves : (high low : Step) → IsStep p (x / 16) high → IsStep high.next (x % 16) low → IsPair p x (two high low)
  two_halves high low one other = record {
    is_place = other.is_place;
    stands = λ items s. one.stands (listed low ++ items) (other.stands items s);
    bytes = λ items s.
        ap filled (one.halves (listed low ++ items) (other.stands items s) ∙ ap (λ hs. x / 16 ∷ hs) (other.halves items s))
        ∙ ap (λ k. k ∷ filled (halves_at low.next items)) whole;
    few = omega (arith, one.few, other.few);
  }

  one_half : (high : Step) → IsStep p (x / 16) high → high.next.due ≡ 0 → x % 16 ≡ 0 → IsPair p x (two high (filling high.next))
  one_half high one none filled_by = record {
    is_place = one.is_place;
    stands = one.stands;
    bytes = λ items s.
        let nothing : items ≡ [] = none_due high.next.due items none s.are in
        ap filled (one.halves items s ∙ ap (λ v. x / 16 ∷ halves_at high.next v) nothing)
        ∙ ((let e : x / 16 * 16 ≡ x = omega (arith, filled_by) in ap (λ k. k ∷ []) e)
        ∙ ap (λ v. x ∷ filled (halves_at high.next v)) (sym nothing));
    few = omega (arith, one.few);
  }

  pub pair_is : (pair : Pair) → IsPlace p → 0 < p.due → byte_step p x ≡ Some pair → IsPair p x pair
  pair_is pair is_place some read = by (half_step p (x / 16)) refl (sym (ap (λ b. cond b (then_low (x % 16) (half_step p (x / 16))) None) test) ∙ read)
    where
      test : nat_lt x 256 ≡ true
      test = grind (arith, nat_tests, small)

      same_pair : (q : Pair) → IsPair p x q → ◌≡◌ {A = Option Pair} (Some q) (Some pair) → IsPair p x pair
      same_pair q is e = let same : q ≡ pair = cc in subst (IsPair p x) same is

      filling_by : (high : Step) → IsStep p (x / 16) high → high.next.due ≡ 0 → (b : Bool) → eqb (x % 16) 0 ≡ b
          → with_low high (cond b (Some (filling high.next)) None) ≡ Some pair → IsPair p x pair
      filling_by high one none false is e = absurd (cc)
      filling_by high one none true is e = same_pair (two high (filling high.next)) (one_half high one none (eqb-true (x % 16) 0 is)) e

      low_by : (high : Step) → IsStep p (x / 16) high → 0 < high.next.due → (o : Option Step)
          → half_step high.next (x % 16) ≡ o → with_low high o ≡ Some pair → IsPair p x pair
      low_by high one more None is e = absurd (cc)
      low_by high one more (Some low) is e =
          same_pair (two high low) (two_halves high low one (step_is high.next (x % 16) low one.is_place more (mod-lt x (omega arith)) is)) e

      due_by : (high : Step) → IsStep p (x / 16) high → (b : Bool) → nat_lt 0 high.next.due ≡ b
          → with_low high (cond b (half_step high.next (x % 16)) (cond (eqb (x % 16) 0) (Some (filling high.next)) None)) ≡ Some pair → IsPair p x pair
      due_by high one true is e = low_by high one (let more : 0 < high.next.due = grind (arith, nat_tests, is) in more) (half_step high.next (x % 16)) refl e
      due_by high one false is e = filling_by high one (let none : high.next.due ≡ 0 = grind (arith, nat_tests, is) in none) (eqb (x % 16) 0) refl e

      by : (o : Option Step) → half_step p (x / 16) ≡ o → then_low (x % 16) o ≡ Some pair → IsPair p x pair
      by None is e = absurd (cc)
      by (Some high) is e =
          due_by high (step_is p (x / 16) high is_place some (omega (arith, small)) is) (nat_lt 0 high.next.due) refl e

pub byte_small : (p : Place) (x : ℕ) (pair : Pair) → byte_step p x ≡ Some pair → x < 256
byte_small p x pair e = by (nat_lt x 256) refl e
  where
    by : (b : Bool) → nat_lt x 256 ≡ b → cond b (then_low (x % 16) (half_step p (x / 16))) None ≡ Some pair → x < 256
    by true is e = let small : x < 256 = grind (arith, nat_tests, is) in small
    by false is e = absurd (cc)

-- ---- bytes

-- these are the bytes of these items behind the place, up to the end of the last tree
pub data AreBytes : Place → List Item → List ℕ → Type 0 where
  all_read : (p : Place) → p.due ≡ 0 → AreBytes p [] []
  byte_read : (p : Place) (x : ℕ) (pair : Pair) (items : List Item) (bytes : List ℕ) → 0 < p.due → byte_step p x ≡ Some pair
      → AreBytes pair.low.next items bytes → AreBytes p (listed pair.high ++ (listed pair.low ++ items)) (x ∷ bytes)

pub record ArePacked (p : Place) (items : List Item) (bytes : List ℕ) : Type 0 where
  pub stands : Stands p items
  pub is_text : bytes ≡ filled (halves_at p items)
  pub few : length items ≤ p.due + 4 * length bytes

pub are_packed : (p : Place) (items : List Item) (bytes : List ℕ) → IsPlace p → AreBytes p items bytes → ArePacked p items bytes
are_packed _ _ _ is_place (all_read p none) = record {
  stands = record { are = subst (λ k. AreTrees k []) (sym none) refl; ends = λ e. tt };
  is_text = refl;
  few = zero-le;
}
are_packed _ _ _ is_place (byte_read p x pair items bytes some read more) =
    let is = pair_is p x (byte_small p x pair read) pair is_place some read in
    let o = are_packed pair.low.next items bytes is.is_place more in
    record {
      stands = is.stands items o.stands;
      is_text = ap (λ v. x ∷ v) o.is_text ∙ sym (is.bytes items o.stands);
      few = omega (
        arith,
        o.few,
        is.few,
        length-append (listed pair.high) (listed pair.low ++ items),
        length-append (listed pair.low) items,
      );
    }

-- ---- the bytes of items

module _ (p : Place) (items : List Item) (is_place : IsPlace p) (some : 0 < p.due) (one : HasStep p items) where
  high_is : IsStep p one.half one.step
  high_is = step_is p one.half one.step is_place some one.small one.is

  text_is : halves_at p items ≡ one.half ∷ halves_at one.step.next one.rest
  text_is = ap (halves_at p) one.splits ∙ high_is.halves one.rest one.stands

  high_read : (low x : ℕ) → x ≡ one.half * 16 + low → low < 16 → byte_step p x ≡ with_low one.step (low_step one.step.next low)
  high_read low x is small =
      let few = one.small in
      let test : nat_lt x 256 ≡ true = grind (arith, nat_tests, few, small, is) in
      let high : x / 16 ≡ one.half = omega (arith, is, small) in
      let rest : x % 16 ≡ low = omega (arith, is, small) in
      ap (λ b. cond b (then_low (x % 16) (half_step p (x / 16))) None) test
      ∙ (ap (λ k. then_low (x % 16) (half_step p k)) high
      ∙ (ap (λ k. then_low k (half_step p one.half)) rest ∙ ap (then_low low) one.is))

  last_half : one.step.next.due ≡ 0 → AreBytes p items (filled (halves_at p items))
  last_half none =
      let nothing : one.rest ≡ [] = none_due one.step.next.due one.rest none one.stands.are in
      let test : nat_lt 0 one.step.next.due ≡ false = grind (arith, nat_tests, none) in
      let x = one.half * 16 in
      let read : byte_step p x ≡ Some (two one.step (filling one.step.next)) =
      high_read 0 x (omega arith) (omega arith) ∙ ap (λ b. with_low one.step (cond b (half_step one.step.next 0) (Some (filling one.step.next)))) test in
      let text : filled (halves_at p items) ≡ x ∷ [] = ap filled (text_is ∙ ap (λ v. one.half ∷ halves_at one.step.next v) nothing) in
      let all : items ≡ listed one.step ++ [] = one.splits ∙ ap (λ v. listed one.step ++ v) nothing in
      subst (λ v. AreBytes p items v) (sym text)
      (subst (λ v. AreBytes p v (x ∷ [])) (sym all)
      (byte_read p x (two one.step (filling one.step.next)) [] [] some read (all_read one.step.next none)))

  next_half : 0 < one.step.next.due → (other : HasStep one.step.next one.rest)
      → AreBytes other.step.next other.rest (filled (halves_at other.step.next other.rest)) → AreBytes p items (filled (halves_at p items))
  next_half more other others =
      let x = one.half * 16 + other.half in
      let test : nat_lt 0 one.step.next.due ≡ true = grind (arith, nat_tests, more) in
      let low_is = step_is one.step.next other.half other.step high_is.is_place more other.small other.is in
      let read : byte_step p x ≡ Some (two one.step other.step) =
      high_read other.half x (omega arith) other.small
      ∙ (ap (λ b. with_low one.step (cond b (half_step one.step.next other.half) (cond (eqb other.half 0) (Some (filling one.step.next)) None))) test
      ∙ ap (with_low one.step) other.is) in
      let text : filled (halves_at p items) ≡ x ∷ filled (halves_at other.step.next other.rest) =
      ap filled (text_is ∙ ap (λ hs. one.half ∷ hs) (ap (halves_at one.step.next) other.splits ∙ low_is.halves other.rest other.stands)) in
      let all : items ≡ listed one.step ++ (listed other.step ++ other.rest) = one.splits ∙ ap (λ v. listed one.step ++ v) other.splits in
      subst (λ v. AreBytes p items v) (sym text)
      (subst (λ v. AreBytes p v (x ∷ filled (halves_at other.step.next other.rest))) (sym all)
      (byte_read p x (two one.step other.step) other.rest (filled (halves_at other.step.next other.rest)) some read others))

-- the bytes of items, where those of fewer items are
bytes_by : (p : Place) (items : List Item) → IsPlace p → Stands p items
    → ((q : Place) (rest : List Item) → length rest < length items → IsPlace q → Stands q rest → AreBytes q rest (filled (halves_at q rest)))
    → AreBytes p items (filled (halves_at p items))
bytes_by p items is_place s fewer = by p.due refl
  where
    low : (one : HasStep p items) → 0 < p.due → (due : ℕ) → one.step.next.due ≡ due → AreBytes p items (filled (halves_at p items))
    low one some zero none = last_half p items is_place some one none
    low one some (suc due) is =
        let more : 0 < one.step.next.due = omega (arith, is) in
        let high = step_is p one.half one.step is_place some one.small one.is in
        let other = some_step one.step.next one.rest high.is_place more one.stands in
        let low_is = step_is one.step.next other.half other.step high.is_place more other.small other.is in
        next_half p items is_place some one more other
        (fewer other.step.next other.rest (omega (arith, one.shorter, other.shorter)) low_is.is_place other.stands)

    by : (due : ℕ) → p.due ≡ due → AreBytes p items (filled (halves_at p items))
    by zero none =
        let nothing : items ≡ [] = none_due p.due items none s.are in
        subst (λ v. AreBytes p v (filled (halves_at p v))) (sym nothing) (all_read p none)
    by (suc due) is = let some : 0 < p.due = omega (arith, is) in let one = some_step p items is_place some s in low one some one.step.next.due refl

pub bytes_of : (fuel : ℕ) (p : Place) (items : List Item) → length items ≤ fuel → IsPlace p → Stands p items → AreBytes p items (filled (halves_at p items))
bytes_of zero p items small is_place s = bytes_by p items is_place s (λ q rest less place t. absurd (omega (arith, small, less)))
bytes_of (suc fuel) p items small is_place s = bytes_by p items is_place s (λ q rest less place t. bytes_of fuel q rest (omega (arith, small, less)) place t)

-- ---- reading

packed_again : (p : Place) (items : List Item) (bytes rest : List ℕ) → AreBytes p items bytes → packed_trees (bytes ++ rest) p ≡ Ok (items, rest)
unfolding packed_trees
packed_again _ _ _ rest (all_read p none) = nothing rest
  where
    nothing : (rest : List ℕ) → packed_trees rest p ≡ Ok ([], rest)
    nothing [] = ap (λ b. cond b (Ok ([], [])) (Err (stop 0))) (ap (λ k. eqb k 0) none)
    nothing (x ∷ xs) = ap (λ b. cond b (Ok ([], x ∷ xs)) (with_pair (length (x ∷ xs)) (packed_trees xs) (byte_step p x))) (ap (λ k. eqb k 0) none)
packed_again _ _ _ rest (byte_read p x pair items bytes some read more) =
    let test : eqb p.due 0 ≡ false = grind (arith, nat_tests, some) in
    ap (λ b. cond b (Ok ([], x ∷ bytes ++ rest)) (with_pair (length (x ∷ bytes ++ rest)) (packed_trees (bytes ++ rest)) (byte_step p x))) test
    ∙ (ap (with_pair (length (x ∷ bytes ++ rest)) (packed_trees (bytes ++ rest))) read
    ∙ ap (view (λ others. listed pair.high ++ (listed pair.low ++ others))) (packed_again pair.low.next items bytes rest more))

-- what was read
record AreRead (p : Place) (xs : List ℕ) (items : List Item) (rest : List ℕ) : Type 0 where
  bytes : List ℕ
  splits : xs ≡ bytes ++ rest
  are : AreBytes p items bytes

packed_sound : (xs : List ℕ) (p : Place) (items : List Item) (rest : List ℕ) → packed_trees xs p ≡ Ok (items, rest) → AreRead p xs items rest
unfolding packed_trees
packed_sound [] p items rest e = by (eqb p.due 0) refl e
  where
    by : (b : Bool) → eqb p.due 0 ≡ b → ◌≡◌ {A = Read (List Item)} (cond b (Ok ([], [])) (Err (stop 0))) (Ok (items, rest)) → AreRead p [] items rest
    by false is e = absurd (cc)
    by true is e =
        let both : ◌≡◌ {A = List Item × List ℕ} ([], []) (items, rest) = cc in
        subst (λ (v : List Item × List ℕ). AreRead p [] v.0 v.1) both (record { bytes = []; splits = refl; are = all_read p (eqb-true p.due 0 is) })
packed_sound (x ∷ xs) p items rest e = by (λ q. packed_sound xs q) (eqb p.due 0) refl (byte_step p x) refl e
  where
    read_on : (pair : Pair) → 0 < p.due → byte_step p x ≡ Some pair → (r : Read (List Item)) → packed_trees xs pair.low.next ≡ r
        → ((others : List Item) (after : List ℕ) → packed_trees xs pair.low.next ≡ Ok (others, after) → AreRead pair.low.next xs others after)
        → view (λ others. listed pair.high ++ (listed pair.low ++ others)) r ≡ Ok (items, rest) → AreRead p (x ∷ xs) items rest
    read_on pair some is (Err s) same read e = absurd (cc)
    read_on pair some is (Ok (others, after)) same read e =
        let o = read others after same in
        let both : ◌≡◌ {A = List Item × List ℕ} (listed pair.high ++ (listed pair.low ++ others), after) (items, rest) = cc in
        subst (λ (v : List Item × List ℕ). AreRead p (x ∷ xs) v.0 v.1) both
        (record { bytes = x ∷ o.bytes; splits = ap (λ v. x ∷ v) o.splits; are = byte_read p x pair others o.bytes some is o.are })

    by : ((q : Place) (others : List Item) (after : List ℕ) → packed_trees xs q ≡ Ok (others, after) → AreRead q xs others after)
        → (b : Bool) → eqb p.due 0 ≡ b → (o : Option Pair) → byte_step p x ≡ o
        → cond b (Ok ([], x ∷ xs)) (with_pair (length (x ∷ xs)) (packed_trees xs) o) ≡ Ok (items, rest) → AreRead p (x ∷ xs) items rest
    by read true none o is e =
        let both : ◌≡◌ {A = List Item × List ℕ} ([], x ∷ xs) (items, rest) = cc in
        subst (λ (v : List Item × List ℕ). AreRead p (x ∷ xs) v.0 v.1) both (record { bytes = []; splits = refl; are = all_read p (eqb-true p.due 0 none) })
    by read false some None is e = absurd (cc)
    by read false some (Some pair) is e =
        let more : 0 < p.due = grind (arith, nat_tests, some) in
        read_on pair more is (packed_trees xs pair.low.next) refl (read pair.low.next) e

-- where reading stops: with leaves for the trees that are due they are complete
record AreOpen (p : Place) (xs : List ℕ) (s : Stop BehindTree) : Type 0 where
  front : List ℕ
  rest : List ℕ
  more : List ℕ
  items : List Item
  splits : xs ≡ front ++ rest
  is_stop : s ≡ stop (length rest)
  goes_on : AreBytes p items (front ++ more)
  few : length items ≤ p.due + 4 * length front
  here : (b : ℕ) (tail other : List ℕ) → rest ≡ b ∷ tail → packed_trees (front ++ b ∷ other) p ≡ Err (stop (length (b ∷ other)))

-- a leaf that makes no run longer
abbrev other_leaf : Item → Item
other_leaf B = F
other_leaf O = F
other_leaf C = F
other_leaf I = F
other_leaf G = F
other_leaf F = O

other_is_leaf : (i : Item) → IsLeaf (other_leaf i)
other_is_leaf B = tt
other_is_leaf O = tt
other_is_leaf C = tt
other_is_leaf I = tt
other_is_leaf G = tt
other_is_leaf F = tt

other_apart : (i : Item) → are_equal_leaves i (other_leaf i) ≡ false
other_apart B = refl
other_apart O = refl
other_apart C = refl
other_apart I = refl
other_apart G = refl
other_apart F = refl

others_apart : (i : Item) (count : ℕ) → BeginsNo i (replicate count (other_leaf i))
others_apart i zero = tt
others_apart i (suc count) = other_apart i

-- leaves for all trees that are due
due_leaves : (p : Place) → IsPlace p → AreBytes p (replicate p.due (other_leaf p.last)) (filled (halves_at p (replicate p.due (other_leaf p.last))))
due_leaves p is_place =
    bytes_of (length (replicate p.due (other_leaf p.last))) p (replicate p.due (other_leaf p.last)) (omega arith) is_place
    (record { are = leaves_are (other_leaf p.last) (other_is_leaf p.last) p.due; ends = λ e. others_apart p.last p.due })

stopped_here : (p : Place) (xs : List ℕ) (s : Stop BehindTree) → IsPlace p → s ≡ stop (length xs)
    → ((b : ℕ) (tail other : List ℕ) → xs ≡ b ∷ tail → packed_trees (b ∷ other) p ≡ Err (stop (length (b ∷ other)))) → AreOpen p xs s
stopped_here p xs s is_place is_stop here = record {
  front = [];
  rest = xs;
  more = filled (halves_at p (replicate p.due (other_leaf p.last)));
  items = replicate p.due (other_leaf p.last);
  splits = refl;
  is_stop = is_stop;
  goes_on = due_leaves p is_place;
  few = omega (arith, length-replicate p.due (other_leaf p.last));
  here = here;
}

packed_stop : (xs : List ℕ) (p : Place) (s : Stop BehindTree) → IsPlace p → packed_trees xs p ≡ Err s → AreOpen p xs s
unfolding packed_trees
packed_stop [] p s is_place e = by (eqb p.due 0) e
  where
    by : (b : Bool) → ◌≡◌ {A = Read (List Item)} (cond b (Ok ([], [])) (Err (stop 0))) (Err s) → AreOpen p [] s
    by true e = absurd (cc)
    by false e = let same : stop 0 ≡ s = cc in stopped_here p [] s is_place (sym same) (λ b tail other at. absurd (cc))
packed_stop (x ∷ xs) p s is_place e = by (λ q. packed_stop xs q) (eqb p.due 0) refl (byte_step p x) refl e
  where
    byte_first : (b : ℕ) (other : List ℕ) → eqb p.due 0 ≡ false → packed_trees (b ∷ other) p ≡ with_pair (length (b ∷ other)) (packed_trees other) (byte_step p b)
    byte_first b other some = ap (λ c. cond c (Ok ([], b ∷ other)) (with_pair (length (b ∷ other)) (packed_trees other) (byte_step p b))) some

    read_on : (pair : Pair) → eqb p.due 0 ≡ false → byte_step p x ≡ Some pair → (r : Read (List Item)) → packed_trees xs pair.low.next ≡ r
        → ((t : Stop BehindTree) → IsPlace pair.low.next → packed_trees xs pair.low.next ≡ Err t → AreOpen pair.low.next xs t)
        → view (λ others. listed pair.high ++ (listed pair.low ++ others)) r ≡ Err s → AreOpen p (x ∷ xs) s
    read_on pair some is (Ok y) same read e = absurd (cc)
    read_on pair some is (Err t) same read e =
        let due : 0 < p.due = grind (arith, nat_tests, some) in
        let one = pair_is p x (byte_small p x pair is) pair is_place due is in
        let o = read t one.is_place same in
        let stops : t ≡ s = cc in
        record {
          front = x ∷ o.front;
          rest = o.rest;
          more = o.more;
          items = listed pair.high ++ (listed pair.low ++ o.items);
          splits = ap (λ v. x ∷ v) o.splits;
          is_stop = sym stops ∙ o.is_stop;
          goes_on = byte_read p x pair o.items (o.front ++ o.more) due is o.goes_on;
          few = omega (
            arith,
            o.few,
            one.few,
            length-append (listed pair.high) (listed pair.low ++ o.items),
            length-append (listed pair.low) o.items,
          );
          here = λ b tail other at.
              byte_first x (o.front ++ b ∷ other) some
              ∙ (ap (with_pair (length (x ∷ o.front ++ b ∷ other)) (packed_trees (o.front ++ b ∷ other))) is
              ∙ ap (view (λ others. listed pair.high ++ (listed pair.low ++ others))) (o.here b tail other at));
        }

    by : ((q : Place) (t : Stop BehindTree) → IsPlace q → packed_trees xs q ≡ Err t → AreOpen q xs t) → (b : Bool) → eqb p.due 0 ≡ b
        → (o : Option Pair) → byte_step p x ≡ o
        → cond b (Ok ([], x ∷ xs)) (with_pair (length (x ∷ xs)) (packed_trees xs) o) ≡ Err s → AreOpen p (x ∷ xs) s
    by read true none o is e = absurd (cc)
    by read false some (Some pair) is e = read_on pair some is (packed_trees xs pair.low.next) refl (read pair.low.next) e
    by read false some None is e =
        let same : stop (length (x ∷ xs)) ≡ s = cc in
        stopped_here p (x ∷ xs) s is_place (sym same)
        (λ b tail other at.
        let first : x ≡ b = cc in
        byte_first b other some ∙ ap (with_pair (length (b ∷ other)) (packed_trees other)) (ap (byte_step p) (sym first) ∙ is))

-- ---- one tree

opening_is : IsPlace opening
opening_is e = absurd (cc)

pub packed_tree : (bytes : List ℕ) (items : List Item) → AreBytes opening items bytes → length bytes ≤ most → IsLog items × (bytes ≡ packed items)
packed_tree bytes items are few =
    let o = are_packed opening items bytes opening_is are in
    (record { is_tree = is_tree items o.stands.are; few = omega (arith, o.few, few) }, o.is_text ∙ ap filled (from_start items))

tree_bytes : (items : List Item) → IsTree items → AreBytes opening items (packed items)
tree_bytes items is =
    subst (λ v. AreBytes opening items v) (ap filled (from_start items))
    (bytes_of (length items) opening items (omega arith) opening_is (record { are = are_trees items is; ends = λ e. begins items }))
  where
    begins : (items : List Item) → BeginsNo B items
    begins [] = tt
    begins (i ∷ items) = refl

abbrev pub ArePackedBytes : List ℕ → List Item → Type 0
ArePackedBytes ys items = IsLog items × (ys ≡ packed items)

stops : (n : ℕ) (xs : List ℕ) (s : Stop BehindTree) → length xs ≤ most → AreOpen opening xs s
    → IsStop n (λ ys. packed_trees ys opening) (Plainly ArePackedBytes) xs s
stops n xs s short o =
    let p = are_packed opening o.items (o.front ++ o.more) opening_is o.goes_on in
    let few : length o.items < 2 ^ 32 = omega (arith, short, o.few, ap length o.splits, length-append o.front o.rest) in
    plain_stop o.front o.rest o.more o.items xs s o.splits o.is_stop
    (record { is_tree = is_tree o.items p.stands.are; few = few }, p.is_text ∙ ap filled (from_start o.items)) o.here

pub packed_exact : (n : ℕ) → IsExact NotDue most n (λ ys. packed_trees ys opening) (Plainly ArePackedBytes)
packed_exact n =
    plain_exact
    (λ ys items rest l.
    ap (λ v. packed_trees (v ++ rest) opening) l.1 ∙ packed_again opening items (packed items) rest (tree_bytes items l.0.is_tree))
    (λ xs items rest short read.
    let o = packed_sound xs opening items rest read in
    (o.bytes, o.splits, packed_tree o.bytes items o.are (omega (arith, short, ap length o.splits, length-append o.bytes rest))))
    (λ xs s short read. stops n xs s short (packed_stop xs opening s opening_is read))

-- two trees with the same bytes are one
pub one_tree : (items others : List Item) → IsTree items → IsTree others → packed items ≡ packed others → items ≡ others
one_tree items others is are same =
    let read : (items : List Item) → IsTree items → packed_trees (packed items ++ []) opening ≡ Ok (items, []) =
    λ items is. packed_again opening items (packed items) [] (tree_bytes items is) in
    let both : ◌≡◌ {A = Read (List Item)} (Ok (items, [])) (Ok (others, [])) =
    sym (read items is) ∙ (ap (λ v. packed_trees (v ++ []) opening) same ∙ read others are) in
    let pair : ◌≡◌ {A = List Item × List ℕ} (items, []) (others, []) = cc in
    ap (λ (p : List Item × List ℕ). p.0) pair

pub few_items : (items : List Item) → IsTree items → length items ≤ 1 + 4 * length (packed items)
few_items items is = (are_packed opening items (packed items) opening_is (tree_bytes items is)).few
