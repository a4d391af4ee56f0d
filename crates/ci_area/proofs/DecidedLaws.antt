-- Decisions, one more.
use Rattle.std.proofs.Common.{◌≡◌, ◌≢◌, ℕ, ◌+◌, ◌<◌, ◌≤◌, Bool, true, false, ◌&&◌, ◌||◌, nat_eq, List, ◌∷◌, length, IsTrue, [], refl, sym, ap, ◌∙◌, arith, true≢false, inl, inr, eqb-true, eq-eqb}
use Rattle.std.proofs.lemmas.Bool.{and_from, or_left, false_from_ne_true}
use Rattle.std.specs.FinSet as set
use Rattle.std.specs.Ordering.{nat_cmp}
use Rattle.ci_word.specs.Numbers.{sum_below}
use Rattle.ci_word.proofs.NumberLaws.{contains-insert_nat, sum_below-none}
use Rattle.ci_cut.proofs.OneMore.{sum_one_more}
use Rattle.ci_cut.specs.Best.{ComesBeforeFrom}
use Rattle.ci_area.specs.declared.decided.Decided.{Decided}
use Rattle.ci_area.specs.declared.piece.Piece.{Piece}
use Rattle.ci_area.specs.AreaPrefixes.{Prefix, undecided, taken, IsBefore}
use Rattle.ci_area.specs.Pieces.{area_at, gain_at}
use Rattle.ci_area.specs.Representation.{Represents}
use Rattle.ci_area.proofs.AreaLaws.{taken-more, taken-none, taken_cases, taken_from}

in_or : (b c : Bool) → (b || c) ≡ ((b && true) || c)
in_or true c = refl
in_or false c = refl

out_or : (b c : Bool) → c ≡ ((b && false) || c)
out_or true c = refl
out_or false c = refl

pub represents_none : (pieces : List Piece) (none : Decided) → none.taken ≡ set.empty → none.left ≡ length pieces
    → none.so_far.area ≡ 0 → none.so_far.gain ≡ 0 → Represents pieces [] none
represents_none pieces none empty all no_area no_gain = record {
  within = omega arith;
  is_left = omega (arith, all);
  is_taken = λ k. ap (λ s. set.contains s k) empty ∙ set.contains-empty nat_cmp k ∙ sym (taken-none pieces k);
  area_is = no_area ∙ sym (sum_below-none (length pieces) (taken pieces []) (area_at pieces) (λ k _. taken-none pieces k));
  gain_is = no_gain ∙ sym (sum_below-none (length pieces) (taken pieces []) (gain_at pieces) (λ k _. taken-none pieces k));
}

-- a decision more
module _ (pieces : List Piece) (prefix : Prefix) (some : length prefix < length pieces) where
  abbrev newest : ℕ
  newest = undecided pieces (true ∷ prefix)

  newest_in : taken pieces (true ∷ prefix) newest ≡ true
  newest_in = taken-more pieces true prefix newest
      ∙ or_left (nat_eq newest newest && true) (taken pieces prefix newest) (and_from (nat_eq newest newest) true (eq-eqb newest newest refl) refl)

  pub newest_out : taken pieces prefix newest ≡ false
  newest_out = false_from_ne_true _ (λ in_. omega (arith, some, taken_from pieces prefix newest in_))

  others : (k : ℕ) → k ≢ newest → taken pieces (true ∷ prefix) k ≡ taken pieces prefix k
  others k other = taken-more pieces true prefix k
      ∙ ap (λ b. (b && true) || taken pieces prefix k) (false_from_ne_true _ (λ e. other (eqb-true k newest e)))

  -- the sum over what is taken in rises where one is taken in, and stays where one is left out
  pub sum_in : (f : ℕ → ℕ) → sum_below (length pieces) (taken pieces (true ∷ prefix)) f
      ≡ sum_below (length pieces) (taken pieces prefix) f + f newest
  sum_in f = sum_one_more (taken pieces prefix) (taken pieces (true ∷ prefix)) newest newest_out newest_in others (length pieces) f
      (omega (arith, some))

  taken_out : taken pieces (false ∷ prefix) ≡ taken pieces prefix
  taken_out = λ i k. sym (out_or (nat_eq k (undecided pieces (false ∷ prefix))) (taken pieces prefix k) ∙ sym (taken-more pieces false prefix k)) i

  pub sum_out : (f : ℕ → ℕ) → sum_below (length pieces) (taken pieces (false ∷ prefix)) f ≡ sum_below (length pieces) (taken pieces prefix) f
  sum_out f = ap (λ (p : ℕ → Bool). sum_below (length pieces) p f) taken_out

module _ (pieces : List Piece) (prefix : Prefix) (before : Decided) (is : Represents pieces prefix before) (after : Decided)
    (one_less : after.left + 1 ≡ before.left) where
  here : after.left ≡ undecided pieces (true ∷ prefix)
  here = omega (arith, one_less, is.is_left)

  some : length prefix < length pieces
  some = omega (arith, one_less, is.is_left)

  pub represents_in : after.taken ≡ set.insert before.taken after.left
      → after.so_far.area ≡ before.so_far.area + area_at pieces after.left
      → after.so_far.gain ≡ before.so_far.gain + gain_at pieces after.left → Represents pieces (true ∷ prefix) after
  represents_in more more_area more_gain = record {
    within = omega (arith, one_less, is.is_left);
    is_left = here;
    is_taken = λ k. ap (λ s. set.contains s k) more ∙ contains-insert_nat before.taken after.left k
        ∙ ap (λ (n : ℕ). nat_eq k n || set.contains before.taken k) here
        ∙ ap (λ b. nat_eq k (undecided pieces (true ∷ prefix)) || b) (is.is_taken k)
        ∙ in_or (nat_eq k (undecided pieces (true ∷ prefix))) (taken pieces prefix k)
        ∙ sym (taken-more pieces true prefix k);
    area_is = omega (arith, more_area, is.area_is, sum_in pieces prefix some (area_at pieces), ap (area_at pieces) here);
    gain_is = omega (arith, more_gain, is.gain_is, sum_in pieces prefix some (gain_at pieces), ap (gain_at pieces) here);
  }

  pub represents_out : after.taken ≡ before.taken → after.so_far.area ≡ before.so_far.area
      → after.so_far.gain ≡ before.so_far.gain → Represents pieces (false ∷ prefix) after
  represents_out same same_area same_gain = record {
    within = omega (arith, one_less, is.is_left);
    is_left = here;
    is_taken = λ k. ap (λ s. set.contains s k) same ∙ is.is_taken k
        ∙ out_or (nat_eq k (undecided pieces (false ∷ prefix))) (taken pieces prefix k)
        ∙ sym (taken-more pieces false prefix k);
    area_is = same_area ∙ is.area_is ∙ sym (sum_out pieces prefix some (area_at pieces));
    gain_is = same_gain ∙ is.gain_is ∙ sym (sum_out pieces prefix some (gain_at pieces));
  }

-- what is taken in are pieces
pub taken_below : (pieces : List Piece) (prefix : Prefix) (k : ℕ) → length prefix ≤ length pieces → IsTrue (taken pieces prefix k) → k < length pieces
taken_below pieces [] k within in_ = absurd (true≢false (sym in_ ∙ taken-none pieces k))
taken_below pieces (choice ∷ prefix) k within in_ = elim (taken_cases pieces choice prefix k in_) [
  | inl newest ↦ omega (arith, newest.0, within)
  | inr earlier ↦ taken_below pieces prefix k (omega (arith, within)) earlier
]

module _ (pieces : List Piece) (prefix : Prefix) (decided : Decided) (is : Represents pieces prefix decided) where
  pub same_taken : set.contains decided.taken ≡ taken pieces prefix
  same_taken = λ i k. is.is_taken k i

  -- a set comes before the prefix where it comes before what is taken in, at a decided piece
  pub before_prefix : (chosen : ℕ → Bool) → ComesBeforeFrom decided.left chosen (set.contains decided.taken) → IsBefore pieces chosen prefix
  before_prefix chosen (before, from) = record {
    piece = before.place;
    in_set = before.in_first;
    is_decided = omega (arith, from, is.is_left);
    left_out = sym (is.is_taken before.place) ∙ before.not_in_second;
    same_above = λ k above. before.same_above k above ∙ is.is_taken k;
  }

  pub before_taken : (chosen : ℕ → Bool) → IsBefore pieces chosen prefix → ComesBeforeFrom decided.left chosen (set.contains decided.taken)
  before_taken chosen before = (
    record {
      place = before.piece;
      in_first = before.in_set;
      not_in_second = is.is_taken before.piece ∙ before.left_out;
      same_above = λ k above. before.same_above k above ∙ sym (is.is_taken k);
    },
    omega (arith, before.is_decided, is.is_left),
  )
