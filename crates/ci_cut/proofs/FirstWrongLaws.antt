-- Lists of items that are right, and the first that isn't.
use Rattle.std.proofs.Common.{◌≡◌, ℕ, suc, ◌+◌, List, [], ◌∷◌, ◌++◌, length, length-append, append_assoc, refl, sym, ap, ◌∙◌, subst}
use Rattle.std.specs.List.{AllByRecursion}
use Rattle.ci_cut.specs.FirstWrong.{IsFirstWrongIn}

-- ---- facts on each element of a list

module _ {X : Type 0} (P : X → Type 0) where
  pub all_left : (xs ys : List X) → AllByRecursion P (xs ++ ys) → AllByRecursion P xs
  all_left [] ys all = tt
  all_left (x ∷ xs) ys all = (all.0, all_left xs ys all.1)

  pub all_right : (xs ys : List X) → AllByRecursion P (xs ++ ys) → AllByRecursion P ys
  all_right [] ys all = all
  all_right (x ∷ xs) ys all = all_right xs ys all.1

  pub all_both : (xs ys : List X) → AllByRecursion P xs → AllByRecursion P ys → AllByRecursion P (xs ++ ys)
  all_both [] ys first second = second
  all_both (x ∷ xs) ys first second = (first.0, all_both xs ys first.1 second)

-- ---- the first that is wrong

module _ {Station : Type 0} (IsRight : Station → Type 0) (reason_of : Station → ℕ) where
  pub wrong_here : (station : Station) (behind : List Station) → ¬ IsRight station
      → IsFirstWrongIn IsRight reason_of (station ∷ behind) 0 (reason_of station)
  wrong_here station behind wrong = record {
    before = [];
    station = station;
    behind = behind;
    is_split = refl;
    right_before = tt;
    not_right = wrong;
    is_number = refl;
    is_reason = refl;
  }

  -- in the first of two lists, in the second, and behind one that is right
  pub wrong_left : (xs ys : List Station) (number reason : ℕ) → IsFirstWrongIn IsRight reason_of xs number reason
      → IsFirstWrongIn IsRight reason_of (xs ++ ys) number reason
  wrong_left xs ys number reason wrong = record {
    before = wrong.before;
    station = wrong.station;
    behind = wrong.behind ++ ys;
    is_split = ap (λ zs. zs ++ ys) wrong.is_split ∙ append_assoc wrong.before (wrong.station ∷ wrong.behind) ys;
    right_before = wrong.right_before;
    not_right = wrong.not_right;
    is_number = wrong.is_number;
    is_reason = wrong.is_reason;
  }

  pub wrong_right : (xs ys : List Station) (number reason : ℕ) → AllByRecursion IsRight xs
      → IsFirstWrongIn IsRight reason_of ys number reason → IsFirstWrongIn IsRight reason_of (xs ++ ys) (length xs + number) reason
  wrong_right xs ys number reason all wrong = record {
    before = xs ++ wrong.before;
    station = wrong.station;
    behind = wrong.behind;
    is_split = ap (λ zs. xs ++ zs) wrong.is_split ∙ sym (append_assoc xs wrong.before (wrong.station ∷ wrong.behind));
    right_before = all_both IsRight xs wrong.before all wrong.right_before;
    not_right = wrong.not_right;
    is_number = ap (λ n. length xs + n) wrong.is_number ∙ sym (length-append xs wrong.before);
    is_reason = wrong.is_reason;
  }

  pub wrong_later : (station : Station) (xs : List Station) (number reason : ℕ) → IsRight station
      → IsFirstWrongIn IsRight reason_of xs number reason → IsFirstWrongIn IsRight reason_of (station ∷ xs) (suc number) reason
  wrong_later station xs number reason here wrong = record {
    before = station ∷ wrong.before;
    station = wrong.station;
    behind = wrong.behind;
    is_split = ap (λ zs. station ∷ zs) wrong.is_split;
    right_before = (here, wrong.right_before);
    not_right = wrong.not_right;
    is_number = ap suc wrong.is_number;
    is_reason = wrong.is_reason;
  }

  -- a list with a wrong item isn't right
  pub not_all : (all : List Station) (number reason : ℕ) → IsFirstWrongIn IsRight reason_of all number reason
      → AllByRecursion IsRight all → ⊥
  not_all all number reason wrong right =
      wrong.not_right (all_right IsRight wrong.before (wrong.station ∷ wrong.behind) (subst (AllByRecursion IsRight) wrong.is_split right)).0
