-- Lists of entries that grow at the end, and what holds of each of their entries.
use Rattle.std.proofs.Common.{List, [], ◌∷◌, ◌++◌, reverse, sym, subst}
use Rattle.std.proofs.lemmas.List.{reverse-append}
use Rattle.std.specs.List.{AllByRecursion}

module _ {X : Type 0} (P : X → Type 0) where
  -- what holds of each element, and of one more
  pub all_and_one : (xs : List X) (x : X) → AllByRecursion P xs → P x → AllByRecursion P (xs ++ x ∷ [])
  all_and_one [] x all one = (one, tt)
  all_and_one (y ∷ xs) x all one = (all.0, all_and_one xs x all.1 one)

  -- the order doesn't matter
  pub all_reversed : (xs : List X) → AllByRecursion P xs → AllByRecursion P (reverse xs)
  all_reversed [] all = tt
  all_reversed (x ∷ xs) all =
      subst (AllByRecursion P) (sym (reverse-append (x ∷ []) xs)) (all_and_one (reverse xs) x (all_reversed xs all.1) all.0)
