-- Beginnings of books up to the last letter of a tree, where a newline is due.
use Rattle.std.proofs.Common.{◌≡◌, ◌≢◌, ℕ, List, [], ◌∷◌, ◌++◌, refl, append_assoc, Option, Some, None}
use Rattle.ci_reading.specs.Lines.{line}
use Rattle.ci_log.specs.private.Reading.{BehindTree}

-- any other byte than the newline that is due behind a tree
abbrev pub NotDue : BehindTree → ℕ → Type 0
NotDue k b = b ≢ 10

-- no text that is read is longer
abbrev pub most : ℕ
most = 268435456

-- the list, ended by the newline that is due, where it is
abbrev pub ended : Option BehindTree → List ℕ → List ℕ
ended None ys = ys
ended (Some k) ys = line ys

pub ended_behind : (far : Option BehindTree) (xs ys : List ℕ) → ended far (xs ++ ys) ≡ xs ++ ended far ys
ended_behind None xs ys = refl
ended_behind (Some k) xs ys = append_assoc xs ys (10 ∷ [])

-- a last byte more on both sides
pub same_front : (b : ℕ) (xs ys : List ℕ) → xs ++ b ∷ [] ≡ ys ++ b ∷ [] → xs ≡ ys
same_front b [] [] e = refl
same_front b [] (y ∷ []) e = absurd (cc)
same_front b [] (y ∷ z ∷ ys) e = absurd (cc)
same_front b (x ∷ []) [] e = absurd (cc)
same_front b (x ∷ z ∷ xs) [] e = absurd (cc)
same_front b (x ∷ xs) (y ∷ ys) e =
    let first : x ≡ y = cc in
    let rest : xs ++ b ∷ [] ≡ ys ++ b ∷ [] = cc in
    λ i. first i ∷ same_front b xs ys rest i

pub same_ended : (far : Option BehindTree) (xs ys : List ℕ) → ended far xs ≡ ended far ys → xs ≡ ys
same_ended None xs ys e = e
same_ended (Some k) xs ys e = same_front 10 xs ys e
