-- Languages with values, over any symbols: which lists are texts of a value, and how languages compose.
use Rattle.std.proofs.Common.{◌⊎◌, inl, inr, ◌≡◌, ◌<◌, Bool, List, [], ◌∷◌, ◌++◌, length, arith, Option, Some, None, refl}
use Rattle.ci_reading.specs.LineReading.{first_passes}

-- A language says which lists are texts of a value (None), and which are the beginning of one, up to a place of a kind
-- of the format's own (Some k), at which reading stops before each other symbol than those that are due there.

-- a language without kinds
abbrev pub Plainly : {S K A : Type 0} → (List S → A → Type 0) → List S → A → Option K → Type 0
Plainly L ys a None = L ys a
Plainly L ys a (Some k) = ⊥

-- ---- one after the other

module _ {S A B : Type 0} where
  pub data Then (L : List S → A → Type 0) (M : A → List S → B → Type 0) : List S → B → Type 0 where
    joined : (ys zs : List S) (a : A) (b : B) → L ys a → M a zs b → Then L M (ys ++ zs) b

module _ {S K A B : Type 0} where
  -- a text of the first and one of the second, up to the end of it or not; or not yet all of the first
  pub data Both (L : List S → A → Option K → Type 0) (M : A → List S → B → Option K → Type 0) : List S → B → Option K → Type 0 where
    in_both : (ys zs : List S) (a : A) (b : B) (far : Option K) → L ys a None → M a zs b far → Both L M (ys ++ zs) b far
    halfway : (ys zs : List S) (a : A) (b : B) (k : K) → L ys a (Some k) → M a zs b None → Both L M ys b (Some k)

-- ---- what was read, seen by a function

module _ {S A B : Type 0} where
  pub data Mapped (f : A → B) (L : List S → A → Type 0) : List S → B → Type 0 where
    mapped : (ys : List S) (a : A) → L ys a → Mapped f L ys (f a)

  abbrev pub SeenBy : {K : Type 0} → (A → B) → (List S → A → Option K → Type 0) → List S → B → Option K → Type 0
  SeenBy f L ys b far = Mapped f (λ ys a. L ys a far) ys b

-- ---- no symbol

module _ {S A : Type 0} where
  pub data IsGiven (given_one : A) : List S → A → Type 0 where
    given : IsGiven given_one [] given_one

-- ---- the first symbol

-- the list has a first symbol, and this is what the test says of it
abbrev pub IsFirst : {S : Type 0} → (S → Bool) → Bool → List S → Type 0
IsFirst test is [] = ⊥
IsFirst test is (x ∷ xs) = test x ≡ is

pub first_on : {S : Type 0} (test : S → Bool) (is : Bool) (xs ys : List S) → IsFirst test is xs → IsFirst test is (xs ++ ys)
first_on test is [] ys h = absurd h
first_on test is (x ∷ xs) ys h = h

pub not_empty : {S : Type 0} (test : S → Bool) (is : Bool) (ys : List S) → IsFirst test is ys → 0 < length ys
not_empty test is [] h = absurd h
not_empty test is (y ∷ ys) h = omega arith

pub first_in : {S : Type 0} (test : S → Bool) (is : Bool) (ys rest : List S) → IsFirst test is ys → first_passes test (ys ++ rest) ≡ is
first_in test is [] rest h = absurd h
first_in test is (y ∷ ys) rest h = h

pub same_first : {S : Type 0} (test : S → Bool) (b : S) (front other tail : List S)
    → first_passes test (front ++ b ∷ other) ≡ first_passes test (front ++ b ∷ tail)
same_first test b [] other tail = refl
same_first test b (x ∷ front) other tail = refl

-- each text, and each beginning of one, begins so
abbrev pub Begins : {S K A : Type 0} → (S → Bool) → Bool → (List S → A → Option K → Type 0) → Type 0
Begins {S = S} {K = K} {A = A} test is L = (ys : List S) (a : A) (far : Option K) → L ys a far → IsFirst test is ys

pub begins_either : {S K A : Type 0} (test : S → Bool) (is : Bool) {L M : List S → A → Option K → Type 0} → Begins test is L → Begins test is M
    → Begins test is (λ ys a far. L ys a far ⊎ M ys a far)
begins_either test is first second ys a far (inl l) = first ys a far l
begins_either test is first second ys a far (inr m) = second ys a far m
