-- For the contracts of readers of line formats: what they compute. A reader reads what stands at the beginning of a list
-- of symbols, and gives it with the symbols behind it, or tells where it stopped.
use Rattle.std.specs.Prelude.{ℕ, zero, suc, ◌==◌, nat_lt, Bool, false, if◌then◌else◌, List, [], ◌∷◌, ◌++◌, length}
use Rattle.std.specs.Prelude.{Option, Some, None, Result, Ok, Err}

-- where reading stopped: how many symbols are left, the first of which is bad, and of which of the format's own kinds
-- the place is, if of any
pub record Stop (K : Type 0) : Type 0 where
  pub left : ℕ
  pub kind : Option K

abbrev pub stop : {K : Type 0} → ℕ → Stop K
stop left = record { left = left; kind = None }

abbrev pub stop_of : {K : Type 0} → K → ℕ → Stop K
stop_of kind left = record { left = left; kind = Some kind }

abbrev pub Read : Type 0 → Type 0 → Type 0 → Type 0
Read S K A = Result (A × List S) (Stop K)

infixl 10 ◌>>=◌
abbrev pub ◌>>=◌ : {A B K : Type 0} → Result A (Stop K) → (A → Result B (Stop K)) → Result B (Stop K)
(Ok x) >>= f = f x
(Err e) >>= f = Err e

-- what was read, seen by a function
abbrev pub view : {S K A B : Type 0} → (A → B) → Read S K A → Read S K B
view f read = read >>= λ x. Ok (f x.0, x.1)

-- ---- words

-- there is a first symbol, and it passes the test
abbrev pub first_passes : {S : Type 0} → (S → Bool) → List S → Bool
first_passes test [] = false
first_passes test (x ∷ xs) = test x

abbrev pub begins_with : ℕ → List ℕ → Bool
begins_with byte xs = first_passes (λ x. x == byte) xs

abbrev pub word : {K : Type 0} → List ℕ → List ℕ → Read ℕ K (Unit {0})
word [] xs = Ok (tt, xs)
word (due ∷ others) [] = Err (stop 0)
word (due ∷ others) (x ∷ xs) = if x == due then word others xs else Err (stop (length (x ∷ xs)))

-- ---- repetitions

-- items in front of those that were read, and what else was read
abbrev pub with_items : {X F : Type 0} → List X → List X × F → List X × F
with_items items x = (items ++ x.0, x.1)

abbrev pub with_front : {S K X : Type 0} → List X → Read S K (List X) → Read S K (List X)
with_front front read = view (λ items. front ++ items) read

-- at most so many times what begins with a symbol that passes the test
unfoldable pub repeated : {S K X : Type 0} → ℕ → (S → Bool) → (List S → Read S K (List X)) → List S → Read S K (List X)
repeated zero test one xs = Ok ([], xs)
repeated (suc count) test one xs =
    if first_passes test xs then (one xs >>= λ x. with_front x.0 (repeated count test one x.1)) else Ok ([], xs)

-- what has to leave fewer symbols than there were
abbrev pub shortening : {S K X : Type 0} → (List S → Read S K X) → List S → Read S K X
shortening one xs = one xs >>= λ x. if nat_lt (length x.1) (length xs) then Ok x else Err (stop 0)

-- as often as there is something that begins so
abbrev pub repetition : {S K X : Type 0} → (S → Bool) → (List S → Read S K (List X)) → List S → Read S K (List X)
repetition test one xs = repeated (suc (length xs)) test (shortening one) xs
