-- Numbers that are written one after the other.
use Rattle.std.proofs.Common.{◌≡◌, ℕ, ◌+◌, ◌<◌, ◌≤◌, List, [], ◌∷◌, ◌++◌, length, take, get_or, append_assoc}
use Rattle.std.specs.List.{flat_map}
use Rattle.std.proofs.lemmas.List.{append-nil, take_more, take_all}
use Rattle.std.proofs.lemmas.List.Concat.{flat_map-append}

pub pushed_more :
    (f : ℕ → List ℕ) (xs : List ℕ) (i : ℕ) (old now : List ℕ) → i < length xs → now ≡ old ++ flat_map f (take i xs)
    → now ++ f (get_or xs i 0) ≡ old ++ flat_map f (take (i + 1) xs)
pushed_more f xs i old now there is =
    rw (is, take_more xs i 0 there, flat_map-append f (take i xs) (get_or xs i 0 ∷ []), append-nil (f (get_or xs i 0)))
    (append_assoc old (flat_map f (take i xs)) (f (get_or xs i 0)))

pub pushed_all : (xs : List ℕ) (i : ℕ) → length xs ≤ i → take i xs ≡ xs
pushed_all xs i all = take_all i xs all

pub four_pieces : (o a b c d : List ℕ) → (((o ++ a) ++ b) ++ c) ++ d ≡ o ++ (((a ++ b) ++ c) ++ d)
four_pieces o a b c d = simp append_assoc
