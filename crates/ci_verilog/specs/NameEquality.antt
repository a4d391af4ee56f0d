-- For the impls of `PartialEq` and `Eq` alone: equal names are one.
use Rattle.std.specs.Prelude.{◌≡◌, ℕ, Bool, nat_eq, List}
use Rattle.std.specs.Bool.{Decides}
use Rattle.std.specs.Cmp.{unsigned_Decides, IsEquivalence, decided}
use Rattle.std.specs.Cmp.Lexicographic.{pointwise, pointwise_decides}

abbrev pub same_name : List ℕ → List ℕ → Bool
same_name = pointwise nat_eq

pub same_name_decides : (x y : List ℕ) → Decides (same_name x y) (x ≡ y)
same_name_decides = pointwise_decides unsigned_Decides

pub names_equivalent : IsEquivalence same_name
names_equivalent = decided same_name same_name_decides
