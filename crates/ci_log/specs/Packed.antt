-- The packed spelling of a tree: half bytes of its items in preorder, two in a byte.
use Rattle.std.specs.Prelude.{ℕ, zero, suc, ◌+◌, ◌*◌, ◌/◌, ◌%◌, ◌==◌, nat_lt, Bool, ◌&&◌, if◌then◌else◌}
use Rattle.std.specs.Prelude.{List, [], ◌∷◌, ◌++◌, replicate}
use Rattle.std.specs.List.{flat_map}
use Rattle.ci_log.specs.declared.log.Item.{Item}
use Rattle.ci_log.specs.declared.log.Item.TheVariants.{B, O, C, I, G, F}

-- the item's half byte
abbrev pub half_byte : Item → ℕ
half_byte B = 0
half_byte O = 1
half_byte C = 2
half_byte I = 3
half_byte G = 4
half_byte F = 5

-- ---- runs

-- an item, and how many more of its kind follow it
pub record Run : Type 0 where
  pub item : Item
  pub more : ℕ

-- both are the same leaf
abbrev pub are_equal_leaves : Item → Item → Bool
are_equal_leaves i j = nat_lt 0 (half_byte i) && (half_byte i == half_byte j)

abbrev pub alone : Item → Run
alone i = record { item = i; more = 0 }

-- a leaf before a run of equal leaves makes that run longer
abbrev pub in_front : Item → List Run → List Run
in_front i [] = alone i ∷ []
in_front i (run ∷ runs) =
    if are_equal_leaves i run.item then record { item = i; more = suc run.more } ∷ runs else alone i ∷ run ∷ runs

-- the maximal runs of equal leaves that follow on one another, and each branch alone
abbrev pub runs : List Item → List Run
runs [] = []
runs (i ∷ items) = in_front i (runs items)

-- ---- half bytes

-- 5 + s for the last s leaves of a run, and nothing where there are none
abbrev pub last_leaves : ℕ → List ℕ
last_leaves zero = []
last_leaves (suc s) = (5 + suc s) ∷ []

-- so many more leaves of a run: 15 for each ten, and the others
abbrev pub more_leaves : ℕ → List ℕ
more_leaves n = replicate (n / 10) 15 ++ last_leaves (n % 10)

abbrev pub run_halves : Run → List ℕ
run_halves run = half_byte run.item ∷ more_leaves run.more

abbrev pub half_bytes : List Item → List ℕ
half_bytes items = flat_map run_halves (runs items)

-- bytes of half bytes, each from its high half; where their number is odd the last low half is 0
abbrev pub filled : List ℕ → List ℕ
filled [] = []
filled (high ∷ []) = (high * 16) ∷ []
filled (high ∷ low ∷ halves) = (high * 16 + low) ∷ filled halves

abbrev pub packed : List Item → List ℕ
packed items = filled (half_bytes items)
