-- The rules of the items of a log of a choice, and when a log is accepted.
use Rattle.std.specs.Prelude.{◌≡◌, ℕ, ◌^◌, ◌≤◌, ◌<◌, Bool, true, false, ◌⊎◌, List, [], ◌∷◌, ◌++◌, length}
use Rattle.std.specs.List.{AllByRecursion}
use Rattle.ci_cut.specs.Best.{ComesBefore}
use Rattle.ci_cut.specs.FirstWrong.{IsFirstWrongIn}
use Rattle.ci_area.specs.declared.piece.Piece.{Piece}
use Rattle.ci_area.specs.declared.log.AreaItem.{AreaItem}
use Rattle.ci_area.specs.declared.log.AreaItem.TheVariants.{B, A, G, F}
use Rattle.ci_area.specs.declared.checking.AreaWrong.{AreaWrong}
use Rattle.ci_area.specs.Pieces.{area, gain, IsWithin}
use Rattle.ci_area.specs.AreaPrefixes.{Prefix, taken, bound, IsBefore}
use Rattle.ci_area.specs.AreaTrees.{IsTree, leaf, branch}

-- the set is better: it is within the limit, and it gains more, or as much and comes first
pub record IsBetter (pieces : List Piece) (limit : ℕ) (best chosen : ℕ → Bool) : Type 0 where
  pub within : IsWithin pieces limit chosen
  pub more : (gain pieces best < gain pieces chosen)
      ⊎ ((gain pieces best ≡ gain pieces chosen) × ComesBefore chosen best)

-- by this rate of gain to area no set that goes on from the prefix is better
pub record GainsTooLittle (pieces : List Piece) (limit : ℕ) (best : ℕ → Bool) (prefix : Prefix) (num den : ℕ)
    : Type 0 where
  pub some : 1 ≤ den
  pub few_num : num < 2 ^ 63
  pub few_den : den < 2 ^ 63
  pub fits : area pieces (taken pieces prefix) ≤ limit
  pub less : (bound pieces limit num den prefix < gain pieces best)
      ⊎ ((bound pieces limit num den prefix ≡ gain pieces best) × IsBefore pieces best prefix)

-- the item is right at the prefix
abbrev pub IsRight : List Piece → ℕ → (ℕ → Bool) → Prefix → AreaItem → Type 0
IsRight pieces limit best prefix A = limit < area pieces (taken pieces prefix)
IsRight pieces limit best prefix (G num den) = GainsTooLittle pieces limit best prefix num den
IsRight pieces limit best prefix F =
    (length pieces ≤ length prefix) × (¬ IsBetter pieces limit best (taken pieces prefix))
IsRight pieces limit best prefix B = length prefix < length pieces

-- the reason that is given where the item isn't right
abbrev pub reason_of : AreaItem → ℕ
reason_of A = 1
reason_of (G num den) = 4
reason_of F = 5
reason_of B = 6

-- ---- whole logs

pub record Station : Type 0 where
  pub prefix : Prefix
  pub item : AreaItem

-- The items of a tree in preorder, each with its prefix, where the tree's first item has this one. The first child of a
-- branch takes the next piece in, the second leaves it out.
abbrev pub stations : {items : List AreaItem} → IsTree items → Prefix → List Station
stations (leaf {item = item} is) prefix = record { prefix = prefix; item = item } ∷ []
stations (branch in_tree out_tree) prefix =
    record { prefix = prefix; item = B } ∷ (stations in_tree (true ∷ prefix) ++ stations out_tree (false ∷ prefix))

abbrev pub reason_at : Station → ℕ
reason_at station = reason_of station.item

abbrev pub IsRightAt : List Piece → ℕ → (ℕ → Bool) → Station → Type 0
IsRightAt pieces limit best station = IsRight pieces limit best station.prefix station.item

-- the log is accepted for the best set: it is a tree, and each of its items is right
pub record IsAccepted (pieces : List Piece) (limit : ℕ) (best : ℕ → Bool) (items : List AreaItem) : Type 0 where
  pub good : IsWithin pieces limit best
  pub tree : IsTree items
  pub right : AllByRecursion (IsRightAt pieces limit best) (stations tree [])

-- the first item that is wrong, and why: the first one for reason 7 where the best set that is given isn't within the
-- limit
abbrev pub IsFirstWrong : List Piece → ℕ → (ℕ → Bool) → List AreaItem → AreaWrong → Type 0
IsFirstWrong pieces limit best items wrong =
    ((¬ IsWithin pieces limit best) × (wrong ≡ record { item = 0; reason = 7 }))
    ⊎ (IsWithin pieces limit best
    × ((tree : IsTree items)
    × IsFirstWrongIn (IsRightAt pieces limit best) reason_at (stations tree []) wrong.item wrong.reason))
