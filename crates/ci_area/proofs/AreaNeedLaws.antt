-- How many slots a choice may need.
use Rattle.std.proofs.Common.{◌≡◌, ℕ, zero, suc, ◌+◌, ◌≤◌, ◌^◌, true, false, List, [], ◌∷◌, length, length-append, refl, arith}
use Rattle.ci_cut.proofs.ListCountLaws.{AtLeast-length}
use Rattle.ci_area.specs.declared.piece.Piece.{Piece}
use Rattle.ci_area.specs.AreaPrefixes.{Prefix}
use Rattle.ci_area.specs.AreaNeed.{IsOpen, NeedExceeds, continuations}

-- a piece more makes twice as many prefixes, and one
how_many : (left : ℕ) (prefix : Prefix) → length (continuations left prefix) + 1 ≡ 2 ^ left
unfolding continuations
how_many zero prefix = refl
how_many (suc left) prefix =
    omega (
      arith,
      length-append (continuations left (true ∷ prefix)) (continuations left (false ∷ prefix)),
      how_many left (true ∷ prefix),
      how_many left (false ∷ prefix),
    )

pub enough : (pieces : List Piece) (limit budget : ℕ) → 2 ^ length pieces ≤ budget → ¬ NeedExceeds pieces limit budget
enough pieces limit budget fits exceeds =
    omega (arith, fits, AtLeast-length (IsOpen pieces limit) exceeds, how_many (length pieces) [])
