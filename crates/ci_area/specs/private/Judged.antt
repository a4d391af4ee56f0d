-- For private contracts: what is told of the items of a tree.
use Rattle.std.specs.Prelude.{◌≡◌, ℕ, ◌+◌, Bool, List, length, Result, Ok, Err}
use Rattle.std.specs.List.{AllByRecursion}
use Rattle.ci_cut.specs.FirstWrong.{IsFirstWrongIn}
use Rattle.ci_area.specs.declared.checking.AreaWrong.{AreaWrong}
use Rattle.ci_area.specs.declared.piece.Piece.{Piece}
use Rattle.ci_area.specs.AreaRules.{Station, IsRightAt, reason_at}

-- the items are right, and end there, or one of them is the first that is wrong
abbrev pub IsJudged : List Piece → ℕ → (ℕ → Bool) → List Station → ℕ → Result ℕ AreaWrong → Type 0
IsJudged pieces limit best all place (Ok end) =
    AllByRecursion (IsRightAt pieces limit best) all × (end ≡ place + length all)
IsJudged pieces limit best all place (Err wrong) =
    (number : ℕ) × IsFirstWrongIn (IsRightAt pieces limit best) reason_at all number wrong.reason
    × (wrong.item ≡ place + number)
