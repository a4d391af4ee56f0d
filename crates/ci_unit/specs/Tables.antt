-- What a table of units keeps, for everybody.
use Rattle.std.specs.Prelude.{◌≢◌, ◌≤◌, List, length, All}
use Rattle.std.specs.List.{AllPairs}
use Rattle.ci_unit.specs.Units.{Unit, IsUnit}

-- at most thirty-two units, of which no two are equal
pub record IsTable (units : List Unit) : Type 0 where
  pub few : length units ≤ 32
  pub units_are : All IsUnit units
  pub distinct : AllPairs (λ unit other. unit ≢ other) units
