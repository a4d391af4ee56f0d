-- For the impls of `PartialEq` alone: the test of two units for equality.
use Rattle.std.specs.Prelude.{Bool, ◌&&◌, nat_eq}
use Rattle.std.specs.Cmp.Lexicographic.{pointwise}
use Rattle.ci_unit.specs.contracts.operations.UnitOpPartialEq.TheImpl as op
use Rattle.ci_unit.specs.Units.{Unit}

abbrev pub same_unit : Unit → Unit → Bool
same_unit unit other =
    pointwise op.ghosts.eq unit.ops other.ops
    && (pointwise nat_eq unit.outputs other.outputs && nat_eq unit.cycles other.cycles)
