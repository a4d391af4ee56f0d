-- What a region ends as, where a `&mut` to one of its values is handed out.
use Rattle.std.specs.Prelude.{ℕ}
use Rattle.std.specs.Borrow.{Lends, Fml, RattleType, MutBor}
use Rattle.ci_region.specs.BoundedMap.{BoundedMap, with_value}
use Rattle.ci_region.specs.contracts.Region.{the_row}

-- once the borrow ends, the slot holds the last value that was written through it
abbrev pub LendsValue : (T : RattleType) → MutBor (BoundedMap T.Denot) → ℕ → MutBor T.Denot → Fml
LendsValue T region slot value = Lends (the_row T) T region value (with_value region.now slot)
