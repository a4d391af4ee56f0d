-- Sets of registers at some leaders, as public contracts see them.
use Rattle.std.specs.Prelude.{ℕ, ◌==◌, List, slice_index_or}
use Rattle.std.specs.FinSet as set
use Rattle.std.specs.List.{position_or_len}
use Rattle.std.specs.Ordering.{nat_cmp}

-- Some leaders in ascending order, and by leader, in the same order, the registers at it and behind its block.
pub record Sets : Type 0 where
  pub leaders : List ℕ
  pub live_in : List (set.FinSet nat_cmp)
  pub live_out : List (set.FinSet nat_cmp)

-- the set of a leader, of sets in the order of the leaders
abbrev pub set_of : List ℕ → List (set.FinSet nat_cmp) → ℕ → set.FinSet nat_cmp
set_of leaders sets leader = slice_index_or sets (position_or_len (λ l. l == leader) leaders) set.empty

-- the registers at a leader
abbrev pub at_leader : Sets → ℕ → set.FinSet nat_cmp
at_leader sets = set_of sets.leaders sets.live_in

-- the registers after the block of a leader
abbrev pub after_block : Sets → ℕ → set.FinSet nat_cmp
after_block sets = set_of sets.leaders sets.live_out
