-- For private contracts: live sets that are found step by step.
use Rattle.std.specs.Prelude.{◌≡◌, ℕ, ◌-◌, ◌<◌, ◌≤◌, ◌↔◌, Bool, List, length, Option, Some, None, slice_index}
use Rattle.std.specs.Prelude.{slice_index_or, MatchBool}
use Rattle.std.specs.FinSet as set
use Rattle.std.specs.List.{sum_by}
use Rattle.std.specs.Ordering.{nat_cmp}
use Rattle.ci_word.specs.Numbers.{count_below}
use Rattle.ci_live.specs.declared.flow.Flow.{Flow}
use Rattle.ci_live.specs.declared.flow.Successors.{Successors}
use Rattle.ci_live.specs.declared.flow.Successors.TheVariants.{Named, Anywhere}
use Rattle.ci_live.specs.declared.iteration.Found.{Found as FoundSets}
use Rattle.ci_live.specs.private.Flows.{Has, IsReached, flow_at}

-- what was found at block k, and nothing past the last one
abbrev pub live_at : List (set.FinSet nat_cmp) → ℕ → set.FinSet nat_cmp
live_at live k = slice_index_or live k set.empty

-- what is live at one successor, or at none
abbrev pub on_edge : List (set.FinSet nat_cmp) → Option ℕ → set.FinSet nat_cmp
on_edge live None = set.empty
on_edge live (Some k) = live_at live k

-- what is live behind a block with these successors, where `any` has what is live at some block
abbrev pub on_edges : List (set.FinSet nat_cmp) → set.FinSet nat_cmp → Successors → set.FinSet nat_cmp
on_edges live any (Named first second) = set.union (on_edge live first) (on_edge live second)
on_edges live any Anywhere = any

-- What was found is right: each register is live where it was found, and `any` has those that were found at some block
-- and are live at some block.
pub record IsSound (flows : List Flow) (found : FoundSets) : Type 0 where
  pub many : length found.live.items ≡ length flows
  pub live : (k r : ℕ) → Has (live_at found.live.items k) r → IsReached flows r k
  pub any : (r : ℕ) → Has found.any r → (k : ℕ) × IsReached flows r k
  pub all : (k r : ℕ) → Has (live_at found.live.items k) r → Has found.any r

-- what is live behind block k, as far as it was found, and not written by it
abbrev pub passed_at : List Flow → FoundSets → ℕ → set.FinSet nat_cmp
passed_at flows found k =
    set.difference (on_edges found.live.items found.any (flow_at flows k).successors) (flow_at flows k).defs

-- what block k needs, as far as it was found: what it reads first, and what it passes
abbrev pub needed_at : List Flow → FoundSets → ℕ → set.FinSet nat_cmp
needed_at flows found k = set.union (flow_at flows k).uses (passed_at flows found k)

-- what block k needs that was not found at it
abbrev pub missing_at : List Flow → FoundSets → ℕ → set.FinSet nat_cmp
missing_at flows found k = set.difference (needed_at flows found k) (live_at found.live.items k)

-- nothing is missing at block k
abbrev pub IsClosed : List Flow → FoundSets → ℕ → Type 0
IsClosed flows found k = (r : ℕ) → ¬ Has (missing_at flows found k) r

-- how far the sets are from being full
abbrev pub room : FoundSets → ℕ
room found = sum_by (λ live. 256 - count_below 256 (set.contains live)) found.live.items

-- the transfer of block k found something, or there was nothing to find
abbrev pub IsTransfer : List Flow → FoundSets → FoundSets → ℕ → Bool → Type 0
IsTransfer flows before after k changes =
    MatchBool changes (room after < room before) ((before ≡ after) × IsClosed flows after k)

-- visits of these blocks changed those that are listed, or there was nothing to find
pub record AreVisits (flows : List Flow) (before after : FoundSets) (order changed : List ℕ) : Type 0 where
  pub sound : IsSound flows after
  pub less : room after ≤ room before
  pub some : 0 < length changed → room after < room before
  pub none : length changed ≡ 0 → before ≡ after
  pub closed : length changed ≡ 0 → (k : ℕ) → k < length order → IsClosed flows after (slice_index order k)

-- the sets are what is live at each block
pub record IsSolution (flows : List Flow) (found : FoundSets) : Type 0 where
  pub many : length found.live.items ≡ length flows
  pub live : (k r : ℕ) → Has (live_at found.live.items k) r ↔ IsReached flows r k
  pub any : (r : ℕ) → Has found.any r ↔ ((k : ℕ) × IsReached flows r k)
