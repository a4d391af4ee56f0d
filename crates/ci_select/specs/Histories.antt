-- What the entries of a log book up to some place say by themselves.
use Rattle.std.specs.Prelude.{◌≡◌, ℕ, ◌==◌, Bool, true, false, List, [], length, map, filter, find, Option, Some}
use Rattle.std.specs.FinSet as finite
use Rattle.std.specs.Ordering.{nat_cmp}
use Rattle.ci_log.specs.declared.book.Entry.{Entry}
use Rattle.ci_log.specs.declared.book.Entry.TheVariants.{Best, Without, Spent, Take}
use Rattle.ci_log.specs.declared.log.Item.{Item}

-- The entries of a book up to some place, the newest first.
abbrev pub History : Type 0
History = List Entry

abbrev pub leader_of : Entry → ℕ
leader_of (Best leader cut log) = leader
leader_of (Without leader log) = leader
leader_of (Spent leader budget) = leader
leader_of (Take leader unit) = leader

abbrev pub is_take : Entry → Bool
is_take (Take leader unit) = true
is_take entry = false

-- The round: how many cuts were taken.
abbrev pub round : History → ℕ
round history = length (filter is_take history)

abbrev pub is_take_of : ℕ → Entry → Bool
is_take_of leader (Take l unit) = l == leader
is_take_of leader entry = false

abbrev pub is_search_of : ℕ → Entry → Bool
is_search_of leader (Take l unit) = false
is_search_of leader entry = leader_of entry == leader

-- the last search entry of the block
abbrev pub last_search : History → ℕ → Option Entry
last_search history leader = find (is_search_of leader) history

-- The last search of the block found this cut. One that was given up found none, so the block is skipped from there on:
-- only a take is followed by another search.
pub record HasCut (history : History) (leader : ℕ) (cut : finite.FinSet nat_cmp) : Type 0 where
  pub log : List Item
  pub found : last_search history leader ≡ Some (Best leader cut log)

-- all that the entry tells but its log
abbrev pub without_log : Entry → Entry
without_log (Best leader cut log) = Best leader cut []
without_log (Without leader log) = Without leader []
without_log entry = entry

-- The entries of both are the same but for their logs.
pub record AreOneButLogs (left right : List Entry) : Type 0 where
  pub same : map without_log left ≡ map without_log right
