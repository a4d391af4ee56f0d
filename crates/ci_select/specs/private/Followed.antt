-- For private contracts: what `Rounds` holds behind the entries of a book so far.
use Rattle.std.specs.Prelude.{◌≡◌, ℕ, ◌+◌, ◌*◌, ◌^◌, ◌<◌, ◌≤◌, ◌==◌, ◌⊎◌, if◌then◌else◌, ℤ, pos, nat_lt}
use Rattle.std.specs.Prelude.{List, [], ◌∷◌, length, filter, map, reverse, drop}
use Rattle.std.specs.Prelude.{slice_get, slice_index, slice_index_or, Option, Some, None}
use Rattle.std.specs.FinSet as finite
use Rattle.std.specs.List.{Contains, sum_by}
use Rattle.ci_isa.specs.declared.instruction.Insn.{Insn}
use Rattle.ci_isa.specs.Effects.{may_join}
use Rattle.ci_block.specs.declared.blocks.Block.{Block}
use Rattle.ci_cut.specs.FlowGraph.{FlowGraph}
use Rattle.ci_log.specs.declared.book.Entry.TheVariants.{Take}
use Rattle.ci_word.specs.Numbers.{numbers_below}
use Rattle.ci_emu.specs.declared.profile.Profile.{Profile}
use Rattle.ci_emu.specs.Profiles.{entries_in}
use Rattle.ci_unit.specs.Units.{Unit, unit_of}
use Rattle.ci_select.specs.declared.rounds.Candidate.{Candidate}
use Rattle.ci_select.specs.declared.rounds.Due.TheVariants as due
use Rattle.ci_select.specs.declared.rounds.Rank.{Rank}
use Rattle.ci_select.specs.declared.rounds.Rounds.{Rounds}
use Rattle.ci_select.specs.Histories.{History, round}
use Rattle.ci_select.specs.Instances.{Instance, AreOfSomeFile, entered, instance_of}
use Rattle.ci_select.specs.PresentBlocks.{HasPresentCut, IsPresent, graph_at}
use Rattle.ci_select.specs.UnitNumbers.{AreUnits}
use Rattle.ci_select.specs.Candidates.{IsCandidate}
use Rattle.ci_select.specs.Savings.{IsSaved}
use Rattle.ci_select.specs.Dues.{IsDue, IsSearchDue}
use Rattle.ci_select.specs.LegalBooks.{IsLegalHistory}

-- what the choice is about
abbrev pub instance_in : Rounds → Instance
instance_in rounds = instance_of rounds.profile.now rounds.blocks.now rounds.live.now rounds.table.now rounds.plan

-- the leaders of blocks
abbrev pub leaders_of : List Block → List ℕ
leaders_of blocks = map (λ block. block.leader) blocks

-- The leaders of the blocks whose search is due, in the order in which they are: the rest of the blocks that were
-- entered, or the block that was taken just now, or none.
abbrev pub searches_due : Instance → History → List ℕ
searches_due instance [] = entered instance
searches_due instance (Take leader unit ∷ history) = leader ∷ []
searches_due instance (entry ∷ history) =
    if round history == 0 then drop (length (entry ∷ history)) (entered instance) else []

-- The candidate at the rank: its block with its graph, its cut and the unit of that, and what the cut saves. The search
-- of its block is not due, and won't be before its take.
pub record IsRanked (instance : Instance) (history : History) (blocks : List Block) (rank : Rank)
    (candidate : Candidate) : Type 0 where
  pub insns : List Insn
  pub waits : ¬ Contains (searches_due instance history) rank.leader
  pub within : candidate.place < length blocks
  pub leader : (d : Block) → (slice_index_or blocks candidate.place d).leader ≡ rank.leader
  pub has_cut : HasPresentCut instance history rank.leader insns candidate.cut
  pub graph : candidate.graph ≡ graph_at instance rank.leader insns
  pub unit : candidate.unit ≡ unit_of insns (graph_at instance rank.leader insns) (finite.contains candidate.cut)
  pub saved : IsCandidate instance history rank.leader (pos rank.saved.0)
  pub small : rank.saved.0 < 2 ^ 82

-- no other candidate saves more, and none of those that save as much has a lesser leader
pub record IsFirst (candidates : List (Rank × Candidate)) (first : Rank × Candidate) : Type 0 where
  pub there : Contains candidates first
  pub before :
      (other : Rank × Candidate) → Contains candidates other
      → (other.0.saved.0 < first.0.saved.0)
      ⊎ ((other.0.saved.0 ≡ first.0.saved.0) × (first.0.leader ≤ other.0.leader))

-- How many operations of the present blocks may still join a unit. Each take leaves fewer of them, so that a choice
-- ends and has no more rounds than its blocks have operations.
abbrev pub operations_left : Rounds → ℕ
operations_left rounds = sum_by (λ insns. length (filter may_join insns.items)) rounds.present.items

-- So each entry that is followed leaves fewer of these: a search is due no more, or a take has less to work on.
abbrev pub steps_left : Rounds → ℕ
steps_left rounds = 2 * operations_left rounds + length rounds.unsearched.items

-- the rounds hold what the entries so far say
pub record Follows (history : History) (rounds : Rounds) : Type 0 where
  pub of_file : AreOfSomeFile rounds.blocks.now rounds.live.now
  pub legal : IsLegalHistory (instance_in rounds) history
  pub many : length rounds.present.items ≡ length rounds.blocks.now
  pub present :
      (k : ℕ) (block : Block) → k < length rounds.blocks.now
      → IsPresent (instance_in rounds) history (slice_index_or rounds.blocks.now k block).leader
      (slice_index_or rounds.present.items k block.insns).items
  pub unsearched :
      (block : Block)
      → map (λ place. (slice_index_or rounds.blocks.now place block).leader) (reverse rounds.unsearched.items)
      ≡ searches_due (instance_in rounds) history
  pub ranked :
      (rank : Rank) (candidate : Candidate) → Contains rounds.candidates.entries (rank, candidate)
      → IsRanked (instance_in rounds) history rounds.blocks.now rank candidate
  pub all_ranked :
      (leader : ℕ) (saved : ℤ) → ¬ IsSearchDue (instance_in rounds) history leader
      → IsCandidate (instance_in rounds) history leader saved
      → (rank : Rank) × (candidate : Candidate) × Contains rounds.candidates.entries (rank, candidate)
      × (rank.leader ≡ leader)
  pub units : AreUnits (instance_in rounds) history rounds.units
  pub round_is : rounds.round ≡ round history
  pub saved : IsSaved (instance_in rounds) history rounds.saved
  pub few : rounds.round + operations_left rounds ≤ 2 ^ 30
  pub bounded : rounds.saved ≤ rounds.round * 2 ^ 82

-- the rounds hold what some entries say
abbrev pub FollowsSome : Rounds → Type 0
FollowsSome rounds = (history : History) × Follows history rounds

-- the search of some block is due
abbrev pub HasDueSearch : Rounds → Type 0
HasDueSearch rounds =
    (history : History) × (leader : ℕ) × Follows history rounds
    × IsDue (instance_in rounds) history (due.Search leader)

-- the graph is that of the block whose search is due, in the present program
abbrev pub IsDueGraph : Rounds → FlowGraph → Type 0
IsDueGraph rounds graph =
    (history : History) (leader : ℕ) (insns : List Insn)
    → Follows history rounds → IsDue (instance_in rounds) history (due.Search leader)
    → IsPresent (instance_in rounds) history leader insns → graph ≡ graph_at (instance_in rounds) leader insns

-- the number of the equal unit, or the next one where there is none and there may be one more
abbrev pub IsNumberFor : List Unit → ℕ → Unit → Option ℕ → Type 0
IsNumberFor units count unit None = (¬ Contains units unit) × (count ≤ length units)
IsNumberFor units count unit (Some number) =
    (slice_get units number ≡ Some unit)
    ⊎ ((¬ Contains units unit) × (number ≡ length units) × (length units < count))

-- the places of the blocks that were entered
abbrev pub entered_from : Profile → List Block → List ℕ
entered_from profile blocks = numbers_below (length blocks)
    (λ place. nat_lt 0 (entries_in profile (slice_index (leaders_of blocks) place)))
