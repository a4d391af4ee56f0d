-- For private laws: two runs of one program from leader to leader, and where their blocks may lead.
use Rattle.std.specs.Prelude.{◌≡◌, ℕ, ◌%◌, ◌==◌, ◌&&◌, Bool, true, false, List}
use Rattle.std.specs.FinSet as finite
use Rattle.std.specs.Ordering.{nat_cmp}
use Rattle.ci_elf.specs.Executables.{Executable}
use Rattle.ci_live.specs.Sets.{Sets, at_leader as live_at}
use Rattle.ci_machine.specs.Outcomes.{Reached}
use Rattle.ci_machine.specs.Programs.{Program, State, in_text, loaded_program, opening}
use Rattle.ci_machine.specs.Runs.{after}
use Rattle.ci_machine.specs.Steps.{Meaning}
use Rattle.ci_runs.specs.WholeRuns.{is_among}

-- Two runs of one program by one meaning: the states in which they open, the listed leaders, and what is live at each.
pub record TwoRuns : Type 0 where
  pub meaning : Meaning
  pub program : Program
  pub old_opens : State
  pub new_opens : State
  pub is_listed : ℕ → Bool
  pub live : ℕ → ℕ → Bool

-- a word of the text may stand at the address
abbrev pub is_word : Program → ℕ → Bool
is_word program address = (address % 4 == 0) && in_text program address

-- those of an executable and of another one by this meaning: elsewhere than at listed leaders nothing is live
abbrev pub runs_of : Executable → Executable → Sets → Meaning → List ℕ → TwoRuns
runs_of old new live meaning input = record {
  meaning = meaning;
  program = loaded_program old;
  old_opens = opening old input;
  new_opens = opening new input;
  is_listed = is_among live.leaders;
  live = λ address r. is_among live.leaders address && finite.contains (live_at live address) r;
}

module _ (runs : TwoRuns) where
  abbrev pub old : ℕ → Reached State
  old n = after runs.meaning runs.program n runs.old_opens

  abbrev pub new : ℕ → Reached State
  new n = after runs.meaning runs.program n runs.new_opens

  -- where a block may lead: to a listed leader, or where no instruction is fetched
  pub data IsPlace (address : ℕ) : Type 0 where
    at_leader : runs.is_listed address ≡ true → IsPlace address
    no_text : is_word runs.program address ≡ false → IsPlace address

  -- and all that is live there is live behind the block
  pub record LeadsTo (live_out : finite.FinSet nat_cmp) (address : ℕ) : Type 0 where
    pub place : IsPlace address
    pub covered : (r : ℕ) → runs.live address r ≡ true → finite.contains live_out r ≡ true
