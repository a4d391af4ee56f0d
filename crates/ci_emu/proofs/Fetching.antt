-- What a machine fetches, and the step that it makes of it.
use Rattle.std.proofs.Common.{◌≡◌, ℕ, ◌%◌, ap, sym, subst, refl, ◌∙◌, le_refl, Option, None, Some, Ok, Err, []}
use Rattle.std.specs.Prelude.{Bool, true, false, ◌==◌, if◌then◌else◌, IfOk, IfSome, IfNone, OnErr, unwrap_or}
use Rattle.std.specs.declared.result.Result.{Result}
use Rattle.ci_isa.specs.declared.instruction.Insn.{Insn}
use Rattle.ci_isa.specs.declared.instruction.Insn.TheVariants.{Unit, Cread, Cput, Illegal}
use Rattle.ci_isa.specs.Laws.{IsInsnAtX}
use Rattle.ci_isa.specs.Table.{ReadsX}
use Rattle.ci_isa.proofs.TableLaws.{one_insn_at_each_word}
use Rattle.ci_elf.specs.WordPlaces.{word_place}
use Rattle.ci_machine.specs.Cores.{Core}
use Rattle.ci_machine.specs.Outcomes.{Reached}
use Rattle.ci_machine.specs.Programs.{Program, State, in_text}
use Rattle.ci_machine.specs.Steps.{Meaning, word_at, execute, fetched}
use Rattle.ci_machine.specs.Touches.{moved}
use Rattle.ci_emu.specs.declared.steps.Outcome.{Outcome}
use Rattle.ci_emu.specs.private.Fetched.{HasHiddenIndex, IsOnlyAt, may_change}
use Rattle.ci_emu.specs.Machines.{standing, StandAs}
use Rattle.ci_emu.specs.private.Counting.{target_of}
use Rattle.ci_emu.specs.Steps.{LeadsTo, IsStep, IsReached}
use Rattle.ci_emu.proofs.CountLaws.{no_word}

-- ---- decoded words

-- what a row reads is what stands there
pub row_stands : (word : ℕ) (insn : Insn) → ReadsX word insn → IsInsnAtX word insn
row_stands word (Illegal bare) reads = absurd reads.1
row_stands word insn reads = reads

pub read_stands : (word : ℕ) (answer : Option Insn) → IfSome answer (λ insn. ReadsX word insn)
    → IfNone answer ((insn : Insn) → ¬ ReadsX word insn) → IsInsnAtX word (unwrap_or answer (Illegal word))
read_stands word None found none = (refl, none)
read_stands word (Some insn) found none = row_stands word insn found

pub only_at : (word : ℕ) (insn : Insn) → IsInsnAtX word insn → IsOnlyAt word insn
only_at word insn stands other there = let one = (one_insn_at_each_word word).1 in one.only other there ∙ sym (one.only insn stands)

pub stands_at : (word : ℕ) (insn : Insn) → IsOnlyAt word insn → IsInsnAtX word insn
stands_at word insn only = let one = (one_insn_at_each_word word).1 in subst (IsInsnAtX word) (only one.insn one.stands) one.stands

pub index_fits : (word : ℕ) (insn : Insn) → IsInsnAtX word insn → HasHiddenIndex insn
index_fits word (Cread rd index) reads = reads.1.6
index_fits word insn stands = tt

-- ---- what a machine makes of them

chosen : {X : Type 0} (f : Insn → X) (x : X) (b : Bool) (kept bare : Insn) → f kept ≡ x → f bare ≡ x → f (if b then kept else bare) ≡ x
chosen f x true kept bare same none = same
chosen f x false kept bare same none = none

-- what a machine may not have moves no memory, and leads nowhere
module _ (has_unit : ℕ → Bool) (has_hidden : Bool) (word : ℕ) where
  pub same_moved : (core : Core) (reading : Insn) → moved (standing has_unit has_hidden word reading) core ≡ moved reading core
  same_moved core (Unit number rd rs1 rs2 rs3) =
      chosen (λ insn. moved insn core) [] (has_unit number) (Unit number rd rs1 rs2 rs3) (Illegal word) refl refl
  same_moved core (Cread rd index) = chosen (λ insn. moved insn core) [] has_hidden (Cread rd index) (Illegal word) refl refl
  same_moved core (Cput rs1 rs2) = chosen (λ insn. moved insn core) [] has_hidden (Cput rs1 rs2) (Illegal word) refl refl
  same_moved core insn = refl

  pub same_change : (program : Program) (end : ℕ) (core : Core) (reading : Insn)
      → may_change program end (standing has_unit has_hidden word reading) core ≡ may_change program end reading core
  same_change program end core (Unit number rd rs1 rs2 rs3) =
      chosen (λ insn. may_change program end insn core) false (has_unit number) (Unit number rd rs1 rs2 rs3) (Illegal word) refl refl
  same_change program end core (Cread rd index) =
      chosen (λ insn. may_change program end insn core) false has_hidden (Cread rd index) (Illegal word) refl refl
  same_change program end core (Cput rs1 rs2) =
      chosen (λ insn. may_change program end insn core) false has_hidden (Cput rs1 rs2) (Illegal word) refl refl
  same_change program end core insn = refl

  pub same_target : (outcome : Outcome) (pc : ℕ) (reading : Insn)
      → target_of (standing has_unit has_hidden word reading) outcome pc ≡ target_of reading outcome pc
  same_target outcome pc (Unit number rd rs1 rs2 rs3) =
      chosen (λ insn. target_of insn outcome pc) None (has_unit number) (Unit number rd rs1 rs2 rs3) (Illegal word) refl refl
  same_target outcome pc (Cread rd index) =
      chosen (λ insn. target_of insn outcome pc) None has_hidden (Cread rd index) (Illegal word) refl refl
  same_target outcome pc (Cput rs1 rs2) =
      chosen (λ insn. target_of insn outcome pc) None has_hidden (Cput rs1 rs2) (Illegal word) refl refl
  same_target outcome pc insn = refl

-- ---- steps

-- what a machine fetches of a word, by what the extended table has for it
pub fetched_as : (Means : Meaning → Type 0) (has_unit : ℕ → Bool) (has_hidden : Bool) → StandAs Means has_unit has_hidden
    → (program : Program) (state : State) (word : ℕ) (reading : Insn) → IsInsnAtX word reading
    → ((meaning : Meaning) → Means meaning → fetched meaning program state ≡ Some (meaning.insn word))
    → (meaning : Meaning) → Means meaning → fetched meaning program state ≡ Some (standing has_unit has_hidden word reading)
fetched_as Means has_unit has_hidden stand program state word reading stands is meaning means =
    is meaning means ∙ ap Some (stand meaning means word reading stands)

module _ (program : Program) (state : State) where
  -- a word of the text is fetched
  pub fetched_is : (meaning : Meaning) (word : ℕ) → (state.pc % 4 == 0) ≡ true → in_text program state.pc ≡ true
      → word_at state.core.memory state.pc ≡ Some word → fetched meaning program state ≡ Some (meaning.insn word)
  fetched_is meaning word aligned text at = rw (aligned, text, at) refl

  -- where there is no word of the text
  pub nothing_fetched : (meaning : Meaning) → word_place program.text state.pc ≡ None → fetched meaning program state ≡ None
  nothing_fetched meaning none = rw (no_word program state.pc none) refl

  module _ (Means : Meaning → Type 0) (after : State) (insn : Insn)
      (is : (meaning : Meaning) → Means meaning → fetched meaning program state ≡ Some insn) where
    -- a step makes what is fetched
    pub made : (outcome : Outcome)
        → ((meaning : Meaning) → Means meaning → LeadsTo state (execute meaning.units program insn state) after outcome)
        → IsStep Means program state after outcome
    made outcome executed meaning means = rw (is meaning means) (executed meaning means)

    -- a step executes what is fetched
    pub executed_is : {E : Type 0} (result : Result Outcome E)
        → IfOk result (λ outcome. (meaning : Meaning) → Means meaning → LeadsTo state (execute meaning.units program insn state) after outcome)
        → IfOk result (IsStep Means program state after)
    executed_is (Ok outcome) executed = made outcome executed
    executed_is (Err e) executed = tt

    -- where memory runs out behind a step, one step was made
    pub behind_one : (outcome : Outcome) {A E : Type 0} (result : Result A E)
        → ((meaning : Meaning) → Means meaning → LeadsTo state (execute meaning.units program insn state) after outcome)
        → OnErr result (IsReached Means program state 1 after)
    behind_one outcome (Ok value) executed = tt
    behind_one outcome (Err e) executed = record {
      steps = 1;
      within = le_refl 1;
      there = λ meaning means. sym (ap (λ (r : Reached State). r.state) (made outcome executed meaning means));
    }
