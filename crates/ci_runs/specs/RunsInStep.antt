-- For private laws: two runs of one program, in whose texts blocks compute alike, step by step.
use Rattle.std.specs.Prelude.{◌≡◌, ℕ, suc, ◌<◌, true, false, List, length, take, Some, None}
use Rattle.std.specs.FinSet as finite
use Rattle.std.specs.Ordering.{nat_cmp}
use Rattle.ci_isa.specs.declared.instruction.Insn.{Insn}
use Rattle.ci_isa.specs.Effects.{ends_block}
use Rattle.ci_isa.specs.Sequences.{nth_insn}
use Rattle.ci_machine.specs.Agreement.{AgreeOn, AgreeOutside}
use Rattle.ci_machine.specs.Blocks.{StandAt, behind}
use Rattle.ci_machine.specs.Outcomes.{reached}
use Rattle.ci_machine.specs.Programs.{Program, State, in_text}
use Rattle.ci_machine.specs.RunEvents.{IsTame, jalr_target}
use Rattle.ci_machine.specs.Runs.{before_step, is_made}
use Rattle.ci_machine.specs.Steps.{Meaning, fetched, step}
use Rattle.ci_machine.specs.Texts.{HasText}
use Rattle.ci_machine.specs.Touches.{LeavesTextFor}
use Rattle.ci_rename.specs.InStep.{ArePlain, HasEntries}
use Rattle.ci_rename.specs.OtherRegisters.{ComputeAlike}
use Rattle.ci_runs.specs.Places.{IsPlace, LeadsTo, TwoRuns, is_word, new, old}

-- Where the second run makes its step i, the first one does, and a JALR there leads alike.
abbrev pub JumpAlike : Meaning → Program → State → State → ℕ → Type 0
JumpAlike meaning program old new i =
    is_made meaning program new i ≡ true
    → (is_made meaning program old i ≡ true)
    × (jalr_target meaning program (before_step meaning program new i)
    ≡ jalr_target meaning program (before_step meaning program old i))

module _ (runs : TwoRuns) where
  -- A block stands at a listed leader, and in the other text one that computes alike. No other listed leader stands in
  -- it, and its last instruction leads to such a place.
  pub record Standing (leader : ℕ) : Type 0 where
    pub insns : List Insn
    pub new : List Insn
    pub live_out : finite.FinSet nat_cmp
    pub some : 0 < length insns
    pub computes : ComputeAlike live_out insns new
    pub plain : ArePlain insns
    pub acts : (k : ℕ) → suc k < length insns → ends_block (nth_insn insns k) ≡ false
    pub entries : HasEntries (runs.live leader) insns live_out
    pub old_stands : StandAt runs.meaning runs.program runs.old_opens.core.memory leader insns
    pub new_stands : StandAt runs.meaning runs.program runs.new_opens.core.memory leader new
    pub one_leader : (d : ℕ) → 0 < d → d < length insns → runs.is_listed (behind (take d insns) leader) ≡ false
    pub leads :
        (state : State) (k : ℕ) → suc k ≡ length insns → state.pc ≡ behind (take k insns) leader
        → fetched runs.meaning runs.program state ≡ Some (nth_insn insns k)
        → (reached state (step runs.meaning runs.program state)).end ≡ None
        → ((target : ℕ) → jalr_target runs.meaning runs.program state ≡ Some target
        → in_text runs.program target ≡ true → runs.is_listed target ≡ true)
        → LeadsTo runs live_out (reached state (step runs.meaning runs.program state)).state.pc

  -- Both runs open at one place and agree on what is live there and on all outside the text, and such a block stands at
  -- each listed leader, which is a word of the text.
  pub record OpenAlike : Type 0 where
    pub old_text : HasText runs.program runs.old_opens.core
    pub new_text : HasText runs.program runs.new_opens.core
    pub pc : runs.old_opens.pc ≡ runs.new_opens.pc
    pub place : IsPlace runs runs.old_opens.pc
    pub outside : AgreeOutside (in_text runs.program) runs.old_opens.core runs.new_opens.core
    pub agree : AgreeOn (runs.live runs.old_opens.pc) runs.old_opens.core runs.new_opens.core
    pub listed_word : (address : ℕ) → runs.is_listed address ≡ true → is_word runs.program address ≡ true
    pub standing : (leader : ℕ) → runs.is_listed leader ≡ true → Standing leader

  -- After n steps both runs have come to one end, or to none, and stand at one pc, with the same output, heap end and
  -- input left and the same memory outside the text. At a listed leader they agree on what is live there. The second
  -- has left the text alone, too, and each JALR has led alike.
  pub record AreInOne (n : ℕ) : Type 0 where
    pub end : (old runs n).end ≡ (new runs n).end
    pub outside : AgreeOutside (in_text runs.program) (old runs n).state.core (new runs n).state.core
    pub pc : (old runs n).state.pc ≡ (new runs n).state.pc
    pub live :
        runs.is_listed (old runs n).state.pc ≡ true
        → AgreeOn (runs.live (old runs n).state.pc) (old runs n).state.core (new runs n).state.core
    pub leaves : LeavesTextFor runs.meaning runs.program n runs.new_opens
    pub jumps : (i : ℕ) → i < n → JumpAlike runs.meaning runs.program runs.old_opens runs.new_opens i

-- Two runs that open alike stay in step as long as the first is tame.
abbrev pub RunsStayInStep : Type 0
RunsStayInStep =
    (runs : TwoRuns) → OpenAlike runs → (n : ℕ)
    → IsTame runs.meaning runs.program runs.is_listed n runs.old_opens → AreInOne runs n
