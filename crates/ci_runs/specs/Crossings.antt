-- For private laws: two runs of one program, in whose texts blocks differ by folds, from leader to leader.
use Rattle.std.specs.Prelude.{◌≡◌, ℕ, ◌+◌, ◌<◌, true, false, List, length, take, Some, None}
use Rattle.std.specs.FinSet as finite
use Rattle.std.specs.Ordering.{nat_cmp}
use Rattle.ci_isa.specs.declared.instruction.Insn.{Insn}
use Rattle.ci_isa.specs.Sequences.{nth_insn}
use Rattle.ci_machine.specs.Agreement.{AgreeOutside, AgreeOn}
use Rattle.ci_machine.specs.Blocks.{StandAt, behind}
use Rattle.ci_machine.specs.Outcomes.{reached}
use Rattle.ci_machine.specs.Programs.{State, in_text}
use Rattle.ci_machine.specs.RunEvents.{jalr_target}
use Rattle.ci_machine.specs.Runs.{after}
use Rattle.ci_machine.specs.Steps.{fetched, step}
use Rattle.ci_machine.specs.Touches.{LeavesTextFor}
use Rattle.ci_rewrite.specs.Blocks.{IsBlock, AreNamed, Covers}
use Rattle.ci_rewrite.specs.SameEffect.{KeepsBlock, Serve}
use Rattle.ci_runs.specs.Places.{IsPlace, LeadsTo, TwoRuns, is_word, new, old}

module _ (runs : TwoRuns) where
  -- ---- blocks

  -- A block stands at a listed leader, and in the other text one that is folded. Its live set covers it, no other
  -- listed leader stands in it, and behind it, or with its last instruction, it leads to such a place.
  pub record Crossing (leader : ℕ) : Type 0 where
    pub insns : List Insn
    pub folded : List Insn
    pub n : ℕ
    pub live_out : finite.FinSet nat_cmp
    pub some : 0 < length insns
    pub block : IsBlock insns n
    pub named : AreNamed live_out
    pub serve : Serve runs.meaning.units insns
    pub keeps : KeepsBlock (in_text runs.program) runs.meaning.units insns n live_out folded
    pub covers : Covers (runs.live leader) insns live_out
    pub old_stands : StandAt runs.meaning runs.program runs.old_opens.core.memory leader insns
    pub new_stands : StandAt runs.meaning runs.program runs.new_opens.core.memory leader folded
    pub one_leader : (d : ℕ) → 0 < d → d < length insns → runs.is_listed (behind (take d insns) leader) ≡ false
    pub onto : n ≡ length insns → LeadsTo runs live_out (behind (take n insns) leader)
    pub on_from :
        (state : State) → n < length insns → state.pc ≡ behind (take n insns) leader
        → fetched runs.meaning runs.program state ≡ Some (nth_insn insns n)
        → (reached state (step runs.meaning runs.program state)).end ≡ None
        → ((target : ℕ) → jalr_target runs.meaning runs.program state ≡ Some target
        → in_text runs.program target ≡ true → runs.is_listed target ≡ true)
        → LeadsTo runs live_out (reached state (step runs.meaning runs.program state)).state.pc

  -- ---- runs

  -- after so many steps the old run stands at a listed leader
  pub record AtLeader (n : ℕ) : Type 0 where
    pub on : (old runs n).end ≡ None
    pub listed : runs.is_listed (old runs n).state.pc ≡ true

  -- Both runs stand at one such place after k steps, and agree on what is live there. The new one has left the text
  -- alone.
  pub record Meet (k : ℕ) : Type 0 where
    pub old_on : (old runs k).end ≡ None
    pub new_on : (new runs k).end ≡ None
    pub pc : (old runs k).state.pc ≡ (new runs k).state.pc
    pub place : IsPlace runs (old runs k).state.pc
    pub outside : AgreeOutside (in_text runs.program) (old runs k).state.core (new runs k).state.core
    pub agree : AgreeOn (runs.live (old runs k).state.pc) (old runs k).state.core (new runs k).state.core
    pub leaves : LeavesTextFor runs.meaning runs.program k runs.new_opens

  -- After k steps both runs go through a block and the folded one, up to a last instruction that ends it.
  pub record Through (k : ℕ) (crossing : Crossing (old runs k).state.pc) : Type 0 where
    pub old_stands :
        StandAt runs.meaning runs.program (old runs k).state.core.memory (old runs k).state.pc crossing.insns
    pub new_stands :
        StandAt runs.meaning runs.program (new runs k).state.core.memory (new runs k).state.pc crossing.folded
    pub old_leaves : LeavesTextFor runs.meaning runs.program crossing.n (old runs k).state
    pub new_leaves : LeavesTextFor runs.meaning runs.program crossing.n (new runs k).state
    pub old_goes : (after runs.meaning runs.program crossing.n (old runs k).state).end ≡ None
    pub new_goes : (after runs.meaning runs.program crossing.n (new runs k).state).end ≡ None
    pub apart : (d : ℕ) → 0 < d → d < length crossing.insns → ¬ AtLeader (k + d)

  -- What both runs go by from a front after k steps, in m steps more: the crossing of the leader there, or a fetch
  -- where there is no text.
  pub data GoBy (crossing : (leader : ℕ) → runs.is_listed leader ≡ true → Crossing leader) (k m : ℕ) : Type 0 where
    block :
        (listed : runs.is_listed (old runs k).state.pc ≡ true)
        → Through k (crossing (old runs k).state.pc listed) → length (crossing (old runs k).state.pc listed).insns ≡ m
        → GoBy crossing k m
    fetch : is_word runs.program (old runs k).state.pc ≡ false → m ≡ 1 → GoBy crossing k m
