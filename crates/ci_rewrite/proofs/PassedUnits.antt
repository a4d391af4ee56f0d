-- Units that take the hidden operands where their bundles pass them, and none elsewhere: what folding keeps there.
use Rattle.std.specs.Prelude.{◌≡◌, ℕ, ◌<◌, if◌then◌else◌, Bool, true, List, [], ◌∷◌, length, take}
use Rattle.std.specs.FinSet as finite
use Rattle.std.specs.Ordering.{nat_cmp}
use Rattle.ci_isa.specs.declared.instruction.Insn.{Insn}
use Rattle.ci_isa.specs.Effects.{is_among}
use Rattle.ci_isa.specs.Sequences.{nth_insn}
use Rattle.ci_lat.specs.Latencies.{Latencies}
use Rattle.ci_elf.specs.WordLists.{AreWords}
use Rattle.ci_machine.specs.Actions.{Units}
use Rattle.ci_machine.specs.Agreement.{act_all, AgreeOutside, AgreeOn, AreRelated, AllLeaveText}
use Rattle.ci_machine.specs.Cores.{Core, hidden_operands}
use Rattle.ci_machine.specs.Outcomes.{at_start}
use Rattle.ci_machine.specs.Words.{AreTaken, HoldsWords, MakesWords}
use Rattle.ci_cut.specs.declared.graph.Limits.{Limits}
use Rattle.ci_cut.specs.Gain.{Fits}
use Rattle.ci_dfg.specs.BlockGraph.{graph_of}
use Rattle.ci_dfg.specs.Bundles.{Before, another}
use Rattle.ci_rewrite.specs.private.Follows.{MayStand, Follow}
use Rattle.ci_unit.specs.Units as terms
use Rattle.ci_unit.specs.Uses.{passes}
use Rattle.ci_rewrite.specs.Blocks.{IsBlock, AreNamed, Covers, live_behind}
use Rattle.ci_rewrite.specs.FoldedBlock.{IsFolded}
use Rattle.ci_rewrite.specs.SameEffect.{HasSameEffect, KeepsShape}

-- ---- units

-- its unit takes no hidden operands, where no `cput` stands directly before it
abbrev pub MayTake : Units → Before → Insn → Type 0
MayTake units = MayStand (λ number. units.further number ≡ [])

-- Units take the hidden operands that their bundles pass, and make words of words.
pub record ServePassed (units : Units) (insns : List Insn) : Type 0 where
  pub operands : (number r : ℕ) → is_among (units.further number) r ≡ true → is_among hidden_operands r ≡ true
  pub bare : Follow (MayTake units) another insns
  pub words : (k : ℕ) → k < length insns → MakesWords units (nth_insn insns k)

-- The unit of this number takes the hidden operands only where these are passed. It makes words of words, and gives of
-- five of them what the cut's unit gives, whether it takes three or five.
pub record ComputesPassed (units : Units) (passes : Bool) (number : ℕ) (unit : terms.Unit) : Type 0 where
  pub takes : Bool
  pub further : units.further number ≡ (if takes then hidden_operands else [])
  pub passed : takes ≡ true → passes ≡ true
  pub words : (values : List ℕ) → AreTaken units number values → AreWords (units.results number values)
  pub value :
      (a b c d e : ℕ) → AreWords (a ∷ b ∷ c ∷ d ∷ e ∷ [])
      → terms.IsTripleOf unit (a ∷ b ∷ c ∷ d ∷ e ∷ []) (units.results number (a ∷ b ∷ c ∷ (if takes then d ∷ e ∷ [] else [])))

-- ---- what folding keeps

pub record KeepsPassed (text : ℕ → Bool) (units : Units) (insns : List Insn) (n : ℕ) (live_out : finite.FinSet nat_cmp)
    (folded : List Insn) : Type 0 where
  pub shape : KeepsShape insns n folded
  pub effect : HasSameEffect text (live_behind insns n live_out) units (take n insns) (take n folded)
  pub covers : (set : ℕ → Bool) → Covers set insns live_out → Covers set folded live_out

abbrev pub FoldingKeepsPassed : Type 0
FoldingKeepsPassed =
    (text : ℕ → Bool) (units : Units) (insns : List Insn) (n : ℕ) (live_out : finite.FinSet nat_cmp)
    (table : Latencies) (limits : Limits) (cut : ℕ → Bool) (number : ℕ) (folded : List Insn)
    → IsBlock insns n → AreNamed live_out
    → Fits (graph_of insns live_out table) limits cut → number < 32
    → IsFolded insns (graph_of insns live_out table) cut number folded
    → ServePassed units insns → ComputesPassed units (passes (graph_of insns live_out table) cut) number (terms.unit_of insns (graph_of insns live_out table) cut)
    → KeepsPassed text units insns n live_out folded

-- and from two cores
abbrev pub PassedKeepsAgreement : Type 0
PassedKeepsAgreement =
    (text set : ℕ → Bool) (units : Units) (insns folded : List Insn) (n : ℕ) (live_out : finite.FinSet nat_cmp)
    (left right : Core)
    → IsBlock insns n → AreNamed live_out → ServePassed units insns
    → KeepsPassed text units insns n live_out folded → Covers set insns live_out
    → HoldsWords right → AgreeOutside text left right → AgreeOn set left right
    → AllLeaveText units text (take n insns) (at_start left)
    → AllLeaveText units text (take n folded) (at_start right)
    × AreRelated text (live_behind insns n live_out)
    (act_all units (take n insns) (at_start left))
    (act_all units (take n folded) (at_start right))
