-- A folded block has the same effect as the block, for everybody.
use Rattle.std.specs.Prelude.{◌≡◌, ℕ, suc, ◌<◌, ◌⊎◌, Bool, true, false, List, [], ◌∷◌, length, take, drop}
use Rattle.std.specs.FinSet as finite
use Rattle.std.specs.Ordering.{nat_cmp}
use Rattle.ci_isa.specs.declared.instruction.Insn.{Insn}
use Rattle.ci_isa.specs.Sequences.{nth_insn}
use Rattle.ci_lat.specs.Latencies.{Latencies}
use Rattle.ci_machine.specs.Cores.{Core, hidden_operands}
use Rattle.ci_machine.specs.Outcomes.{at_start}
use Rattle.ci_machine.specs.Actions.{Units}
use Rattle.ci_machine.specs.Agreement.{act_all, AgreeOutside, AgreeOn, AreRelated, AllLeaveText}
use Rattle.ci_elf.specs.WordLists.{AreWords}
use Rattle.ci_machine.specs.Words.{AreTaken, HoldsWords, MakesWords}
use Rattle.ci_cut.specs.declared.graph.Limits.{Limits}
use Rattle.ci_cut.specs.Gain.{Fits}
use Rattle.ci_dfg.specs.BlockGraph.{graph_of, is_joined}
use Rattle.ci_unit.specs.Units as terms
use Rattle.ci_rewrite.specs.Blocks.{IsBlock, AreNamed, Covers, live_behind}
use Rattle.ci_rewrite.specs.BareWords.{OfBareWords}
use Rattle.ci_rewrite.specs.FoldedBlock.{IsFolded}

-- ---- units

-- The unit of this number gives the same, whatever words it takes from the hidden operands.
abbrev pub IgnoresOperands : Units → ℕ → Type 0
IgnoresOperands units number =
    (a b c d e : ℕ) → AreWords (a ∷ b ∷ c ∷ d ∷ e ∷ [])
    → units.results number (a ∷ b ∷ c ∷ d ∷ e ∷ []) ≡ units.results number (a ∷ b ∷ c ∷ 0 ∷ 0 ∷ [])

-- Units take the hidden operands behind what their words name. Those of the unit words in a list make words of words,
-- and the unit of a word that no `cput` stands directly before gives the same whatever the hidden operands are.
pub record Serve (units : Units) (insns : List Insn) : Type 0 where
  pub operands : (number : ℕ) → units.further number ≡ hidden_operands
  pub bare : OfBareWords (IgnoresOperands units) insns
  pub words : (k : ℕ) → k < length insns → MakesWords units (nth_insn insns k)

-- The unit of this number makes words of words, and gives of all five what the cut's unit gives, and 0 where that has
-- no more outputs.
pub record ComputesUnit (units : Units) (number : ℕ) (unit : terms.Unit) : Type 0 where
  pub words : (values : List ℕ) → AreTaken units number values → AreWords (units.results number values)
  pub value :
      (a b c d e : ℕ) → AreWords (a ∷ b ∷ c ∷ d ∷ e ∷ [])
      → terms.IsTripleOf unit (a ∷ b ∷ c ∷ d ∷ e ∷ []) (units.results number (a ∷ b ∷ c ∷ d ∷ e ∷ []))

-- ---- from one core

-- One list of actions does what another does, as far as a set of registers goes: from each core of words the runs are
-- related, and where the first leaves the text alone the second does.
pub record HasSameEffect (text set : ℕ → Bool) (units : Units) (old new : List Insn) : Type 0 where
  pub runs :
      (core : Core) → HoldsWords core
      → AreRelated (λ _. false) set (act_all units old (at_start core)) (act_all units new (at_start core))
  pub leaves_text :
      (core : Core) → HoldsWords core → AllLeaveText units text old (at_start core)
      → AllLeaveText units text new (at_start core)

-- a word that stands with another one in a bundle
abbrev pub StandsInBundle : List Insn → ℕ → Type 0
StandsInBundle insns u = (is_joined insns u ≡ true) ⊎ (is_joined insns (suc u) ≡ true)

-- The words of each bundle still stand together in their order: each word that stands behind another one of its bundle
-- does so in the folded block too, and no two words of bundles stand at one place.
pub record KeepsBundles (insns folded : List Insn) : Type 0 where
  -- where the word from this place stands
  pub place : ℕ → ℕ
  pub first : (u : ℕ) → is_joined insns (suc u) ≡ true → nth_insn folded (place u) ≡ nth_insn insns u
  pub second : (u : ℕ) → is_joined insns (suc u) ≡ true → nth_insn folded (place (suc u)) ≡ nth_insn insns (suc u)
  pub behind : (u : ℕ) → is_joined insns (suc u) ≡ true → place (suc u) ≡ suc (place u)
  pub apart : (u v : ℕ) → StandsInBundle insns u → StandsInBundle insns v → place u ≡ place v → u ≡ v

-- What folding keeps of the shape of a block: its length, its end, its bundles, and that it can be folded.
pub record KeepsShape (insns : List Insn) (n : ℕ) (folded : List Insn) : Type 0 where
  pub same_length : length folded ≡ length insns
  pub same_end : drop n folded ≡ drop n insns
  pub bundles : KeepsBundles insns folded
  pub is_block : IsBlock folded n

-- What folding keeps of a block.
pub record KeepsBlock (text : ℕ → Bool) (units : Units) (insns : List Insn) (n : ℕ) (live_out : finite.FinSet nat_cmp)
    (folded : List Insn) : Type 0 where
  pub shape : KeepsShape insns n folded
  pub effect : HasSameEffect text (live_behind insns n live_out) units (take n insns) (take n folded)
  pub covers : (set : ℕ → Bool) → Covers set insns live_out → Covers set folded live_out
  pub serve : Serve units folded

-- Folding a cut that fits keeps the shape of a block,
abbrev pub FoldingKeepsShape : Type 0
FoldingKeepsShape =
    (insns : List Insn) (n : ℕ) (live_out : finite.FinSet nat_cmp) (table : Latencies) (limits : Limits)
    (cut : ℕ → Bool) (number : ℕ) (folded : List Insn)
    → IsBlock insns n → Fits (graph_of insns live_out table) limits cut → number < 32
    → IsFolded insns (graph_of insns live_out table) cut number folded
    → KeepsShape insns n folded

-- and its effect, where the units of its unit words give words, and the one of the number what the cut's unit does.
-- (Limits are at most 5 and 3.)
abbrev pub FoldingKeeps : Type 0
FoldingKeeps =
    (text : ℕ → Bool) (units : Units) (insns : List Insn) (n : ℕ) (live_out : finite.FinSet nat_cmp)
    (table : Latencies) (limits : Limits) (cut : ℕ → Bool) (number : ℕ) (folded : List Insn)
    → IsBlock insns n → AreNamed live_out
    → Fits (graph_of insns live_out table) limits cut → number < 32
    → IsFolded insns (graph_of insns live_out table) cut number folded
    → Serve units insns → ComputesUnit units number (terms.unit_of insns (graph_of insns live_out table) cut)
    → KeepsBlock text units insns n live_out folded

-- A block keeps itself,
abbrev pub BlockKeepsItself : Type 0
BlockKeepsItself =
    (text : ℕ → Bool) (units : Units) (insns : List Insn) (n : ℕ) (live_out : finite.FinSet nat_cmp)
    → IsBlock insns n → Serve units insns → KeepsBlock text units insns n live_out insns

-- and a block that is folded and folded again is kept.
abbrev pub KeepingJoins : Type 0
KeepingJoins =
    (text : ℕ → Bool) (units : Units) (insns : List Insn) (n : ℕ) (live_out : finite.FinSet nat_cmp)
    (folded last : List Insn)
    → KeepsBlock text units insns n live_out folded → KeepsBlock text units folded n live_out last
    → KeepsBlock text units insns n live_out last

-- ---- from two cores

-- The same from two cores that agree on a set that covers the block, and on memory outside the text: the runs are
-- related, and where the one of the block leaves the text alone, that of the folded block does.
abbrev pub FoldingKeepsAgreement : Type 0
FoldingKeepsAgreement =
    (text set : ℕ → Bool) (units : Units) (insns folded : List Insn) (n : ℕ) (live_out : finite.FinSet nat_cmp)
    (left right : Core)
    → IsBlock insns n → AreNamed live_out → Serve units insns
    → KeepsBlock text units insns n live_out folded → Covers set insns live_out
    → HoldsWords left → HoldsWords right → AgreeOutside text left right → AgreeOn set left right
    → AllLeaveText units text (take n insns) (at_start left)
    → AllLeaveText units text (take n folded) (at_start right)
    × AreRelated text (live_behind insns n live_out)
    (act_all units (take n insns) (at_start left))
    (act_all units (take n folded) (at_start right))
