-- An executable in whose blocks cuts were folded, one after the other.
use Rattle.std.specs.Prelude.{◌≡◌, ℕ, ◌+◌, ◌*◌, ◌<◌, ◌==◌, Bool, pos, ℤ, ◌+ℤ◌, List, [], ◌∷◌, All, Ok}
use Rattle.std.specs.Prelude.{length, map, slice_index, if◌then◌else◌}
use Rattle.std.specs.FinSet as finite
use Rattle.std.specs.List.{Contains}
use Rattle.std.specs.Ordering.{nat_cmp}
use Rattle.ci_isa.specs.declared.instruction.Insn.{Insn}
use Rattle.ci_isa.specs.Sequences.{nth_insn}
use Rattle.ci_isa.specs.Table.{IsWordOf}
use Rattle.ci_lat.specs.Latencies.{Latencies as Table}
use Rattle.ci_elf.specs.Executables.{text_word}
use Rattle.ci_elf.specs.Rules.{IsReadAs}
use Rattle.ci_elf.specs.TextChanges.{ChangeText}
use Rattle.ci_block.specs.declared.blocks.Block.{Block}
use Rattle.ci_block.specs.CustomWords.{HasNoCustomWord}
use Rattle.ci_live.specs.Analyses.{IsAnalysis}
use Rattle.ci_live.specs.Sets.{after_block}
use Rattle.ci_verilog.specs.Modules.{Module, IsModule}
use Rattle.ci_machine.specs.Words.{AreBytes}
use Rattle.ci_cut.specs.declared.graph.Limits.{Limits}
use Rattle.ci_cut.specs.Gain.{Fits, gain}
use Rattle.ci_cut.specs.Hardware.{hardware}
use Rattle.ci_dfg.specs.BlockGraph.{graph_of}
use Rattle.ci_unit.specs.Units.{unit_of}
use Rattle.ci_rewrite.specs.FoldedBlock.{IsFolded}
use Rattle.ci_rewrite.specs.ComputedUnits.{ComputeUnit}
use Rattle.ci_runs.specs.WholeRuns.{Rewriting, Saving}

-- the numbers together
abbrev pub total : List ℤ → ℤ
total [] = pos 0
total (number ∷ numbers) = number +ℤ total numbers

-- what the cuts of the block at the leader save each time it is entered
abbrev pub saved_at : List Saving → ℕ → ℤ
saved_at [] leader = pos 0
saved_at (saving ∷ savings) leader =
    if saving.leader == leader then saving.gain +ℤ saved_at savings leader else saved_at savings leader

module _ (modules : List Module) (live_out : finite.FinSet nat_cmp) (table : Table) (limits : Limits) where
  -- The second list is the first one with cuts folded, one after the other: each fits the block in which it is folded,
  -- and the module of its number has at all words the values of its unit, and takes its cycles. These are the gains of
  -- the cuts, that of the last one first.
  pub data AreFolds (first : List Insn) : List Insn → List ℤ → Type 0 where
    none : AreFolds first first []
    more :
        {insns folded : List Insn} {gains : List ℤ} (cut : ℕ → Bool) (number : ℕ)
        → AreFolds first insns gains
        → Fits (graph_of insns live_out table) limits cut → number < 32
        → IsFolded insns (graph_of insns live_out table) cut number folded
        → ComputeUnit modules number (unit_of insns (graph_of insns live_out table) cut)
        → slice_index (map (λ m. m.cycles) modules) number ≡ hardware (graph_of insns live_out table) cut
        → AreFolds first folded (gain (graph_of insns live_out table) cut ∷ gains)

module _ (rewriting : Rewriting) (table : Table) (savings : List Saving) where
  -- Cuts of the block are folded, the folded block stands in the new file, and the savings of its leader are their
  -- gains.
  pub record IsFoldedBlock (limits : Limits) (block : Block) : Type 0 where
    pub insns : List Insn
    pub gains : List ℤ
    pub folds :
        AreFolds rewriting.modules (after_block rewriting.live block.leader) table limits block.insns.items insns gains
    pub words :
        (k : ℕ) → k < length insns
        → IsWordOf (text_word rewriting.new (block.leader + 4 * k)) (nth_insn insns k)
    pub gains_are : saved_at savings block.leader ≡ total gains

  -- The new file is the old one, which has no custom word, with such blocks in place: no byte outside the text differs.
  -- Both are of bytes. Of text words in no block nothing is said: no tame run comes to them.
  pub record IsFoldedFile : Type 0 where
    pub limits : Limits
    pub targets : List ℕ
    pub named : List ℕ
    pub blocks : List Block
    pub old_bytes : List ℕ
    pub old_is : IsReadAs old_bytes (Ok rewriting.old)
    pub old_of_bytes : AreBytes rewriting.old.bytes
    pub plain : HasNoCustomWord rewriting.old
    pub analysis : IsAnalysis rewriting.old targets named blocks rewriting.live
    pub new_is : rewriting.new ≡ record rewriting.old { bytes = rewriting.new.bytes }
    pub new_of_bytes : AreBytes rewriting.new.bytes
    pub text_alone : ChangeText rewriting.old rewriting.new.bytes
    pub modules_are : All IsModule rewriting.modules
    pub each : (block : Block) → Contains blocks block → IsFoldedBlock limits block
    pub listed : All (λ saving. Contains rewriting.live.leaders saving.leader) savings
