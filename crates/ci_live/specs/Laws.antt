-- What the definition of live sets says: laws, which the functions of `src/laws.rt` have as their contracts.
use Rattle.std.specs.Prelude.{◌≡◌, ℕ, ◌-◌, ◌<◌, ◌⊎◌, ◌↔◌, List, map, slice_index_or, IsTrue}
use Rattle.std.specs.FinSet as set
use Rattle.std.specs.List.{Contains}
use Rattle.ci_isa.specs.declared.instruction.Insn.{Insn}
use Rattle.ci_isa.specs.Sequences.{ReadFirst, Write}
use Rattle.ci_elf.specs.Executables.{Executable, IsAscending}
use Rattle.ci_block.specs.declared.blocks.Block.{Block}
use Rattle.ci_block.specs.Blocks.{AreInOrder, Counts, end_of_block, size_of, ways_on}
use Rattle.ci_block.specs.Laws.{contents_of}
use Rattle.ci_live.specs.Analyses.{IsAnalysis}
use Rattle.ci_live.specs.Liveness.{AreLiveSets, IsSuccessor}
use Rattle.ci_live.specs.Sets.{Sets, after_block, at_leader}

-- What is live at a leader is what its block needs for what is live after it: the registers that its instructions read
-- before they write them, and those that are live after it and that none of them writes.
abbrev pub LiveIsNeeded : Type 0
LiveIsNeeded =
    (blocks : List Block) (sets : Sets) (block : Block) (r : ℕ)
    → AreInOrder blocks → AreLiveSets blocks sets → Contains blocks block
    → IsTrue (set.contains (at_leader sets block.leader) r)
    ↔ (ReadFirst block.insns.items r
    ⊎ (IsTrue (set.contains (after_block sets block.leader) r) × ¬ Write block.insns.items r))

-- What is live at a successor is live after the block.
abbrev pub LiveAtSuccessor : Type 0
LiveAtSuccessor =
    (blocks : List Block) (sets : Sets) (before after : Block) (r : ℕ)
    → AreLiveSets blocks sets → Contains blocks before → Contains blocks after → IsSuccessor before after
    → IsTrue (set.contains (at_leader sets after.leader) r)
    → IsTrue (set.contains (after_block sets before.leader) r)

-- Where a way on from a block of a file counts, it leads to a leader, and what is live there is live after the block.
abbrev pub LiveOnWays : Type 0
LiveOnWays =
    (file : Executable) (targets named : List ℕ) (blocks : List Block) (sets : Sets) (block : Block) (d : Insn)
    (address r : ℕ) → IsAscending file.ranges → IsAnalysis file targets named blocks sets → Contains blocks block
    → Counts file (ways_on (end_of_block block - 4) (slice_index_or block.insns.items (size_of block - 1) d)) address
    → Contains sets.leaders address
    × (IsTrue (set.contains (at_leader sets address) r) → IsTrue (set.contains (after_block sets block.leader) r))

-- both give the same registers at the leader and after its block
abbrev pub AgreeAt : Sets → Sets → ℕ → Type 0
AgreeAt left right leader =
    (at_leader left leader ≡ at_leader right leader) × (after_block left leader ≡ after_block right leader)

-- Blocks that say the same have the same live sets.
abbrev pub LiveSetsAreOne : Type 0
LiveSetsAreOne =
    (left right : List Block) (of_left of_right : Sets) (leader : ℕ) → map contents_of left ≡ map contents_of right
    → AreLiveSets left of_left → AreLiveSets right of_right → Contains of_left.leaders leader
    → AgreeAt of_left of_right leader

-- So a file, the known targets of JALR and the addresses that the user names determine the live sets.
abbrev pub AnalysisIsOne : Type 0
AnalysisIsOne =
    (file : Executable) (targets named : List ℕ) (left right : List Block) (of_left of_right : Sets) (leader : ℕ)
    → IsAscending file.ranges → IsAnalysis file targets named left of_left
    → IsAnalysis file targets named right of_right → Contains of_left.leaders leader
    → AgreeAt of_left of_right leader

-- What is live in a file is one of the registers x0 to x31.
abbrev pub LiveAreRegisters : Type 0
LiveAreRegisters =
    (file : Executable) (targets named : List ℕ) (blocks : List Block) (sets : Sets) (leader r : ℕ)
    → IsAnalysis file targets named blocks sets → Contains sets.leaders leader
    → IsTrue (set.contains (at_leader sets leader) r) ⊎ IsTrue (set.contains (after_block sets leader) r)
    → r < 32
