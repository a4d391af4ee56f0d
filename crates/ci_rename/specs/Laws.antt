-- What holds of renamed blocks: the contracts of the functions of `src/laws.rt`.
use Rattle.std.specs.Prelude.{◌≡◌, ℕ, ◌<◌, List, length}
use Rattle.std.specs.FinSet as finite
use Rattle.std.specs.Ordering.{nat_cmp}
use Rattle.ci_isa.specs.declared.instruction.Insn.{Insn}
use Rattle.ci_isa.specs.FieldBounds.{FieldsFit}
use Rattle.ci_isa.specs.Sequences.{nth_insn}
use Rattle.ci_rename.specs.OtherRegisters.{ComputeAlike}
use Rattle.ci_rename.specs.Renaming.{IsFree, IsLocal, IsRenamed, renamed}
use Rattle.ci_rename.specs.InStep.{ArePlain}

-- A block in which a local value takes a free register computes as it did.
abbrev pub RenamingComputesAlike : Type 0
RenamingComputesAlike =
    (live_out : finite.FinSet nat_cmp) (insns : List Insn) (i r to : ℕ)
    → ArePlain insns → IsLocal live_out insns i r → IsFree live_out insns to
    → ComputeAlike live_out insns (renamed insns i to)

-- A renamed block computes as the block did.
abbrev pub RenamedBlocksComputeAlike : Type 0
RenamedBlocksComputeAlike =
    (live_out : finite.FinSet nat_cmp) (insns new : List Insn) (values : ℕ)
    → ArePlain insns → IsRenamed live_out insns new values → ComputeAlike live_out insns new

-- There is one renamed block, and one number of its values.
abbrev pub RenamedIsOne : Type 0
RenamedIsOne =
    (live_out : finite.FinSet nat_cmp) (insns first second : List Insn) (values others : ℕ)
    → IsRenamed live_out insns first values → IsRenamed live_out insns second others
    → (first ≡ second) × (values ≡ others)

-- the fields of each instruction are within their places in a word (as in ci_rewrite)
abbrev pub AllFieldsFit : List Insn → Type 0
AllFieldsFit insns = (k : ℕ) → k < length insns → FieldsFit (nth_insn insns k)

-- So they are in a renamed block.
abbrev pub RenamedFieldsFit : Type 0
RenamedFieldsFit =
    (live_out : finite.FinSet nat_cmp) (insns new : List Insn) (values : ℕ)
    → IsRenamed live_out insns new values → AllFieldsFit insns → AllFieldsFit new
