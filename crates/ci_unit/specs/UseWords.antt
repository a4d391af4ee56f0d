-- How a block uses a unit, for everybody, by the registers of its inputs and of its outputs: by a `cput` of the fourth
-- and the fifth input, where it has more than three, by a unit word, and by a `cread` of each output behind the first.
use Rattle.std.specs.Prelude.{ℕ, suc, Bool, if◌then◌else◌, List, [], ◌∷◌, ◌++◌, drop, slice_index}
use Rattle.ci_isa.specs.declared.instruction.Insn.{Insn}
use Rattle.ci_isa.specs.declared.instruction.Insn.TheVariants.{Unit, Cread, Cput}

-- the word that passes the inputs behind the third, where they are passed
abbrev pub put_of : Bool → List ℕ → List Insn
put_of passes inputs = if passes then Cput (slice_index inputs 3) (slice_index inputs 4) ∷ [] else []

-- The unit word of this number. Its sources are the registers of the first three inputs, x0 where there is none, and it
-- gives the first output.
abbrev pub taking : ℕ → List ℕ → List ℕ → Insn
taking number inputs outputs =
    Unit number (slice_index outputs 0) (slice_index inputs 0) (slice_index inputs 1) (slice_index inputs 2)

-- the words that read the hidden results from an index on, into these registers
abbrev pub reads_of : ℕ → List ℕ → List Insn
reads_of index [] = []
reads_of index (r ∷ registers) = Cread r index ∷ reads_of (suc index) registers

-- the words of a use, in their order
abbrev pub use_words : Bool → ℕ → List ℕ → List ℕ → List Insn
use_words passes number inputs outputs =
    put_of passes inputs ++ taking number inputs outputs ∷ reads_of 0 (drop 1 outputs)
