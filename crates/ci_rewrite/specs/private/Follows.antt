-- For private contracts: lists of which each instruction is one that what stands before it allows.
use Rattle.std.specs.Prelude.{ℕ, ⊤, List, [], ◌∷◌}
use Rattle.ci_isa.specs.declared.instruction.Insn.{Insn}
use Rattle.ci_isa.specs.declared.instruction.Insn.TheVariants.{Unit}
use Rattle.ci_dfg.specs.Bundles.{Before, a_put, left_by}

abbrev pub Follow : (Before → Insn → Type 0) → Before → List Insn → Type 0
Follow P before [] = ⊤
Follow P before (insn ∷ insns) = P before insn × Follow P (left_by insn) insns

-- what stands behind a list
abbrev pub last_of : Before → List Insn → Before
last_of before [] = before
last_of before (insn ∷ insns) = last_of (left_by insn) insns

-- the number of a unit word without a `cput` before it has the property
abbrev pub MayStand : (ℕ → Type 0) → Before → Insn → Type 0
MayStand P a_put insn = ⊤
MayStand P before (Unit number rd rs1 rs2 rs3) = P number
MayStand P before insn = ⊤
