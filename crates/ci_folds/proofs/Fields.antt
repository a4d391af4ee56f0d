-- Lists of instructions whose fields fit.
use Rattle.std.specs.Prelude.{zero, suc, List, [], ◌∷◌, ◌++◌}
use Rattle.std.proofs.Common.{arith}
use Rattle.ci_isa.specs.declared.instruction.Insn.{Insn}
use Rattle.ci_isa.specs.FieldBounds.{FieldsFit}
use Rattle.ci_rewrite.specs.Blocks.{AllFieldsFit}

-- one more at the end
pub fit_more : (insns : List Insn) (insn : Insn) → AllFieldsFit insns → FieldsFit insn → AllFieldsFit (insns ++ insn ∷ [])
fit_more [] insn all fits zero below = fits
fit_more [] insn all fits (suc k) below = absurd (omega arith)
fit_more (first ∷ insns) insn all fits zero below = all 0 (omega arith)
fit_more (first ∷ insns) insn all fits (suc k) below = fit_more insns insn (λ j there. all (suc j) (omega arith)) fits k (omega arith)
