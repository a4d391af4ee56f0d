use Rattle.std.proofs.Common.{◌≡◌, length, subst, Some}
use Rattle.std.specs.Prelude.{IfSome}
use Rattle.std.proofs.lemmas.Result.{err_from_is_err_and}
use Rattle.ci_asm.specs.private.LabelMap.{found_in}
use Rattle.ci_asm.specs.private.Shapes.{field_of}
use Rattle.ci_asm.specs.private.Statements.{IsRead, signed_value}
use Rattle.ci_asm.proofs.AssemblySteps.{resolved-place}
use Rattle.ci_asm.proofs.ReadOperands.{fits_in}
use Rattle.ci_asm.proofs.StatementsHaveWords.{well_formed}
use Rattle.ci_asm.proofs.assembler.line_insn.Goals as goal

pub returns-in_err-number-in-Some-clause-bound : goal.returns-in_err-number-in-Some-clause-bound
returns-in_err-number-in-Some-clause-bound c =
    let p = err_from_is_err_and c.from_residual-in_err-number-in-Some.result c.from_residual-in_err-number-in-Some.ensures.1 in
    let line = c.args.line.now in
    let s = c.in-Some.statement in
    let is : c.in_ok-label.field-0.statement ≡ Some s = cc in
    let read : IsRead (length line) s = subst (λ o. IfSome o (IsRead (length line))) is c.in_ok-label.ensures.line.statement in
    rw (p.1, p.2) (resolved-place (found_in c.args.definitions.now) c.args.words
    (length line) line s s.operands.label _ read.in_line c.in_err-number-in-Some.ensures.value)

pub returns-in_ok-number-in-Some-clause-well_formed : goal.returns-in_ok-number-in-Some-clause-well_formed
returns-in_ok-number-in-Some-clause-well_formed c =
    let line = c.args.line.now in
    let s = c.in-Some.statement in
    let is : c.in_ok-label.field-0.statement ≡ Some s = cc in
    let read : IsRead (length line) s = subst (λ o. IfSome o (IsRead (length line))) is c.in_ok-label.ensures.line.statement in
    let in_field = fits_in (field_of s.mnemonic) c.in_ok-number-in-Some.number c.in_ok-number-in-Some.ensures.in_field in
    rw c.insn_of.ensures (well_formed s.mnemonic s.operands.registers (signed_value c.in_ok-number-in-Some.number) read.named read.registers in_field)
