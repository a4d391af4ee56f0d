use Rattle.std.proofs.Common.{sym, subst}
use Rattle.std.specs.Prelude.{IfOk, IfErr}
use Rattle.std.proofs.lemmas.Result.{err_from_is_err_and}
use Rattle.ci_asm.specs.private.LabelMap.{found_in}
use Rattle.ci_asm.specs.private.Programs.{all_read, assembled, AreWordsIn, IsFaultIn}
use Rattle.ci_asm.specs.Lines.{lines_of}
use Rattle.ci_asm.specs.Assembly.{IsAssembly}
use Rattle.ci_asm.specs.Promised.{IsFaultOf}
use Rattle.ci_asm.proofs.AssemblySteps.{assembled-read, assembled-unread, fault_carried}
use Rattle.ci_asm.proofs.Promises.{words_told, only_told, fault_told, faults_told}
use Rattle.ci_asm.proofs.assembler.assemble.Goals as goal

pub returns-in_err-definitions-clause-fault : goal.returns-in_err-definitions-clause-fault
returns-in_err-definitions-clause-fault c =
    let p = err_from_is_err_and c.from_residual.result c.from_residual.ensures.1 in
    let text = c.args.text.now in
    let fault = subst (λ t. IsFaultIn (all_read 1 0 (lines_of t)) c.in_err-definitions.field-0.0) c.as_bytes-text.ensures.value
    c.in_err-definitions.ensures.fault in
    rw (p.1, p.2) (fault_told text c.in_err-definitions.field-0.0
    (fault_carried (all_read 1 0 (lines_of text)) (assembled text) c.in_err-definitions.field-0.0 (assembled-unread text) fault))

are_told : goal.returns-clause-words
are_told c =
    let bytes = c.as_bytes-text.result.now in
    let e = assembled-read bytes (found_in c.in_ok-definitions.definitions) c.in_ok-definitions.ensures.read c.in_ok-definitions.ensures.definitions in
    subst (λ t. IfOk c.words_of.result (λ words. IsAssembly t words.items)) c.as_bytes-text.ensures.value
    (words_told bytes c.words_of.result (λ v. v.items)
    (subst (λ r. IfOk c.words_of.result (λ words. AreWordsIn words.items r)) (sym e) c.words_of.ensures.words))

pub returns-clause-words : goal.returns-clause-words
returns-clause-words c = are_told c

pub returns-clause-only : goal.returns-clause-only
returns-clause-only c = only_told c.args.text.now c.words_of.result (λ v. v.items) (are_told c)

pub returns-clause-fault : goal.returns-clause-fault
returns-clause-fault c =
    let bytes = c.as_bytes-text.result.now in
    let e = assembled-read bytes (found_in c.in_ok-definitions.definitions) c.in_ok-definitions.ensures.read c.in_ok-definitions.ensures.definitions in
    subst (λ t. IfErr c.words_of.result (IsFaultOf t)) c.as_bytes-text.ensures.value
    (faults_told bytes c.words_of.result (subst (λ r. IfErr c.words_of.result (IsFaultIn r)) (sym e) c.words_of.ensures.fault))
