-- The image of the file's bytes, or why they are no executable.
use Rattle.std.proofs.Common.{Ok}
use Rattle.std.proofs.lemmas.Result.{err_from_is_err_and}
use Rattle.ci_elf.specs.Rules.{IsReadAs}
use Rattle.ci_calls.specs.Files.{executable_input}
use Rattle.ci_calls.proofs.InputLaws.{one_read, first_unread, bad_executable}
use Rattle.ci_calls.proofs.inputs.read_image.Goals as goal

pub returns-in_err-image : goal.returns-in_err-image
returns-in_err-image g c =
    let p = err_from_is_err_and c.from_residual-in_err-image.result c.from_residual-in_err-image.ensures.1 in
    let file = c.in_ok-bytes.ensures in
    rw (p.1, p.2) (λ others.
    first_unread _ _ _ _ others (executable_input c.args.name.now) (Ok c.in_ok-bytes.bytes.items) _
    (file.within_limit, bad_executable _ c.in_err-image.field-0.0 c.in_err-image.ensures) file.read)

pub returns : goal.returns
returns g c =
    let is : IsReadAs c.in_ok-bytes.bytes.items (Ok c.in_ok-image.image) = c.in_ok-image.ensures in
    let file = c.in_ok-bytes.ensures in
    (c.in_ok-bytes.bytes.items, one_read _ _ _ _ _ _ file.read file.within_limit is.0, is.1)
