-- The modules of the file's bytes, or why there are none.
use Rattle.std.proofs.Common.{Ok, subst}
use Rattle.std.proofs.lemmas.Result.{err_from_is_err_and}
use Rattle.ci_vread.specs.Spelling.{Spell}
use Rattle.ci_calls.specs.Files.{units_input}
use Rattle.ci_calls.proofs.InputLaws.{one_read, first_unread, bad_units}
use Rattle.ci_calls.proofs.inputs.read_units.Goals as goal

pub returns-in_err-modules : goal.returns-in_err-modules
returns-in_err-modules g c =
    let p = err_from_is_err_and c.from_residual-in_err-modules.result c.from_residual-in_err-modules.ensures.1 in
    let file = c.in_ok-bytes.ensures in
    rw (p.1, p.2) (λ others.
    first_unread _ _ _ _ others (units_input c.args.name.now) (Ok c.in_ok-bytes.bytes.items) _
    (file.within_limit, bad_units _ c.in_err-modules.field-0.0 (rw c.as_slice.ensures.value at c.in_err-modules.ensures.fault)) file.read)

pub returns : goal.returns
returns g c =
    let is =
    subst (λ bytes. Spell bytes c.in_ok-modules.modules.items) c.as_slice.ensures.value c.in_ok-modules.ensures.modules in
    let file = c.in_ok-bytes.ensures in
    (c.in_ok-bytes.bytes.items, one_read _ _ _ _ _ _ file.read file.within_limit (c.in_ok-modules.modules.items, is), is)
