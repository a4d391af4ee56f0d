-- The netlists whose text the file is, or why there are none.
use Rattle.std.proofs.Common.{Ok}
use Rattle.std.proofs.lemmas.Result.{err_from_is_err_and}
use Rattle.ci_calls.specs.Files.{nets_input}
use Rattle.ci_calls.proofs.InputLaws.{one_read, first_unread, bad_nets}
use Rattle.ci_calls.proofs.inputs.read_nets.Goals as goal

pub returns-in_err-nets : goal.returns-in_err-nets
returns-in_err-nets g c =
    let p = err_from_is_err_and c.from_residual-in_err-nets.result c.from_residual-in_err-nets.ensures.1 in
    let file = c.in_ok-bytes.ensures in
    rw (p.1, p.2) (λ others.
    first_unread _ _ _ _ others (nets_input c.args.name.now) (Ok c.in_ok-bytes.bytes.items) _
    (file.within_limit, bad_nets _ c.in_err-nets.field-0.0 (rw c.as_slice.ensures.value at c.in_err-nets.ensures.fault)) file.read)

pub returns : goal.returns
returns g c =
    let is = rw c.as_slice.ensures.value at c.in_ok-nets.ensures.nets in
    let file = c.in_ok-bytes.ensures in
    (c.in_ok-bytes.bytes.items, one_read _ _ _ _ _ _ file.read file.within_limit (c.in_ok-nets.nets.items, is), is)
