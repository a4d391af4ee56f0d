-- Why an executable is not read.
use Rattle.std.proofs.lemmas.Result.{err_from_is_err_and}
use Rattle.ci_commands.proofs.best.file.read_block_file.Goals as goal

pub returns-in_err-image-in-Some-clause-reading : goal.returns-in_err-image-in-Some-clause-reading
returns-in_err-image-in-Some-clause-reading g c =
    let p = err_from_is_err_and c.from_residual.result c.from_residual.ensures.1 in
    rw (p.1, p.2, c.in-Some.is) c.in_err-image-in-Some.ensures
