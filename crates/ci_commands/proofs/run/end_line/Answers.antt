use Rattle.std.proofs.Common.{append_assoc, rules}
use Rattle.ci_commands.proofs.run.end_line.Goals as goal

pub returns : goal.returns
returns c =
    let made = rw c.in_ok-end.ensures at c.format.ensures.ok in
    search (rules, append_assoc, made)
