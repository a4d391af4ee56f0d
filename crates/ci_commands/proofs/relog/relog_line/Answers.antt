use Rattle.std.proofs.Common.{append_assoc, rules}
use Rattle.ci_commands.proofs.relog.relog_line.Goals as goal

pub returns : goal.returns
returns c =
    let made = rw c.version_number-number.ensures at c.format.ensures.ok in
    search (rules, append_assoc, made)
