use Rattle.std.proofs.Common.{append_assoc, rules}
use Rattle.ci_find.proofs.find.summary.Goals as goal

pub returns : goal.returns
returns c =
    let numbers = rw (c.takes-cuts.ensures, c.skips-skipped.ensures, c.len-units.ensures.value) at c.format.ensures.ok in
    let made = rw c.entries-entries.ensures.entries at numbers in
    search (rules, append_assoc, made)
