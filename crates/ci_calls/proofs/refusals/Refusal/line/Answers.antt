use Rattle.std.proofs.Common.{append_assoc, rules}
use Rattle.ci_calls.proofs.refusals.Refusal.line.Goals as goal

pub returns : goal.returns
returns c =
    let made = rw (c.status-status.ensures, c.in_ok-text.ensures) at c.format.ensures.ok in
    search (rules, append_assoc, made)
