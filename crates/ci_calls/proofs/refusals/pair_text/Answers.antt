use Rattle.std.proofs.Common.{append_assoc, rules}
use Rattle.ci_calls.proofs.refusals.pair_text.Goals as goal

pub returns : goal.returns
returns c = search (rules, append_assoc)
