-- The line that is put is that of the refusal.
use Rattle.std.specs.Fmt.{digits}
use Rattle.ci_calls.proofs.refusals.refuse_memory.Goals as goal

pub returns-clause-put : goal.returns-clause-put
unfolding digits
returns-clause-put g c = c.put_fault.ensures.put

pub returns-clause-called : goal.returns-clause-called
unfolding digits
returns-clause-called g c = c.put_fault.ensures.called
