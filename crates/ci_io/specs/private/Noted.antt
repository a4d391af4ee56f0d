-- For private contracts: the call that the code notes.
use Rattle.ci_io.specs.declared.histories.NotedCall.{NotedCall}
use Rattle.ci_io.specs.declared.histories.NotedCall.TheVariants as noted
use Rattle.ci_io.specs.CallLists.{Call, read, write, put, answer_of}

abbrev pub call_of : NotedCall → Call
call_of (noted.Read name limit answer) = read name.now limit (answer_of answer.now)
call_of (noted.Write name bytes outcome) = write name.now bytes.now outcome.now
call_of (noted.Put bytes outcome) = put bytes.now outcome.now
