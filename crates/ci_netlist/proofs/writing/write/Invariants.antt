use Rattle.ci_netlist.proofs.WritingLaws.{AreWritten}
use Rattle.ci_netlist.proofs.writing.write.Given as goal

abbrev pub invariant-loop-number : goal.invariant-loop-number
invariant-loop-number l = AreWritten l.nets l.number l.text.items
