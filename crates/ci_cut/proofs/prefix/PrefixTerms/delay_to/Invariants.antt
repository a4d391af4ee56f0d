use Rattle.std.specs.FinSet as set
use Rattle.ci_cut.specs.Representation.{row_at}
use Rattle.ci_cut.proofs.ChainsTo.{IsMaximumBut}
use Rattle.ci_cut.proofs.prefix.PrefixTerms.delay_to.Given as goal

abbrev pub invariant-loop-reader : goal.invariant-loop-reader
invariant-loop-reader l =
    IsMaximumBut (set.contains (row_at l.rows.readers l.node)) (set.contains l.self.taken) l.delays (set.contains l.readers) l.longest

abbrev pub decreases-loop-reader : goal.decreases-loop-reader
decreases-loop-reader l = set.len l.readers
