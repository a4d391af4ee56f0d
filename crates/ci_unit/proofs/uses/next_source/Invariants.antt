use Rattle.std.proofs.Common.{◌≡◌, find, drop}
use Rattle.std.specs.FinSet as set
use Rattle.ci_unit.specs.private.Reading.{is_further}
use Rattle.ci_unit.proofs.uses.next_source.Given as goal

abbrev pub invariant-loop-source : goal.invariant-loop-source
invariant-loop-source l =
    let test = is_further (set.contains l.cut) l.seen in find test l.sources ≡ find test (drop l.source-index l.sources)
