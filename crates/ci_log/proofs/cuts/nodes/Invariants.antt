use Rattle.std.proofs.Common.{◌≡◌, ◌-◌, ◌≤◌}
use Rattle.ci_log.specs.private.Reading.{nodes, set_of}
use Rattle.ci_log.proofs.CutReading.{numbers_put}
use Rattle.ci_log.proofs.cuts.nodes.Given as goal

abbrev pub invariant-loop : goal.invariant-loop
invariant-loop l = (l.low ≤ 255) × (numbers_put l.cut (nodes (256 - l.counter) l.low l.rest) ≡ set_of (nodes 256 0 l.bytes))
