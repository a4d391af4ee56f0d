use Rattle.std.proofs.Common.{◌≡◌, drop}
use Rattle.ci_reading.specs.LineReading.{word}
use Rattle.ci_reading.proofs.fields.word.Given as goal

abbrev pub invariant-loop-due : goal.invariant-loop-due
invariant-loop-due l = word {K = Unit {0}} (drop l.due-index l.expected) l.rest ≡ word l.expected l.bytes
