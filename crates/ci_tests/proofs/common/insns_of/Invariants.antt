use Rattle.std.specs.Prelude.{All}
use Rattle.ci_isa.specs.FieldBounds.{FieldsFit}
use Rattle.ci_tests.proofs.common.insns_of.Given as goal

abbrev pub invariant-loop-word : goal.invariant-loop-word
invariant-loop-word l = All FieldsFit l.insns.items
