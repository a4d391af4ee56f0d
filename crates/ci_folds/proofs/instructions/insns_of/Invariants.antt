use Rattle.ci_rewrite.specs.Blocks.{AllFieldsFit}
use Rattle.ci_folds.proofs.instructions.insns_of.Given as goal

abbrev pub invariant-loop-word : goal.invariant-loop-word
invariant-loop-word l = AllFieldsFit l.insns.items
