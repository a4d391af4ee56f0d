use Rattle.std.proofs.Common.{ℕ, ◌↔◌, drop}
use Rattle.ci_isa.specs.Sequences.{ReadFirst, Write}
use Rattle.ci_live.specs.private.Flows.{Has}
use Rattle.ci_live.proofs.flow.effects.Given as goal

abbrev pub invariant-loop-place : goal.invariant-loop-place
invariant-loop-place l = record {
  uses : (r : ℕ) → Has l.uses r ↔ ReadFirst (drop l.place l.insns) r;
  defs : (r : ℕ) → Has l.defs r ↔ Write (drop l.place l.insns) r;
}
