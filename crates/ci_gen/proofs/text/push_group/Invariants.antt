use Rattle.std.proofs.Common.{◌≡◌, ℕ, ◌+◌, ◌*◌}
use Rattle.ci_gen.specs.Draws.{state_of}
use Rattle.ci_gen.specs.private.Pushed.{ArePushed}
use Rattle.ci_gen.proofs.OperationLaws.{operations}
use Rattle.ci_gen.proofs.text.push_group.Given as goal

-- so many operations of the group were appended
abbrev pub invariant-loop : goal.invariant-loop
invariant-loop l = record {
  words : (seed n : ℕ) → l.initial.generator.state ≡ state_of seed (32 * n)
      → ArePushed l.initial.text.items l.text.items (operations seed n l.counter);
  moves : (seed n : ℕ) → l.initial.generator.state ≡ state_of seed (32 * n)
      → l.generator.state ≡ state_of seed (32 * n + 4 * l.counter);
}
