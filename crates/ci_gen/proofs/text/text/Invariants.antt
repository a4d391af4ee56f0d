use Rattle.std.proofs.Common.{◌≡◌, [], ◌*◌}
use Rattle.ci_gen.specs.Draws.{state_of}
use Rattle.ci_gen.specs.private.Pushed.{ArePushed}
use Rattle.ci_gen.specs.Texts.{groups}
use Rattle.ci_gen.proofs.text.text.Given as goal

-- so many groups were appended
abbrev pub invariant-loop : goal.invariant-loop
invariant-loop l = record {
  words : ArePushed [] l.text.items (groups l.seed l.counter);
  moves : l.generator.state ≡ state_of l.seed (32 * l.counter);
}
