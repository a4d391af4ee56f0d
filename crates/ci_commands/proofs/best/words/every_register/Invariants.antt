use Rattle.std.proofs.Common.{◌≡◌, true}
use Rattle.ci_word.specs.Numbers.{set_below}
use Rattle.ci_commands.proofs.best.words.every_register.Given as goal

abbrev pub invariant-loop-register : goal.invariant-loop-register
invariant-loop-register l = l.registers ≡ set_below l.register (λ _. true)
