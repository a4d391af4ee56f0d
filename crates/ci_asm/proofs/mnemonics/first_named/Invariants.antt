use Rattle.std.proofs.Common.{◌≡◌, drop}
use Rattle.std.specs.Prelude.{find}
use Rattle.ci_asm.specs.private.Shapes.{is_named}
use Rattle.ci_asm.proofs.mnemonics.first_named.Given as goal

-- the first with the name is not among those that were looked at
abbrev pub invariant-loop-mnemonic : goal.invariant-loop-mnemonic
invariant-loop-mnemonic l = find (is_named l.text) (drop l.mnemonic-index l.mnemonics) ≡ find (is_named l.text) l.mnemonics
