use Rattle.std.proofs.Common.{◌+◌, ◌-◌, ◌∙◌, ap, arith}
use Rattle.std.specs.Int.{from_le_bytes, w32}
use Rattle.ci_machine.proofs.ByteLaws.{between_is, word_number}
use Rattle.ci_machine.proofs.bytes.word_at.Goals as goal

pub returns : goal.returns
returns c =
    c.from_le_bytes.ensures
    ∙ ap (from_le_bytes w32) (c.copy_from_slice.ensures.after
    ∙ between_is c.args.bytes.now c.args.index (c.args.index + 4 - c.args.index) 4 (omega arith) (omega (arith, c.requires)))
    ∙ word_number _ _ _ _
