use Rattle.std.proofs.Common.{◌+◌, ◌-◌, ◌∙◌, ap, arith}
use Rattle.std.specs.Int.{from_le_bytes, w16}
use Rattle.ci_machine.proofs.ByteLaws.{between_is, half_number}
use Rattle.ci_machine.proofs.bytes.half_at.Goals as goal

pub returns : goal.returns
returns c =
    c.from.ensures ∙ c.from_le_bytes.ensures
    ∙ ap (from_le_bytes w16) (c.copy_from_slice.ensures.after
    ∙ between_is c.args.bytes.now c.args.index (c.args.index + 2 - c.args.index) 2 (omega arith) (omega (arith, c.requires)))
    ∙ half_number _ _
