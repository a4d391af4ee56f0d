use Rattle.std.proofs.Common.{◌∙◌}
use Rattle.ci_elf.proofs.FieldLaws.{field_drop}
use Rattle.ci_elf.proofs.fields.half_at.Goals as goal

pub returns : goal.returns
returns c = c.read_u16.ensures ∙ field_drop 2 c.args.offset c.args.bytes.now
