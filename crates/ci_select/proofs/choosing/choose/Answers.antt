use Rattle.std.proofs.Common.{subst}
use Rattle.ci_machine.specs.Words.{AreBytes}
use Rattle.ci_elf.proofs.TextPlaceLaws.{formed}
use Rattle.ci_select.proofs.choosing.choose.Goals as goal

pub new-requires : goal.new-requires
new-requires c = (
  c.args.image.now,
  c.requires.blocks,
  formed c.args.image.now.bytes c.requires.image.0 c.args.image.now c.requires.image.1,
  subst AreBytes c.bytes.ensures c.bytes_are_small.ensures,
)
