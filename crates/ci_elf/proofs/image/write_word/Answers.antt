use Rattle.ci_elf.proofs.ImageLaws.{written}
use Rattle.ci_elf.proofs.image.write_word.Goals as goal

pub returns : goal.returns
returns c = written c.args.bytes.now c.write_u32.new.buf c.args.place c.args.word c.requires c.write_u32.ensures
