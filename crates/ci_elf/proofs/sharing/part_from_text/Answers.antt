use Rattle.ci_elf.proofs.SegmentLaws.{not_found}
use Rattle.ci_elf.proofs.sharing.part_from_text.Goals as goal

pub returns-in-None : goal.returns-in-None
returns-in-None c = record {
  end = λ is. absurd (not_found c.args.bytes.now c.args.n c.in-None.ensures is);
  start = λ is. absurd (not_found c.args.bytes.now c.args.n c.in-None.ensures is);
  none = λ _. c.new.ensures;
}
