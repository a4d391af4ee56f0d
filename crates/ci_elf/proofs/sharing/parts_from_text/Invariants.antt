use Rattle.ci_elf.specs.private.Parts.{ArePartsFromText}
use Rattle.ci_elf.proofs.sharing.parts_from_text.Given as goal

abbrev pub invariant-loop-n : goal.invariant-loop-n
invariant-loop-n l = ArePartsFromText l.bytes l.texts l.n l.parts.items
