use Rattle.ci_asm.proofs.WordsOrFault.{words_or_fault}
use Rattle.ci_asm.proofs.laws.a_text_has_words_or_a_fault.Goals as goal

pub returns : goal.returns
returns c = words_or_fault
