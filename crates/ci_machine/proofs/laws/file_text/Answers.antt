use Rattle.ci_machine.proofs.OpeningLaws as laws
use Rattle.ci_machine.proofs.TextChanges.{opens_alike}
use Rattle.ci_machine.proofs.laws.file_text.Goals as goal

pub returns-clause-words : goal.returns-clause-words
returns-clause-words c = λ file input address formed text. laws.opening_word file formed input address text

pub returns-clause-instructions : goal.returns-clause-instructions
returns-clause-instructions c = λ meaning file input n formed clear address text.
    laws.later_insn file formed meaning meaning input n clear address text

pub returns-clause-lists : goal.returns-clause-lists
returns-clause-lists c = λ meaning file input n formed clear insns address each.
    laws.insns_stand file formed meaning input n clear insns address each

pub returns-clause-outside : goal.returns-clause-outside
returns-clause-outside c = opens_alike
