use Rattle.ci_machine.proofs.WordLaws as laws
use Rattle.ci_machine.proofs.laws.words_stay.Goals as goal

pub returns-clause-lists : goal.returns-clause-lists
returns-clause-lists c = laws.lists_words

pub returns-clause-control : goal.returns-clause-control
returns-clause-control c = λ program insn state of_words. laws.control_words state of_words program insn

pub returns-clause-runs : goal.returns-clause-runs
returns-clause-runs c = laws.words_stay

pub returns-clause-opening : goal.returns-clause-opening
returns-clause-opening c = λ file input formed bytes input_bytes. laws.opening_words file formed input bytes input_bytes

pub returns-clause-plain : goal.returns-clause-plain
returns-clause-plain c = laws.plain_gives_words
