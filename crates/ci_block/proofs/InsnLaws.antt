-- One instruction stands at an address.
use Rattle.std.proofs.Common.{◌≡◌, ℕ}
use Rattle.ci_isa.specs.declared.instruction.Insn.{Insn}
use Rattle.ci_isa.proofs.RowCompleteness.{one_insn}
use Rattle.ci_elf.specs.Executables.{Executable, text_word}
use Rattle.ci_block.specs.Text.{StandsAt}

pub stands_alone : (image : Executable) (address : ℕ) (left right : Insn) → StandsAt image address left → StandsAt image address right → left ≡ right
stands_alone image address left right one other = one_insn (text_word image address) left right one.reads other.reads
