-- For the contracts of ci_isa: the registers that an instruction reads and writes, as sets. Laws say that they are what
-- the tests of a register find.
use Rattle.std.specs.Prelude.{ℕ, List}
use Rattle.std.specs.Ordering.{nat_cmp}
use Rattle.std.specs.FinSet as set
use Rattle.ci_isa.specs.declared.instruction.Insn.{Insn}
use Rattle.ci_isa.specs.Effects.{operands, results}

-- the registers of a list without x0
abbrev pub set_without_x0 : List ℕ → set.FinSet nat_cmp
set_without_x0 registers = set.remove (set.from_list registers) 0

abbrev pub registers_read : Insn → set.FinSet nat_cmp
registers_read insn = set_without_x0 (operands insn)

abbrev pub registers_written : Insn → set.FinSet nat_cmp
registers_written insn = set_without_x0 (results insn)
