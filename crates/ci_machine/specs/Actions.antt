-- What the instructions do that end no block (RISC-V Unprivileged ISA 20191213, sections 2.4, 2.6, 7.1 and 7.2).
use Rattle.std.specs.Prelude.{ℕ, List, [], ◌∷◌, Option, Some, None, ℤ}
use Rattle.ci_word.specs.declared.arithmetic.Op.TheVariants.{Add}
use Rattle.ci_word.specs.Arithmetic.{operation, word_of}
use Rattle.ci_isa.specs.declared.instruction.LoadKind.{LoadKind}
use Rattle.ci_isa.specs.declared.instruction.Width.{Width}
use Rattle.ci_isa.specs.declared.instruction.Insn.{Insn}
use Rattle.ci_isa.specs.declared.instruction.Insn.TheVariants.{Alu, AluImm, Lui, Load, Store, Unit, Cread, Cput}
use Rattle.ci_machine.specs.declared.ends.End.TheVariants.{Access}
use Rattle.ci_machine.specs.Cores.{Core, hidden, hidden_operands, hidden_result}
use Rattle.ci_machine.specs.Cores.{register, with_register, values_in, with_registers}
use Rattle.ci_machine.specs.Outcomes.{Outcome, Next, Ended}
use Rattle.ci_isa.specs.Effects.{width_bytes}
use Rattle.ci_machine.specs.Accesses.{addresses, number_of_bytes, bytes_of_number, bytes_at, with_bytes, load_width}
use Rattle.ci_machine.specs.Accesses.{extended}

-- The units, by their numbers. A unit takes the values of the three sources of its word, and behind these the values of
-- further registers, which its word doesn't name. To the list of all these values it gives a list of results.
pub record Units : Type 0 where
  pub further : ℕ → List ℕ
  pub results : ℕ → List ℕ → List ℕ

-- the address that is this offset from the one in the register
abbrev pub address_from : Core → ℕ → ℤ → ℕ
address_from core rs1 offset = operation Add (register core rs1) (word_of offset)

-- the addresses of the bytes that a load or a store moves, in the order of the access
abbrev pub accessed : Insn → Core → List ℕ
accessed (Load kind rd rs1 offset) core = addresses (width_bytes (load_width kind)) (address_from core rs1 offset)
accessed (Store width rs1 rs2 offset) core = addresses (width_bytes width) (address_from core rs1 offset)
accessed insn core = []

-- a load's outcome: the bytes that it reads, if all are mapped
abbrev pub loaded : Core → LoadKind → ℕ → ℕ → Option (List ℕ) → Outcome Core
loaded core kind rd address (Some bytes) = Next (with_register core rd (extended kind (number_of_bytes bytes)))
loaded core kind rd address None = Ended (Access address (load_width kind))

-- a store's outcome: the bytes that stood there, if all are mapped
abbrev pub stored : Core → Width → ℕ → ℕ → Option (List ℕ) → Outcome Core
stored core width address value (Some _) =
    let places = addresses (width_bytes width) address in
    Next (record core { memory = with_bytes core.memory places (bytes_of_number (width_bytes width) value) })
stored core width address value None = Ended (Access address width)

-- The row of each instruction. Those that end a block have none here: what they do is control.
abbrev pub act : Units → Insn → Core → Outcome Core
act units (Alu op rd rs1 rs2) core = Next (with_register core rd (operation op (register core rs1) (register core rs2)))
act units (AluImm op rd rs1 imm) core = Next (with_register core rd (operation op (register core rs1) (word_of imm)))
act units (Lui rd upper) core = Next (with_register core rd upper)
act units (Load kind rd rs1 offset) core =
    loaded core kind rd (address_from core rs1 offset) (bytes_at core.memory (accessed (Load kind rd rs1 offset) core))
act units (Store width rs1 rs2 offset) core =
    stored core width (address_from core rs1 offset) (register core rs2)
    (bytes_at core.memory (accessed (Store width rs1 rs2 offset) core))
act units (Unit number rd rs1 rs2 rs3) core =
    let values = values_in core (rs1 ∷ rs2 ∷ rs3 ∷ units.further number) in
    Next (with_registers core (rd ∷ hidden) (units.results number values))
act units (Cread rd index) core = Next (with_register core rd (register core (hidden_result index)))
act units (Cput rs1 rs2) core = Next (with_registers core hidden_operands (values_in core (rs1 ∷ rs2 ∷ [])))
act units insn core = Next core
