-- What the definitions give on a few instructions and programs, computed.
use Rattle.std.proofs.Common.{◌≡◌, ℕ, refl, [], ◌∷◌, Option, Some, None, pos, negsuc}
use Rattle.std.specs.Prelude.{◌+◌, ◌==◌, if◌then◌else◌, List, drop, slice_index_or}
use Rattle.std.specs.Option.{unwrap_or}
use Rattle.ci_word.specs.declared.arithmetic.Op.TheVariants.{Add, Sra, Srl}
use Rattle.ci_word.specs.declared.arithmetic.Class.{Class}
use Rattle.ci_word.specs.declared.arithmetic.Class.TheVariants as class
use Rattle.ci_word.specs.Numbers.{count_below, sum_below}
use Rattle.std.specs.List.{flat_map}
use Rattle.ci_machine.specs.Accesses.{bytes_of_number}
use Rattle.ci_isa.specs.declared.instruction.LoadKind.TheVariants as kinds
use Rattle.ci_isa.specs.declared.instruction.Width.TheVariants as widths
use Rattle.ci_isa.specs.declared.instruction.Insn.{Insn}
use Rattle.ci_isa.specs.declared.instruction.Insn.TheVariants.{Alu, AluImm, Load, Store, Jalr, Unit, Cread, Cput, Illegal}
use Rattle.ci_isa.specs.private.Decoding.{jump_row, branch_row, load_row, store_row, immediate_row, shift_row, constant_row}
use Rattle.ci_isa.specs.private.Decoding.{operation_row, fence_row, environment_row, plain_row}
use Rattle.ci_machine.specs.declared.ends.End.{End}
use Rattle.ci_machine.specs.declared.ends.End.TheVariants as ends
use Rattle.ci_machine.specs.Cores.{Core, first_hidden, register, with_register}
use Rattle.ci_machine.specs.Outcomes.{Next, Ended, Reached, reached}
use Rattle.ci_machine.specs.Actions.{Units}
use Rattle.ci_machine.specs.Agreement.{acted}
use Rattle.ci_elf.specs.Executables.{Executable}
use Rattle.ci_machine.specs.Programs.{Program, State, at_pc, loaded_program, opening}
use Rattle.ci_machine.specs.Calls.{call}
use Rattle.ci_machine.specs.Steps.{Meaning, control, step}
use Rattle.ci_machine.specs.Touches.{touched}
use Rattle.ci_machine.specs.Runs.{Latencies, after, cost, steps_made}
use Rattle.ci_machine.specs.RunEvents.{jalr_target, entries}

-- x5 has 100, x6 has 80000010, x7 has 4, the first hidden register has 9, and the two bytes at 100 are mapped
unfoldable pub core : Core
core = record {
  registers = λ r. if r == 5 then 0x100 else if r == 6 then 0x80000010 else if r == 7 then 4 else if r == first_hidden then 9 else 0;
  memory = λ a. if a == 0x100 then Some 0x80 else if a == 0x101 then Some 0xff else None;
  heap_end = 0;
  input = [];
  output = [];
}

unfoldable pub units : Units
units = record { further = further; results = results }
  where
    -- unit 4 takes x7 too, and gives its value alone
    further : ℕ → List ℕ
    further number = if number == 4 then 7 ∷ [] else []

    results : ℕ → List ℕ → List ℕ
    results number values =
        if number == 4 then drop 3 values
        else (slice_index_or values 0 0 + slice_index_or values 1 0) ∷ slice_index_or values 2 0 ∷ []

-- the value that an instruction leaves in a register, and its end
left_in : ℕ → Insn → ℕ
left_in r insn = register (acted units insn core).state r

end_of : Insn → Option End
end_of insn = (acted units insn core).end

signed_byte : left_in 8 (Load kinds.B 8 5 (pos 0)) ≡ 0xffffff80
unfolding left_in core
signed_byte = refl

unsigned_byte : left_in 8 (Load kinds.Bu 8 5 (pos 0)) ≡ 0x80
unfolding left_in core
unsigned_byte = refl

signed_half : left_in 8 (Load kinds.H 8 5 (pos 0)) ≡ 0xffffff80
unfolding left_in core
signed_half = refl

-- two of the four bytes are not mapped
word_past_the_end : end_of (Load kinds.W 8 5 (pos 0)) ≡ Some (ends.Access 0x100 widths.Word)
unfolding end_of core
word_past_the_end = refl

half_past_the_end : end_of (Store widths.Half 5 6 (pos 1)) ≡ Some (ends.Access 0x101 widths.Half)
unfolding end_of core
half_past_the_end = refl

stored_byte : (acted units (Store widths.Byte 5 6 (pos 1)) core).state.memory 0x101 ≡ Some 0x10
unfolding core
stored_byte = refl

-- addresses are modulo 2 ^ 32: -100 from 100 is 0
negative_offset : end_of (Load kinds.B 8 5 (negsuc 0xff)) ≡ Some (ends.Access 0 widths.Byte)
unfolding end_of core
negative_offset = refl

shifted_with_sign : left_in 8 (Alu Sra 8 6 7) ≡ 0xf8000001
unfolding left_in core
shifted_with_sign = refl

shifted_without_sign : left_in 8 (Alu Srl 8 6 7) ≡ 0x08000001
unfolding left_in core
shifted_without_sign = refl

zero_register : left_in 0 (AluImm Add 0 5 (pos 1)) ≡ 0
unfolding left_in core
zero_register = refl

unit_results : (left_in 8 (Unit 3 8 5 6 7) ≡ 0x80000110) × (left_in first_hidden (Unit 3 8 5 6 7) ≡ 4)
unfolding left_in core units
unit_results = (refl, refl)

-- the operands stand in 34 and 35, and `cread` reads 32 and 33
hidden_places : (left_in 34 (Cput 5 7) ≡ 0x100) × (left_in 35 (Cput 5 7) ≡ 4) × (left_in 8 (Cread 8 0) ≡ 9) × (left_in 8 (Cread 8 1) ≡ 0)
unfolding left_in core
hidden_places = (refl, refl, refl, refl)

-- a unit that takes a fourth operand, and gives one result: the first hidden register takes 0
further_operand : (left_in 8 (Unit 4 8 5 6 0) ≡ 4) × (left_in first_hidden (Unit 4 8 5 6 0) ≡ 0)
unfolding left_in core units
further_operand = (refl, refl)

-- ---- control

empty : Program
empty = record { segments = []; text = [] }

-- JALR clears bit 0 of 105, and its link comes after the target
jump_to_even : control empty (Jalr 5 5 (pos 5)) 0x200 core ≡ Next (record { pc = 0x104; core = (acted units (AluImm Add 5 0 (pos 0x204)) core).state })
unfolding core empty
jump_to_even = refl

misaligned_jump : control empty (Jalr 5 5 (pos 7)) 0x200 core ≡ Ended (ends.Misaligned 0x106)
unfolding core empty
misaligned_jump = refl

-- ---- calls

-- the core with these arguments, and two bytes of input
calling : ℕ → ℕ → ℕ → ℕ → Core
calling number a b c = record core {
  registers = λ r. if r == 17 then number else if r == 10 then a else if r == 11 then b else if r == 12 then c else 0;
  input = 7 ∷ 9 ∷ [];
}

after_call : ℕ → ℕ → ℕ → ℕ → Reached Core
after_call number a b c = reached (calling number a b c) (call empty (calling number a b c))

answer : ℕ → ℕ → ℕ → ℕ → ℕ
answer number a b c = register (after_call number a b c).state 10

read_two : (answer 63 0 0x100 5 ≡ 2) × ((after_call 63 0 0x100 5).state.memory 0x101 ≡ Some 9) × ((after_call 63 0 0x100 5).state.input ≡ [])
unfolding answer after_call calling core empty
read_two = (refl, refl, refl)

read_one : (answer 63 0 0x101 1 ≡ 1) × ((after_call 63 0 0x101 1).state.input ≡ 9 ∷ [])
unfolding answer after_call calling core empty
read_one = (refl, refl)

read_faults : (answer 63 1 0x100 1 ≡ 0xfffffff7) × (answer 63 0 0x101 2 ≡ 0xfffffff2) × (answer 63 0 0xffffffff 2 ≡ 0xfffffff2)
unfolding answer after_call calling core empty
read_faults = (refl, refl, refl)

write_two : (answer 64 2 0x100 2 ≡ 2) × ((after_call 64 2 0x100 2).state.output ≡ 0x80 ∷ 0xff ∷ [])
unfolding answer after_call calling core empty
write_two = (refl, refl)

write_faults : (answer 64 0 0x100 2 ≡ 0xfffffff7) × (answer 64 1 0x100 3 ≡ 0xfffffff2)
unfolding answer after_call calling core empty
write_faults = (refl, refl)

exits : (after_call 93 5 0 0).end ≡ Some (ends.Exit 5)
unfolding after_call calling core empty
exits = refl

heap_moves : (answer 214 0x20 0 0 ≡ 0x20) × ((after_call 214 0x20 0 0).state.memory 0x1f ≡ Some 0) × ((after_call 214 0x20 0 0).state.memory 0x20 ≡ None)
unfolding answer after_call calling core empty
heap_moves = (refl, refl, refl)

heap_stays : (answer 214 0xffffffff 0 0 ≡ 0) × (answer 214 0x04000000 0 0 ≡ 0) × (answer 214 0x03f00000 0 0 ≡ 0x03f00000)
unfolding answer after_call calling core empty
heap_stays = (refl, refl, refl)

unknown_call : answer 1 5 0 0 ≡ 0xffffffda
unfolding answer after_call calling core empty
unknown_call = refl

-- ---- a run

unfoldable pub plain : Meaning
unfolding jump_row branch_row load_row store_row immediate_row shift_row constant_row operation_row fence_row environment_row plain_row
plain = record { insn = λ word. unwrap_or (plain_row word) (Illegal word); units = units }

-- addi x10, x0, 7; addi x17, x0, 93; addi x0, x0, 0; ecall
unfoldable pub file : Executable
file = record {
  bytes = 0x13 ∷ 0x05 ∷ 0x70 ∷ 0x00 ∷ 0x93 ∷ 0x08 ∷ 0xd0 ∷ 0x05 ∷ 0x13 ∷ 0x00 ∷ 0x00 ∷ 0x00 ∷ 0x73 ∷ 0x00 ∷ 0x00 ∷ 0x00 ∷ [];
  entry = 0x1000;
  segments = record { address = 0x1000; memory_size = 20; offset = 0; file_size = 16 } ∷ [];
  ranges = record { start = 0x1000; words = 4 } ∷ [];
  symbols = [];
}

program : Program
program = loaded_program file

-- behind the file's part of the segment stand zeros
loaded_bytes : ((opening file []).core.memory 0x1002 ≡ Some 0x70) × ((opening file []).core.memory 0x1010 ≡ Some 0)
    × ((opening file []).core.memory 0x1014 ≡ None)
unfolding file
loaded_bytes = (refl, refl, refl)

unfoldable pub latencies : Latencies
latencies = record { of_class = λ _. 10; pad = 3; read = 1; of_unit = λ _. 1 }

ends_by_exit : (after plain program 9 (opening file [])).end ≡ Some (ends.Exit 7)
unfolding plain program file units
ends_by_exit = refl

-- ends by its fourth step, and costs 10 + 10 + 3 + 10
run_accounts : (steps_made plain program 9 (opening file []) ≡ 4)
    × (cost plain program latencies 9 (opening file []) ≡ 33)
    × (entries plain program 9 (opening file []) 0x1008 ≡ 1)
unfolding plain program file units latencies count_below sum_below
run_accounts = (refl, refl, refl)

-- ---- a program of thirty words, with calls through a table, loads of constants and a word of output

unfoldable pub sample_file : Executable
sample_file = record {
  bytes = flat_map (bytes_of_number 4) (
      0x00020437 ∷ 0x00400493 ∷ 0x00000913 ∷ 0x00042283 ∷ 0x00090513 ∷ 0x000280e7 ∷ 0x00050913 ∷ 0x00440413 ∷ 0xfff48493 ∷ 0xfe0494e3
      ∷ 0x000205b7 ∷ 0x0125a823 ∷ 0x01058593 ∷ 0x00100513 ∷ 0x00400613 ∷ 0x04000893 ∷ 0x00000073 ∷ 0x00000513 ∷ 0x05d00893 ∷ 0x00000073
      ∷ 0x00351313 ∷ 0x00a34333 ∷ 0x00530513 ∷ 0x00008067 ∷ 0x000103b7 ∷ 0x0ec3a383 ∷ 0x00750533 ∷ 0x00155313 ∷ 0x00654533 ∷ 0x00008067
      ∷ 0x000003e8 ∷ 0x100c4 ∷ 0x100d4 ∷ 0x100c4 ∷ 0x100d4 ∷ 0 ∷ []);
  entry = 0x10074;
  segments =
      record { address = 0x10074; memory_size = 124; offset = 0; file_size = 124 }
      ∷ record { address = 0x20000; memory_size = 20; offset = 124; file_size = 20 } ∷ [];
  ranges = record { start = 0x10074; words = 30 } ∷ [];
  symbols = [];
}

unfoldable pub sample : Program
sample = loaded_program sample_file

unfoldable pub default_latencies : Latencies
default_latencies = record { of_class = by_class; pad = 0; read = 1; of_unit = λ _. 1 }
  where
    by_class : Class → ℕ
    by_class class.Mul = 3
    by_class class.Mulh = 3
    by_class class.Load = 2
    by_class class.Jump = 2
    by_class class.Div = 32
    by_class class.Free = 0
    by_class other = 1

sample_ends : (after plain sample 61 (opening sample_file [])).end ≡ Some (ends.Exit 0)
unfolding plain sample sample_file units
sample_ends = refl

sample_output : (after plain sample 61 (opening sample_file [])).state.core.output ≡ 0xe8 ∷ 0x1d ∷ 0x00 ∷ 0x00 ∷ []
unfolding plain sample sample_file units
sample_output = refl

sample_cost : cost plain sample default_latencies 61 (opening sample_file []) ≡ 75
unfolding plain sample sample_file units default_latencies sum_below
sample_cost = refl

sample_entries : (steps_made plain sample 70 (opening sample_file []) ≡ 61) × (entries plain sample 61 (opening sample_file []) 0x10080 ≡ 4)
    × (entries plain sample 61 (opening sample_file []) 0x100c4 ≡ 2) × (entries plain sample 61 (opening sample_file []) 0x100b8 ≡ 1)
unfolding plain sample sample_file units count_below
sample_entries = (refl, refl, refl, refl)

-- the first call of the loop leads to f0
sample_target : jalr_target plain sample (after plain sample 5 (opening sample_file [])).state ≡ Some 0x100c4
unfolding plain sample sample_file units
sample_target = refl

-- ---- touches

-- lw x5, 0(x2): from FFE on two of its bytes are not mapped, and two are text
unfoldable pub reader_file : Executable
reader_file = record {
  bytes = 0x83 ∷ 0x22 ∷ 0x01 ∷ 0x00 ∷ [];
  entry = 0x1000;
  segments = record { address = 0x1000; memory_size = 4; offset = 0; file_size = 4 } ∷ [];
  ranges = record { start = 0x1000; words = 1 } ∷ [];
  symbols = [];
}

unfoldable pub reader : Program
reader = loaded_program reader_file

unfoldable pub reading : ℕ → State
reading address = at_pc 0x1000 (with_register (opening reader_file []).core 2 address)

-- a load touches the text also where it ends
touch_at_end : (touched plain reader (reading 0xffe) ≡ Some 0x1000) × (step plain reader (reading 0xffe) ≡ Ended (ends.Access 0xffe widths.Word))
unfolding plain units reader reader_file reading
touch_at_end = (refl, refl)

-- it does not where it moves no byte of it
no_touch : (touched plain reader (reading 0xffc) ≡ None) × (touched plain reader (reading 0x7ff00000) ≡ None)
unfolding plain units reader reader_file reading
no_touch = (refl, refl)

-- outside the text and between its words nothing is fetched
no_fetch : (step plain reader (at_pc 0x1002 core) ≡ Ended (ends.Fetch 0x1002)) × (step plain reader (at_pc 0x1004 core) ≡ Ended (ends.Fetch 0x1004))
unfolding plain units reader reader_file
no_fetch = (refl, refl)
