-- What the definition of the extended machine gives on a few words and modules, of each meaning that it allows.
use Rattle.std.proofs.Common.{◌≡◌, ℕ, ◌<◌, refl, ap, sym, ◌∙◌, arith, lit<, List, [], ◌∷◌, Some, None, pos}
use Rattle.std.specs.Prelude.{Bool, false, true, ◌+◌, ◌%◌, ◌^◌, ◌==◌, if◌then◌else◌, codes, length, map, drop, slice_index_or}
use Rattle.std.proofs.lemmas.List.Elements.{All-nil, All-cons}
use Rattle.ci_word.specs.declared.arithmetic.Op.TheVariants.{Add}
use Rattle.ci_isa.specs.declared.instruction.Insn.{Insn}
use Rattle.ci_isa.specs.declared.instruction.Insn.TheVariants.{AluImm, Unit, Cread, Cput, Illegal}
use Rattle.ci_isa.specs.Table.{ReadsX}
use Rattle.ci_isa.specs.private.Decoding.{environment_row, plain_row}
use Rattle.ci_isa.proofs.RowCompleteness.{only_plain, one_insn}
use Rattle.ci_elf.specs.Executables.{Executable}
use Rattle.ci_verilog.specs.declared.expressions.Simple.TheVariants.{Whole}
use Rattle.ci_verilog.specs.declared.expressions.Term.TheVariants.{Plain}
use Rattle.ci_verilog.specs.declared.expressions.Operator.TheVariants.{Plus}
use Rattle.ci_verilog.specs.declared.expressions.Expr.TheVariants.{One, Two}
use Rattle.ci_verilog.specs.Modules.{Module, IsModule, IsExpr, IsTerm, IsSimple, inputs, nothing, vector}
use Rattle.ci_verilog.specs.Values.{of_width, IsValueOf}
use Rattle.ci_machine.specs.declared.ends.End.TheVariants as ends
use Rattle.ci_machine.specs.Cores.{Core, first_hidden, hidden_operands, register, with_registers}
use Rattle.ci_machine.specs.Outcomes.{Next, Ended, at_start}
use Rattle.ci_machine.specs.Agreement.{acted, act_all}
use Rattle.ci_machine.specs.Extended.{HasModule, IsExtended, latencies_with}
use Rattle.ci_machine.specs.Programs.{at_pc, opening, loaded_program}
use Rattle.ci_machine.specs.Runs.{latency, step_cost}
use Rattle.ci_machine.specs.Steps.{Meaning, IsPlain, step, stepped}
use Rattle.ci_machine.proofs.ExtendedMeaning.{row_stands, one_stands, without_module, extended_exists, five_words}
use Rattle.ci_machine.proofs.Rows.{latencies}

-- ---- modules

-- y is a + b, and z is c
unfoldable pub sum : Module
sum = record {
  number = 0;
  cycles = 2;
  wires = record { wide = false; list = [] };
  y = Two Plus (Plain (Whole (codes "a"))) (Plain (Whole (codes "b")));
  z = One (Plain (Whole (codes "c")));
  x = nothing;
}

-- y and z are a
unfoldable pub copy : Module
copy = record {
  number = 5;
  cycles = 1;
  wires = record { wide = false; list = [] };
  y = One (Plain (Whole (codes "a")));
  z = One (Plain (Whole (codes "a")));
  x = nothing;
}

-- a wide one: y is d + e, z is e, and x is d
unfoldable pub passed : Module
passed = record {
  number = 0;
  cycles = 1;
  wires = record { wide = true; list = [] };
  y = Two Plus (Plain (Whole (codes "d"))) (Plain (Whole (codes "e")));
  z = One (Plain (Whole (codes "e")));
  x = One (Plain (Whole (codes "d")));
}

-- what the rows say of the machines with these modules is said of some
known_word : (wide : Bool) (place : ℕ) (name : List ℕ) → place < length (inputs wide)
    → slice_index_or (inputs wide) place (vector name 32) ≡ vector name 32 → IsTerm (inputs wide) (Plain (Whole name)) 32
known_word wide place name below there = IsTerm.plain (IsSimple.whole (place, below, there))

sum_is_module : IsModule sum
unfolding sum
sum_is_module = record {
  are_wires = tt;
  are_free = tt;
  few = omega arith;
  y = IsExpr.two (known_word false 0 (codes "a") (omega arith) refl) (known_word false 1 (codes "b") (omega arith) refl) (refl, refl);
  z = IsExpr.one (known_word false 2 (codes "c") (omega arith) refl);
  x = IsExpr.one (IsTerm.plain (IsSimple.number (omega arith) (omega arith) (lit< tt)));
  narrow = λ _. refl;
}

copy_is_module : IsModule copy
unfolding copy
copy_is_module = record {
  are_wires = tt;
  are_free = tt;
  few = omega arith;
  y = IsExpr.one (known_word false 0 (codes "a") (omega arith) refl);
  z = IsExpr.one (known_word false 0 (codes "a") (omega arith) refl);
  x = IsExpr.one (IsTerm.plain (IsSimple.number (omega arith) (omega arith) (lit< tt)));
  narrow = λ _. refl;
}

passed_is_module : IsModule passed
unfolding passed
passed_is_module = record {
  are_wires = tt;
  are_free = tt;
  few = omega arith;
  y = IsExpr.two (known_word true 3 (codes "d") (omega arith) refl) (known_word true 4 (codes "e") (omega arith) refl) (refl, refl);
  z = IsExpr.one (known_word true 4 (codes "e") (omega arith) refl);
  x = IsExpr.one (known_word true 3 (codes "d") (omega arith) refl);
  narrow = λ narrow. cc;
}

some_machine : (meaning : Meaning) × IsExtended (copy ∷ sum ∷ []) meaning
some_machine =
    extended_exists (copy ∷ sum ∷ []) (All-cons IsModule copy (sum ∷ []) copy_is_module (All-cons IsModule sum [] sum_is_module (All-nil IsModule)))

some_wide_machine : (meaning : Meaning) × IsExtended (passed ∷ []) meaning
some_wide_machine = extended_exists (passed ∷ []) (All-cons IsModule passed [] passed_is_module (All-nil IsModule))

sum_gives : (a b c d e : ℕ) (results : List ℕ) → IsValueOf sum (a ∷ b ∷ c ∷ d ∷ e ∷ []) results → results ≡ (a + b) % 2 ^ 32 ∷ c ∷ 0 ∷ []
unfolding sum
sum_gives a b c d e results is =
    let first : is.names (codes "a") ≡ of_width 32 a = is.settled.inputs_are 0 (codes "a") refl in
    let second : is.names (codes "b") ≡ of_width 32 b = is.settled.inputs_are 1 (codes "b") refl in
    let third : is.names (codes "c") ≡ of_width 32 c = is.settled.inputs_are 2 (codes "c") refl in
    is.results_are ∙ (λ i. ((first i).value + (second i).value) % 2 ^ (first i).width ∷ (third i).value ∷ 0 ∷ [])

passed_gives : (a b c d e : ℕ) (results : List ℕ) → IsValueOf passed (a ∷ b ∷ c ∷ d ∷ e ∷ []) results → results ≡ (d + e) % 2 ^ 32 ∷ e ∷ d ∷ []
unfolding passed
passed_gives a b c d e results is =
    let fourth : is.names (codes "d") ≡ of_width 32 d = is.settled.inputs_are 3 (codes "d") refl in
    let fifth : is.names (codes "e") ≡ of_width 32 e = is.settled.inputs_are 4 (codes "e") refl in
    is.results_are ∙ (λ i. ((fourth i).value + (fifth i).value) % 2 ^ (fourth i).width ∷ (fifth i).value ∷ (fourth i).value ∷ [])

-- The unit of a module is the one at its place, whatever number the module has.
second_unit : (meaning : Meaning) → IsExtended (copy ∷ sum ∷ []) meaning → meaning.units.results 1 (0xffffffff ∷ 2 ∷ 7 ∷ 0 ∷ 0 ∷ []) ≡ 1 ∷ 7 ∷ 0 ∷ []
second_unit meaning is =
    sum_gives 0xffffffff 2 7 0 0 (meaning.units.results 1 (0xffffffff ∷ 2 ∷ 7 ∷ 0 ∷ 0 ∷ []))
    (is.computes 1 sum refl (0xffffffff ∷ 2 ∷ 7 ∷ 0 ∷ 0 ∷ []) refl (five_words 0xffffffff 2 7 0 0 (lit< tt) (lit< tt) (lit< tt) (lit< tt) (lit< tt)))

-- ---- what words stand for

-- unit word 0 with the registers x10, x10, x11 and x12
unit_row : ReadsX 0x60b5050b (Unit 0 10 10 11 12)
unit_row = (lit< tt, (refl, refl, refl, refl, refl, refl, refl))

unit_with_its_module : (meaning : Meaning) → IsExtended (sum ∷ []) meaning → meaning.insn 0x60b5050b ≡ Unit 0 10 10 11 12
unit_with_its_module meaning is =
    sym (row_stands (sum ∷ []) 0x60b5050b (Unit 0 10 10 11 12) (meaning.insn 0x60b5050b) (unit_row, omega arith) (is.reads 0x60b5050b))

illegal_without : (modules : List Module) (word : ℕ) (insn : Insn) → ReadsX word insn → ¬ HasModule modules insn
    → (meaning : Meaning) → IsExtended modules meaning → meaning.insn word ≡ Illegal word
illegal_without modules word insn reads missing meaning is =
    one_stands modules word (meaning.insn word) (Illegal word) (is.reads word) (without_module modules word insn reads missing)

unit_without_modules : (meaning : Meaning) → IsExtended [] meaning → meaning.insn 0x60b5050b ≡ Illegal 0x60b5050b
unit_without_modules meaning is =
    illegal_without [] 0x60b5050b (Unit 0 10 10 11 12) unit_row (λ has. omega arith) meaning is

-- unit word 1, where there is one module
unit_past_the_modules : (meaning : Meaning) → IsExtended (sum ∷ []) meaning → meaning.insn 0x60b5150b ≡ Illegal 0x60b5150b
unit_past_the_modules meaning is =
    illegal_without (sum ∷ []) 0x60b5150b (Unit 1 10 10 11 12) (lit< tt, (refl, refl, refl, refl, refl, refl, refl)) (λ has. omega arith) meaning is

-- cread x6, which the plain table has not
cread_row : ReadsX 0x32b (Cread 6 0)
cread_row = (lit< tt, (refl, refl, refl, refl, refl, refl, lit< tt))

cread_without_modules : (meaning : Meaning) → IsExtended [] meaning → meaning.insn 0x32b ≡ Cread 6 0
cread_without_modules meaning is = sym (row_stands [] 0x32b (Cread 6 0) (meaning.insn 0x32b) (cread_row, tt) (is.reads 0x32b))

no_plain_row : plain_row 0x32b ≡ None
unfolding environment_row plain_row
no_plain_row = refl

cread_on_the_plain_machine : (meaning : Meaning) → IsPlain meaning → meaning.insn 0x32b ≡ Illegal 0x32b
cread_on_the_plain_machine meaning is =
    one_insn 0x32b (meaning.insn 0x32b) (Illegal 0x32b) (is 0x32b)
    (refl, λ insn reads. let never : None ≡ Some insn = sym no_plain_row ∙ only_plain 0x32b insn reads in cc)

-- ---- what unit words do

-- x10 has 5, x11 has 7 and x12 has 9
unfoldable pub given : Core
given = record {
  registers = λ r. if r == 10 then 5 else if r == 11 then 7 else if r == 12 then 9 else 0;
  memory = λ a. None;
  heap_end = 0;
  input = [];
  output = [];
}

-- the sum goes to x10, and x12's value by the first hidden register to x6
unit_and_cread : (meaning : Meaning) → IsExtended (sum ∷ []) meaning
    → let core = (act_all meaning.units (Unit 0 10 10 11 12 ∷ Cread 6 0 ∷ []) (at_start given)).state in
    (register core 10 ≡ 12) × (register core 6 ≡ 9) × (register core first_hidden ≡ 9)
unfolding given
unit_and_cread meaning is =
    let results : meaning.units.results 0 (5 ∷ 7 ∷ 9 ∷ map (register given) (meaning.units.further 0)) ≡ 12 ∷ 9 ∷ 0 ∷ [] =
    ap (λ further. meaning.units.results 0 (5 ∷ 7 ∷ 9 ∷ map (register given) further)) (is.further 0)
    ∙ sum_gives 5 7 9 0 0 (meaning.units.results 0 (5 ∷ 7 ∷ 9 ∷ 0 ∷ 0 ∷ []))
    (is.computes 0 sum refl (5 ∷ 7 ∷ 9 ∷ 0 ∷ 0 ∷ []) refl (five_words 5 7 9 0 0 (lit< tt) (lit< tt) (lit< tt) (lit< tt) (lit< tt))) in
    let z = ap (λ r. slice_index_or (drop 1 r) 0 0) results in
    (ap (λ r. slice_index_or r 0 0) results, z, z)

-- x10's value goes as d and x11's as e; the unit's second result comes to x6, and its third to x7
operands_and_results : (meaning : Meaning) → IsExtended (passed ∷ []) meaning
    → let core = (act_all meaning.units (Cput 10 11 ∷ Unit 0 12 0 0 0 ∷ Cread 6 0 ∷ Cread 7 1 ∷ []) (at_start given)).state in
    (register core 12 ≡ 12) × (register core 6 ≡ 7) × (register core 7 ≡ 5)
unfolding given
operands_and_results meaning is =
    let core = with_registers given hidden_operands (5 ∷ 7 ∷ []) in
    let results : meaning.units.results 0 (0 ∷ 0 ∷ 0 ∷ map (register core) (meaning.units.further 0)) ≡ 12 ∷ 7 ∷ 5 ∷ [] =
    ap (λ further. meaning.units.results 0 (0 ∷ 0 ∷ 0 ∷ map (register core) further)) (is.further 0)
    ∙ passed_gives 0 0 0 5 7 (meaning.units.results 0 (0 ∷ 0 ∷ 0 ∷ 5 ∷ 7 ∷ []))
    (is.computes 0 passed refl (0 ∷ 0 ∷ 0 ∷ 5 ∷ 7 ∷ []) refl (five_words 0 0 0 5 7 (lit< tt) (lit< tt) (lit< tt) (lit< tt) (lit< tt))) in (
      ap (λ r. slice_index_or r 0 0) results,
      ap (λ r. slice_index_or (drop 1 r) 0 0) results,
      ap (λ r. slice_index_or (drop 1 (drop 1 r)) 0 0) results,
    )

-- ---- steps and their cost

-- a program of the unit word alone
unfoldable pub unit_file : Executable
unit_file = record {
  bytes = 0x0b ∷ 0x05 ∷ 0xb5 ∷ 0x60 ∷ [];
  entry = 0x1000;
  segments = record { address = 0x1000; memory_size = 4; offset = 0; file_size = 4 } ∷ [];
  ranges = record { start = 0x1000; words = 1 } ∷ [];
  symbols = [];
}

step_without_modules : (meaning : Meaning) → IsExtended [] meaning
    → (step meaning (loaded_program unit_file) (opening unit_file []) ≡ Ended (ends.Illegal 0x60b5050b))
    × (step_cost meaning (loaded_program unit_file) (latencies_with latencies []) (opening unit_file []) ≡ 0)
unfolding unit_file
step_without_modules meaning is =
    let stands = unit_without_modules meaning is in (
      ap (λ insn. stepped meaning.units (loaded_program unit_file) (opening unit_file []) (Some insn)) stands,
      ap (latency (latencies_with latencies [])) stands,
    )

step_with_its_module : (meaning : Meaning) → IsExtended (sum ∷ []) meaning
    → let opened = opening unit_file [] in
    (step meaning (loaded_program unit_file) opened ≡ Next (at_pc 0x1004 (acted meaning.units (Unit 0 10 10 11 12) opened.core).state))
    × (step_cost meaning (loaded_program unit_file) (latencies_with latencies (sum ∷ [])) opened ≡ 2)
unfolding unit_file sum
step_with_its_module meaning is =
    let stands = unit_with_its_module meaning is in (
      ap (λ insn. stepped meaning.units (loaded_program unit_file) (opening unit_file []) (Some insn)) stands,
      ap (latency (latencies_with latencies (sum ∷ []))) stands,
    )

cost_of_units : (latency (latencies_with latencies (copy ∷ sum ∷ [])) (Unit 1 10 10 11 12) ≡ 2)
    × (latency (latencies_with latencies (copy ∷ [])) (Cread 6 0) ≡ 1) × (latency (latencies_with latencies (copy ∷ [])) (Cput 6 7) ≡ 1)
    × (latency (latencies_with latencies []) (AluImm Add 0 0 (pos 0)) ≡ 3)
unfolding copy sum latencies
cost_of_units = (refl, refl, refl, refl)
