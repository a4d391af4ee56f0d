-- States of words lead to states of words.
use Rattle.std.proofs.Common.{◌≡◌, ℕ, zero, suc, ◌+◌, ◌-◌, ◌*◌, ◌/◌, ◌%◌, ◌^◌, ◌<◌, ◌≤◌, inl, inr, refl, sym, subst}
use Rattle.std.proofs.Common.{arith, lit<, pow-suc, List, [], ◌∷◌, ◌++◌, take, drop, Option, Some, None, ℤ, pos, negsuc}
use Rattle.std.specs.List.{Contains}
use Rattle.std.specs.Option.{option_map}
use Rattle.std.specs.Prelude.{Bool, true, false, ◌==◌, nat_le, nat_lt, if◌then◌else◌}
use Rattle.std.proofs.lemmas.Bool.{cond_both, cases_lt}
use Rattle.std.proofs.lemmas.Nat.{mod_below, div_below, mul-lt, xor_lt, or_of_32}
use Rattle.std.proofs.Math.Nat.{div-le_self, mod-le}
use Rattle.std.proofs.lemmas.List.{get_or-take, get_or-drop, get_or_past, length-map, length-take}
use Rattle.std.specs.Int.Bits.{and_lt}
use Rattle.ci_word.specs.declared.arithmetic.Op.{Op}
use Rattle.ci_word.specs.declared.arithmetic.Op.TheVariants.{Add, Sub, Sll, Slt, Sltu, Xor, Srl, Sra, Or, And, Mul, Mulh, Mulhsu, Mulhu, Div, Divu, Rem, Remu}
use Rattle.ci_word.specs.Arithmetic.{operation, word_of}
use Rattle.ci_isa.specs.declared.instruction.LoadKind.{LoadKind}
use Rattle.ci_isa.specs.declared.instruction.LoadKind.TheVariants.{B, H, W, Bu, Hu}
use Rattle.ci_isa.specs.declared.instruction.Width.{Width}
use Rattle.ci_isa.specs.declared.instruction.Insn.{Insn}
use Rattle.ci_isa.specs.declared.instruction.Insn.TheVariants.{Alu, AluImm, Lui, Auipc, Jal, Jalr, Branch, Load, Store, Ecall, Ebreak, Unit, Cread, Cput, Illegal}
use Rattle.ci_isa.specs.Effects.{ends_block, width_bytes, is_among}
use Rattle.ci_machine.specs.Cores.{Core, hidden, hidden_operands, hidden_result, register, with_register, values_in, with_registers}
use Rattle.ci_machine.specs.Accesses.{addresses, joined, bytes_at, with_bytes, number_of_bytes, bytes_of_number, load_width, extended}
use Rattle.ci_machine.specs.Outcomes.{Outcome, Next, Ended, Reached, reached, continued, from_end}
use Rattle.ci_machine.specs.Agreement.{act_all}
use Rattle.ci_machine.specs.Actions.{Units, act, address_from, loaded, stored}
use Rattle.ci_machine.specs.Agreement.{acted}
use Rattle.ci_elf.specs.WordLists.{AreWords}
use Rattle.ci_elf.specs.Executables.{Executable, InText, IsWellFormed}
use Rattle.ci_elf.specs.declared.segments.Segment.{Segment}
use Rattle.ci_elf.specs.MemoryMap.{memory_top, stack_start, stack_end}
use Rattle.ci_isa.specs.Table.{IsInsnAt}
use Rattle.ci_machine.specs.declared.ends.End.{End}
use Rattle.ci_machine.specs.declared.ends.End.TheVariants as ends
use Rattle.ci_machine.specs.Programs.{Program, State, at_pc, lies_in, loaded_byte, loaded_memory, opening}
use Rattle.ci_machine.specs.Calls.{bad_file, bad_address, no_such_call, answering, range_at, read_length, read_into}
use Rattle.ci_machine.specs.Calls.{read_call, written_from, is_output, write_call, may_end_at, with_heap_end, heap_call}
use Rattle.ci_machine.specs.Calls.{call}
use Rattle.ci_machine.specs.Steps.{Meaning, IsPlain, word_at, fetched, following, onward, directed, is_taken, even}
use Rattle.ci_machine.specs.Steps.{then_onward, control, execute, stepped, step}
use Rattle.ci_machine.specs.Runs.{after}
use Rattle.ci_machine.specs.Words.{IsWord, AreBytes, MapsBytes, HoldsWords, IsOfWords, MakesWords, GivesWords}
use Rattle.ci_machine.proofs.StartLaws.{segments_end}
use Rattle.ci_machine.proofs.TestLaws.{by_test, some_is}
use Rattle.ci_machine.proofs.TextRanges.{holder}
use Rattle.ci_machine.proofs.RegisterLaws.{register_kept, register_written}

-- ---- operations

word_of_below : (z : ℤ) → IsWord (word_of z)
word_of_below (pos n) = omega arith
word_of_below (negsuc n) = omega arith

below_of_le : (m n : ℕ) → m ≤ n → IsWord n → IsWord m
below_of_le m n le below = omega arith

operation_below : (op : Op) (a b : ℕ) → IsWord a → IsWord b → IsWord (operation op a b)
operation_below Add a b ha hb = mod_below (a + b) (2 ^ 32) (lit< tt)
operation_below Sub a b ha hb = mod_below (a + 2 ^ 32 - b) (2 ^ 32) (lit< tt)
operation_below Sll a b ha hb = mod_below (a * 2 ^ (b % 32)) (2 ^ 32) (lit< tt)
operation_below Slt a b ha hb = cond_both _ 1 0 IsWord (λ _. lit< tt) (λ _. lit< tt)
operation_below Sltu a b ha hb = cond_both _ 1 0 IsWord (λ _. lit< tt) (λ _. lit< tt)
operation_below Xor a b ha hb = xor_lt 32 a b ha hb
operation_below Srl a b ha hb = below_of_le _ a (div-le_self a (2 ^ (b % 32))) ha
operation_below Sra a b ha hb = word_of_below _
operation_below Or a b ha hb = or_of_32 a b ha hb
operation_below And a b ha hb = and_lt 32 a b ha hb
operation_below Mul a b ha hb = mod_below (a * b) (2 ^ 32) (lit< tt)
operation_below Mulh a b ha hb = word_of_below _
operation_below Mulhsu a b ha hb = word_of_below _
operation_below Mulhu a b ha hb = div_below (a * b) (2 ^ 32) (2 ^ 32) (lit< tt) (mul-lt a b (2 ^ 32) (2 ^ 32) ha hb)
operation_below Div a b ha hb = cond_both (b == 0) _ _ IsWord (λ _. lit< tt) (λ _. word_of_below _)
operation_below Divu a b ha hb = cond_both (b == 0) _ _ IsWord (λ _. lit< tt) (λ _. below_of_le _ a (div-le_self a b) ha)
operation_below Rem a b ha hb = cond_both (b == 0) _ _ IsWord (λ _. ha) (λ _. word_of_below _)
operation_below Remu a b ha hb = cond_both (b == 0) _ _ IsWord (λ _. ha) (λ _. below_of_le _ a (mod-le a b) ha)

-- ---- bytes

no_bytes : AreBytes []
no_bytes k = lit< tt

bytes_tail : (byte : ℕ) (bytes : List ℕ) → AreBytes (byte ∷ bytes) → AreBytes bytes
bytes_tail byte bytes are k = are (suc k)

bytes_cons : (byte : ℕ) (bytes : List ℕ) → byte < 256 → AreBytes bytes → AreBytes (byte ∷ bytes)
bytes_cons byte bytes below are zero = below
bytes_cons byte bytes below are (suc k) = are k

bytes_take : (n : ℕ) (bytes : List ℕ) → AreBytes bytes → AreBytes (take n bytes)
bytes_take n bytes are k = elim (cases_lt k n) [
  | inl low ↦ subst (λ (b : ℕ). b < 256) (sym (get_or-take n bytes k 0 low)) (are k)
  | inr high ↦ subst (λ (b : ℕ). b < 256) (sym (get_or_past (take n bytes) k 0 (omega (arith, length-take n bytes)))) (lit< tt)
]

bytes_drop : (n : ℕ) (bytes : List ℕ) → AreBytes bytes → AreBytes (drop n bytes)
bytes_drop n bytes are k = subst (λ (b : ℕ). b < 256) (sym (get_or-drop n bytes k 0)) (are (n + k))

bytes_append : (xs ys : List ℕ) → AreBytes xs → AreBytes ys → AreBytes (xs ++ ys)
bytes_append [] ys one other k = other k
bytes_append (x ∷ xs) ys one other zero = one zero
bytes_append (x ∷ xs) ys one other (suc k) = bytes_append xs ys (bytes_tail x xs one) other k

bytes_of_number_are : (n value : ℕ) → AreBytes (bytes_of_number n value)
bytes_of_number_are zero value = no_bytes
bytes_of_number_are (suc n) value = bytes_cons (value % 256) _ (mod_below value 256 (lit< tt)) (bytes_of_number_are n (value / 256))

both_there : (byte : Option ℕ) (rest : Option (List ℕ)) (bytes : List ℕ) → joined byte rest ≡ Some bytes
    → ((b : ℕ) → byte ≡ Some b → b < 256) → ((bs : List ℕ) → rest ≡ Some bs → AreBytes bs) → AreBytes bytes
both_there None rest bytes is low high = absurd (let never : None ≡ Some bytes = is in cc)
both_there (Some b) None bytes is low high = absurd (let never : None ≡ Some bytes = is in cc)
both_there (Some b) (Some bs) bytes is low high = subst AreBytes (some_is is) (bytes_cons b bs (low b refl) (high bs refl))

module _ (memory : ℕ → Option ℕ) (maps : MapsBytes memory) where
  bytes_at_are : (places bytes : List ℕ) → bytes_at memory places ≡ Some bytes → AreBytes bytes
  bytes_at_are [] bytes is = subst AreBytes (some_is is) no_bytes
  bytes_at_are (place ∷ places) bytes is =
      both_there (memory place) (bytes_at memory places) bytes is (maps place) (λ bs. bytes_at_are places bs)

  with_bytes_maps : (places bytes : List ℕ) → AreBytes bytes → MapsBytes (with_bytes memory places bytes)
  with_bytes_maps [] bytes are a byte is = maps a byte is
  with_bytes_maps (place ∷ places) [] are a byte is = maps a byte is
  with_bytes_maps (place ∷ places) (b ∷ bytes) are a byte is =
      chosen (a == place) (with_bytes memory places bytes a) (with_bytes_maps places bytes (bytes_tail b bytes are) a byte) is
    where
      chosen : (test : Bool) (rest : Option ℕ) → (rest ≡ Some byte → byte < 256) → (if test then Some b else rest) ≡ Some byte → byte < 256
      chosen true rest later is = subst (λ (c : ℕ). c < 256) (some_is is) (are 0)
      chosen false rest later is = later is

  -- the number of so many bytes
  number_below_from : (byte : Option ℕ) (rest : Option (List ℕ)) (bytes : List ℕ) (n : ℕ) → joined byte rest ≡ Some bytes
      → ((b : ℕ) → byte ≡ Some b → b < 256) → ((bs : List ℕ) → rest ≡ Some bs → number_of_bytes bs < 256 ^ n) → number_of_bytes bytes < 256 ^ suc n
  number_below_from None rest bytes n is low high = absurd (let never : None ≡ Some bytes = is in cc)
  number_below_from (Some b) None bytes n is low high = absurd (let never : None ≡ Some bytes = is in cc)
  number_below_from (Some b) (Some bs) bytes n is low high =
      subst (λ all. number_of_bytes all < 256 ^ suc n) (some_is is) (omega (arith, low b refl, high bs refl, pow-suc 256 n))

  number_below : (n address : ℕ) (bytes : List ℕ) → bytes_at memory (addresses n address) ≡ Some bytes → number_of_bytes bytes < 256 ^ n
  number_below zero address bytes is = subst (λ all. number_of_bytes all < 1) (some_is is) (lit< tt)
  number_below (suc n) address bytes is =
      number_below_from (memory (address % 2 ^ 32)) (bytes_at memory (addresses n (address + 1))) bytes n is (maps (address % 2 ^ 32))
      (λ bs. number_below n (address + 1) bs)

-- ---- instructions

register_words : (core : Core) → HoldsWords core → (rd value : ℕ) → IsWord value → HoldsWords (with_register core rd value)
register_words core holds rd value below = record {
  registers = λ r. by_test (is_among (rd ∷ []) r)
      (λ is. subst IsWord (sym (register_written core rd value r is)) below)
      (λ other. subst IsWord (sym (register_kept core rd value r other)) (holds.registers r));
  memory = holds.memory;
  heap_end = holds.heap_end;
  input = holds.input;
  output = holds.output;
}

registers_words : (core : Core) → HoldsWords core → (registers values : List ℕ) → AreWords values → HoldsWords (with_registers core registers values)
registers_words core holds [] values words = holds
registers_words core holds (r ∷ registers) values words =
    register_words (with_registers core registers (drop 1 values))
    (registers_words core holds registers (drop 1 values) (λ k. subst IsWord (sym (get_or-drop 1 values k 0)) (words (1 + k))))
    r _ (words 0)

pub values_words : (core : Core) → HoldsWords core → (registers : List ℕ) → AreWords (values_in core registers)
values_words core holds [] k = lit< tt
values_words core holds (r ∷ registers) zero = holds.registers r
values_words core holds (r ∷ registers) (suc k) = values_words core holds registers k

extended_below : (kind : LoadKind) (n : ℕ) → n < 256 ^ width_bytes (load_width kind) → IsWord (extended kind n)
extended_below B n below = word_of_below _
extended_below H n below = word_of_below _
extended_below W n below = omega arith
extended_below Bu n below = omega arith
extended_below Hu n below = omega arith

load_words : (core : Core) → HoldsWords core → (kind : LoadKind) (rd address : ℕ) (found : Option (List ℕ))
    → bytes_at core.memory (addresses (width_bytes (load_width kind)) address) ≡ found → HoldsWords (reached core (loaded core kind rd address found)).state
load_words core holds kind rd address None is = holds
load_words core holds kind rd address (Some bytes) is =
    register_words core holds rd _
    (extended_below kind (number_of_bytes bytes) (number_below core.memory holds.memory (width_bytes (load_width kind)) address bytes is))

store_words : (core : Core) → HoldsWords core → (width : Width) (address value : ℕ) (found : Option (List ℕ))
    → HoldsWords (reached core (stored core width address value found)).state
store_words core holds width address value None = holds
store_words core holds width address value (Some bytes) = record {
  registers = holds.registers;
  memory = with_bytes_maps core.memory holds.memory (addresses (width_bytes width) address) _ (bytes_of_number_are (width_bytes width) value);
  heap_end = holds.heap_end;
  input = holds.input;
  output = holds.output;
}

acted_words : (units : Units) (insn : Insn) (core : Core) → MakesWords units insn → HoldsWords core → HoldsWords (acted units insn core).state
acted_words units (Alu op rd rs1 rs2) core makes holds = register_words core holds rd _ (operation_below op _ _ (holds.registers rs1) (holds.registers rs2))
acted_words units (AluImm op rd rs1 imm) core makes holds = register_words core holds rd _ (operation_below op _ _ (holds.registers rs1) (word_of_below imm))
acted_words units (Lui rd upper) core makes holds = register_words core holds rd upper makes
acted_words units (Load kind rd rs1 offset) core makes holds = load_words core holds kind rd (address_from core rs1 offset) _ refl
acted_words units (Store width rs1 rs2 offset) core makes holds = store_words core holds width (address_from core rs1 offset) (register core rs2) _
acted_words units (Unit number rd rs1 rs2 rs3) core makes holds =
    registers_words core holds (rd ∷ hidden) _
    (makes (values_in core (rs1 ∷ rs2 ∷ rs3 ∷ units.further number))
    (record {
      count = omega (arith, length-map (units.further number) (register core));
      words = values_words core holds (rs1 ∷ rs2 ∷ rs3 ∷ units.further number);
    }))
acted_words units (Cread rd index) core makes holds = register_words core holds rd _ (holds.registers (hidden_result index))
acted_words units (Cput rs1 rs2) core makes holds = registers_words core holds hidden_operands (values_in core (rs1 ∷ rs2 ∷ [])) (values_words core holds (rs1 ∷ rs2 ∷ []))
acted_words units insn core makes holds = holds

pub lists_words : (units : Units) (insns : List Insn) (run : Reached Core)
    → ((insn : Insn) → Contains insns insn → MakesWords units insn) → HoldsWords run.state → HoldsWords (act_all units insns run).state
lists_words units [] run makes holds = holds
lists_words units (insn ∷ insns) run makes holds =
    lists_words units insns (continued (act units insn) run) (λ other there. makes other (later other there)) (one_more run.end)
  where
    later : (other : Insn) → Contains insns other → Contains (insn ∷ insns) other
    later other there = (suc there.0, omega (arith, there.1), there.2)

    one_more : (end : Option End) → HoldsWords (from_end (act units insn) run end).state
    one_more None = acted_words units insn run.state (makes insn (0, omega arith, refl)) holds
    one_more (Some e) = holds

-- ---- environment calls

range_are : (core : Core) → HoldsWords core → (a n : ℕ) (bytes : List ℕ) → range_at core.memory a n ≡ Some bytes → AreBytes bytes
range_are core holds a n bytes is = tested (nat_le (a + n) (2 ^ 32)) is
  where
    tested : (test : Bool) → (if test then bytes_at core.memory (addresses n a) else None) ≡ Some bytes → AreBytes bytes
    tested true is = bytes_at_are core.memory holds.memory (addresses n a) bytes is
    tested false is = cc

module _ (core : Core) (holds : HoldsWords core) where
  answered_words : (answer : ℕ) → IsWord answer → HoldsWords (answering core answer)
  answered_words answer below = register_words core holds 10 answer below

  read_words : HoldsWords (read_call core)
  read_words = tested (register core 10 == 0)
    where
      count_below : IsWord (read_length core)
      count_below = omega (arith, holds.registers 12)

      into : (found : Option (List ℕ)) → HoldsWords (read_into core found)
      into None = answered_words bad_address (lit< tt)
      into (Some bytes) =
          register_words
          (record core {
            memory = with_bytes core.memory (addresses (read_length core) (register core 11)) (take (read_length core) core.input);
            input = drop (read_length core) core.input;
          })
          (record {
            registers = holds.registers;
            memory =
                with_bytes_maps core.memory holds.memory (addresses (read_length core) (register core 11)) _
                (bytes_take (read_length core) core.input holds.input);
            heap_end = holds.heap_end;
            input = bytes_drop (read_length core) core.input holds.input;
            output = holds.output;
          })
          10 (read_length core) count_below

      tested : (test : Bool)
          → HoldsWords (if test then read_into core (range_at core.memory (register core 11) (read_length core)) else answering core bad_file)
      tested true = into _
      tested false = answered_words bad_file (lit< tt)

  write_words : HoldsWords (write_call core)
  write_words = tested (is_output (register core 10))
    where
      from : (found : Option (List ℕ)) → range_at core.memory (register core 11) (register core 12) ≡ found → HoldsWords (written_from core found)
      from None is = answered_words bad_address (lit< tt)
      from (Some bytes) is =
          register_words (record core { output = core.output ++ bytes })
          (record {
            registers = holds.registers;
            memory = holds.memory;
            heap_end = holds.heap_end;
            input = holds.input;
            output = bytes_append core.output bytes holds.output (range_are core holds (register core 11) (register core 12) bytes is);
          })
          10 (register core 12) (holds.registers 12)

      tested : (test : Bool)
          → HoldsWords (if test then written_from core (range_at core.memory (register core 11) (register core 12)) else answering core bad_file)
      tested true = from _ refl
      tested false = answered_words bad_file (lit< tt)

  moved_words : (end : ℕ) → IsWord end → HoldsWords (with_heap_end core end)
  moved_words end below = record {
    registers = holds.registers;
    memory = λ a byte is. tested (lies_in core.heap_end end a) (lies_in end core.heap_end a) a byte is;
    heap_end = below;
    input = holds.input;
    output = holds.output;
  }
    where
      tested : (new gone : Bool) (a byte : ℕ) → (if new then Some 0 else if gone then None else core.memory a) ≡ Some byte → byte < 256
      tested true gone a byte is = subst (λ (b : ℕ). b < 256) (some_is is) (lit< tt)
      tested false true a byte is = cc
      tested false false a byte is = holds.memory a byte is

  heap_words : (program : Program) → HoldsWords (heap_call program core)
  heap_words program = tested (may_end_at program (register core 10))
    where
      tested : (may : Bool) → HoldsWords (let next = if may then with_heap_end core (register core 10) else core in answering next next.heap_end)
      tested true =
          register_words (with_heap_end core (register core 10)) (moved_words (register core 10) (holds.registers 10))
          10 (register core 10) (holds.registers 10)
      tested false = answered_words core.heap_end holds.heap_end

  called_words : (program : Program) → HoldsWords (reached core (call program core)).state
  called_words program =
      tested (register core 17 == 63) (register core 17 == 64) (register core 17 == 93) (register core 17 == 214)
    where
      tested : (read write exit heap : Bool)
          → HoldsWords (reached core (if read then Next (read_call core) else if write then Next (write_call core)
          else if exit then Ended (ends.Exit (register core 10)) else if heap then Next (heap_call program core) else Next (answering core no_such_call))).state
      tested true write exit heap = read_words
      tested false true exit heap = write_words
      tested false false true heap = holds
      tested false false false true = heap_words program
      tested false false false false = answered_words no_such_call (lit< tt)

-- ---- steps

module _ (state : State) (of_words : IsOfWords state) where
  onward_words : (pc : ℕ) (core : Core) → HoldsWords core → IsOfWords (reached state (onward pc core)).state
  onward_words pc core holds = record { pc = mod_below (pc + 4) (2 ^ 32) (lit< tt); core = holds }

  directed_words : (target : ℕ) (core : Core) → IsWord target → HoldsWords core → IsOfWords (reached state (directed target core)).state
  directed_words target core below holds = tested (target % 4 == 0)
    where
      tested : (test : Bool) → IsOfWords (reached state (if test then Next (at_pc target core) else Ended (ends.Misaligned target))).state
      tested true = record { pc = below; core = holds }
      tested false = of_words

  then_words : (outcome : Outcome Core) → HoldsWords (reached state.core outcome).state → IsOfWords (reached state (then_onward state.pc outcome)).state
  then_words (Next core) holds = onward_words state.pc core holds
  then_words (Ended end) holds = of_words

  linked_words : (rd : ℕ) → HoldsWords (with_register state.core rd (following state.pc))
  linked_words rd = register_words state.core of_words.core rd _ (mod_below (state.pc + 4) (2 ^ 32) (lit< tt))

  relative_below : (offset : ℤ) → IsWord (operation Add state.pc (word_of offset))
  relative_below offset = operation_below Add state.pc (word_of offset) of_words.pc (word_of_below offset)

  pub control_words : (program : Program) (insn : Insn) → IsOfWords (reached state (control program insn state.pc state.core)).state
  control_words program (Auipc rd upper) =
      onward_words state.pc _ (register_words state.core of_words.core rd _ (mod_below (state.pc + upper) (2 ^ 32) (lit< tt)))
  control_words program (Jal rd offset) = directed_words _ _ (relative_below offset) (linked_words rd)
  control_words program (Jalr rd rs1 offset) =
      let there : IsWord (address_from state.core rs1 offset) = operation_below Add _ (word_of offset) (of_words.core.registers rs1) (word_of_below offset) in
      directed_words _ _ (below_of_le (even (address_from state.core rs1 offset)) (address_from state.core rs1 offset) (omega arith) there) (linked_words rd)
  control_words program (Branch cond rs1 rs2 offset) = tested (is_taken cond (register state.core rs1) (register state.core rs2))
    where
      tested : (test : Bool)
          → IsOfWords (reached state (if test then directed (operation Add state.pc (word_of offset)) state.core else onward state.pc state.core)).state
      tested true = directed_words _ _ (relative_below offset) of_words.core
      tested false = onward_words state.pc _ of_words.core
  control_words program Ecall = then_words (call program state.core) (called_words state.core of_words.core program)
  control_words program Ebreak = of_words
  control_words program (Illegal word) = of_words
  control_words program insn = onward_words state.pc _ of_words.core

  executed_words : (units : Units) (program : Program) (insn : Insn) → MakesWords units insn
      → IsOfWords (reached state (execute units program insn state)).state
  executed_words units program insn makes = tested (ends_block insn)
    where
      tested : (test : Bool)
          → IsOfWords (reached state (if test then control program insn state.pc state.core else then_onward state.pc (act units insn state.core))).state
      tested true = control_words program insn
      tested false = then_words (act units insn state.core) (acted_words units insn state.core makes of_words.core)

module _ (meaning : Meaning) (program : Program) (gives : GivesWords meaning) where
  fetched_makes : (state : State) (insn : Insn) → fetched meaning program state ≡ Some insn → MakesWords meaning.units insn
  fetched_makes state insn is = tested _ (word_at state.core.memory state.pc) is
    where
      tested : (test : Bool) (word : Option ℕ) → (if test then option_map meaning.insn word else None) ≡ Some insn → MakesWords meaning.units insn
      tested false word is = cc
      tested true None is = cc
      tested true (Some word) is = subst (MakesWords meaning.units) (some_is is) (gives word)

  step_words : (state : State) → IsOfWords state → IsOfWords (reached state (step meaning program state)).state
  step_words state of_words = by_fetch (fetched meaning program state) (fetched_makes state)
    where
      by_fetch : (found : Option Insn) → ((insn : Insn) → found ≡ Some insn → MakesWords meaning.units insn)
          → IsOfWords (reached state (stepped meaning.units program state found)).state
      by_fetch None makes = of_words
      by_fetch (Some insn) makes = executed_words state of_words meaning.units program insn (makes insn refl)

  pub words_stay : (n : ℕ) (state : State) → IsOfWords state → IsOfWords (after meaning program n state).state
  words_stay zero state of_words = of_words
  words_stay (suc n) state of_words = one_more (after meaning program n state) (words_stay n state of_words)
    where
      one_more : (run : Reached State) → IsOfWords run.state → IsOfWords (continued (step meaning program) run).state
      one_more run of_words = tested run.end
        where
          tested : (end : Option End) → IsOfWords (from_end (step meaning program) run end).state
          tested None = step_words run.state of_words
          tested (Some e) = of_words

-- ---- meanings

pub plain_gives_words : (meaning : Meaning) → IsPlain meaning → GivesWords meaning
plain_gives_words meaning plain word = by_insn (meaning.insn word) (plain word)
  where
    by_insn : (insn : Insn) → IsInsnAt word insn → MakesWords meaning.units insn
    by_insn (Lui rd upper) is = omega (arith, is.0, is.1.2)
    by_insn (Unit number rd rs1 rs2 rs3) is = absurd is.1
    by_insn insn is = tt

-- ---- the opening state

module _ (file : Executable) (formed : IsWellFormed file) where
  pub text_top : (address : ℕ) → InText file.ranges address → address < memory_top
  text_top address text =
      let held = holder file.ranges address text in
      let loader = formed.loaded held.range held.there in
      omega (arith, loader.2.to, held.to, formed.filled loader.0 loader.1, formed.below_top loader.0 loader.1)

  loaded_maps : AreBytes file.bytes → (segments : List Segment) → MapsBytes (loaded_memory file.bytes segments)
  loaded_maps bytes [] a byte is = tested (lies_in stack_start stack_end a) is
    where
      tested : (test : Bool) → (if test then Some 0 else None) ≡ Some byte → byte < 256
      tested true is = subst (λ (b : ℕ). b < 256) (some_is is) (lit< tt)
      tested false is = cc
  loaded_maps bytes (s ∷ ss) a byte is = tested (lies_in s.address (s.address + s.memory_size) a) (loaded_maps bytes ss a byte) is
    where
      loaded_is : loaded_byte file.bytes s (a - s.address) < 256
      loaded_is = cond_both (nat_lt (a - s.address) s.file_size) _ _ (λ (b : ℕ). b < 256) (λ _. bytes (s.offset + (a - s.address))) (λ _. lit< tt)

      tested : (test : Bool) → (loaded_memory file.bytes ss a ≡ Some byte → byte < 256)
          → (if test then Some (loaded_byte file.bytes s (a - s.address)) else loaded_memory file.bytes ss a) ≡ Some byte → byte < 256
      tested true later is = subst (λ (b : ℕ). b < 256) (some_is is) loaded_is
      tested false later is = later is

  pub opening_words : (input : List ℕ) → AreBytes file.bytes → AreBytes input → IsOfWords (opening file input)
  opening_words input bytes input_bytes = record {
    pc = omega (arith, text_top file.entry formed.entry.1);
    core = record {
      registers = λ r. cond_both (r == 0) _ _ IsWord (λ _. lit< tt) (λ _. cond_both (r == 2) _ _ IsWord (λ _. lit< tt) (λ _. lit< tt));
      memory = loaded_maps bytes file.segments;
      heap_end = omega (arith, segments_end file formed);
      input = input_bytes;
      output = no_bytes;
    };
  }
