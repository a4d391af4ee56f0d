-- An instruction that ends a block, and one with other registers, do alike where their operands have the same values.
use Rattle.std.proofs.Common.{◌≡◌, ℕ, refl, sym, subst, ◌∙◌, arith, List, [], ◌∷◌, ◌++◌, Option, Some, None}
use Rattle.std.specs.Prelude.{Bool, true, false, ◌==◌, ◌&&◌, ◌||◌, ◌%◌, if◌then◌else◌, map, take, drop}
use Rattle.std.specs.List.{list_any}
use Rattle.std.proofs.lemmas.Bool.Decides.{nat_tests}
use Rattle.ci_word.specs.declared.arithmetic.Op.TheVariants.{Add}
use Rattle.ci_word.specs.Arithmetic.{operation, word_of}
use Rattle.ci_isa.specs.declared.instruction.Insn.{Insn}
use Rattle.ci_isa.specs.declared.instruction.Insn.TheVariants.{Auipc, Jal, Jalr, Branch, Fence, Ecall, Ebreak, Illegal, Unit, Cread, Cput}
use Rattle.ci_isa.specs.Effects.{ends_block, is_among, operands, writes_register}
use Rattle.ci_isa.proofs.OperandLaws.{single_result}
use Rattle.ci_machine.specs.declared.ends.End.TheVariants as stops
use Rattle.ci_machine.specs.Cores.{Core, register, with_register}
use Rattle.ci_machine.specs.Accesses.{addresses, with_bytes}
use Rattle.ci_machine.specs.Calls.{answering, bad_address, bad_file, no_such_call, call, heap_call, may_end_at, range_at, read_call, read_into, read_length}
use Rattle.ci_machine.specs.Calls.{is_output, with_heap_end, write_call, written_from}
use Rattle.ci_machine.specs.Outcomes.{Next, Ended, Reached, reached}
use Rattle.ci_machine.specs.Actions.{Units, address_from}
use Rattle.ci_machine.specs.Agreement.{AgreeOn, AgreeOutside, reads, writes}
use Rattle.ci_machine.specs.Blocks.{IsMapped}
use Rattle.ci_machine.specs.Programs.{Program, State, at_pc}
use Rattle.ci_machine.specs.Steps.{control, directed, even, following, is_taken, onward, then_onward}
use Rattle.ci_machine.specs.Touches.{moved}
use Rattle.ci_machine.proofs.RegisterLaws.{register_kept, register_written}
use Rattle.ci_machine.proofs.TestLaws.{either_second}
use Rattle.ci_machine.proofs.ControlFrame.{control_frame}
use Rattle.ci_machine.proofs.MovedBytes.{leaves_alike}
use Rattle.ci_rename.specs.OtherRegisters.{with_operands, with_result}
use Rattle.ci_rename.specs.Steps.{HaveSameOperands, StepAlike}

-- ---- registers

-- the values of one list of registers are those of each of them
pub each_value : (registers : List ℕ) (left right : Core) → map (register left) registers ≡ map (register right) registers
    → (r : ℕ) → list_any (λ n. n == r) registers ≡ true → register left r ≡ register right r
each_value [] left right same r there = cc
each_value (n ∷ more) left right same r there =
    let first : register left n ≡ register right n = cc in
    let rest : map (register left) more ≡ map (register right) more = cc in
    tested (n == r) refl (each_value more left right rest r) there first
  where
    tested : (b : Bool) → (n == r) ≡ b → (list_any (λ m. m == r) more ≡ true → register left r ≡ register right r)
        → (b || list_any (λ m. m == r) more) ≡ true → register left n ≡ register right n → register left r ≡ register right r
    tested true is later there first = let one : n ≡ r = grind (arith, nat_tests) in subst (λ m. register left m ≡ register right m) one first
    tested false is later there first = later there

both : (p q : Bool) → (p && q) ≡ true → q ≡ true
both p q is = grind arith

-- an instruction that ends a block writes no hidden register, and reads its operands
end_writes : (insn : Insn) (r : ℕ) → ends_block insn ≡ true → writes insn r ≡ writes_register insn r
end_writes (Unit number rd rs1 rs2 rs3) r ends = cc
end_writes (Cread rd index) r ends = cc
end_writes (Cput rs1 rs2) r ends = cc
end_writes insn r ends = refl

end_operands : (units : Units) (insn : Insn) (r : ℕ) → ends_block insn ≡ true → reads units insn r ≡ true → list_any (λ n. n == r) (operands insn) ≡ true
end_operands units (Unit number rd rs1 rs2 rs3) r ends is = cc
end_operands units (Cread rd index) r ends is = cc
end_operands units insn r ends is = both _ (list_any (λ n. n == r) (operands insn)) is

-- ---- what stays

module _ (program : Program) (pc : ℕ) (core : Core) (r : ℕ) where
  jump_keeps : (target rd value : ℕ) → is_among (rd ∷ []) r ≡ false
      → register (reached (at_pc pc core) (directed target (with_register core rd value))).state.core r ≡ register core r
  jump_keeps target rd value other = tested (target % 4 == 0)
    where
      tested : (test : Bool) → register (reached (at_pc pc core)
          (if test then Next (at_pc target (with_register core rd value)) else Ended (stops.Misaligned target))).state.core r ≡ register core r
      tested true = register_kept core rd value r other
      tested false = refl

  call_keeps : is_among (10 ∷ []) r ≡ false → register (reached (at_pc pc core) (then_onward pc (call program core))).state.core r ≡ register core r
  call_keeps other = tested (register core 17 == 63) (register core 17 == 64) (register core 17 == 93) (register core 17 == 214)
    where
      into : (found : Option (List ℕ)) → register (read_into core found) r ≡ register core r
      into None = register_kept core 10 bad_address r other
      into (Some bytes) =
          register_kept (record core {
            memory = with_bytes core.memory (addresses (read_length core) (register core 11)) (take (read_length core) core.input);
            input = drop (read_length core) core.input;
          }) 10 (read_length core) r other

      read : (test : Bool) → register (if test then read_into core (range_at core.memory (register core 11) (read_length core)) else answering core bad_file) r
          ≡ register core r
      read true = into _
      read false = register_kept core 10 bad_file r other

      from : (found : Option (List ℕ)) → register (written_from core found) r ≡ register core r
      from None = register_kept core 10 bad_address r other
      from (Some bytes) = register_kept (record core { output = core.output ++ bytes }) 10 (register core 12) r other

      write : (test : Bool)
          → register (if test then written_from core (range_at core.memory (register core 11) (register core 12)) else answering core bad_file) r
          ≡ register core r
      write true = from _
      write false = register_kept core 10 bad_file r other

      heap : (test : Bool)
          → register (let next = if test then with_heap_end core (register core 10) else core in answering next next.heap_end) r ≡ register core r
      heap true = register_kept (with_heap_end core (register core 10)) 10 (register core 10) r other
      heap false = register_kept core 10 core.heap_end r other

      tested : (is_read is_write is_exit is_heap : Bool)
          → register (reached (at_pc pc core) (then_onward pc (
          if is_read then Next (read_call core) else if is_write then Next (write_call core) else if is_exit then Ended (stops.Exit (register core 10))
          else if is_heap then Next (heap_call program core) else Next (answering core no_such_call)))).state.core r ≡ register core r
      tested true w e h = read (register core 10 == 0)
      tested false true e h = write (is_output (register core 10))
      tested false false true h = refl
      tested false false false true = heap (may_end_at program (register core 10))
      tested false false false false = register_kept core 10 no_such_call r other

  -- what it doesn't write stays
  pub control_keeps : (insn : Insn) → writes_register insn r ≡ false
      → register (reached (at_pc pc core) (control program insn pc core)).state.core r ≡ register core r
  control_keeps (Auipc rd upper) other = register_kept core rd (operation Add pc upper) r other
  control_keeps (Jal rd offset) other = jump_keeps _ rd _ other
  control_keeps (Jalr rd rs1 offset) other = jump_keeps _ rd _ other
  control_keeps (Branch cond rs1 rs2 offset) other =
      tested (is_taken cond (register core rs1) (register core rs2)) (operation Add pc (word_of offset) % 4 == 0)
    where
      tested : (taken aligned : Bool)
          → (let target = operation Add pc (word_of offset) in
          register (reached (at_pc pc core)
          (if taken then (if aligned then Next (at_pc target core) else Ended (stops.Misaligned target)) else onward pc core)).state.core r ≡ register core r)
      tested true true = refl
      tested true false = refl
      tested false aligned = refl
  control_keeps Ecall other = call_keeps other
  control_keeps Ebreak other = refl
  control_keeps (Illegal word) other = refl
  control_keeps insn other = refl

-- ---- alike

module _ (text : ℕ → Bool) (units : Units) (program : Program) (pc : ℕ) (left right : Core) (mapped_left : IsMapped text left.memory)
    (mapped_right : IsMapped text right.memory) (outside : AgreeOutside text left right) where
  abbrev from_left : Insn → Reached State
  from_left insn = reached (at_pc pc left) (control program insn pc left)

  abbrev from_right : Insn → Reached State
  from_right insn = reached (at_pc pc right) (control program insn pc right)

  abbrev agree : Insn → Type 0
  agree insn = AgreeOn (reads units insn) left right

  reading : (insn : Insn) → ends_block insn ≡ true → HaveSameOperands insn insn left right → AgreeOn (reads units insn) left right
  reading insn ends same r is = each_value (operands insn) left right same r (end_operands units insn r ends is)

  -- one instruction, from both
  one_insn : (insn : Insn) → ends_block insn ≡ true → HaveSameOperands insn insn left right → list_any text (moved insn left) ≡ false
      → StepAlike text insn insn (from_left insn) (from_right insn)
  one_insn insn ends same clear =
      let alike =
      control_frame text (reads units insn) units program program (record { start = refl; size = refl }) left right mapped_left mapped_right outside
      (reading insn ends same) insn pc ends (λ r is. is) clear in
      record {
        end = alike.related.end;
        pc = alike.pc;
        outside = alike.related.outside;
        written = λ on q p wrote written.
            let one : q ≡ p = sym (single_result insn q wrote) ∙ single_result insn p written in
            subst (λ n. register (from_left insn).state.core q ≡ register (from_right insn).state.core n) one
            (alike.related.registers on q (either_second (reads units insn q) (writes insn q) (end_writes insn q ends ∙ wrote)));
      }

  nothing_written : (insn new : Insn) (q p : ℕ) → is_among [] q ≡ true → register left q ≡ register right p
  nothing_written insn new q p wrote = grind (arith, nat_tests)

  pub control_alike : (insn : Insn) (operand : ℕ → ℕ) (result : ℕ) → ends_block insn ≡ true
      → HaveSameOperands insn (with_result result (with_operands operand insn)) left right → list_any text (moved insn left) ≡ false
      → StepAlike text insn (with_result result (with_operands operand insn)) (from_left insn) (from_right (with_result result (with_operands operand insn)))
  control_alike (Jalr rd rs1 offset) operand result ends same clear =
      let base : register left rs1 ≡ register right (operand rs1) = cc in
      subst (λ target. StepAlike text (Jalr rd rs1 offset) (Jalr rd (operand rs1) offset) (from_left (Jalr rd rs1 offset))
      (reached (at_pc pc right) (directed target (with_register right rd (following pc)))))
      (λ i. even (operation Add (base i) (word_of offset)))
      (tested (even (address_from left rs1 offset)) (even (address_from left rs1 offset) % 4 == 0))
    where
      tested : (target : ℕ) (aligned : Bool)
          → StepAlike text (Jalr rd rs1 offset) (Jalr rd (operand rs1) offset)
          (reached (at_pc pc left) (if aligned then Next (at_pc target (with_register left rd (following pc))) else Ended (stops.Misaligned target)))
          (reached (at_pc pc right) (if aligned then Next (at_pc target (with_register right rd (following pc))) else Ended (stops.Misaligned target)))
      tested target true = record {
        end = refl;
        pc = λ on. refl;
        outside = record { memory = outside.memory; heap_end = outside.heap_end; input = outside.input; output = outside.output };
        written = λ on q p wrote written.
            register_written left rd (following pc) q wrote ∙ sym (register_written right rd (following pc) p written);
      }
      tested target false = record { end = refl; pc = λ on. cc; outside = outside; written = λ on. cc }
  control_alike (Branch cond rs1 rs2 offset) operand result ends same clear =
      let a : register left rs1 ≡ register right (operand rs1) = cc in
      let b : register left rs2 ≡ register right (operand rs2) = cc in
      tested (is_taken cond (register left rs1) (register left rs2)) (is_taken cond (register right (operand rs1)) (register right (operand rs2)))
      (λ i. is_taken cond (a i) (b i)) (operation Add pc (word_of offset)) (operation Add pc (word_of offset) % 4 == 0)
    where
      tested : (l r : Bool) → l ≡ r → (target : ℕ) (aligned : Bool)
          → StepAlike text (Branch cond rs1 rs2 offset) (Branch cond (operand rs1) (operand rs2) offset)
          (reached (at_pc pc left) (if l then (if aligned then Next (at_pc target left) else Ended (stops.Misaligned target)) else onward pc left))
          (reached (at_pc pc right) (if r then (if aligned then Next (at_pc target right) else Ended (stops.Misaligned target)) else onward pc right))
      tested true true same target true = record {
        end = refl;
        pc = λ on. refl;
        outside = outside;
        written = λ on q p wrote written. nothing_written Ebreak Ebreak q p wrote;
      }
      tested true true same target false = record { end = refl; pc = λ on. cc; outside = outside; written = λ on. cc }
      tested false false same target aligned = record {
        end = refl;
        pc = λ on. refl;
        outside = outside;
        written = λ on q p wrote written. nothing_written Ebreak Ebreak q p wrote;
      }
      tested true false same target aligned = cc
      tested false true same target aligned = cc
  control_alike (Auipc rd upper) operand result ends same clear = one_insn (Auipc rd upper) ends same clear
  control_alike (Jal rd offset) operand result ends same clear = one_insn (Jal rd offset) ends same clear
  control_alike (Fence bits rs1 rd) operand result ends same clear = one_insn (Fence bits rs1 rd) ends same clear
  control_alike Ecall operand result ends same clear = one_insn Ecall ends same clear
  control_alike Ebreak operand result ends same clear = one_insn Ebreak ends same clear
  control_alike (Illegal word) operand result ends same clear = one_insn (Illegal word) ends same clear
  control_alike insn operand result ends same clear = cc

  -- both leave the text alone
  pub control_leaves : (insn : Insn) (operand : ℕ → ℕ) (result : ℕ) → ends_block insn ≡ true
      → HaveSameOperands insn (with_result result (with_operands operand insn)) left right → list_any text (moved insn left) ≡ false
      → list_any text (moved (with_result result (with_operands operand insn)) right) ≡ false
  control_leaves Ecall operand result ends same clear =
      leaves_alike text (reads units Ecall) units left right mapped_left mapped_right outside (reading Ecall ends same) Ecall ends (λ r is. is) clear
  control_leaves (Auipc rd upper) operand result ends same clear = refl
  control_leaves (Jal rd offset) operand result ends same clear = refl
  control_leaves (Jalr rd rs1 offset) operand result ends same clear = refl
  control_leaves (Branch cond rs1 rs2 offset) operand result ends same clear = refl
  control_leaves (Fence bits rs1 rd) operand result ends same clear = refl
  control_leaves Ebreak operand result ends same clear = refl
  control_leaves (Illegal word) operand result ends same clear = refl
  control_leaves insn operand result ends same clear = cc
