-- The text stays while no step touches it.
use Rattle.std.proofs.Common.{◌≡◌, ℕ, zero, suc, ◌%◌, ◌<◌, ◌≤◌, refl, ap, sym, subst, ◌∙◌, arith, List, [], ◌∷◌, take, Option, Some, None, is_some, find}
use Rattle.std.specs.Prelude.{Bool, true, false, ◌==◌, ◌&&◌, ◌||◌, nat_le, if◌then◌else◌, is_none}
use Rattle.std.specs.List.{list_any}
use Rattle.std.proofs.lemmas.Bool.Decides.{nat_tests}
use Rattle.ci_word.specs.declared.arithmetic.Op.TheVariants.{Add}
use Rattle.ci_word.specs.Arithmetic.{operation, word_of}
use Rattle.ci_isa.specs.declared.instruction.Insn.{Insn}
use Rattle.ci_isa.specs.declared.instruction.Insn.TheVariants.{Auipc, Jal, Jalr, Branch, Ecall, Ebreak, Illegal}
use Rattle.ci_isa.specs.Effects.{ends_block}
use Rattle.ci_machine.specs.declared.ends.End.{End}
use Rattle.ci_machine.specs.declared.ends.End.TheVariants as ends
use Rattle.ci_machine.specs.Cores.{Core, register, with_register}
use Rattle.ci_machine.specs.Accesses.{addresses}
use Rattle.ci_machine.specs.Outcomes.{Outcome, Next, Ended, Reached, reached, continued, from_end}
use Rattle.ci_machine.specs.Actions.{Units, act, accessed}
use Rattle.ci_machine.specs.Agreement.{acted}
use Rattle.ci_machine.specs.Programs.{Program, State, at_pc, in_text, lies_in, heap_start}
use Rattle.ci_machine.specs.Calls.{bad_file, bad_address, no_such_call, answering, range_at, read_length, read_into}
use Rattle.ci_machine.specs.Calls.{read_call, written_from, is_output, write_call, may_end_at, with_heap_end, heap_call}
use Rattle.ci_machine.specs.Calls.{call}
use Rattle.ci_machine.specs.Touches.{moved_range, moved_by_call}
use Rattle.ci_machine.specs.Steps.{Meaning, fetched, onward, directed, is_taken, then_onward, control, execute, stepped, step}
use Rattle.ci_machine.specs.Touches.{moved, touched}
use Rattle.ci_machine.specs.Runs.{after}
use Rattle.ci_machine.specs.Touches.{LeavesTextFor}
use Rattle.ci_machine.specs.Blocks.{HaveSameText}
use Rattle.ci_machine.specs.Texts.{HasText, HasTextOf}
use Rattle.ci_machine.proofs.TestLaws.{both_first}
use Rattle.ci_machine.proofs.InstructionFrame.{keeps}
use Rattle.ci_machine.proofs.BlockSteps.{not_stored, text_stays}

-- ---- what is touched

pub none_found : (p : ℕ → Bool) (places : List ℕ) → find p places ≡ None → list_any p places ≡ false
none_found p [] none = refl
none_found p (place ∷ places) none = tested (p place) (none_found p places) none
  where
    tested : (test : Bool) → (find p places ≡ None → list_any p places ≡ false) → (if test then Some place else find p places) ≡ None
        → (test || list_any p places) ≡ false
    tested true later none = cc
    tested false later none = later none

pub find_none : (p : ℕ → Bool) (places : List ℕ) → list_any p places ≡ false → find p places ≡ None
find_none p [] none = refl
find_none p (place ∷ places) none = tested (p place) (find_none p places) none
  where
    tested : (test : Bool) → (list_any p places ≡ false → find p places ≡ None) → (test || list_any p places) ≡ false
        → (if test then Some place else find p places) ≡ None
    tested true later none = cc
    tested false later none = later none

pub same_moved : (insn : Insn) (core : Core) → ends_block insn ≡ false → moved insn core ≡ accessed insn core
same_moved Ecall core acts = cc
same_moved insn core acts = refl

-- ---- one step

-- the text of a core stays behind what leads to another, and so does where its heap begins
record KeepsText (program : Program) (core later : Core) : Type 0 where
  same : HaveSameText program core.memory later.memory
  heap : heap_start program ≤ later.heap_end

module _ (program : Program) (core : Core) (text : HasText program core) where
  as_it_was : (rd value : ℕ) → KeepsText program core (with_register core rd value)
  as_it_was rd value = record { same = λ a is. refl; heap = text.heap }

  unchanged : KeepsText program core core
  unchanged = record { same = λ a is. refl; heap = text.heap }

  acted_keeps : (units : Units) (insn : Insn) → list_any (in_text program) (accessed insn core) ≡ false → KeepsText program core (acted units insn core).state
  acted_keeps units insn clear = record {
    same = λ a is. sym (text_stays (in_text program) units insn core a clear is);
    heap = subst (λ (end : ℕ). heap_start program ≤ end) (sym (keeps units insn core).heap_end) text.heap;
  }

  -- ---- calls

  read_keeps : ((register core 10 == 0) ≡ true → list_any (in_text program) (moved_range core (read_length core)) ≡ false)
      → KeepsText program core (read_call core)
  read_keeps clear = tested (register core 10 == 0) clear
    where
      into : (found : Option (List ℕ)) → range_at core.memory (register core 11) (read_length core) ≡ found
          → list_any (in_text program) (moved_range core (read_length core)) ≡ false → KeepsText program core (read_into core found)
      into None is clear = as_it_was 10 bad_address
      into (Some bytes) is clear = record {
        same = λ a there.
            sym (not_stored (in_text program) (addresses (read_length core) (register core 11)) (take (read_length core) core.input)
            core.memory a (rw is at clear) there);
        heap = text.heap;
      }

      tested : (test : Bool) → (test ≡ true → list_any (in_text program) (moved_range core (read_length core)) ≡ false)
          → KeepsText program core (if test then read_into core (range_at core.memory (register core 11) (read_length core)) else answering core bad_file)
      tested true clear = into _ refl (clear refl)
      tested false clear = as_it_was 10 bad_file

  write_keeps : KeepsText program core (write_call core)
  write_keeps = tested (is_output (register core 10))
    where
      from : (found : Option (List ℕ)) → KeepsText program core (written_from core found)
      from None = as_it_was 10 bad_address
      from (Some bytes) = record { same = λ a is. refl; heap = text.heap }

      tested : (test : Bool)
          → KeepsText program core (if test then written_from core (range_at core.memory (register core 11) (register core 12)) else answering core bad_file)
      tested true = from _
      tested false = as_it_was 10 bad_file

  not_below : (start end a : ℕ) → a < start → lies_in start end a ≡ false
  not_below start end a below = grind (arith, nat_tests)

  may_start : (end : ℕ) → may_end_at program end ≡ true → heap_start program ≤ end
  may_start end may =
      let first : nat_le (heap_start program) end ≡ true = both_first _ _ (both_first _ _ (both_first _ _ may)) in
      grind (arith, nat_tests)

  heap_keeps : KeepsText program core (heap_call program core)
  heap_keeps = tested (may_end_at program (register core 10)) refl
    where
      ended : (end : ℕ) → heap_start program ≤ end → KeepsText program core (with_heap_end core end)
      ended end above = record { same = λ a is. stays a (text.below a is); heap = above }
        where
          stays : (a : ℕ) → a < heap_start program → core.memory a ≡ (with_heap_end core end).memory a
          stays a below =
              let old : lies_in core.heap_end end a ≡ false = not_below core.heap_end end a (omega (arith, text.heap)) in
              let new : lies_in end core.heap_end a ≡ false = not_below end core.heap_end a (omega arith) in
              λ i. if sym old i then Some 0 else if sym new i then None else core.memory a

      tested : (may : Bool) → may_end_at program (register core 10) ≡ may
          → KeepsText program core (let next = if may then with_heap_end core (register core 10) else core in answering next next.heap_end)
      tested true is = let kept = ended (register core 10) (may_start (register core 10) is) in record { same = kept.same; heap = kept.heap }
      tested false is = as_it_was 10 core.heap_end

  called_keeps : list_any (in_text program) (moved_by_call core) ≡ false → KeepsText program core (reached core (call program core)).state
  called_keeps clear =
      tested (register core 17 == 63) (register core 17 == 64) (register core 17 == 93) (register core 17 == 214) clear
    where
      reading : (test : Bool) → list_any (in_text program) (if test then moved_range core (read_length core)
          else if (register core 17 == 64) && is_output (register core 10) then moved_range core (register core 12) else []) ≡ false
          → test ≡ true → list_any (in_text program) (moved_range core (read_length core)) ≡ false
      reading true clear is = clear
      reading false clear is = cc

      tested : (read write exit heap : Bool)
          → list_any (in_text program) (if read && (register core 10 == 0) then moved_range core (read_length core)
          else if (register core 17 == 64) && is_output (register core 10) then moved_range core (register core 12) else []) ≡ false
          → KeepsText program core (reached core (if read then Next (read_call core) else if write then Next (write_call core)
          else if exit then Ended (ends.Exit (register core 10)) else if heap then Next (heap_call program core) else Next (answering core no_such_call))).state
      tested true write exit heap clear = read_keeps (reading (register core 10 == 0) clear)
      tested false true exit heap clear = write_keeps
      tested false false true heap clear = unchanged
      tested false false false true clear = heap_keeps
      tested false false false false clear = as_it_was 10 no_such_call

module _ (program : Program) (state : State) (text : HasText program state.core) where
  then_keeps : (outcome : Outcome Core) → KeepsText program state.core (reached state.core outcome).state
      → KeepsText program state.core (reached state (then_onward state.pc outcome)).state.core
  then_keeps (Next core) kept = kept
  then_keeps (Ended end) kept = unchanged program state.core text

  directed_keeps : (target rd value : ℕ) → KeepsText program state.core (reached state (directed target (with_register state.core rd value))).state.core
  directed_keeps target rd value = tested (target % 4 == 0)
    where
      tested : (test : Bool)
          → KeepsText program state.core
          (reached state (if test then Next (at_pc target (with_register state.core rd value)) else Ended (ends.Misaligned target))).state.core
      tested true = as_it_was program state.core text rd value
      tested false = unchanged program state.core text

  control_keeps : (insn : Insn) → list_any (in_text program) (moved insn state.core) ≡ false
      → KeepsText program state.core (reached state (control program insn state.pc state.core)).state.core
  control_keeps (Auipc rd upper) clear = as_it_was program state.core text rd _
  control_keeps (Jal rd offset) clear = directed_keeps _ rd _
  control_keeps (Jalr rd rs1 offset) clear = directed_keeps _ rd _
  control_keeps (Branch cond rs1 rs2 offset) clear =
      tested (is_taken cond (register state.core rs1) (register state.core rs2)) (operation Add state.pc (word_of offset) % 4 == 0)
    where
      tested : (taken aligned : Bool)
          → (let target = operation Add state.pc (word_of offset) in
          KeepsText program state.core
          (reached state
          (if taken then (if aligned then Next (at_pc target state.core) else Ended (ends.Misaligned target)) else onward state.pc state.core)).state.core)
      tested true true = unchanged program state.core text
      tested true false = unchanged program state.core text
      tested false aligned = unchanged program state.core text
  control_keeps Ecall clear = then_keeps (call program state.core) (called_keeps program state.core text clear)
  control_keeps Ebreak clear = unchanged program state.core text
  control_keeps (Illegal word) clear = unchanged program state.core text
  control_keeps insn clear = unchanged program state.core text

  executed_keeps : (units : Units) (insn : Insn) → list_any (in_text program) (moved insn state.core) ≡ false
      → KeepsText program state.core (reached state (execute units program insn state)).state.core
  executed_keeps units insn clear = tested (ends_block insn) refl
    where
      tested : (test : Bool) → ends_block insn ≡ test
          → KeepsText program state.core
          (reached state (if test then control program insn state.pc state.core else then_onward state.pc (act units insn state.core))).state.core
      tested true is = control_keeps insn clear
      tested false is =
          then_keeps (act units insn state.core)
          (acted_keeps program state.core text units insn (subst (λ places. list_any (in_text program) places ≡ false) (same_moved insn state.core is) clear))

module _ (meaning : Meaning) (program : Program) where
  step_keeps : (state : State) → HasText program state.core → touched meaning program state ≡ None
      → KeepsText program state.core (reached state (step meaning program state)).state.core
  step_keeps state text clear = by_fetch (fetched meaning program state) clear
    where
      by_fetch : (found : Option Insn) → elim found as (λ _. Option ℕ) [ None ↦ None | Some insn ↦ find (in_text program) (moved insn state.core) ] ≡ None
          → KeepsText program state.core (reached state (stepped meaning.units program state found)).state.core
      by_fetch None clear = unchanged program state.core text
      by_fetch (Some insn) clear = executed_keeps program state text meaning.units insn (none_found (in_text program) (moved insn state.core) clear)

  kept_text : (first core later : Core) → HasTextOf program first core → KeepsText program core later → HasTextOf program first later
  kept_text first core later had kept = record {
    same = λ a is. had.same a is ∙ kept.same a is;
    text = record {
      mapped = λ a is. ap is_some (sym (kept.same a is)) ∙ had.text.mapped a is;
      below = had.text.below;
      heap = kept.heap;
    };
  }

  pub text_stays_for : (n : ℕ) (state : State) → HasText program state.core → LeavesTextFor meaning program n state
      → HasTextOf program state.core (after meaning program n state).state.core
  text_stays_for zero state text clear = record { same = λ a is. refl; text = text }
  text_stays_for (suc n) state text clear =
      one_more (after meaning program n state) (text_stays_for n state text (λ i lt. clear i (omega arith))) (clear n (omega arith))
    where
      one_more : (run : Reached State) → HasTextOf program state.core run.state.core → (is_none run.end ≡ true → touched meaning program run.state ≡ None)
          → HasTextOf program state.core (continued (step meaning program) run).state.core
      one_more run had clear = tested run.end clear
        where
          tested : (end : Option End) → (is_none end ≡ true → touched meaning program run.state ≡ None)
              → HasTextOf program state.core (from_end (step meaning program) run end).state.core
          tested None clear = kept_text state.core run.state.core _ had (step_keeps run.state had.text (clear refl))
          tested (Some e) clear = had
