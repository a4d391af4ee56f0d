-- Lines of which it is known that their words stand in the text, without a look at memory.
use Rattle.std.proofs.Common.{◌^◌, add-zero, inl, inr, eq-eqb, ◌≡◌, ℕ, ◌+◌, ◌%◌, ◌<◌, ◌≤◌, ap, sym, subst, refl, ◌∙◌, arith, List, length, Option, None, Some}
use Rattle.std.specs.Prelude.{Bool, true, false, ◌==◌, ◌&&◌, ◌||◌, nat_lt, if◌then◌else◌, is_some}
use Rattle.std.specs.Prelude.{slice_index_or, slice_set}
use Rattle.std.specs.List.{list_all}
use Rattle.std.proofs.lemmas.Bool.{cases_eq, cases_lt, eqb-true}
use Rattle.std.proofs.lemmas.Bool.Decides.{nat_tests}
use Rattle.std.proofs.lemmas.List.{get_or-set_same, get_or-set_other, length-set, set_past}
use Rattle.std.proofs.lemmas.List.Elements.{All-set}
use Rattle.std.proofs.lemmas.List.Sums.{AllPass-from_list_all}
use Rattle.ci_isa.specs.declared.instruction.Insn.{Insn}
use Rattle.ci_isa.specs.declared.instruction.Insn.TheVariants.{Jal, Jalr, Branch, Ecall, Store}
use Rattle.ci_isa.specs.Effects.{ends_block}
use Rattle.ci_machine.specs.declared.ends.End.TheVariants as ends
use Rattle.ci_machine.specs.Calls.{answering, bad_file, call, heap_call, is_output, may_end_at, no_such_call}
use Rattle.ci_machine.specs.Calls.{range_at, read_call, with_heap_end, write_call, written_from}
use Rattle.ci_machine.specs.Cores.{Core, register, with_register}
use Rattle.ci_machine.specs.Outcomes.{Outcome, Next, Ended, reached}
use Rattle.ci_machine.specs.Actions.{Units, act, accessed}
use Rattle.ci_machine.specs.Programs.{Program, State, at_pc, in_text, lies_in}
use Rattle.ci_machine.specs.Steps.{onward, directed, is_taken, then_onward, control, execute}
use Rattle.ci_machine.specs.Blocks.{HaveSameText}
use Rattle.ci_machine.specs.Touches.{may_change_below, may_move_heap_below}
use Rattle.ci_machine.proofs.BlockSteps.{text_stays}
use Rattle.ci_machine.proofs.InstructionFrame.{keeps}
use Rattle.ci_machine.proofs.TestLaws.{neither_first, neither_second}
use Rattle.ci_machine.proofs.TextLaws.{none_found}
use Rattle.ci_machine.proofs.BlockSteps.{same_insn}
use Rattle.ci_elf.specs.declared.ranges.Range.{Range}
use Rattle.ci_elf.specs.Executables.{IsTextWord}
use Rattle.ci_elf.specs.Executables as elf
use Rattle.ci_elf.specs.WordPlaces.{word_place}
use Rattle.ci_elf.proofs.RangeLaws.{range_holding, text_from}
use Rattle.ci_elf.proofs.WordPlaceLaws.{one_word, text_word}
use Rattle.ci_machine.specs.Accesses.{addresses}
use Rattle.ci_machine.specs.Steps.{Meaning, word_at, fetched}
use Rattle.ci_emu.specs.declared.decode_cache.Decoded.{Decoded}
use Rattle.ci_emu.specs.declared.steps.Outcome as emu
use Rattle.ci_emu.specs.Alignment.{are_aligned}
use Rattle.ci_emu.specs.private.Fetched.{may_change, IsTextBelow}
use Rattle.ci_emu.specs.private.Lines.{AreKept, AreKnown, IsTimed, IsWordAt}
use Rattle.ci_emu.specs.Steps.{LeadsTo}
use Rattle.ci_emu.proofs.Fetching.{fetched_is}

abbrev KeepsMemory : State → Outcome State → Type 0
KeepsMemory state outcome = (reached state outcome).state.core.memory ≡ state.core.memory

-- ---- a call that may not change bytes below an address keeps them

not_between : (start end a : ℕ) → a < start → lies_in start end a ≡ false
not_between start end a below = grind (arith, nat_tests)

module _ (program : Program) (core : Core) (end a : ℕ) (below : a < end) where
  write_keeps : (write_call core).memory a ≡ core.memory a
  write_keeps = tested (is_output (register core 10))
    where
      from : (found : Option (List ℕ)) → (written_from core found).memory a ≡ core.memory a
      from None = refl
      from (Some bytes) = refl

      tested : (test : Bool)
          → (if test then written_from core (range_at core.memory (register core 11) (register core 12)) else answering core bad_file).memory a
          ≡ core.memory a
      tested true = from _
      tested false = refl

  moved_keeps : (heap : ℕ) → end ≤ core.heap_end → end ≤ heap → core.memory a ≡ (with_heap_end core heap).memory a
  moved_keeps heap before behind =
      let old : lies_in core.heap_end heap a ≡ false = not_between core.heap_end heap a (omega arith) in
      let new : lies_in heap core.heap_end a ≡ false = not_between heap core.heap_end a (omega arith) in
      λ i. if sym old i then Some 0 else if sym new i then None else core.memory a

  not_less : (m : ℕ) → nat_lt m end ≡ false → end ≤ m
  not_less m none = grind (arith, nat_tests)

  heap_keeps : may_move_heap_below program end core ≡ false → (heap_call program core).memory a ≡ core.memory a
  heap_keeps none = tested (may_end_at program (register core 10)) (neither_second _ _ none)
    where
      tested : (may : Bool) → (may && nat_lt (register core 10) end) ≡ false
          → (let next = if may then with_heap_end core (register core 10) else core in answering next next.heap_end).memory a ≡ core.memory a
      tested true moves =
          sym (moved_keeps (register core 10) (not_less core.heap_end (neither_first _ _ none)) (not_less (register core 10) moves))
      tested false moves = refl

  called_keeps : may_change_below program end core ≡ false → (reached core (call program core)).state.memory a ≡ core.memory a
  called_keeps none = tested (register core 17 == 63) (register core 17 == 64) (register core 17 == 93) (register core 17 == 214) none
    where
      tested : (read write exit heap : Bool) → (read || (heap && may_move_heap_below program end core)) ≡ false
          → (reached core (if read then Next (read_call core) else if write then Next (write_call core)
          else if exit then Ended (ends.Exit (register core 10)) else if heap then Next (heap_call program core)
          else Next (answering core no_such_call))).state.memory a ≡ core.memory a
      tested true write exit heap none = cc
      tested false true exit heap none = write_keeps
      tested false false true heap none = refl
      tested false false false true none = heap_keeps none
      tested false false false false none = refl

-- ---- steps that keep the text

module _ (state : State) where
  directed_keeps : (target rd value : ℕ) → KeepsMemory state (directed target (with_register state.core rd value))
  directed_keeps target rd value = tested (target % 4 == 0)
    where
      tested : (test : Bool)
          → KeepsMemory state (if test then Next (at_pc target (with_register state.core rd value)) else Ended (ends.Misaligned target))
      tested true = refl
      tested false = refl

  branch_keeps : (taken : Bool) (target : ℕ) → KeepsMemory state (if taken then directed target state.core else onward state.pc state.core)
  branch_keeps true target = tested (target % 4 == 0)
    where
      tested : (test : Bool) → KeepsMemory state (if test then Next (at_pc target state.core) else Ended (ends.Misaligned target))
      tested true = refl
      tested false = refl
  branch_keeps false target = refl

  then_keeps : (outcome : Outcome Core) (a : ℕ)
      → (reached state.core outcome).state.memory a ≡ state.core.memory a
      → (reached state (then_onward state.pc outcome)).state.core.memory a ≡ state.core.memory a
  then_keeps (Next core) a same = same
  then_keeps (Ended end) a same = refl

  kept_at : (outcome : Outcome State) (a : ℕ) → KeepsMemory state outcome → (reached state outcome).state.core.memory a ≡ state.core.memory a
  kept_at outcome a same = ap (λ memory. memory a) same

  control_keeps : (program : Program) (end a : ℕ) → a < end → (insn : Insn) → may_change program end insn state.core ≡ false
      → (reached state (control program insn state.pc state.core)).state.core.memory a ≡ state.core.memory a
  control_keeps program end a below (Jal rd offset) none =
      kept_at (control program (Jal rd offset) state.pc state.core) a (directed_keeps _ rd _)
  control_keeps program end a below (Jalr rd rs1 offset) none =
      kept_at (control program (Jalr rd rs1 offset) state.pc state.core) a (directed_keeps _ rd _)
  control_keeps program end a below (Branch cond rs1 rs2 offset) none =
      kept_at (control program (Branch cond rs1 rs2 offset) state.pc state.core) a
      (branch_keeps (is_taken cond (register state.core rs1) (register state.core rs2)) _)
  control_keeps program end a below Ecall none =
      then_keeps (call program state.core) a (called_keeps program state.core end a below none)
  control_keeps program end a below insn none = refl

  -- an instruction that may not change the text, which ends there, keeps it
  pub executed_keeps : (units : Units) (program : Program) (end : ℕ) → IsTextBelow (in_text program) end
      → (insn : Insn) → may_change program end insn state.core ≡ false
      → HaveSameText program state.core.memory (reached state (execute units program insn state)).state.core.memory
  executed_keeps units program end below insn none a is = tested (ends_block insn) refl
    where
      untouched : (o : Option ℕ) → is_some o ≡ false → o ≡ None
      untouched None some = refl
      untouched (Some address) some = cc

      within : a < end
      within = elim (cases_lt a end) [
        | inl before ↦ before
        | inr from ↦ absurd (let e : true ≡ false = sym is ∙ below a from in cc)
      ]

      clear : (insn : Insn) → may_change program end insn state.core ≡ false
          → (reached state.core (act units insn state.core)).state.memory a ≡ state.core.memory a
      clear (Store width rs1 rs2 offset) none =
          text_stays (in_text program) units (Store width rs1 rs2 offset) state.core a
          (none_found (in_text program) (accessed (Store width rs1 rs2 offset) state.core) (untouched _ none)) is
      clear insn none = ap (λ memory. memory a) ((keeps units insn state.core).memory refl)

      tested : (test : Bool) → ends_block insn ≡ test
          → state.core.memory a
          ≡ (reached state (if test then control program insn state.pc state.core else then_onward state.pc (act units insn state.core))).state.core.memory a
      tested true ends = sym (control_keeps program end a within insn none)
      tested false ends = sym (then_keeps (act units insn state.core) a (clear insn none))

-- ---- the bytes of a word are text

module _ (ranges : List Range) (aligned : are_aligned ranges ≡ true) (a : ℕ) (word : IsTextWord ranges a) where
  byte_is_text : (b : ℕ) → a ≤ b → b < a + 4 → elf.in_text ranges b ≡ true
  byte_is_text b from below =
      let held = range_holding ranges a word.1 in
      let start : held.1.start % 4 ≡ 0 =
      eqb-true (held.1.start % 4) 0
      (subst (λ (r : Range). (r.start % 4 == 0) ≡ true) held.3
      (AllPass-from_list_all (λ (r : Range). r.start % 4 == 0) ranges aligned held.0 held.1 held.2)) in
      text_from ranges b
      (held.0, held.1, held.2, held.3, (omega (arith, held.4.0, from), omega (arith, held.4.0, held.4.1, start, word.0, from, below)))

  pub word_is_text : a < 2 ^ 32 → list_all (elf.in_text ranges) (addresses 4 a) ≡ true
  word_is_text small =
      let first = byte_is_text (a % 2 ^ 32) (omega arith) (omega arith) in
      let second = byte_is_text ((a + 1) % 2 ^ 32) (omega (arith, word.0)) (omega (arith, word.0)) in
      let third = byte_is_text ((a + 1 + 1) % 2 ^ 32) (omega (arith, word.0)) (omega (arith, word.0)) in
      let fourth = byte_is_text ((a + 1 + 1 + 1) % 2 ^ 32) (omega (arith, word.0)) (omega (arith, word.0)) in
      rw (first, second, third, fourth) refl

-- ---- lines that are kept

pub later_kept : (cycles : ℕ → Insn → ℕ) (lines : List Decoded) (seen changes : ℕ) → seen ≤ changes → AreKept cycles seen lines → AreKept cycles changes lines
later_kept cycles lines seen changes more kept k d below = let line = kept k d below in (line.0, omega (arith, line.1))

pub set_kept : (cycles : ℕ → Insn → ℕ) (lines : List Decoded) (changes place : ℕ) (line : Decoded) (aligned : Bool) → IsTimed cycles line
    → (place < length lines → line.seen ≡ (if aligned then changes else 0)) → AreKept cycles changes lines → AreKept cycles changes (slice_set lines place line)
set_kept cycles lines changes place line aligned timed seen kept = elim (cases_lt place (length lines)) [
  | inl below ↦ All-set (λ l. IsTimed cycles l × (l.seen ≤ changes)) lines place line
      (timed, subst (λ (n : ℕ). n ≤ changes) (sym (seen below)) (no_more aligned)) kept
  | inr past ↦ subst (AreKept cycles changes) (sym (set_past lines place line past)) kept
]
  where
    no_more : (test : Bool) → (if test then changes else 0) ≤ changes
    no_more true = omega arith
    no_more false = omega arith

-- ---- lines that are known

module _ (meaning : Meaning) (program : Program) where
  -- none is where each was seen before the last change
  pub none_known : (memory : ℕ → Option ℕ) (cycles : ℕ → Insn → ℕ) (lines : List Decoded) (seen changes : ℕ) → seen < changes
      → AreKept cycles seen lines → AreKnown meaning program memory changes lines
  none_known memory cycles lines seen changes before kept address place d is below now = let line = kept place d below in absurd (omega (arith, line.1))

  still_known : (memory later : ℕ → Option ℕ) (lines : List Decoded) (changes : ℕ) → HaveSameText program memory later
      → AreKnown meaning program memory changes lines → AreKnown meaning program later changes lines
  still_known memory later lines changes same known address place d is below now = let there = known address place d is below now in record {
    insn = sym (same_insn meaning program memory later address same there.text) ∙ there.insn;
    text = there.text;
  }

  -- behind a step
  pub behind_step : (cycles : ℕ → Insn → ℕ) (lines : List Decoded) (changes end : ℕ) → IsTextBelow (in_text program) end
      → (state after : State) (insn : Insn) (outcome : emu.Outcome) (test : Bool) → may_change program end insn state.core ≡ test → AreKept cycles changes lines
      → LeadsTo state (execute meaning.units program insn state) after outcome
      → AreKnown meaning program state.core.memory changes lines
      → AreKnown meaning program after.core.memory (changes + (if test then 1 else 0)) lines
  behind_step cycles lines changes end below state after insn outcome true is kept leads known =
      none_known after.core.memory cycles lines changes (changes + 1) (omega arith) kept
  behind_step cycles lines changes end below state after insn outcome false is kept leads known =
      rw add-zero (still_known state.core.memory after.core.memory lines changes
      (subst (HaveSameText program state.core.memory) (ap (λ r. r.state.core.memory) leads) (executed_keeps state meaning.units program end below insn is)) known)

  -- a line that was compared with memory is
  module _ (state : State) (small : state.pc < 2 ^ 32) (place : ℕ) (here : word_place program.text state.pc ≡ Some place)
      (line : Decoded) (there : word_at state.core.memory state.pc ≡ Some line.word) where
    pub here_fetched : fetched meaning program state ≡ Some (meaning.insn line.word)
    here_fetched =
        let word = text_word program.text state.pc place here in
        fetched_is program state meaning line.word (eq-eqb (state.pc % 4) 0 word.0) word.1 there

    pub set_known : (lines : List Decoded) (changes : ℕ) → 0 < changes → (aligned : Bool) → aligned ≡ are_aligned program.text
        → (place < length lines → line.seen ≡ (if aligned then changes else 0))
        → AreKnown meaning program state.core.memory changes lines → AreKnown meaning program state.core.memory changes (slice_set lines place line)
    set_known lines changes begun aligned is seen known address k d at below now = elim (cases_eq k place) [
      | inl same ↦
          let within : place < length lines = subst (λ (j : ℕ). j < length lines) same (rw length-set at below) in
          let line_is : slice_index_or (slice_set lines place line) k d ≡ line =
          ap (λ j. slice_index_or (slice_set lines place line) j d) same ∙ get_or-set_same lines place line d within in
          let pc_is : state.pc ≡ address = one_word program.text state.pc address place here (at ∙ ap Some same) in
          let lies = lies_in_text aligned is (sym (seen within) ∙ ap (λ (l : Decoded). l.seen) (sym line_is) ∙ now) in
          subst (λ a. IsWordAt meaning program state.core.memory a (slice_index_or (slice_set lines place line) k d)) pc_is
          (subst (IsWordAt meaning program state.core.memory state.pc) (sym line_is) (record { insn = here_fetched; text = lies }))
      | inr other ↦
          let line_is = get_or-set_other lines place k line d other in
          subst (IsWordAt meaning program state.core.memory address) (sym line_is)
          (known address k d at (rw length-set at below) (ap (λ (l : Decoded). l.seen) (sym line_is) ∙ now))
    ]
      where
        lies_in_text : (test : Bool) → test ≡ are_aligned program.text → (if test then changes else 0) ≡ changes
            → list_all (in_text program) (addresses 4 state.pc) ≡ true
        lies_in_text true lie now = word_is_text program.text (sym lie) state.pc (text_word program.text state.pc place here) small
        lies_in_text false lie now = absurd (omega arith)
