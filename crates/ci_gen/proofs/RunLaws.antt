-- The run of a generated program on the plain machine leaves the text alone, and exits with code 0.
use Rattle.std.proofs.Common.{◌≡◌, ◌∙◌, ℕ, zero, suc, ◌+◌, ◌-◌, ◌*◌, ◌%◌, ◌^◌, ◌<◌, ◌≤◌, pos, inl, inr, List, [], ◌∷◌}
use Rattle.std.proofs.Common.{length, Option, Some, None, Ok, refl, sym, ap, subst, arith, lit<, lit≤, find}
use Rattle.std.specs.Prelude.{Bool, true, false, nat_lt, if◌then◌else◌, slice_index, slice_index_or}
use Rattle.std.proofs.lemmas.Bool.{cases_lt, cond_both, eq-eqb}
use Rattle.std.proofs.lemmas.Bool.Decides.{nat_tests}
use Rattle.std.proofs.lemmas.List.{get_or_append_left, get_or-append_right}
use Rattle.ci_word.specs.declared.arithmetic.Op.{Op}
use Rattle.ci_word.specs.declared.arithmetic.Op.TheVariants.{Add}
use Rattle.ci_word.specs.Arithmetic.{operation, word_of}
use Rattle.ci_isa.specs.declared.instruction.Insn.{Insn}
use Rattle.ci_isa.specs.declared.instruction.Insn.TheVariants.{Alu, AluImm, Lui, Store, Ecall}
use Rattle.ci_isa.specs.declared.instruction.Width.TheVariants.{Word}
use Rattle.ci_isa.specs.Table.{IsInsnAt, IsWordOf}
use Rattle.ci_isa.proofs.RowCompleteness.{one_insn}
use Rattle.ci_elf.specs.declared.ranges.Range.{Range}
use Rattle.ci_elf.specs.declared.segments.Segment.{Segment}
use Rattle.ci_elf.specs.Executables.{Executable, InText, IsTextWord, text_word}
use Rattle.ci_elf.specs.Executables as elf
use Rattle.ci_elf.specs.FrameImages.{IsFramed, text_range, text_segment, values_offset, values_segment}
use Rattle.ci_elf.specs.Frames.{text_address}
use Rattle.ci_elf.specs.Rules.{IsReadAs}
use Rattle.ci_elf.proofs.TextPlaceLaws.{formed}
use Rattle.ci_machine.specs.declared.ends.End.TheVariants.{Exit, Misaligned}
use Rattle.ci_machine.specs.Accesses.{addresses, bytes_at, bytes_of_number, joined, with_bytes}
use Rattle.ci_machine.specs.Actions.{Units, stored}
use Rattle.ci_machine.specs.Calls.{range_at, write_call}
use Rattle.ci_machine.specs.Cores.{Core, register, with_register}
use Rattle.ci_machine.specs.Outcomes.{Outcome, Next, Ended, reached, continued}
use Rattle.ci_machine.specs.Programs.{Program, State, at_pc, in_text, lies_in, loaded_byte, loaded_memory}
use Rattle.ci_machine.specs.Programs.{loaded_program, opening}
use Rattle.ci_machine.specs.Runs.{after, before_step}
use Rattle.ci_machine.specs.Steps.{Meaning, IsPlain, directed, execute, fetched, following, insn_in, onward, step}
use Rattle.ci_machine.specs.Steps.{stepped, then_onward}
use Rattle.ci_machine.specs.Touches.{LeavesTextFor, moved, moved_range, touched}
use Rattle.ci_machine.proofs.JoinLaws.{counts_stay}
use Rattle.ci_machine.proofs.OpeningLaws.{later_insn}
use Rattle.ci_machine.proofs.RunLaws.{ends_stay}
use Rattle.ci_machine.proofs.TestLaws.{no_end}
use Rattle.ci_gen.specs.Programs.{AreWordsOf, IsProgramOf}
use Rattle.ci_gen.specs.Runs.{ProgramsExit, words_of_text}
use Rattle.ci_gen.specs.Texts.{add_constant, constant_operations, ending, groups, next_word, operation_of}
use Rattle.ci_gen.specs.Texts.{register_operations, text_of}
use Rattle.ci_gen.proofs.InstructionLaws.{of_groups}
use Rattle.ci_gen.proofs.OperationLaws.{length-groups}
use Rattle.ci_gen.proofs.ProgramLaws.{length-words, read_as_framed}

-- ---- instructions that lead to the next word

-- the next word is at the next multiple of four
onward_low : (pc : ℕ) (core : Core) → pc + 4 < 2 ^ 32 → onward pc core ≡ Next (at_pc (pc + 4) core)
onward_low pc core low =
    let same : (pc + 4) % 2 ^ 32 ≡ pc + 4 = omega arith in
    ap (λ (p : ℕ). Next (at_pc p core)) same

-- The instruction moves no byte, keeps memory, and leads to the next word. A word that stands for it reads as it in the
-- plain table.
record IsQuiet (insn : Insn) : Type 0 where
  stands : (word : ℕ) → IsWordOf word insn → IsInsnAt word insn
  moves_none : (core : Core) → moved insn core ≡ []
  goes :
      (units : Units) (program : Program) (pc : ℕ) (core : Core) → pc % 4 ≡ 0 → pc + 4 < 2 ^ 32
      → (next : Core) × (execute units program insn (at_pc pc core) ≡ Next (at_pc (pc + 4) next))
      × (next.memory ≡ core.memory)

-- such are operations on registers,
quiet_alu : (op : Op) (rd rs1 rs2 : ℕ) → IsQuiet (Alu op rd rs1 rs2)
quiet_alu op rd rs1 rs2 = record {
  stands = λ word is. is;
  moves_none = λ core. refl;
  goes = λ units program pc core whole low. (
    with_register core rd (operation op (register core rs1) (register core rs2)),
    onward_low pc (with_register core rd (operation op (register core rs1) (register core rs2))) low,
    refl,
  );
}

-- operations on a register and a constant,
quiet_constant : (op : Op) (rd rs1 n : ℕ) → IsQuiet (AluImm op rd rs1 (pos n))
quiet_constant op rd rs1 n = record {
  stands = λ word is. is;
  moves_none = λ core. refl;
  goes = λ units program pc core whole low. (
    with_register core rd (operation op (register core rs1) (word_of (pos n))),
    onward_low pc (with_register core rd (operation op (register core rs1) (word_of (pos n)))) low,
    refl,
  );
}

-- so each operation of a program,
quiet_operation : (kind rd rs1 last : ℕ) → IsQuiet (operation_of kind rd rs1 last)
unfolding operation_of
quiet_operation kind rd rs1 last =
    cond_both (nat_lt kind 5) (Alu (slice_index_or register_operations kind Add) rd rs1 last)
    (AluImm (slice_index_or constant_operations (kind - 5) Add) rd rs1 (pos last)) IsQuiet
    (λ e. quiet_alu (slice_index_or register_operations kind Add) rd rs1 last)
    (λ e. quiet_constant (slice_index_or constant_operations (kind - 5) Add) rd rs1 last)

-- and the jump to the next word
quiet_jump : IsQuiet next_word
quiet_jump = record {
  stands = λ word is. is;
  moves_none = λ core. refl;
  goes = λ units program pc core whole low.
      let next = with_register core 0 (following pc) in
      let target : (pc + 4) % 2 ^ 32 ≡ pc + 4 = omega arith in (
        next,
        ap (λ (t : ℕ). directed t next) target
            ∙ ap (λ test. if test then Next (at_pc (pc + 4) next) else Ended (Misaligned (pc + 4)))
            (eq-eqb ((pc + 4) % 4) 0 (omega arith)),
        refl,
      );
}

-- `addi` is made
abbrev summed : Core → (rd rs1 c : ℕ) → Core
summed core rd rs1 c = with_register core rd (operation Add (register core rs1) (word_of (pos c)))

-- a call moves no text where its range is none
moved_range_none : (text : ℕ → Bool) (core : Core) (n : ℕ) → find text (addresses n (register core 11)) ≡ None
    → find text (moved_range core n) ≡ None
moved_range_none text core n none = tested (range_at core.memory (register core 11) n) refl
  where
    tested : (found : Option (List ℕ)) → range_at core.memory (register core 11) n ≡ found
        → find text (moved_range core n) ≡ None
    tested None is = rw is refl
    tested (Some bytes) is = rw is none

-- ---- words and instructions, place by place

words_at : (words : List ℕ) (insns : List Insn) → AreWordsOf words insns → (k : ℕ) (d : Insn) → k < length words
    → IsWordOf (slice_index words k) (slice_index_or insns k d)
words_at [] insns all k d below = absurd (omega arith)
words_at (w ∷ words) [] all k d below = absurd all
words_at (w ∷ words) (i ∷ insns) all zero d below = all.0
words_at (w ∷ words) (i ∷ insns) all (suc k) d below = words_at words insns all.1 k d (omega arith)

-- ---- the run of a program

module _
    (seed : ℕ) (file : Executable) (program : IsProgramOf seed file.bytes) (read : IsReadAs file.bytes (Ok file))
    (input : List ℕ) (meaning : Meaning) (is_plain : IsPlain meaning) where
  abbrev loaded : Program
  loaded = loaded_program file

  abbrev opens : State
  opens = opening file input

  framed : IsFramed program.words [] (0 ∷ []) file
  framed = read_as_framed seed file.bytes program file read

  count : length program.words ≡ words_of_text
  count = length-words seed program.words program.words_are

  -- ---- its text

  -- where word k stands
  abbrev place : ℕ → ℕ
  place k = text_address + 4 * k

  in_range : (k : ℕ) → k < words_of_text → InText (text_range program.words ∷ []) (place k)
  in_range k below = let long = count in grind (arith, nat_tests)

  is_text_word : (k : ℕ) → k < words_of_text → IsTextWord file.ranges (place k)
  is_text_word k below =
      subst (λ (ranges : List Range). IsTextWord ranges (place k)) (sym framed.ranges) (omega arith, in_range k below)

  -- it lies below the values
  off_text : (address : ℕ) → 0x20000 ≤ address → in_text loaded address ≡ false
  off_text address from =
      subst (λ (ranges : List Range). elf.in_text ranges address ≡ false) (sym framed.ranges)
      (let long = count in grind (arith, nat_tests))

  -- the instruction of word k
  abbrev insn_at : ℕ → Insn
  insn_at k = slice_index_or (text_of seed) k Ecall

  -- which the machine reads there
  reads : (k : ℕ) (insn : Insn) → k < words_of_text → insn_at k ≡ insn
      → ((word : ℕ) → IsWordOf word insn → IsInsnAt word insn) → meaning.insn (text_word file (place k)) ≡ insn
  reads k insn below is stands =
      let word = slice_index program.words k in
      let of_insn : IsWordOf word insn =
      subst (IsWordOf word) is
      (words_at program.words (text_of seed) program.words_are k Ecall (omega (arith, count))) in
      ap meaning.insn (framed.text_words k (omega (arith, count)))
      ∙ one_insn word (meaning.insn word) insn (is_plain word) (stands word of_insn)

  -- ---- steps

  -- after n steps the run stands at word n with this core, and left the text alone
  record IsAt (n : ℕ) (core : Core) : Type 0 where
    there : after meaning loaded n opens ≡ record { state = at_pc (place n) core; end = None }
    clear : LeavesTextFor meaning loaded n opens

  module _ (n : ℕ) (core : Core) (at : IsAt n core) (insn : Insn) (below : n < words_of_text) (is : insn_at n ≡ insn)
      (stands : (word : ℕ) → IsWordOf word insn → IsInsnAt word insn) where
    -- it fetches the instruction of the word
    fetches : fetched meaning loaded (at_pc (place n) core) ≡ Some insn
    fetches =
        subst (λ run. insn_in meaning loaded run.state.core.memory (place n) ≡ Some insn) at.there
        (later_insn file (formed file.bytes read.0 file read.1) meaning meaning input n at.clear (place n)
        (is_text_word n below)
        ∙ ap Some (reads n insn below is stands))

    -- and where that touches no text, no step has
    still_clear : find (in_text loaded) (moved insn core) ≡ None → LeavesTextFor meaning loaded (suc n) opens
    still_clear none i lt made = elim (cases_lt i n) [
      | inl before ↦ at.clear i before made
      | inr from ↦
          subst (λ (j : ℕ). touched meaning loaded (before_step meaning loaded opens j) ≡ None)
          (let same : n ≡ i = omega arith in same)
          (ap (λ run. touched meaning loaded run.state) at.there
          ∙ ap (λ (found : Option Insn). elim found as (λ _. Option ℕ) [
            | None ↦ None
            | Some other ↦ find (in_text loaded) (moved other core)
          ]) fetches
          ∙ none)
    ]

    -- what comes of it
    steps_to : (outcome : Outcome State) → execute meaning.units loaded insn (at_pc (place n) core) ≡ outcome
        → after meaning loaded (suc n) opens ≡ reached (at_pc (place n) core) outcome
    steps_to outcome same =
        ap (continued (step meaning loaded)) at.there
        ∙ ap (reached (at_pc (place n) core)) (ap (stepped meaning.units loaded (at_pc (place n) core)) fetches ∙ same)

    -- an instruction that goes on leads to the next word
    goes_on : (next : Core) → find (in_text loaded) (moved insn core) ≡ None
        → execute meaning.units loaded insn (at_pc (place n) core) ≡ Next (at_pc (place n + 4) next) → IsAt (suc n) next
    goes_on next none same = record {
      there =
          steps_to (Next (at_pc (place n + 4) next)) same
          ∙ ap (λ (pc : ℕ). record { state = at_pc pc next; end = None })
          (let next_place : place n + 4 ≡ place (suc n) = omega arith in next_place);
      clear = still_clear none;
    }

  -- ---- the groups

  -- up to the ending memory stays
  quiet_run : (k : ℕ) → k ≤ 16200 → (core : Core) × IsAt k core × (core.memory ≡ opens.core.memory)
  quiet_run zero le = (
    opens.core,
    record {
      there = λ i. record { state = at_pc (framed.entry i) opens.core; end = None };
      clear = λ i lt. absurd (omega arith);
    },
    refl,
  )
  quiet_run (suc k) le =
      let (core, at, same) = quiet_run k (omega arith) in
      let here : k < length (groups seed 1800) = omega (arith, length-groups seed 1800) in
      let quiet : IsQuiet (slice_index_or (groups seed 1800) k Ecall) =
      of_groups IsQuiet quiet_operation quiet_jump seed 1800 k Ecall here in
      let (next, goes, kept) =
      quiet.goes meaning.units loaded (place k) core (omega arith) (omega arith) in (
        next,
        goes_on k core at (slice_index_or (groups seed 1800) k Ecall) (omega arith)
            (get_or_append_left (groups seed 1800) ending Ecall k here) quiet.stands next
            (ap (find (in_text loaded)) (quiet.moves_none core)) goes,
        kept ∙ same,
      )

  -- ---- the ending

  -- the instructions behind the groups are those of the ending
  of_ending : (k : ℕ) → 16200 ≤ k → insn_at k ≡ slice_index_or ending (k - 16200) Ecall
  of_ending k from = get_or-append_right (groups seed 1800) ending 16200 k Ecall (length-groups seed 1800) from

  -- a sum with a constant leads on
  sum_on : (n : ℕ) (core : Core) (rd rs1 c : ℕ) → IsAt n core → n < words_of_text → insn_at n ≡ add_constant rd rs1 c
      → IsAt (suc n) (summed core rd rs1 c)
  sum_on n core rd rs1 c at below is =
      goes_on n core at (add_constant rd rs1 c) below is (λ word reading. reading) (summed core rd rs1 c) refl
      (onward_low (place n) (summed core rd rs1 c) (omega arith))

  -- the value is mapped
  value_mapped : (address : ℕ) → 0x20000 ≤ address → address < 0x20004
      → (byte : ℕ) × (opens.core.memory address ≡ Some byte)
  value_mapped address from to =
      subst (λ (segments : List Segment). (byte : ℕ) × (loaded_memory file.bytes segments address ≡ Some byte))
      (sym framed.segments)
      (loaded_byte file.bytes values (address - 0x20000), found)
    where
      text : Segment
      text = text_segment program.words []

      values : Segment
      values = values_segment program.words [] (0 ∷ [])

      not_text : lies_in 0x10000 (0x10000 + values_offset program.words []) address ≡ false
      not_text = let long = count in grind (arith, nat_tests)

      in_values : lies_in 0x20000 (0x20000 + 4) address ≡ true
      in_values = grind (arith, nat_tests)

      found :
          loaded_memory file.bytes (text ∷ values ∷ []) address
          ≡ Some (loaded_byte file.bytes values (address - 0x20000))
      found i =
          if not_text i then Some (loaded_byte file.bytes text (address - 0x10000))
          else if in_values i then Some (loaded_byte file.bytes values (address - 0x20000))
          else loaded_memory file.bytes [] address

  -- and no text
  values_off_text : find (in_text loaded) (addresses 4 0x20000) ≡ None
  values_off_text = λ i.
      if off_text 0x20000 (lit≤ tt) i then Some 0x20000
      else if off_text 0x20001 (lit≤ tt) i then Some 0x20001
      else if off_text 0x20002 (lit≤ tt) i then Some 0x20002
      else if off_text 0x20003 (lit≤ tt) i then Some 0x20003
      else None

  module _ (core : Core) (start : IsAt 16200 core) (same : core.memory ≡ opens.core.memory) where
    abbrev pointed : Core
    pointed = with_register core 28 0x20000

    abbrev kept : Core
    kept = record pointed {
      memory = with_bytes pointed.memory (addresses 4 0x20000) (bytes_of_number 4 (register pointed 5));
    }

    abbrev asking : Core
    asking = summed (summed (summed (summed kept 11 28 0) 10 0 1) 12 0 4) 17 0 64

    abbrev leaving : Core
    leaving = summed (summed (write_call asking) 10 0 0) 17 0 93

    all_mapped : (bytes : List ℕ) × (bytes_at core.memory (addresses 4 0x20000) ≡ Some bytes)
    all_mapped =
        let a = value_mapped 0x20000 (lit≤ tt) (lit< tt) in
        let b = value_mapped 0x20001 (lit≤ tt) (lit< tt) in
        let c = value_mapped 0x20002 (lit≤ tt) (lit< tt) in
        let d = value_mapped 0x20003 (lit≤ tt) (lit< tt) in (
          a.0 ∷ b.0 ∷ c.0 ∷ d.0 ∷ [],
          ap (λ memory. bytes_at memory (addresses 4 0x20000)) same
              ∙ (λ i. joined (a.1 i) (joined (b.1 i) (joined (c.1 i) (joined (d.1 i) (Some []))))),
        )

    at_pointed : IsAt 16201 pointed
    unfolding ending
    at_pointed =
        goes_on 16200 core start (Lui 28 0x20000) (lit< tt) (of_ending 16200 (lit≤ tt)) (λ word reading. reading)
        pointed refl (onward_low (place 16200) pointed (lit< tt))

    at_kept : IsAt 16202 kept
    unfolding ending
    at_kept =
        goes_on 16201 pointed at_pointed (Store Word 28 5 (pos 0)) (lit< tt) (of_ending 16201 (lit≤ tt))
        (λ word reading. reading) kept values_off_text
        (ap (λ found. then_onward (place 16201) (stored pointed Word 0x20000 (register pointed 5) found)) all_mapped.1
        ∙ onward_low (place 16201) kept (lit< tt))

    at_asking : IsAt 16206 asking
    unfolding ending
    at_asking =
        sum_on 16205 _ 17 0 64
        (sum_on 16204 _ 12 0 4
        (sum_on 16203 _ 10 0 1
        (sum_on 16202 kept 11 28 0 at_kept (lit< tt) (of_ending 16202 (lit≤ tt))) (lit< tt) (of_ending 16203 (lit≤ tt)))
        (lit< tt) (of_ending 16204 (lit≤ tt))) (lit< tt) (of_ending 16205 (lit≤ tt))

    at_leaving : IsAt 16209 leaving
    unfolding ending
    at_leaving =
        sum_on 16208 _ 17 0 93
        (sum_on 16207 (write_call asking) 10 0 0
        (goes_on 16206 asking at_asking Ecall (lit< tt) (of_ending 16206 (lit≤ tt)) (λ word reading. reading)
        (write_call asking) (moved_range_none (in_text loaded) asking 4 values_off_text)
        (onward_low (place 16206) (write_call asking) (lit< tt)))
        (lit< tt) (of_ending 16207 (lit≤ tt))) (lit< tt) (of_ending 16208 (lit≤ tt))

    -- the last step exits
    exited :
        LeavesTextFor meaning loaded words_of_text opens
        × ((after meaning loaded words_of_text opens).end ≡ Some (Exit 0))
    unfolding ending
    exited = (
      still_clear 16209 leaving at_leaving Ecall (lit< tt) (of_ending 16209 (lit≤ tt)) (λ word reading. reading) refl,
      ap (λ run. run.end)
          (steps_to 16209 leaving at_leaving Ecall (lit< tt) (of_ending 16209 (lit≤ tt)) (λ word reading. reading)
          (Ended (Exit 0)) refl),
    )

-- the run leaves the text alone, and exits
pub programs_exit : ProgramsExit
programs_exit seed file input meaning steps program read is_plain enough =
    let loaded = loaded_program file in
    let opens = opening file input in
    let (core, start, same) = quiet_run seed file program read input meaning is_plain 16200 (lit≤ tt) in
    let (clear, end) = exited seed file program read input meaning is_plain core start same in
    let over : ¬ ((after meaning loaded words_of_text opens).end ≡ None) =
    λ on. no_end (after meaning loaded words_of_text opens).end (Exit 0) on end in
    let sum : words_of_text + (steps - words_of_text) ≡ steps = omega arith in (
      subst (λ (n : ℕ). LeavesTextFor meaning loaded n opens) sum
          ((counts_stay meaning loaded words_of_text (steps - words_of_text) opens over).leaves_text clear),
      subst (λ (n : ℕ). (after meaning loaded n opens).end ≡ Some (Exit 0)) sum
          (ap (λ run. run.end) (ends_stay meaning loaded words_of_text (steps - words_of_text) opens over) ∙ end),
    )
