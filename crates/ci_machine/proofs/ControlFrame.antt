-- What an instruction that ends a block does depends on the registers that it reads and the bytes that it moves.
use Rattle.std.proofs.Common.{◌≡◌, ℕ, ◌+◌, ◌-◌, ◌%◌, ◌^◌, refl, ap, sym, subst, ◌∙◌, arith, List, [], ◌∷◌, ◌++◌, take, drop, min, length, Option, Some, None}
use Rattle.std.specs.Prelude.{Bool, true, false, not, ◌==◌, ◌&&◌, ◌||◌, nat_le, if◌then◌else◌, is_some}
use Rattle.std.specs.List.{list_any}
use Rattle.ci_word.specs.declared.arithmetic.Op.TheVariants.{Add}
use Rattle.ci_word.specs.Arithmetic.{operation, word_of}
use Rattle.ci_isa.specs.declared.instruction.Insn.{Insn}
use Rattle.ci_isa.specs.declared.instruction.Insn.TheVariants.{Auipc, Jal, Jalr, Branch, Fence, Ecall, Ebreak, Illegal}
use Rattle.ci_isa.specs.Effects.{ends_block, is_among}
use Rattle.ci_elf.specs.MemoryMap.{memory_top, stack_start, stack_end, most_memory}
use Rattle.ci_machine.specs.declared.ends.End.{End}
use Rattle.ci_machine.specs.declared.ends.End.TheVariants as ends
use Rattle.ci_machine.specs.Cores.{Core, register, with_register}
use Rattle.ci_machine.specs.Accesses.{addresses, bytes_at, joined, with_bytes}
use Rattle.ci_machine.specs.Outcomes.{Next, Ended, reached, at_start}
use Rattle.ci_machine.specs.Actions.{Units, address_from}
use Rattle.ci_machine.specs.Agreement.{reads, writes, AgreeOutside, AgreeOn, AreRelated}
use Rattle.ci_machine.specs.Programs.{Program, State, at_pc, lies_in}
use Rattle.ci_machine.specs.Calls.{bad_file, bad_address, no_such_call, answering, range_at, read_length, read_into}
use Rattle.ci_machine.specs.Calls.{read_call, written_from, is_output, write_call, may_end_at, with_heap_end, heap_call}
use Rattle.ci_machine.specs.Calls.{numbered_call}
use Rattle.ci_machine.specs.Touches.{moved_range}
use Rattle.ci_machine.specs.Steps.{control, onward, directed, then_onward, following, is_taken, even}
use Rattle.ci_machine.specs.Touches.{moved}
use Rattle.ci_machine.specs.Blocks.{AreRelatedAt, HaveSameLayout, IsMapped}
use Rattle.ci_machine.proofs.TestLaws.{by_test, either_first}
use Rattle.ci_machine.proofs.RegisterLaws.{register_kept, register_written, operands_agree, first_there, second_there}
use Rattle.ci_machine.proofs.InstructionFrame.{same_bytes, same_stores, outside_text}

-- ---- cores behind a write

module _ (text set : ℕ → Bool) where
  -- one register more agrees
  written_too : (left right : Core) → AgreeOutside text left right → AgreeOn set left right → (rd v w : ℕ) → v ≡ w
      → AreRelated text (λ r. set r || is_among (rd ∷ []) r) (at_start (with_register left rd v)) (at_start (with_register right rd w))
  written_too left right outside agree rd v w same = record {
    end = refl;
    outside = record { memory = outside.memory; heap_end = outside.heap_end; input = outside.input; output = outside.output };
    registers = λ on r is. by_test (is_among (rd ∷ []) r)
        (λ here. register_written left rd v r here ∙ same ∙ sym (register_written right rd w r here))
        (λ other. register_kept left rd v r other ∙ agree r (either_first (set r) _ is other) ∙ sym (register_kept right rd w r other));
  }

  as_before : (left right : Core) → AgreeOutside text left right → AgreeOn set left right
      → AreRelated text (λ r. set r || is_among [] r) (at_start left) (at_start right)
  as_before left right outside agree = record {
    end = refl;
    outside = outside;
    registers = λ on r is. agree r (nothing_more (set r) (not (r == 0)) is);
  }
    where
      nothing_more : (p q : Bool) → (p || (q && false)) ≡ true → p ≡ true
      nothing_more p q is = grind arith

-- ---- states

module _ (text more : ℕ → Bool) (left right : State) where
  both_next : (pc : ℕ) (l r : Core) → AreRelated text more (at_start l) (at_start r)
      → AreRelatedAt text more (reached left (Next (at_pc pc l))) (reached right (Next (at_pc pc r)))
  both_next pc l r same = record { pc = λ on. refl; related = same }

  both_ended : (l r : End) → l ≡ r → AgreeOutside text left.core right.core → AreRelatedAt text more (reached left (Ended l)) (reached right (Ended r))
  both_ended l r same outside = record {
    pc = λ on. cc;
    related = record { end = ap Some same; outside = outside; registers = λ on. cc };
  }

  both_directed : (target : ℕ) (l r : Core) → AgreeOutside text left.core right.core → AreRelated text more (at_start l) (at_start r)
      → AreRelatedAt text more (reached left (directed target l)) (reached right (directed target r))
  both_directed target l r outside same = tested (target % 4 == 0)
    where
      tested : (test : Bool)
          → AreRelatedAt text more
          (reached left (if test then Next (at_pc target l) else Ended (ends.Misaligned target)))
          (reached right (if test then Next (at_pc target r) else Ended (ends.Misaligned target)))
      tested true = both_next target l r same
      tested false = both_ended (ends.Misaligned target) (ends.Misaligned target) refl outside

-- ---- bytes that a call moves

pub same_mapped : (left right : ℕ → Option ℕ) (places : List ℕ) → ((a : ℕ) → is_some (left a) ≡ is_some (right a))
    → is_some (bytes_at left places) ≡ is_some (bytes_at right places)
same_mapped left right [] same = refl
same_mapped left right (place ∷ places) same =
    both (left place) (bytes_at left places) ∙ (λ i. same place i && same_mapped left right places same i) ∙ sym (both (right place) (bytes_at right places))
  where
    both : (byte : Option ℕ) (bytes : Option (List ℕ)) → is_some (joined byte bytes) ≡ (is_some byte && is_some bytes)
    both None bytes = refl
    both (Some byte) None = refl
    both (Some byte) (Some bytes) = refl

module _ (text : ℕ → Bool) (left right : Core) (outside : AgreeOutside text left right)
    (mapped_left : IsMapped text left.memory) (mapped_right : IsMapped text right.memory) where
  pub mapped_alike : (a : ℕ) → is_some (left.memory a) ≡ is_some (right.memory a)
  mapped_alike a = by_test (text a) (λ is. mapped_left a is ∙ sym (mapped_right a is)) (λ none. ap is_some (outside.memory a none))

  same_range : (a n : ℕ) → (is_some (range_at left.memory a n) ≡ true → list_any text (addresses n a) ≡ false)
      → range_at left.memory a n ≡ range_at right.memory a n
  same_range a n clear = tested (nat_le (a + n) (2 ^ 32)) clear
    where
      same_if : (l r : Option (List ℕ)) → is_some l ≡ is_some r → (is_some l ≡ true → l ≡ r) → l ≡ r
      same_if None None same equal = refl
      same_if None (Some bytes) same equal = cc
      same_if (Some bytes) r same equal = equal refl

      tested : (test : Bool) → (is_some (if test then bytes_at left.memory (addresses n a) else None) ≡ true → list_any text (addresses n a) ≡ false)
          → (if test then bytes_at left.memory (addresses n a) else None) ≡ (if test then bytes_at right.memory (addresses n a) else None)
      tested false clear = refl
      tested true clear =
          same_if _ _ (same_mapped left.memory right.memory (addresses n a) mapped_alike)
          (λ is. same_bytes (addresses n a) left.memory right.memory (outside_text text (addresses n a) left.memory right.memory outside.memory (clear is)))

-- ---- calls

-- a set of registers and the one that takes a call's answer
abbrev with_answer : (ℕ → Bool) → ℕ → Bool
with_answer set r = set r || is_among (10 ∷ []) r

module _ (text set : ℕ → Bool) (old new : Program) (layout : HaveSameLayout old new) (left right : Core) (mapped_left : IsMapped text left.memory)
    (mapped_right : IsMapped text right.memory) (outside : AgreeOutside text left right) (agree : AgreeOn set left right) where
  answered : (v w : ℕ) → v ≡ w → AreRelated text (with_answer set) (at_start (answering left v)) (at_start (answering right w))
  answered v w same = written_too text set left right outside agree 10 v w same

  abbrev took : ℕ → ℕ → List ℕ → Core → Core
  took k a input core = answering (record core { memory = with_bytes core.memory (addresses k a) (take k input); input = drop k input }) k

  read_alike : (k a : ℕ) (input : List ℕ) → AreRelated text (with_answer set) (at_start (took k a input left)) (at_start (took k a input right))
  read_alike k a input =
      written_too text set (record left { memory = with_bytes left.memory (addresses k a) (take k input); input = drop k input })
      (record right { memory = with_bytes right.memory (addresses k a) (take k input); input = drop k input })
      (record {
        memory = λ place clear. same_stores (addresses k a) (take k input) left.memory right.memory place (outside.memory place clear);
        heap_end = outside.heap_end;
        input = refl;
        output = outside.output;
      })
      agree 10 k k refl

  module _ (x10 : register left 10 ≡ register right 10) (x11 : register left 11 ≡ register right 11) (x12 : register left 12 ≡ register right 12) where
    same_length : read_length left ≡ read_length right
    same_length = λ i. min (x12 i) (length (outside.input i))

    same_moved : (n m : ℕ) → n ≡ m → list_any text (moved_range left n) ≡ false
        → range_at left.memory (register left 11) n ≡ range_at right.memory (register right 11) m
    same_moved n m same clear =
        same_range text left right outside mapped_left mapped_right (register left 11) n (there (range_at left.memory (register left 11) n) refl)
        ∙ (λ i. range_at right.memory (x11 i) (same i))
      where
        there : (range : Option (List ℕ)) → range_at left.memory (register left 11) n ≡ range
            → is_some (range_at left.memory (register left 11) n) ≡ true
            → list_any text (addresses n (register left 11)) ≡ false
        there None is some = let never : is_some {T = List ℕ} None ≡ true = ap is_some (sym is) ∙ some in cc
        there (Some bytes) is some = rw is at clear

    read : ((register left 10 == 0) ≡ true → list_any text (moved_range left (read_length left)) ≡ false)
        → AreRelated text (with_answer set) (at_start (read_call left)) (at_start (read_call right))
    read clear = tested (register left 10 == 0) (register right 10 == 0) (ap (λ n. n == 0) x10) clear
      where
        into : (l r : Option (List ℕ)) → l ≡ r → AreRelated text (with_answer set) (at_start (read_into left l)) (at_start (read_into right r))
        into None None same = answered bad_address bad_address refl
        into (Some a) None same = cc
        into None (Some b) same = cc
        into (Some a) (Some b) same =
            subst (λ core. AreRelated text (with_answer set) (at_start (read_into left (Some a))) (at_start core))
            (λ i. took (same_length i) (x11 i) (outside.input i) right)
            (read_alike (read_length left) (register left 11) left.input)

        tested : (l r : Bool) → l ≡ r → (l ≡ true → list_any text (moved_range left (read_length left)) ≡ false)
            → AreRelated text (with_answer set)
            (at_start (if l then read_into left (range_at left.memory (register left 11) (read_length left)) else answering left bad_file))
            (at_start (if r then read_into right (range_at right.memory (register right 11) (read_length right)) else answering right bad_file))
        tested true true same clear = into _ _ (same_moved (read_length left) (read_length right) same_length (clear refl))
        tested false false same clear = answered bad_file bad_file refl
        tested true false same clear = cc
        tested false true same clear = cc

    write : (is_output (register left 10) ≡ true → list_any text (moved_range left (register left 12)) ≡ false)
        → AreRelated text (with_answer set) (at_start (write_call left)) (at_start (write_call right))
    write clear = tested (is_output (register left 10)) (is_output (register right 10)) (ap is_output x10) clear
      where
        from : (l r : Option (List ℕ)) → l ≡ r → AreRelated text (with_answer set) (at_start (written_from left l)) (at_start (written_from right r))
        from None None same = answered bad_address bad_address refl
        from (Some a) None same = cc
        from None (Some b) same = cc
        from (Some a) (Some b) same =
            let bytes : a ≡ b = cc in
            written_too text set (record left { output = left.output ++ a }) (record right { output = right.output ++ b })
            (record { memory = outside.memory; heap_end = outside.heap_end; input = outside.input; output = λ i. outside.output i ++ bytes i })
            agree 10 (register left 12) (register right 12) x12

        tested : (l r : Bool) → l ≡ r → (l ≡ true → list_any text (moved_range left (register left 12)) ≡ false)
            → AreRelated text (with_answer set)
            (at_start (if l then written_from left (range_at left.memory (register left 11) (register left 12)) else answering left bad_file))
            (at_start (if r then written_from right (range_at right.memory (register right 11) (register right 12)) else answering right bad_file))
        tested true true same clear = from _ _ (same_moved (register left 12) (register right 12) x12 (clear refl))
        tested false false same clear = answered bad_file bad_file refl
        tested true false same clear = cc
        tested false true same clear = cc

    abbrev may_end : ℕ → ℕ → ℕ → Bool
    may_end start size address =
        nat_le start address && nat_le address memory_top && (nat_le address stack_start || nat_le stack_end start)
        && nat_le (size + (address - start)) most_memory

    heap : AreRelated text (with_answer set) (at_start (heap_call old left)) (at_start (heap_call new right))
    heap =
        tested (may_end_at old (register left 10)) (may_end_at new (register right 10)) (λ i. may_end (layout.start i) (layout.size i) (x10 i))
      where
        ended : (end : ℕ) → AgreeOutside text (with_heap_end left end) (with_heap_end right end)
        ended end = record {
          memory = λ address clear i.
              if lies_in (outside.heap_end i) end address then Some 0
              else if lies_in end (outside.heap_end i) address then None
              else outside.memory address clear i;
          heap_end = refl;
          input = outside.input;
          output = outside.output;
        }

        tested : (l r : Bool) → l ≡ r
            → AreRelated text (with_answer set)
            (at_start (let next = if l then with_heap_end left (register left 10) else left in answering next next.heap_end))
            (at_start (let next = if r then with_heap_end right (register right 10) else right in answering next next.heap_end))
        tested true true same =
            subst (λ end. AreRelated text (with_answer set)
            (at_start (answering (with_heap_end left (register left 10)) (register left 10))) (at_start (answering (with_heap_end right end) end)))
            x10
            (written_too text set (with_heap_end left (register left 10)) (with_heap_end right (register left 10))
            (ended (register left 10)) agree 10 (register left 10) (register left 10) refl)
        tested false false same = answered left.heap_end right.heap_end outside.heap_end
        tested true false same = cc
        tested false true same = cc

    numbered : (number pc : ℕ)
        → list_any text (if (number == 63) && (register left 10 == 0) then moved_range left (read_length left)
        else if (number == 64) && is_output (register left 10) then moved_range left (register left 12) else []) ≡ false
        → AreRelatedAt text (with_answer set)
        (reached (at_pc pc left) (then_onward pc (numbered_call old number left)))
        (reached (at_pc pc right) (then_onward pc (numbered_call new number right)))
    numbered number pc clear = first (number == 63) (number == 64) (number == 93) (number == 214) clear
      where
        goes : (l r : Core) → AreRelated text (with_answer set) (at_start l) (at_start r)
            → AreRelatedAt text (with_answer set)
            (reached (at_pc pc left) (then_onward pc (Next l))) (reached (at_pc pc right) (then_onward pc (Next r)))
        goes l r same = both_next text (with_answer set) (at_pc pc left) (at_pc pc right) (following pc) l r same

        chosen : (p q : Bool) (xs ys : List ℕ) → p ≡ true → list_any text (if p then xs else ys) ≡ false → list_any text xs ≡ false
        chosen true q xs ys is clear = clear
        chosen false q xs ys is clear = cc

        first : (is_read is_write is_exit is_heap : Bool)
            → list_any text (if is_read && (register left 10 == 0) then moved_range left (read_length left)
            else if is_write && is_output (register left 10) then moved_range left (register left 12) else []) ≡ false
            → AreRelatedAt text (with_answer set)
            (reached (at_pc pc left) (then_onward pc (
            if is_read then Next (read_call left) else if is_write then Next (write_call left) else if is_exit then Ended (ends.Exit (register left 10))
            else if is_heap then Next (heap_call old left) else Next (answering left no_such_call))))
            (reached (at_pc pc right) (then_onward pc (
            if is_read then Next (read_call right) else if is_write then Next (write_call right) else if is_exit then Ended (ends.Exit (register right 10))
            else if is_heap then Next (heap_call new right) else Next (answering right no_such_call))))
        first true is_write is_exit is_heap clear = goes _ _ (read (λ is. chosen (register left 10 == 0) true _ _ is clear))
        first false true is_exit is_heap clear = goes _ _ (write (λ is. chosen (is_output (register left 10)) true _ _ is clear))
        first false false true is_heap clear =
            both_ended text (with_answer set) (at_pc pc left) (at_pc pc right)
            (ends.Exit (register left 10)) (ends.Exit (register right 10)) (ap ends.Exit x10) outside
        first false false false true clear = goes _ _ heap
        first false false false false clear = goes _ _ (answered no_such_call no_such_call refl)

-- ---- control

module _ (text set : ℕ → Bool) (units : Units) (old new : Program) (layout : HaveSameLayout old new)
    (left right : Core) (mapped_left : IsMapped text left.memory)
    (mapped_right : IsMapped text right.memory) (outside : AgreeOutside text left right) (agree : AgreeOn set left right) where
  read_agrees : (registers : List ℕ) (r : ℕ) → ((q : ℕ) → is_among registers q ≡ true → set q ≡ true)
      → list_any (λ n. n == r) registers ≡ true → register left r ≡ register right r
  read_agrees registers r covered there = operands_agree registers left right r (λ q is. agree q (covered q is)) there

  pub control_frame : (insn : Insn) (pc : ℕ) → ends_block insn ≡ true
      → ((r : ℕ) → reads units insn r ≡ true → set r ≡ true) → list_any text (moved insn left) ≡ false
      → AreRelatedAt text (λ r. set r || writes insn r)
      (reached (at_pc pc left) (control old insn pc left)) (reached (at_pc pc right) (control new insn pc right))
  control_frame (Auipc rd upper) pc ends covered clear =
      both_next text _ (at_pc pc left) (at_pc pc right) (following pc) _ _ (written_too text set left right outside agree rd _ _ refl)
  control_frame (Jal rd offset) pc ends covered clear =
      both_directed text _ (at_pc pc left) (at_pc pc right) (operation Add pc (word_of offset)) _ _ outside
      (written_too text set left right outside agree rd _ _ refl)
  control_frame (Jalr rd rs1 offset) pc ends covered clear =
      let base = read_agrees (rs1 ∷ []) rs1 covered (first_there rs1 []) in
      subst (λ target. AreRelatedAt text (λ r. set r || is_among (rd ∷ []) r)
      (reached (at_pc pc left) (control old (Jalr rd rs1 offset) pc left))
      (reached (at_pc pc right) (directed target (with_register right rd (following pc)))))
      (λ i. even (operation Add (base i) (word_of offset)))
      (both_directed text _ (at_pc pc left) (at_pc pc right) (even (address_from left rs1 offset)) _ _ outside
      (written_too text set left right outside agree rd _ _ refl))
  control_frame (Branch cond rs1 rs2 offset) pc ends covered clear =
      let a = read_agrees (rs1 ∷ rs2 ∷ []) rs1 covered (first_there rs1 (rs2 ∷ [])) in
      let b = read_agrees (rs1 ∷ rs2 ∷ []) rs2 covered (second_there rs1 rs2 []) in
      tested (is_taken cond (register left rs1) (register left rs2)) (is_taken cond (register right rs1) (register right rs2)) (λ i. is_taken cond (a i) (b i))
    where
      tested : (l r : Bool) → l ≡ r
          → AreRelatedAt text (λ r. set r || is_among [] r)
          (reached (at_pc pc left) (if l then directed (operation Add pc (word_of offset)) left else onward pc left))
          (reached (at_pc pc right) (if r then directed (operation Add pc (word_of offset)) right else onward pc right))
      tested true true same = both_directed text (λ r. set r || is_among [] r) (at_pc pc left) (at_pc pc right)
          (operation Add pc (word_of offset)) left right outside (as_before text set left right outside agree)
      tested false false same = both_next text (λ r. set r || is_among [] r) (at_pc pc left) (at_pc pc right)
          (following pc) left right (as_before text set left right outside agree)
      tested true false same = cc
      tested false true same = cc
  control_frame (Fence bits rs1 rd) pc ends covered clear =
      both_next text _ (at_pc pc left) (at_pc pc right) (following pc) left right
      (as_before text set left right outside agree)
  control_frame Ecall pc ends covered clear =
      let calls = 10 ∷ 11 ∷ 12 ∷ 17 ∷ [] in
      let x10 = read_agrees calls 10 covered refl in
      let x11 = read_agrees calls 11 covered refl in
      let x12 = read_agrees calls 12 covered refl in
      let x17 = read_agrees calls 17 covered refl in
      subst (λ number. AreRelatedAt text (with_answer set)
      (reached (at_pc pc left) (control old Ecall pc left))
      (reached (at_pc pc right) (then_onward pc (numbered_call new number right))))
      x17
      (numbered text set old new layout left right mapped_left mapped_right outside agree x10 x11 x12 (register left 17) pc clear)
  control_frame Ebreak pc ends covered clear = both_ended text _ (at_pc pc left) (at_pc pc right) _ _ refl outside
  control_frame (Illegal word) pc ends covered clear = both_ended text _ (at_pc pc left) (at_pc pc right) _ _ refl outside
  control_frame insn pc ends covered clear = cc
