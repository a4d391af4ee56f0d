-- What an instruction keeps, when it ends, and what its effect depends on; and cores that agree go on to cores that agree.
use Rattle.std.proofs.Common.{◌≡◌, ℕ, refl, ap, sym, subst, ◌∙◌, arith, List, [], ◌∷◌, Option, Some, None, ℤ}
use Rattle.std.specs.Prelude.{Bool, true, false, ◌==◌, ◌||◌, if◌then◌else◌, ⊤}
use Rattle.std.specs.List.{list_any}
use Rattle.std.proofs.lemmas.Bool.Decides.{nat_tests}
use Rattle.ci_word.specs.declared.arithmetic.Op.TheVariants.{Add}
use Rattle.ci_word.specs.Arithmetic.{operation, word_of}
use Rattle.ci_isa.specs.declared.instruction.LoadKind.{LoadKind}
use Rattle.ci_isa.specs.declared.instruction.Width.{Width}
use Rattle.ci_isa.specs.declared.instruction.Insn.{Insn}
use Rattle.ci_isa.specs.declared.instruction.Insn.TheVariants.{Alu, AluImm, Lui, Load, Store, Unit, Cread, Cput}
use Rattle.ci_isa.specs.Effects.{ends_block, width_bytes, is_among, is_access}
use Rattle.ci_machine.specs.declared.ends.End.{End}
use Rattle.ci_machine.specs.Cores.{Core, hidden, hidden_operands, hidden_result, register, with_register, values_in, with_registers}
use Rattle.ci_machine.specs.Accesses.{addresses, joined, bytes_at, with_bytes, bytes_of_number, load_width}
use Rattle.ci_machine.specs.Outcomes.{Next, Reached, reached}
use Rattle.ci_machine.specs.Actions.{Units, accessed, address_from, loaded, stored}
use Rattle.ci_machine.specs.Agreement.{acted}
use Rattle.ci_machine.specs.Agreement.{reads, writes, AgreeOutside, AgreeOn, AreRelated, LeavesText}
use Rattle.ci_machine.proofs.TestLaws.{by_test, neither_first, neither_second, either_first}
use Rattle.ci_machine.proofs.RegisterLaws.{register_kept, register_written, operands_agree, values_agree}
use Rattle.ci_machine.proofs.RegisterLaws.{registers_kept, registers_written, first_there, second_there}

-- ---- one instruction from one core

abbrev pub is_store : Insn → Bool
is_store (Store width rs1 rs2 offset) = true
is_store insn = false

pub store_accesses : (insn : Insn) → is_access insn ≡ false → is_store insn ≡ false
store_accesses (Load kind rd rs1 offset) none = refl
store_accesses (Store width rs1 rs2 offset) none = cc
store_accesses insn none = refl

-- what a run leaves alone
pub record Keeps (insn : Insn) (core : Core) (run : Reached Core) : Type 0 where
  pub registers : (r : ℕ) → writes insn r ≡ false → register run.state r ≡ register core r
  pub memory : is_store insn ≡ false → run.state.memory ≡ core.memory
  pub heap_end : run.state.heap_end ≡ core.heap_end
  pub input : run.state.input ≡ core.input
  pub output : run.state.output ≡ core.output
  pub ended : (end : End) → run.end ≡ Some end → run.state ≡ core
  pub goes_on : is_access insn ≡ false → run.end ≡ None

keeps_result : (insn : Insn) (core : Core) (rd value : ℕ) → ((r : ℕ) → writes insn r ≡ is_among (rd ∷ []) r)
    → Keeps insn core (reached core (Next (with_register core rd value)))
keeps_result insn core rd value one = record {
  registers = λ r other. register_kept core rd value r (sym (one r) ∙ other);
  memory = λ _. refl;
  heap_end = refl;
  input = refl;
  output = refl;
  ended = λ end same. cc;
  goes_on = λ _. refl;
}

nothing_done : (insn : Insn) (core : Core) → Keeps insn core (reached core (Next core))
nothing_done insn core = record {
  registers = λ r other. refl;
  memory = λ _. refl;
  heap_end = refl;
  input = refl;
  output = refl;
  ended = λ end same. refl;
  goes_on = λ _. refl;
}

keeps_load : (kind : LoadKind) (rd rs1 : ℕ) (offset : ℤ) (core : Core) (address : ℕ) (bytes : Option (List ℕ))
    → Keeps (Load kind rd rs1 offset) core (reached core (loaded core kind rd address bytes))
keeps_load kind rd rs1 offset core address (Some bytes) = record {
  registers = λ r other. register_kept core rd _ r other;
  memory = λ _. refl;
  heap_end = refl;
  input = refl;
  output = refl;
  ended = λ end same. cc;
  goes_on = λ none. cc;
}
keeps_load kind rd rs1 offset core address None = record {
  registers = λ r other. refl;
  memory = λ _. refl;
  heap_end = refl;
  input = refl;
  output = refl;
  ended = λ end same. refl;
  goes_on = λ none. cc;
}

keeps_store : (width : Width) (rs1 rs2 : ℕ) (offset : ℤ) (core : Core) (address value : ℕ) (bytes : Option (List ℕ))
    → Keeps (Store width rs1 rs2 offset) core (reached core (stored core width address value bytes))
keeps_store width rs1 rs2 offset core address value (Some bytes) = record {
  registers = λ r other. refl;
  memory = λ none. cc;
  heap_end = refl;
  input = refl;
  output = refl;
  ended = λ end same. cc;
  goes_on = λ none. cc;
}
keeps_store width rs1 rs2 offset core address value None = record {
  registers = λ r other. refl;
  memory = λ _. refl;
  heap_end = refl;
  input = refl;
  output = refl;
  ended = λ end same. refl;
  goes_on = λ none. cc;
}

pub keeps : (units : Units) (insn : Insn) (core : Core) → Keeps insn core (acted units insn core)
keeps units (Alu op rd rs1 rs2) core = keeps_result _ core rd _ (λ r. refl)
keeps units (AluImm op rd rs1 imm) core = keeps_result _ core rd _ (λ r. refl)
keeps units (Lui rd upper) core = keeps_result _ core rd _ (λ r. refl)
keeps units (Load kind rd rs1 offset) core = keeps_load kind rd rs1 offset core _ _
keeps units (Store width rs1 rs2 offset) core = keeps_store width rs1 rs2 offset core _ _ _
keeps units (Unit number rd rs1 rs2 rs3) core = record {
  registers = registers_kept (rd ∷ hidden) (units.results number (values_in core (rs1 ∷ rs2 ∷ rs3 ∷ units.further number))) core;
  memory = λ _. refl;
  heap_end = refl;
  input = refl;
  output = refl;
  ended = λ end same. cc;
  goes_on = λ _. refl;
}
keeps units (Cread rd index) core = keeps_result _ core rd _ (λ r. refl)
keeps units (Cput rs1 rs2) core = record {
  registers = registers_kept hidden_operands (values_in core (rs1 ∷ rs2 ∷ [])) core;
  memory = λ _. refl;
  heap_end = refl;
  input = refl;
  output = refl;
  ended = λ end same. cc;
  goes_on = λ _. refl;
}
keeps units insn core = nothing_done insn core

-- ---- one instruction from two cores

-- the memories have the same at each of these addresses
abbrev pub AgreeAt : List ℕ → (ℕ → Option ℕ) → (ℕ → Option ℕ) → Type 0
AgreeAt [] left right = ⊤
AgreeAt (address ∷ more) left right = (left address ≡ right address) × AgreeAt more left right

-- two runs of an instruction have the same effect
pub record AreAlike (insn : Insn) (left right : Core) (from_left from_right : Reached Core) : Type 0 where
  pub end : from_left.end ≡ from_right.end
  pub written : from_left.end ≡ None → (r : ℕ) → writes insn r ≡ true → register from_left.state r ≡ register from_right.state r
  pub memory : (address : ℕ) → left.memory address ≡ right.memory address → from_left.state.memory address ≡ from_right.state.memory address

pub same_bytes : (addresses : List ℕ) (left right : ℕ → Option ℕ) → AgreeAt addresses left right → bytes_at left addresses ≡ bytes_at right addresses
same_bytes [] left right agree = refl
same_bytes (address ∷ more) left right (here, there) = λ i. joined (here i) (same_bytes more left right there i)

pub same_stores : (addresses bytes : List ℕ) (left right : ℕ → Option ℕ) (a : ℕ) → left a ≡ right a
    → with_bytes left addresses bytes a ≡ with_bytes right addresses bytes a
same_stores [] bytes left right a same = same
same_stores (address ∷ more) [] left right a same = same
same_stores (address ∷ more) (byte ∷ bytes) left right a same = ap (λ rest. if a == address then Some byte else rest) (same_stores more bytes left right a same)

alike_result : (insn : Insn) (left right : Core) (rd v w : ℕ) → v ≡ w → ((r : ℕ) → writes insn r ≡ is_among (rd ∷ []) r)
    → AreAlike insn left right (reached left (Next (with_register left rd v))) (reached right (Next (with_register right rd w)))
alike_result insn left right rd v w same one = record {
  end = refl;
  written = λ _ r is. register_written left rd v r (sym (one r) ∙ is) ∙ same ∙ sym (register_written right rd w r (sym (one r) ∙ is));
  memory = λ _ same. same;
}

alike_load : (kind : LoadKind) (rd rs1 : ℕ) (offset : ℤ) (left right : Core) (address : ℕ) (bytes : Option (List ℕ))
    → AreAlike (Load kind rd rs1 offset) left right (reached left (loaded left kind rd address bytes)) (reached right (loaded right kind rd address bytes))
alike_load kind rd rs1 offset left right address (Some bytes) = alike_result (Load kind rd rs1 offset) left right rd _ _ refl (λ r. refl)
alike_load kind rd rs1 offset left right address None = record { end = refl; written = λ none. cc; memory = λ _ same. same }

alike_store : (width : Width) (rs1 rs2 : ℕ) (offset : ℤ) (left right : Core) (address value : ℕ) (bytes : Option (List ℕ))
    → AreAlike (Store width rs1 rs2 offset) left right (reached left (stored left width address value bytes))
    (reached right (stored right width address value bytes))
alike_store width rs1 rs2 offset left right address value (Some bytes) = record {
  end = refl;
  written = λ _ r is. none_written r is;
  memory = λ a same. same_stores (addresses (width_bytes width) address) (bytes_of_number (width_bytes width) value) left.memory right.memory a same;
}
  where
    none_written : (r : ℕ) → is_among [] r ≡ true → register left r ≡ register right r
    none_written r is = grind (arith, nat_tests)
alike_store width rs1 rs2 offset left right address value None = record { end = refl; written = λ none. cc; memory = λ _ same. same }

module _ (units : Units) (left right : Core) where
  pub alike : (insn : Insn) → ends_block insn ≡ false → AgreeOn (reads units insn) left right → AgreeAt (accessed insn left) left.memory right.memory
      → AreAlike insn left right (acted units insn left) (acted units insn right)
  alike (Alu op rd rs1 rs2) acts read moved =
      let a = operands_agree (rs1 ∷ rs2 ∷ []) left right rs1 read (first_there rs1 (rs2 ∷ [])) in
      let b = operands_agree (rs1 ∷ rs2 ∷ []) left right rs2 read (second_there rs1 rs2 []) in
      alike_result (Alu op rd rs1 rs2) left right rd _ _ (λ i. operation op (a i) (b i)) (λ r. refl)
  alike (AluImm op rd rs1 imm) acts read moved =
      let a = operands_agree (rs1 ∷ []) left right rs1 read (first_there rs1 []) in
      alike_result (AluImm op rd rs1 imm) left right rd _ _ (λ i. operation op (a i) (word_of imm)) (λ r. refl)
  alike (Lui rd upper) acts read moved = alike_result (Lui rd upper) left right rd _ _ refl (λ r. refl)
  alike (Load kind rd rs1 offset) acts read moved =
      let a = operands_agree (rs1 ∷ []) left right rs1 read (first_there rs1 []) in
      let place : address_from left rs1 offset ≡ address_from right rs1 offset = λ i. operation Add (a i) (word_of offset) in
      let bytes : bytes_at left.memory (addresses (width_bytes (load_width kind)) (address_from left rs1 offset))
      ≡ bytes_at right.memory (addresses (width_bytes (load_width kind)) (address_from right rs1 offset)) =
      same_bytes _ left.memory right.memory moved ∙ ap (λ at. bytes_at right.memory (addresses (width_bytes (load_width kind)) at)) place in
      subst (λ (pair : ℕ × Option (List ℕ)). AreAlike (Load kind rd rs1 offset) left right
      (acted units (Load kind rd rs1 offset) left) (reached right (loaded right kind rd pair.0 pair.1)))
      (λ i. (place i, bytes i))
      (alike_load kind rd rs1 offset left right _ _)
  alike (Store width rs1 rs2 offset) acts read moved =
      let a = operands_agree (rs1 ∷ rs2 ∷ []) left right rs1 read (first_there rs1 (rs2 ∷ [])) in
      let b = operands_agree (rs1 ∷ rs2 ∷ []) left right rs2 read (second_there rs1 rs2 []) in
      let place : address_from left rs1 offset ≡ address_from right rs1 offset = λ i. operation Add (a i) (word_of offset) in
      let bytes : bytes_at left.memory (addresses (width_bytes width) (address_from left rs1 offset))
      ≡ bytes_at right.memory (addresses (width_bytes width) (address_from right rs1 offset)) =
      same_bytes _ left.memory right.memory moved ∙ ap (λ at. bytes_at right.memory (addresses (width_bytes width) at)) place in
      subst (λ (all : ℕ × ℕ × Option (List ℕ)). AreAlike (Store width rs1 rs2 offset) left right
      (acted units (Store width rs1 rs2 offset) left) (reached right (stored right width all.0 all.1 all.2)))
      (λ i. (place i, b i, bytes i))
      (alike_store width rs1 rs2 offset left right _ _ _)
  alike (Unit number rd rs1 rs2 rs3) acts read moved =
      let sources = rs1 ∷ rs2 ∷ rs3 ∷ units.further number in
      let values = values_agree sources left right read in
      record {
        end = refl;
        written = λ _ r is.
            registers_written (rd ∷ hidden) (units.results number (values_in left sources)) left right r is
            ∙ ap (λ vs. register (with_registers right (rd ∷ hidden) (units.results number vs)) r) values;
        memory = λ _ same. same;
      }
  alike (Cread rd index) acts read moved =
      let a = operands_agree (hidden_result index ∷ []) left right (hidden_result index) read (first_there (hidden_result index) []) in
      alike_result (Cread rd index) left right rd _ _ a (λ r. refl)
  alike (Cput rs1 rs2) acts read moved =
      let values = values_agree (rs1 ∷ rs2 ∷ []) left right read in
      record {
        end = refl;
        written = λ _ r is.
            registers_written hidden_operands (values_in left (rs1 ∷ rs2 ∷ [])) left right r is
            ∙ ap (λ vs. register (with_registers right hidden_operands vs) r) values;
        memory = λ _ same. same;
      }
  alike insn acts read moved = cc

-- ---- cores that agree

pub outside_text : (text : ℕ → Bool) (addresses : List ℕ) (left right : ℕ → Option ℕ)
    → ((a : ℕ) → text a ≡ false → left a ≡ right a) → list_any text addresses ≡ false → AgreeAt addresses left right
outside_text text [] left right same clear = tt
outside_text text (address ∷ more) left right same clear =
    (same address (neither_first (text address) _ clear), outside_text text more left right same (neither_second (text address) _ clear))

module _ (text set : ℕ → Bool) (units : Units) (left right : Core) (outside : AgreeOutside text left right) (agree : AgreeOn set left right) where
  pub frame : (insn : Insn) → ends_block insn ≡ false → ((r : ℕ) → reads units insn r ≡ true → set r ≡ true) → LeavesText text insn left
      → AreRelated text (λ r. set r || writes insn r) (acted units insn left) (acted units insn right)
  frame insn acts covered clear =
      let kept_left = keeps units insn left in
      let kept_right = keeps units insn right in
      let same = alike units left right insn acts (λ r is. agree r (covered r is))
      (outside_text text (accessed insn left) left.memory right.memory outside.memory clear) in
      record {
        end = same.end;
        outside = record {
          memory = λ address none. same.memory address (outside.memory address none);
          heap_end = kept_left.heap_end ∙ outside.heap_end ∙ sym kept_right.heap_end;
          input = kept_left.input ∙ outside.input ∙ sym kept_right.input;
          output = kept_left.output ∙ outside.output ∙ sym kept_right.output;
        };
        registers = λ on r is. by_test (writes insn r)
            (λ written. same.written on r written)
            (λ none. kept_left.registers r none ∙ agree r (either_first (set r) (writes insn r) is none) ∙ sym (kept_right.registers r none));
      }
