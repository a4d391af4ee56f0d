-- An instruction, and one with other registers, do alike where their operands have the same values.
use Rattle.std.proofs.Common.{◌≡◌, ℕ, refl, ap, sym, subst, ◌∙◌, arith, List, [], ◌∷◌, Option, Some, None, ℤ}
use Rattle.std.specs.Prelude.{Bool, true, false}
use Rattle.std.specs.List.{list_any}
use Rattle.std.proofs.lemmas.Bool.Decides.{nat_tests}
use Rattle.ci_word.specs.declared.arithmetic.Op.TheVariants.{Add}
use Rattle.ci_word.specs.Arithmetic.{operation, word_of}
use Rattle.ci_isa.specs.declared.instruction.LoadKind.{LoadKind}
use Rattle.ci_isa.specs.declared.instruction.Width.{Width}
use Rattle.ci_isa.specs.declared.instruction.Insn.{Insn}
use Rattle.ci_isa.specs.declared.instruction.Insn.TheVariants.{Alu, AluImm, Lui, Load, Store, Unit, Cread, Cput}
use Rattle.ci_isa.specs.Effects.{ends_block, width_bytes, is_among, is_cput, is_unit, is_cread, writes_register}
use Rattle.ci_machine.specs.Cores.{Core, register, with_register}
use Rattle.ci_machine.specs.Accesses.{addresses, bytes_at, bytes_of_number, load_width}
use Rattle.ci_machine.specs.Outcomes.{Reached, reached, at_start}
use Rattle.ci_machine.specs.Actions.{Units, accessed, address_from, loaded, stored}
use Rattle.ci_machine.specs.Agreement.{acted, AgreeOutside, LeavesText}
use Rattle.ci_machine.proofs.RegisterLaws.{register_written}
use Rattle.ci_machine.proofs.InstructionFrame.{same_bytes, same_stores, outside_text}
use Rattle.ci_rename.specs.OtherRegisters.{with_operands, with_result}
use Rattle.ci_rename.specs.Steps.{HaveSameOperands}

-- Both come to the same end, or to none. Memory outside the text stays the same, and so do heap end, input left and
-- output. Where they go on, the results are the same.
pub record ActAlike (text : ℕ → Bool) (old new : Insn) (left right : Reached Core) : Type 0 where
  pub end : left.end ≡ right.end
  pub outside : AgreeOutside text left.state right.state
  pub written :
      left.end ≡ None → (q p : ℕ) → writes_register old q ≡ true → writes_register new p ≡ true
      → register left.state q ≡ register right.state p

module _ (text : ℕ → Bool) (units : Units) (left right : Core) (outside : AgreeOutside text left right) where
  one_result : (old new : Insn) (rd other v w : ℕ) → v ≡ w → ((r : ℕ) → writes_register old r ≡ is_among (rd ∷ []) r)
      → ((r : ℕ) → writes_register new r ≡ is_among (other ∷ []) r)
      → ActAlike text old new (at_start (with_register left rd v)) (at_start (with_register right other w))
  one_result old new rd other v w same one two = record {
    end = refl;
    outside = record { memory = outside.memory; heap_end = outside.heap_end; input = outside.input; output = outside.output };
    written = λ _ q p wrote written.
        register_written left rd v q (sym (one q) ∙ wrote) ∙ same ∙ sym (register_written right other w p (sym (two p) ∙ written));
  }

  load_alike : (kind : LoadKind) (rd other rs1 source : ℕ) (offset : ℤ) (address : ℕ) (bytes : Option (List ℕ))
      → ActAlike text (Load kind rd rs1 offset) (Load kind other source offset)
      (reached left (loaded left kind rd address bytes)) (reached right (loaded right kind other address bytes))
  load_alike kind rd other rs1 source offset address (Some bytes) =
      one_result (Load kind rd rs1 offset) (Load kind other source offset) rd other _ _ refl (λ r. refl) (λ r. refl)
  load_alike kind rd other rs1 source offset address None = record { end = refl; outside = outside; written = λ none. cc }

  store_alike : (width : Width) (rs1 rs2 base value : ℕ) (offset : ℤ) (address number : ℕ) (bytes : Option (List ℕ))
      → ActAlike text (Store width rs1 rs2 offset) (Store width base value offset)
      (reached left (stored left width address number bytes)) (reached right (stored right width address number bytes))
  store_alike width rs1 rs2 base value offset address number (Some bytes) = record {
    end = refl;
    outside = record {
      memory = λ a clear. same_stores (addresses (width_bytes width) address) (bytes_of_number (width_bytes width) number)
          left.memory right.memory a (outside.memory a clear);
      heap_end = outside.heap_end;
      input = outside.input;
      output = outside.output;
    };
    written = λ _ q p wrote written. none_written q p wrote;
  }
    where
      none_written : (q p : ℕ) → is_among [] q ≡ true → register left q ≡ register right p
      none_written q p wrote = grind (arith, nat_tests)
  store_alike width rs1 rs2 base value offset address number None = record { end = refl; outside = outside; written = λ none. cc }

  -- the bytes that a load or a store moves
  same_access : (places others : List ℕ) → places ≡ others → list_any text places ≡ false → bytes_at left.memory places ≡ bytes_at right.memory others
  same_access places others same clear =
      same_bytes places left.memory right.memory (outside_text text places left.memory right.memory outside.memory clear) ∙ ap (bytes_at right.memory) same

  pub acts_alike : (insn : Insn) (operand : ℕ → ℕ) (result : ℕ) → ends_block insn ≡ false → is_unit insn ≡ false → is_cread insn ≡ false
      → is_cput insn ≡ false
      → HaveSameOperands insn (with_result result (with_operands operand insn)) left right
      → LeavesText text insn left
      → ActAlike text insn (with_result result (with_operands operand insn)) (acted units insn left)
      (acted units (with_result result (with_operands operand insn)) right)
  acts_alike (Alu op rd rs1 rs2) operand result acts plain none apart same clear =
      let a : register left rs1 ≡ register right (operand rs1) = cc in
      let b : register left rs2 ≡ register right (operand rs2) = cc in
      one_result (Alu op rd rs1 rs2) (Alu op result (operand rs1) (operand rs2)) rd result _ _ (λ i. operation op (a i) (b i)) (λ r. refl) (λ r. refl)
  acts_alike (AluImm op rd rs1 imm) operand result acts plain none apart same clear =
      let a : register left rs1 ≡ register right (operand rs1) = cc in
      one_result (AluImm op rd rs1 imm) (AluImm op result (operand rs1) imm) rd result _ _ (λ i. operation op (a i) (word_of imm)) (λ r. refl) (λ r. refl)
  acts_alike (Lui rd upper) operand result acts plain none apart same clear =
      one_result (Lui rd upper) (Lui result upper) rd result _ _ refl (λ r. refl) (λ r. refl)
  acts_alike (Load kind rd rs1 offset) operand result acts plain none apart same clear =
      let a : register left rs1 ≡ register right (operand rs1) = cc in
      let place : address_from left rs1 offset ≡ address_from right (operand rs1) offset = λ i. operation Add (a i) (word_of offset) in
      let bytes = same_access (accessed (Load kind rd rs1 offset) left) _ (ap (addresses (width_bytes (load_width kind))) place) clear in
      subst (λ (pair : ℕ × Option (List ℕ)). ActAlike text (Load kind rd rs1 offset) (Load kind result (operand rs1) offset)
      (acted units (Load kind rd rs1 offset) left) (reached right (loaded right kind result pair.0 pair.1)))
      (λ i. (place i, bytes i))
      (load_alike kind rd result rs1 (operand rs1) offset _ _)
  acts_alike (Store width rs1 rs2 offset) operand result acts plain none apart same clear =
      let a : register left rs1 ≡ register right (operand rs1) = cc in
      let b : register left rs2 ≡ register right (operand rs2) = cc in
      let place : address_from left rs1 offset ≡ address_from right (operand rs1) offset = λ i. operation Add (a i) (word_of offset) in
      let bytes = same_access (accessed (Store width rs1 rs2 offset) left) _ (ap (addresses (width_bytes width)) place) clear in
      subst (λ (all : ℕ × ℕ × Option (List ℕ)). ActAlike text (Store width rs1 rs2 offset) (Store width (operand rs1) (operand rs2) offset)
      (acted units (Store width rs1 rs2 offset) left) (reached right (stored right width all.0 all.1 all.2)))
      (λ i. (place i, b i, bytes i))
      (store_alike width rs1 rs2 (operand rs1) (operand rs2) offset _ _ _)
  acts_alike (Unit number rd rs1 rs2 rs3) operand result acts plain none apart same clear = cc
  acts_alike (Cread rd index) operand result acts plain none apart same clear = cc
  acts_alike (Cput rs1 rs2) operand result acts plain none apart same clear = cc
  acts_alike insn operand result acts plain none apart same clear = cc

  -- both move the same bytes
  pub accesses_alike : (insn : Insn) (operand : ℕ → ℕ) (result : ℕ) → ends_block insn ≡ false
      → HaveSameOperands insn (with_result result (with_operands operand insn)) left right
      → accessed insn left ≡ accessed (with_result result (with_operands operand insn)) right
  accesses_alike (Load kind rd rs1 offset) operand result acts same =
      let a : register left rs1 ≡ register right (operand rs1) = cc in
      λ i. addresses (width_bytes (load_width kind)) (operation Add (a i) (word_of offset))
  accesses_alike (Store width rs1 rs2 offset) operand result acts same =
      let a : register left rs1 ≡ register right (operand rs1) = cc in
      λ i. addresses (width_bytes width) (operation Add (a i) (word_of offset))
  accesses_alike (Alu op rd rs1 rs2) operand result acts same = refl
  accesses_alike (AluImm op rd rs1 imm) operand result acts same = refl
  accesses_alike (Lui rd upper) operand result acts same = refl
  accesses_alike (Unit number rd rs1 rs2 rs3) operand result acts same = refl
  accesses_alike (Cread rd index) operand result acts same = refl
  accesses_alike (Cput rs1 rs2) operand result acts same = refl
  accesses_alike insn operand result acts same = cc
