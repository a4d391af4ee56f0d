-- What each instruction of a generated text is.
use Rattle.std.proofs.Common.{◌≡◌, ℕ, ◌+◌, ◌*◌, ◌%◌, inl, inr, List, [], ◌∷◌, map, sym, subst}
use Rattle.std.proofs.Common.{◌∙◌, arith, pos}
use Rattle.std.specs.Prelude.{◌-◌, nat_lt, slice_index_or}
use Rattle.std.specs.List.{All, flat_map, range_with_len}
use Rattle.std.proofs.lemmas.List.Elements.{All-append, All-from_recursion, All-cons, All-nil, All-push}
use Rattle.std.proofs.lemmas.Bool.{cond_both}
use Rattle.ci_isa.specs.declared.instruction.Insn.{Insn}
use Rattle.ci_isa.specs.declared.instruction.Insn.TheVariants.{Alu, AluImm, Lui, Store}
use Rattle.ci_isa.specs.declared.instruction.Insn.TheVariants.{Ecall}
use Rattle.ci_isa.specs.declared.instruction.Width.TheVariants.{Word}
use Rattle.ci_isa.specs.Fields.{HasCustomOpcode, opcode}
use Rattle.ci_isa.specs.FieldBounds.{FieldsFit}
use Rattle.ci_isa.specs.Table.{IsWordOf}
use Rattle.ci_gen.specs.Draws.{draw}
use Rattle.ci_gen.specs.Texts.{add_constant, constant_operations, ending, group, groups, next_word, operand, operation}
use Rattle.ci_gen.specs.Texts.{operation_of, register_operations, text_of}
use Rattle.ci_gen.proofs.OperationLaws.{group-whole, operations}
use Rattle.ci_word.specs.declared.arithmetic.Op.TheVariants.{Add}

-- ---- the ending

-- their fields are in their bounds
pub ending_fits : All FieldsFit ending
unfolding ending
ending_fits = search arith

-- ---- no custom words

-- no word of the instruction has a custom opcode
abbrev pub IsPlain : Insn → Type 0
IsPlain insn = (word : ℕ) → IsWordOf word insn → ¬ HasCustomOpcode word

-- a word has one opcode
other_opcode : (word code : ℕ) → opcode word ≡ code → (code ≡ 0x0b → ⊥) → (code ≡ 0x2b → ⊥) → ¬ HasCustomOpcode word
other_opcode word code is first second (inl same) = first (sym is ∙ same)
other_opcode word code is first second (inr same) = second (sym is ∙ same)

-- this is so of an operation of any kind
plain_operation : (kind rd rs1 last : ℕ) → IsPlain (operation_of kind rd rs1 last)
unfolding operation_of
plain_operation kind rd rs1 last =
    cond_both (nat_lt kind 5) (Alu (slice_index_or register_operations kind Add) rd rs1 last)
    (AluImm (slice_index_or constant_operations (kind - 5) Add) rd rs1 (pos last)) IsPlain
    (λ e word is. other_opcode word 0x33 is.1.0 (λ q. omega arith) (λ q. omega arith))
    (λ e word is. other_opcode word 0x13 is.1.0 (λ q. omega arith) (λ q. omega arith))

-- nor of the jump
plain_jump : IsPlain next_word
plain_jump = λ word is. other_opcode word 0x6f is.1.0 (λ q. omega arith) (λ q. omega arith)

-- nor of a sum with a constant
plain_constant : (rd rs1 n : ℕ) → IsPlain (add_constant rd rs1 n)
plain_constant rd rs1 n = λ word is. other_opcode word 0x13 is.1.0 (λ q. omega arith) (λ q. omega arith)

-- nor of an environment call
plain_call : IsPlain Ecall
plain_call = λ word is same. elim same [
  | inl first ↦ omega (arith, is.1)
  | inr second ↦ omega (arith, is.1)
]

-- nor of LUI
plain_upper : (rd upper : ℕ) → IsPlain (Lui rd upper)
plain_upper rd upper = λ word is. other_opcode word 0x37 is.1.0 (λ q. omega arith) (λ q. omega arith)

-- nor of a store of a word
plain_store : (rs1 rs2 : ℕ) → IsPlain (Store Word rs1 rs2 (pos 0))
plain_store rs1 rs2 = λ word is. other_opcode word 0x23 is.1.0 (λ q. omega arith) (λ q. omega arith)

-- so the ending has none
plain_ending : All IsPlain ending
unfolding ending
plain_ending = All-from_recursion IsPlain ending
    (plain_upper 28 0x20000, (plain_store 28 5, (plain_constant 11 28 0, (plain_constant 10 0 1, (plain_constant 12 0 4, (plain_constant 17 0 64, (plain_call, (plain_constant 10 0 0, (plain_constant 17 0 93, (plain_call, tt))))))))))

-- ---- what is so of every group

-- what is so of operations of all kinds, and of the jump, is so
module _
    (P : Insn → Type 0) (of_operation : (kind rd rs1 last : ℕ) → P (operation_of kind rd rs1 last)) (of_jump : P next_word)
    (seed : ℕ) where
  -- of the operations of a seed,
  of_operations : (places : List ℕ) → All P (map (operation seed) places)
  of_operations [] = All-nil P
  of_operations (n ∷ places) =
      All-cons P (operation seed n) (map (operation seed) places)
      (of_operation (draw seed (4 * n) % 8) (operand seed (4 * n + 1)) (operand seed (4 * n + 2)) (operand seed (4 * n + 3)))
      (of_operations places)

  -- a group,
  of_group : (n : ℕ) → All P (group seed n)
  of_group n =
      subst (All P) (group-whole seed n)
      (All-push P (operations seed n 8) next_word (of_operations (range_with_len (8 * n) 8)) of_jump)

  of_each_group : (places : List ℕ) → All P (flat_map (group seed) places)
  of_each_group [] = All-nil P
  of_each_group (n ∷ places) = All-append P (group seed n) (flat_map (group seed) places) (of_group n) (of_each_group places)

  -- and groups
  pub of_groups : (count : ℕ) → All P (groups seed count)
  unfolding groups
  of_groups count = of_each_group (range_with_len 0 count)

-- so the whole text has none
pub plain_text : (seed : ℕ) → All IsPlain (text_of seed)
plain_text seed =
    All-append IsPlain (groups seed 1800) ending (of_groups IsPlain plain_operation plain_jump seed 1800) plain_ending
