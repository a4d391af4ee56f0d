-- The plain table and the extended one: where they agree, and that one instruction stands at a word.
use Rattle.std.proofs.Common.{◌≡◌, ℕ, ◌^◌, ◌<◌, Option, Some, None, refl, sym, ◌∙◌, arith, inl, inr}
use Rattle.std.specs.Prelude.{◌↔◌, IfSome}
use Rattle.std.proofs.lemmas.Bool.{cases_lt}
use Rattle.ci_isa.specs.declared.instruction.Insn.{Insn}
use Rattle.ci_isa.specs.declared.instruction.Insn.TheVariants.{Unit, Cread, Cput, Illegal}
use Rattle.ci_isa.specs.Fields.{HasCustomOpcode}
use Rattle.ci_isa.specs.Table.{HasFieldsOf, HasFieldsOfX, Reads, ReadsX, IsInsnAt}
use Rattle.ci_isa.specs.Laws.{IsInsnAtX}
use Rattle.ci_isa.specs.private.Decoding.{plain_row, extended_row}
use Rattle.ci_isa.specs.Laws.{TablesAgree, IsOnlyInsn, OneInsnAtEachWord}
use Rattle.ci_isa.proofs.RowSoundness.{in_extended, plain_reads, extended_reads}
use Rattle.ci_isa.proofs.RowCompleteness.{only_plain, only_extended, one_insn}

-- ---- words without a custom opcode

module _ (word : ℕ) (other : ¬ HasCustomOpcode word) where
  -- the rows that the extended table adds have a custom opcode
  in_plain : (insn : Insn) → HasFieldsOfX word insn → HasFieldsOf word insn
  in_plain (Unit number rd rs1 rs2 rs3) fields = absurd (other (inl fields.0))
  in_plain (Cread rd index) fields = absurd (other (inr fields.0))
  in_plain (Cput rs1 rs2) fields = absurd (other (inr fields.0))
  in_plain insn fields = fields

  to_plain : (insn : Insn) → ReadsX word insn → Reads word insn
  to_plain insn reads = (reads.0, in_plain insn reads.1)

  to_extended : (insn : Insn) → Reads word insn → ReadsX word insn
  to_extended insn reads = (reads.0, in_extended word insn reads.1)

  agree : (insn : Insn) → IsInsnAt word insn ↔ IsInsnAtX word insn
  agree (Illegal bare) = (
    λ stands. (stands.0, λ insn reads. stands.1 insn (to_plain insn reads)),
    λ stands. (stands.0, λ insn reads. stands.1 insn (to_extended insn reads)),
  )
  agree insn = (to_extended insn, to_plain insn)

pub tables_agree : TablesAgree
tables_agree = agree

-- ---- one instruction

-- An instruction stands at a word, where it is what a row answers for the word, or the bare word where there is no row.
module _ (word : ℕ) (Row Stands : Insn → Type 0) (below : (insn : Insn) → Row insn → word < 2 ^ 32)
    (stands : (insn : Insn) → Row insn → Stands insn) (bare : ((insn : Insn) → ¬ Row insn) → Stands (Illegal word)) where
  some_insn : (answer : Option Insn) → (word < 2 ^ 32 → IfSome answer Row) → ((insn : Insn) → Row insn → answer ≡ Some insn) → (insn : Insn) × Stands insn
  some_insn None found only = (Illegal word, bare (λ insn row. let e = only insn row in cc))
  some_insn (Some insn) found only =
      elim (cases_lt word (2 ^ 32)) [
        | inl within ↦ (insn, stands insn (found within))
        | inr above ↦ (Illegal word, bare (λ other row. let within = below other row in absurd (omega arith)))
      ]

stands_by_row : (word : ℕ) (insn : Insn) → Reads word insn → IsInsnAt word insn
stands_by_row word (Illegal bare) reads = absurd reads.1
stands_by_row word insn reads = reads

stands_by_row_x : (word : ℕ) (insn : Insn) → ReadsX word insn → IsInsnAtX word insn
stands_by_row_x word (Illegal bare) reads = absurd reads.1
stands_by_row_x word insn reads = reads

one_insn_x : (word : ℕ) (left right : Insn) → IsInsnAtX word left → IsInsnAtX word right → left ≡ right
one_insn_x word (Illegal a) (Illegal b) one other = λ i. Illegal ((one.0 ∙ sym other.0) i)
one_insn_x word (Illegal a) right one other = absurd (one.1 right other)
one_insn_x word left (Illegal b) one other = absurd (other.1 left one)
one_insn_x word left right one other = let a = only_extended word left one in let b = only_extended word right other in cc

only_at : (Stands : Insn → Type 0) → ((left right : Insn) → Stands left → Stands right → left ≡ right) → (insn : Insn) × Stands insn → IsOnlyInsn Stands
only_at Stands one found = record { insn = found.0; stands = found.1; only = λ other stands. one other found.0 stands found.1 }

pub one_insn_at_each_word : OneInsnAtEachWord
one_insn_at_each_word word = (
  only_at (IsInsnAt word) (one_insn word)
      (some_insn word (Reads word) (IsInsnAt word) (λ insn reads. reads.0) (stands_by_row word) (λ none. (refl, none))
      (plain_row word) (plain_reads word) (only_plain word)),
  only_at (IsInsnAtX word) (one_insn_x word)
      (some_insn word (ReadsX word) (IsInsnAtX word) (λ insn reads. reads.0) (stands_by_row_x word) (λ none. (refl, none))
      (extended_row word) (extended_reads word) (only_extended word)),
)
