-- For the impl of the plain machine alone: what stands at a word by the plain table.
use Rattle.std.proofs.Common.{◌≡◌, ℕ, Some, refl, sym, subst, ◌∙◌}
use Rattle.std.specs.Prelude.{false}
use Rattle.ci_isa.specs.declared.instruction.Insn.{Insn}
use Rattle.ci_isa.specs.declared.instruction.Insn.TheVariants.{Unit, Cread, Cput, Illegal}
use Rattle.ci_isa.specs.Laws.{IsInsnAtX}
use Rattle.ci_isa.specs.Table.{Reads, ReadsX, IsInsnAt}
use Rattle.ci_isa.proofs.RowSoundness.{in_extended}
use Rattle.ci_isa.proofs.RowCompleteness.{one_insn, only_extended}
use Rattle.ci_machine.specs.Steps.{IsPlain}
use Rattle.ci_emu.specs.Machines.{standing, StandAs}

same_insn : (a b : Insn) → Some a ≡ Some b → a ≡ b
same_insn a b is = cc

module _ (word : ℕ) where
  -- the plain table has no row for a word where the extended one reads what the plain one never has
  no_row : (custom : Insn) → ReadsX word custom → ¬ Reads word custom → (insn : Insn) → ¬ Reads word insn
  no_row custom reads never insn row =
      let extended = only_extended word insn (row.0, in_extended word insn row.1) in
      never (subst (Reads word) (same_insn insn custom (sym extended ∙ only_extended word custom reads)) row)

  by_plain_table : (reading : Insn) → IsInsnAtX word reading
      → IsInsnAt word (standing (λ number. false) false word reading)
  by_plain_table (Unit number rd rs1 rs2 rs3) reads = (refl, no_row (Unit number rd rs1 rs2 rs3) reads (λ row. row.1))
  by_plain_table (Cread rd index) reads = (refl, no_row (Cread rd index) reads (λ row. row.1))
  by_plain_table (Cput rs1 rs2) reads = (refl, no_row (Cput rs1 rs2) reads (λ row. row.1))
  by_plain_table (Illegal bare) stands = (stands.0, λ insn row. stands.1 insn (row.0, in_extended word insn row.1))
  by_plain_table insn reads = reads

pub plain_stands : StandAs IsPlain (λ number. false) false
plain_stands meaning plain word reading stands =
    one_insn word (meaning.insn word) (standing (λ number. false) false word reading) (plain word)
    (by_plain_table word reading stands)
