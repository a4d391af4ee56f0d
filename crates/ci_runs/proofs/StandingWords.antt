-- What stands at a word on a machine with modules: the instruction that the word spells, and what the plain table has.
use Rattle.std.proofs.Common.{ℕ, sym, subst}
use Rattle.std.specs.Prelude.{List}
use Rattle.ci_isa.specs.declared.instruction.Insn.{Insn}
use Rattle.ci_isa.specs.declared.instruction.Insn.TheVariants.{Unit, Cread, Cput, Illegal}
use Rattle.ci_isa.specs.Fields.{HasCustomOpcode}
use Rattle.ci_isa.specs.Table.{IsInsnAt, IsWordOf}
use Rattle.ci_isa.proofs.TableLaws.{tables_agree}
use Rattle.ci_verilog.specs.Modules.{Module}
use Rattle.ci_machine.specs.Extended.{HasModule, ReadsWith, IsInsnWith}

-- An instruction can stand on the machine with these modules: a unit word has its module, and a bare word has no row.
abbrev pub CanStand : List Module → Insn → Type 0
CanStand modules (Illegal word) = (insn : Insn) → ¬ ReadsWith modules word insn
CanStand modules insn = HasModule modules insn

module _ (modules : List Module) where
  -- so it has its module
  pub has_module : (insn : Insn) → CanStand modules insn → HasModule modules insn
  has_module (Illegal word) can = tt
  has_module insn can = can

  module _ (word : ℕ) where
    -- it stands at each word that spells it,
    pub spelt_stands : (insn : Insn) → CanStand modules insn → IsWordOf word insn → IsInsnWith modules word insn
    spelt_stands (Illegal bare) can is = (sym is.1, λ insn row. can insn (subst (λ w. ReadsWith modules w insn) is.1 row))
    spelt_stands insn can is = (is, can)

    -- and what stands at a word can stand
    pub can_stand : (insn : Insn) → IsInsnWith modules word insn → CanStand modules insn
    can_stand (Illegal bare) is = λ insn row. is.1 insn (subst (λ w. ReadsWith modules w insn) is.0 row)
    can_stand insn is = is.1

    -- what the plain table has at a word without a custom opcode stands there
    pub plain_stands : (insn : Insn) → ¬ HasCustomOpcode word → IsInsnAt word insn → IsInsnWith modules word insn
    plain_stands (Illegal bare) other is =
        let both = (tables_agree word other (Illegal bare)).0 is in (both.0, λ insn row. both.1 insn row.0)
    plain_stands (Unit number rd rs1 rs2 rs3) other is = absurd is.1
    plain_stands (Cread rd index) other is = absurd is.1
    plain_stands (Cput rs1 rs2) other is = absurd is.1
    plain_stands insn other is = ((tables_agree word other insn).0 is, tt)
