-- For the impl of the extended machine alone: what stands at a word where these modules are there.
use Rattle.std.proofs.Common.{ℕ, List, length, inl, inr, arith}
use Rattle.std.specs.Prelude.{true, nat_lt}
use Rattle.std.proofs.lemmas.Bool.{cases_lt, lt-ltb, le-ltb}
use Rattle.ci_isa.specs.declared.instruction.Insn.{Insn}
use Rattle.ci_isa.specs.declared.instruction.Insn.TheVariants.{Unit, Illegal}
use Rattle.ci_isa.specs.Laws.{IsInsnAtX}
use Rattle.ci_verilog.specs.Modules.{Module}
use Rattle.ci_machine.specs.Extended.{IsInsnWith, IsExtended}
use Rattle.ci_machine.proofs.ExtendedMeaning.{one_stands, without_module}
use Rattle.ci_emu.specs.Machines.{standing, StandAs}

module _ (modules : List Module) where
  reading_stands : (word : ℕ) (reading : Insn) → IsInsnAtX word reading
      → IsInsnWith modules word (standing (λ number. nat_lt number (length modules)) true word reading)
  reading_stands word (Unit number rd rs1 rs2 rs3) reads =
      elim (cases_lt number (length modules)) [
        | inl has ↦ rw (lt-ltb number (length modules) has) (reads, has)
        | inr past ↦ rw (le-ltb number (length modules) past)
            (without_module modules word (Unit number rd rs1 rs2 rs3) reads (λ has. omega arith))
      ]
  reading_stands word (Illegal bare) stands = (stands.0, λ insn row. stands.1 insn row.0)
  reading_stands word insn reads = (reads, tt)

  pub extended_stands : StandAs (IsExtended modules) (λ number. nat_lt number (length modules)) true
  extended_stands meaning is word reading stands =
      one_stands modules word (meaning.insn word)
      (standing (λ number. nat_lt number (length modules)) true word reading) (is.reads word)
      (reading_stands word reading stands)
