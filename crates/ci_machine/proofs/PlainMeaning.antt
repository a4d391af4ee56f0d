-- There is a plain meaning, it reads as the extended table does what has no custom opcode; and which registers an
-- instruction reads and writes as sets.
use Rattle.std.proofs.Common.{◌≡◌, ◌+◌, ◌<◌, refl, ◌∙◌, arith, List, [], ◌∷◌}
use Rattle.std.specs.Prelude.{ℕ, false}
use Rattle.std.specs.FinSet as set
use Rattle.std.proofs.lemmas.Bool.Decides.{nat_tests}
use Rattle.ci_isa.specs.declared.instruction.Insn.{Insn}
use Rattle.ci_isa.specs.declared.instruction.Insn.TheVariants.{Unit, Cread, Cput}
use Rattle.ci_isa.specs.Table.{IsInsnAt}
use Rattle.ci_isa.specs.Effects.{is_among, is_unit}
use Rattle.ci_isa.specs.RegisterSets.{registers_read, registers_written}
use Rattle.ci_isa.proofs.RowCompleteness.{one_insn}
use Rattle.ci_isa.proofs.Registers.{reads_register_is, writes_register_is}
use Rattle.ci_isa.proofs.TableLaws.{one_insn_at_each_word, tables_agree}
use Rattle.ci_machine.specs.Steps.{Meaning, IsPlain}
use Rattle.ci_machine.specs.Cores.{hidden, hidden_operands}
use Rattle.ci_machine.specs.Actions.{Units}
use Rattle.ci_machine.specs.Agreement.{TakeHidden}
use Rattle.ci_machine.specs.Agreement.{reads, writes}
use Rattle.ci_elf.specs.Executables.{text_word}
use Rattle.ci_machine.specs.MeaningLaws.{PlainAndExtendedAgree}
use Rattle.ci_machine.proofs.TestLaws.{by_test}

-- ---- meanings

pub plain_exists : (meaning : Meaning) × IsPlain meaning
plain_exists = (
  record {
    insn = λ word. (one_insn_at_each_word word).0.insn;
    units = record { further = λ number. []; results = λ number values. [] };
  },
  λ word. (one_insn_at_each_word word).0.stands,
)

-- what stands at a word by the plain table is no unit word
no_unit_stands : (word : ℕ) (insn : Insn) → IsInsnAt word insn → is_unit insn ≡ false
no_unit_stands word (Unit number rd rs1 rs2 rs3) stands = absurd stands.1
no_unit_stands word insn stands = refl

pub plain_and_extended_agree : PlainAndExtendedAgree
plain_and_extended_agree plain extended file is_plain is_extended no_custom address text =
    let word = text_word file address in
    let none = no_custom address text in (
      one_insn word (plain.insn word) (extended.insn word) (is_plain word)
          ((tables_agree word none (extended.insn word)).1 (is_extended word none)),
      no_unit_stands word (plain.insn word) (is_plain word),
    )

-- ---- sets of registers

-- three registers and further ones, of which none is this one
none_further : (a b c : ℕ) (further : List ℕ) (r : ℕ) → is_among further r ≡ false → is_among (a ∷ b ∷ c ∷ further) r ≡ is_among (a ∷ b ∷ c ∷ []) r
none_further a b c further r none = grind (arith, nat_tests)

pub registers_read_are : (units : Units) → TakeHidden units → (insn : Insn) (r : ℕ) → r < 32 → reads units insn r ≡ set.contains (registers_read insn) r
registers_read_are units hidden_ones (Unit number rd rs1 rs2 rs3) r below =
    none_further rs1 rs2 rs3 (units.further number) r
    (by_test (is_among (units.further number) r) (λ is. absurd (omega (arith, hidden_ones number r is))) (λ none. none))
    ∙ reads_register_is (Unit number rd rs1 rs2 rs3) r
registers_read_are units hidden_ones (Cread rd index) r below = not_hidden ∙ reads_register_is (Cread rd index) r
  where
    not_hidden : is_among ((32 + index) ∷ []) r ≡ is_among [] r
    not_hidden = grind (arith, nat_tests)
registers_read_are units hidden_ones insn r below = reads_register_is insn r

pub registers_written_are : (insn : Insn) (r : ℕ) → r < 32 → writes insn r ≡ set.contains (registers_written insn) r
registers_written_are (Unit number rd rs1 rs2 rs3) r below = rd_alone ∙ writes_register_is (Unit number rd rs1 rs2 rs3) r
  where
    rd_alone : is_among (rd ∷ hidden) r ≡ is_among (rd ∷ []) r
    rd_alone = grind (arith, nat_tests)
registers_written_are (Cput rs1 rs2) r below = none ∙ writes_register_is (Cput rs1 rs2) r
  where
    none : is_among hidden_operands r ≡ is_among [] r
    none = grind (arith, nat_tests)
registers_written_are insn r below = writes_register_is insn r
