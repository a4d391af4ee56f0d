use Rattle.std.proofs.Common.{ℕ, inl, inr, List, [], ◌∷◌, subst, sym, arith, below_more}
use Rattle.std.proofs.lemmas.Bool.{cases_eq}
use Rattle.ci_elf.specs.Fields.{e_shnum}
use Rattle.ci_elf.specs.Rules.{Rule, HasSymbols, TextIsLoaded, TextIsAlone, Holds, section_rules}
use Rattle.ci_elf.specs.private.Parts.{IsFirstMeeting}
use Rattle.ci_reading.proofs.BrokenLaws.{kept_each}
use Rattle.ci_elf.proofs.CheckLaws.{handed_on, fault_each}
use Rattle.ci_elf.proofs.SectionLaws.{text_met}
use Rattle.ci_elf.proofs.sections.check_sections.Goals as goal

abbrev rules_of : ℕ → List Rule
rules_of n = HasSymbols n ∷ TextIsLoaded n ∷ TextIsAlone n ∷ []

pub returns-in_err-check_section : goal.returns-in_err-check_section
returns-in_err-check_section c =
    handed_on c.args.bytes.now (section_rules c.args.bytes.now) _ _ c.from_residual-in_err-check_section.ensures.1
    (fault_each c.args.bytes.now (e_shnum c.args.bytes.now) c.loop-n.n rules_of _ (omega arith) c.loop-n.invariant.0 c.in_err-check_section.ensures)

pub loop-n-preserved : goal.loop-n-preserved
loop-n-preserved c = (
  below_more _ _ c.loop-n.invariant.0 c.in_ok-check_section.ensures,
  (elim (cases_eq c.loop-n.n c.in_ok-surroundings.surroundings.first_meeting) [
    | inl same ↦
        let met = text_met c.args.bytes.now c.loop-n.n (omega arith)
        (subst (IsFirstMeeting c.args.bytes.now) (sym same) c.in_ok-surroundings.ensures.meeting) in
        absurd (met.1 (c.in_ok-check_section.ensures.1.1.0 met.0))
    | inr other ↦ omega (arith, c.loop-n.invariant.1)
  ]),
)

pub returns : goal.returns
returns c = kept_each (Holds c.args.bytes.now) (e_shnum c.args.bytes.now) rules_of (λ k h. c.loop-n.invariant.0 k (omega arith))
