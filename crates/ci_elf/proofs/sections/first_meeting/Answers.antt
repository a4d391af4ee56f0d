use Rattle.std.proofs.Common.{ℕ, subst, sym, ◌∙◌, arith, List, Option}
use Rattle.std.specs.Prelude.{MatchOption}
use Rattle.ci_elf.specs.declared.parts.Part.{Part}
use Rattle.ci_elf.specs.Fields.{e_shnum}
use Rattle.ci_elf.specs.private.Parts.{text_of, IsFirstOverlap, IsFirstMeeting, AreApart}
use Rattle.ci_elf.proofs.FieldLaws.{e_shnum_small}
use Rattle.ci_elf.proofs.PairRuleLaws.{parts_count}
use Rattle.ci_elf.proofs.MeetingLaws.{meeting_found, meeting_none}
use Rattle.ci_elf.proofs.sections.first_meeting.Goals as goal

abbrev Found : List Part → Option (ℕ × ℕ) → Type 0
Found parts found = MatchOption found (AreApart parts) (λ pair. IsFirstOverlap parts pair.0 pair.1)

pub first_overlap-requires : goal.first_overlap-requires
first_overlap-requires c =
    omega (
      arith,
      e_shnum_small c.args.bytes.now (λ i. omega (arith, c.type_inv.bytes i)),
      parts_count (text_of c.args.bytes.now) (e_shnum c.args.bytes.now) _ (c.deref.ensures.value ∙ c.in_ok-texts.ensures),
    )

pub returns-in-Some : goal.returns-in-Some
returns-in-Some c =
    meeting_found c.args.bytes.now c.deref.result.now (c.deref.ensures.value ∙ c.in_ok-texts.ensures) c.in-Some.field-0-0 c.in-Some.n
    (subst (Found c.deref.result.now) c.in-Some.is c.in_ok-n.ensures)

pub returns : goal.returns
returns c =
    subst (IsFirstMeeting c.args.bytes.now) (sym c.section_count.ensures.count)
    (meeting_none c.args.bytes.now c.deref.result.now (c.deref.ensures.value ∙ c.in_ok-texts.ensures)
    (subst (Found c.deref.result.now) c.in-None.is c.in_ok-n.ensures))
