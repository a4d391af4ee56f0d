use Rattle.std.proofs.Common.{◌≡◌, ◌+◌, [], sym, ◌∙◌, subst, refl, ap, arith}
use Rattle.ci_elf.specs.Fields.{is_text, sh_offset, sh_size}
use Rattle.ci_elf.specs.Rules.{TextIsAlone}
use Rattle.ci_elf.specs.private.Parts.{IsCoverage, IsNext, IsFirstMeeting, tables_of}
use Rattle.ci_elf.specs.private.SectionChecks.{section_of}
use Rattle.ci_elf.proofs.CheckLaws.{fault_here}
use Rattle.ci_elf.proofs.SegmentLaws.{chosen}
use Rattle.ci_elf.proofs.SectionLaws.{alone_from, table_met, text_met}
use Rattle.ci_elf.proofs.sections.check_alone.Goals as goal

pub returns-then-next-part : goal.returns-then-next-part
returns-then-next-part c =
    let is = chosen (is_text c.args.bytes.now c.args.n) c.in-Some.text (section_of c.args.bytes.now c.args.n) c.in-Some.ensures in
    let start : c.file_part-part.result.start ≡ sh_offset c.args.bytes.now c.args.n = ap (λ p. p.start) c.file_part-part.ensures ∙ ap (λ s. s.offset) is.1 in
    let end : c.file_part-part.result.end ≡ sh_offset c.args.bytes.now c.args.n + sh_size c.args.bytes.now c.args.n =
    ap (λ p. p.end) c.file_part-part.ensures ∙ ap (λ s. s.offset + s.size) is.1 in
    fault_here c.args.bytes.now (TextIsAlone c.args.n) [] _
    (λ holds. table_met c.args.bytes.now c.args.n is.0 c.deref.result.now c.next_covered-next.result
    (subst (IsCoverage (tables_of c.args.bytes.now)) (sym c.deref.ensures.value) c.requires.surroundings.tables)
    (subst (λ place. IsNext c.deref.result.now place c.next_covered-next.result) start c.next_covered-next.ensures)
    (omega arith) (omega arith) (holds is.0))
    refl

pub returns-then-n-surroundings : goal.returns-then-n-surroundings
returns-then-n-surroundings c =
    let is = chosen (is_text c.args.bytes.now c.args.n) c.in-Some.text (section_of c.args.bytes.now c.args.n) c.in-Some.ensures in
    let met = text_met c.args.bytes.now c.args.n c.requires.exists
    (subst (IsFirstMeeting c.args.bytes.now) (sym c.if-n-surroundings.true) c.requires.surroundings.meeting) in
    fault_here c.args.bytes.now (TextIsAlone c.args.n) [] _ (λ holds. met.1 (holds is.0)) refl

pub returns : goal.returns
returns c =
    let is = chosen (is_text c.args.bytes.now c.args.n) c.in-Some.text (section_of c.args.bytes.now c.args.n) c.in-Some.ensures in
    let start : c.file_part-part.result.start ≡ sh_offset c.args.bytes.now c.args.n = ap (λ p. p.start) c.file_part-part.ensures ∙ ap (λ s. s.offset) is.1 in
    let end : c.file_part-part.result.end ≡ sh_offset c.args.bytes.now c.args.n + sh_size c.args.bytes.now c.args.n =
    ap (λ p. p.end) c.file_part-part.ensures ∙ ap (λ s. s.offset + s.size) is.1 in (
      (λ _. alone_from c.args.bytes.now c.args.n is.0 c.deref.result.now c.next_covered-next.result c.args.surroundings.now.first_meeting
          c.requires.exists (subst (IsCoverage (tables_of c.args.bytes.now)) (sym c.deref.ensures.value) c.requires.surroundings.tables)
          (subst (λ place. IsNext c.deref.result.now place c.next_covered-next.result) start c.next_covered-next.ensures)
          (omega arith) c.requires.surroundings.meeting (omega arith)),
      tt,
    )
