use Rattle.std.proofs.Common.{◌<◌, [], sym, subst, refl}
use Rattle.std.proofs.lemmas.Bool.Decides.{not_from_Decides}
use Rattle.ci_elf.specs.Fields.{is_text}
use Rattle.ci_elf.specs.Rules.{TextIsLoaded}
use Rattle.ci_elf.specs.private.SectionChecks.{HoldsSection, section_of}
use Rattle.ci_elf.proofs.CheckLaws.{fault_here}
use Rattle.ci_elf.proofs.SegmentLaws.{chosen}
use Rattle.ci_elf.proofs.SectionLaws.{laid_out, loaded_from, loaded_to, text_filled}
use Rattle.ci_elf.proofs.sections.check_loaded.Goals as goal

pub is_loaded-requires-clause-layout : goal.is_loaded-requires-clause-layout
is_loaded-requires-clause-layout c =
    laid_out c.args.bytes.now c.requires.placed c.requires.memory _ c.requires.same

pub is_loaded-requires-clause-size : goal.is_loaded-requires-clause-size
is_loaded-requires-clause-size c =
    let is = chosen (is_text c.args.bytes.now c.args.n) c.in-Some.text (section_of c.args.bytes.now c.args.n) c.in-Some.ensures in
    subst (λ s. 0 < s.size) (sym is.1) (text_filled c.args.bytes.now c.args.n is.0)

pub returns-then-is_loaded : goal.returns-then-is_loaded
returns-then-is_loaded c =
    let is = chosen (is_text c.args.bytes.now c.args.n) c.in-Some.text (section_of c.args.bytes.now c.args.n) c.in-Some.ensures in
    let held = c.is_loaded.ensures.0 c.if-is_loaded.true in (
      (λ _. loaded_from c.args.bytes.now c.requires.placed c.requires.memory _ c.requires.same c.args.n
          (held.0, held.1, subst (HoldsSection held.0) is.1 held.2)),
      tt,
    )

pub returns-else-is_loaded : goal.returns-else-is_loaded
returns-else-is_loaded c =
    let is = chosen (is_text c.args.bytes.now c.args.n) c.in-Some.text (section_of c.args.bytes.now c.args.n) c.in-Some.ensures in
    fault_here c.args.bytes.now (TextIsLoaded c.args.n) [] _
    (λ holds.
    let held = loaded_to c.args.bytes.now c.requires.placed c.requires.memory _ c.requires.same c.args.n (holds is.0) in
    not_from_Decides _ c.is_loaded.ensures c.if-is_loaded.false
    (held.0, held.1, subst (HoldsSection held.0) (sym is.1) held.2))
    refl
