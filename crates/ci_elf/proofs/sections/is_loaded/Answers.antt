use Rattle.std.proofs.Common.{sym, subst, true≢false}
use Rattle.ci_elf.specs.private.SectionChecks.{HoldsSection}
use Rattle.ci_elf.proofs.SectionLaws.{holder, no_holder}
use Rattle.ci_elf.proofs.sections.is_loaded.Goals as goal

pub returns-in-Some : goal.returns-in-Some
returns-in-Some c = (
  (λ is. (c.in-Some.segment, c.in-Some.ensures.among, c.is_in.ensures.0 is)),
  (λ h. c.is_in.ensures.1 (subst (λ s. HoldsSection s c.args.text)
      (holder c.args.segments.now c.args.text c.in-Some.segment c.requires.layout c.in-Some.ensures c.requires.size h) h.2)),
)

pub returns-in-None : goal.returns-in-None
returns-in-None c = (
  (λ is. absurd (true≢false (sym is))),
  (λ h. absurd (no_holder c.args.segments.now c.args.text c.in-None.ensures c.requires.size h)),
)
