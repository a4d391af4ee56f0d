use Rattle.std.proofs.Common.{◌<◌, [], ◌∷◌, sym, subst, ap, refl}
use Rattle.std.proofs.lemmas.Bool.Decides.{not_from_Decides}
use Rattle.ci_elf.specs.declared.faults.ElfFault.TheVariants.{Short}
use Rattle.ci_elf.specs.Rules.{HasFilePart, IsPlaced, LiesIn}
use Rattle.ci_elf.specs.private.Checks.{SegmentFits}
use Rattle.ci_elf.proofs.CheckLaws.{fault_here, fault_behind}
use Rattle.ci_elf.proofs.SegmentLaws.{found, not_found, has_memory, fits_to, fits_from}
use Rattle.ci_elf.proofs.segments.check_placement.Goals as goal

pub returns-then-not-lies_in : goal.returns-then-not-lies_in
returns-then-not-lies_in c =
    let is = found c.args.bytes.now c.args.n c.in-Some.segment c.in-Some.ensures in
    fault_here c.args.bytes.now (HasFilePart c.args.n) (IsPlaced c.args.n ∷ []) _
    (λ holds. not_from_Decides _ c.lies_in.ensures c.if-not-lies_in.true
    (subst (λ s. LiesIn c.args.bytes.now s.offset s.file_size) (sym is.1) (holds is.0)))
    (ap (λ s. Short s.offset) is.1)

pub fits_memory-requires : goal.fits_memory-requires
fits_memory-requires c =
    let is = found c.args.bytes.now c.args.n c.in-Some.segment c.in-Some.ensures in
    subst (λ s. 0 < s.memory_size) (sym is.1) (has_memory c.args.bytes.now c.args.n is.0)

pub returns-then-not-fits_memory : goal.returns-then-not-fits_memory
returns-then-not-fits_memory c =
    let is = found c.args.bytes.now c.args.n c.in-Some.segment c.in-Some.ensures in
    let lies : LiesIn c.args.bytes.now c.in-Some.segment.offset c.in-Some.segment.file_size = c.lies_in.ensures.0 c.if-not-lies_in.false in
    fault_behind c.args.bytes.now (HasFilePart c.args.n ∷ []) (IsPlaced c.args.n ∷ []) _
    ((λ _. subst (λ s. LiesIn c.args.bytes.now s.offset s.file_size) is.1 lies), tt)
    (fault_here c.args.bytes.now (IsPlaced c.args.n) [] _
    (λ holds. not_from_Decides _ c.fits_memory.ensures c.if-not-fits_memory.true
    (subst SegmentFits (sym is.1)
    (fits_to c.args.bytes.now c.args.n (has_memory c.args.bytes.now c.args.n is.0) (holds is.0))))
    refl)

pub returns : goal.returns
returns c =
    let is = found c.args.bytes.now c.args.n c.in-Some.segment c.in-Some.ensures in
    let lies : LiesIn c.args.bytes.now c.in-Some.segment.offset c.in-Some.segment.file_size = c.lies_in.ensures.0 c.if-not-lies_in.false in
    let fits : SegmentFits c.in-Some.segment = c.fits_memory.ensures.0 c.if-not-fits_memory.false in (
      (λ _. subst (λ s. LiesIn c.args.bytes.now s.offset s.file_size) is.1 lies),
      ((λ _. fits_from c.args.bytes.now c.args.n (subst SegmentFits is.1 fits)), tt),
    )

pub returns-in_default : goal.returns-in_default
returns-in_default c =
    let passed = not_found c.args.bytes.now c.args.n c.in_default.ensures in
    ((λ is. absurd (passed is)), ((λ is. absurd (passed is)), tt))
