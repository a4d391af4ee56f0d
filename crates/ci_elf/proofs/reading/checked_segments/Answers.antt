use Rattle.std.proofs.Common.{◌+◌, ◌≤◌, [], ◌∷◌, length, sym, ◌∙◌, ap, subst, arith}
use Rattle.std.specs.List.{sum_by}
use Rattle.ci_elf.specs.Fields.{e_phnum, is_loadable}
use Rattle.ci_elf.specs.Executables.{segment_of, segments_of}
use Rattle.ci_elf.specs.MemoryMap.{most_memory, stack_size}
use Rattle.ci_elf.specs.Rules.{MemoryIsBounded}
use Rattle.ci_elf.proofs.FieldLaws.{e_phnum_small}
use Rattle.ci_reading.proofs.BrokenLaws.{length_those}
use Rattle.ci_elf.proofs.CheckLaws.{handed_on, fault_here}
use Rattle.ci_elf.proofs.reading.checked_segments.Goals as goal

pub check_size-requires : goal.check_size-requires
unfolding segments_of
check_size-requires c =
    omega (
      arith,
      e_phnum_small c.args.bytes.now (λ i. omega (arith, c.type_inv.bytes i)),
      length_those (is_loadable c.args.bytes.now) (segment_of c.args.bytes.now) (e_phnum c.args.bytes.now),
      ap length (c.deref.ensures.value ∙ c.in_ok-segments.ensures),
    )

pub returns-in_err-check_size-clause-test : goal.returns-in_err-check_size-clause-test
returns-in_err-check_size-clause-test c =
    handed_on c.args.bytes.now (MemoryIsBounded ∷ []) _ _ c.from_residual-in_err-check_size.ensures.1
    (fault_here c.args.bytes.now MemoryIsBounded [] _
    (λ holds. c.in_err-check_size.ensures.0
    (subst (λ ss. sum_by (λ s. s.memory_size) ss + stack_size ≤ most_memory) (sym (c.deref.ensures.value ∙ c.in_ok-segments.ensures)) holds))
    c.in_err-check_size.ensures.1)
