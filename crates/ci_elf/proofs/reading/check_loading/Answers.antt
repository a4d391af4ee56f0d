use Rattle.std.proofs.Common.{[], ◌∷◌, ◌++◌}
use Rattle.ci_elf.specs.Rules.{MemoryIsBounded, memory_rules, segment_rules}
use Rattle.ci_elf.proofs.ReadingLaws.{loading_stage}
use Rattle.ci_elf.proofs.CheckLaws.{handed_on, fault_in_front, fault_behind, test_behind}
use Rattle.ci_elf.proofs.reading.check_loading.Goals as goal

pub returns-in_err-check_segments-clause-test : goal.returns-in_err-check_segments-clause-test
returns-in_err-check_segments-clause-test c =
    handed_on c.args.bytes.now (loading_stage c.args.bytes.now) _ _ c.from_residual.ensures.1
    (fault_in_front c.args.bytes.now (segment_rules c.args.bytes.now) (memory_rules c.args.bytes.now ++ MemoryIsBounded ∷ []) _ c.in_err-check_segments.ensures)

pub returns-in_err-check_apart-clause-test : goal.returns-in_err-check_apart-clause-test
returns-in_err-check_apart-clause-test c =
    handed_on c.args.bytes.now (loading_stage c.args.bytes.now) _ _ c.from_residual-in_err-check_apart.ensures.1
    (fault_behind c.args.bytes.now (segment_rules c.args.bytes.now) (memory_rules c.args.bytes.now ++ MemoryIsBounded ∷ []) _ c.in_ok-check_segments.ensures
    (fault_in_front c.args.bytes.now (memory_rules c.args.bytes.now) (MemoryIsBounded ∷ []) _ c.in_err-check_apart.ensures))

pub returns-clause-test : goal.returns-clause-test
returns-clause-test c =
    test_behind c.args.bytes.now (segment_rules c.args.bytes.now) (memory_rules c.args.bytes.now ++ MemoryIsBounded ∷ []) _ c.in_ok-check_segments.ensures
    (test_behind c.args.bytes.now (memory_rules c.args.bytes.now) (MemoryIsBounded ∷ []) _ c.in_ok-check_apart.ensures c.checked_segments.ensures.test)
