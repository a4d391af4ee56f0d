use Rattle.std.proofs.Common.{leb, leb-true, rules, arith}
use Rattle.std.proofs.lemmas.List.Sorted.{IsPartitionPoint-from_clause, IsPartitionedBy-leb}
use Rattle.std.proofs.lemmas.Bool.{leb-false}
use Rattle.ci_elf.proofs.SegmentOrderLaws.{none_before, last_before}
use Rattle.ci_elf.proofs.memory.segment_before.Goals as goal

pub returns-then-after-eq0 : goal.returns-then-after-eq0
returns-then-after-eq0 c =
    let parted = IsPartitionedBy-leb (λ s. s.address) c.args.segments.now c.args.address c.requires in
    let point = IsPartitionPoint-from_clause
    (λ s. leb s.address c.args.address) _ _ c.partition_point-after.ensures.partitioned parted
    (λ a r q k. search rules) in
    none_before c.args.segments.now c.args.address c.partition_point-after.result (λ k d h l. leb-false _ _ (point.1 k d h l)) c.if-after-eq0.true

pub returns-else-after-eq0 : goal.returns-else-after-eq0
returns-else-after-eq0 c =
    let parted = IsPartitionedBy-leb (λ s. s.address) c.args.segments.now c.args.address c.requires in
    let point = IsPartitionPoint-from_clause
    (λ s. leb s.address c.args.address) _ _ c.partition_point-after.ensures.partitioned parted
    (λ a r q k. search rules) in
    last_before c.args.segments.now c.args.address c.partition_point-after.result (λ k d h l. leb-false _ _ (point.1 k d h l))
    (omega arith) c.partition_point-after.ensures.bound c.requires (λ k d h. leb-true _ _ (point.0 k d (omega arith) h)) _
