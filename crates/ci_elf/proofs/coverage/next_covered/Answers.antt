use Rattle.std.proofs.Common.{leb, leb-true, rules, arith}
use Rattle.std.proofs.lemmas.List.Sorted.{IsPartitionPoint-from_clause, IsPartitionedBy-leb}
use Rattle.std.proofs.lemmas.Bool.{leb-false}
use Rattle.ci_elf.proofs.CoverageLaws.{next_none, next_found}
use Rattle.ci_elf.proofs.PartLaws.{no_part}
use Rattle.ci_elf.proofs.coverage.next_covered.Goals as goal

pub returns-then-index-coverage : goal.returns-then-index-coverage
returns-then-index-coverage c =
    let parted = IsPartitionedBy-leb (λ p. p.end) c.args.coverage.now c.args.place c.requires.ends in
    let point = IsPartitionPoint-from_clause (λ p. leb p.end c.args.place) _ _ c.partition_point-index.ensures.partitioned parted (λ a r q k. search rules) in
    rw c.max.ensures
    (next_found c.args.coverage.now c.args.place c.partition_point-index.result (λ k h. leb-true _ _ (point.0 k no_part (omega arith) h))
    c.requires c.if-index-coverage.true (λ k h l. leb-false _ _ (point.1 k no_part h l)))

pub returns-else-index-coverage : goal.returns-else-index-coverage
returns-else-index-coverage c =
    let parted = IsPartitionedBy-leb (λ p. p.end) c.args.coverage.now c.args.place c.requires.ends in
    let point = IsPartitionPoint-from_clause (λ p. leb p.end c.args.place) _ _ c.partition_point-index.ensures.partitioned parted (λ a r q k. search rules) in
    next_none c.args.coverage.now c.args.place c.partition_point-index.result (λ k h. leb-true _ _ (point.0 k no_part (omega arith) h))
    c.if-index-coverage.false (omega arith)
