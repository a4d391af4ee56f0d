use Rattle.std.proofs.Common.{leb, leb-true, rules, arith}
use Rattle.std.proofs.lemmas.List.Sorted.{IsPartitionPoint-from_clause, IsPartitionedBy-leb}
use Rattle.std.proofs.lemmas.Bool.{leb-false}
use Rattle.ci_elf.specs.declared.ranges.Range.{Range}
use Rattle.ci_elf.proofs.RangeLaws.{starts_rise, none_held, held, not_held, within_words, past_words}
use Rattle.ci_elf.proofs.ranges.range_with.Goals as goal

abbrev none : Range
none = record { start = 0; words = 0 }

pub returns-then-after-eq0 : goal.returns-then-after-eq0
returns-then-after-eq0 c =
    let parted = IsPartitionedBy-leb (λ r. r.start) c.args.ranges.now c.args.address (starts_rise c.args.ranges.now c.requires) in
    let point = IsPartitionPoint-from_clause
    (λ r. leb r.start c.args.address) _ _ c.partition_point-after.ensures.partitioned parted
    (λ a r q k. search rules) in
    none_held c.args.ranges.now c.requires c.args.address c.partition_point-after.result (λ k d h. leb-true _ _ (point.0 k d (omega arith) h))
    (λ k d h l. leb-false _ _ (point.1 k d h l)) c.if-after-eq0.true

pub overflow_sub-address : goal.overflow_sub-address
overflow_sub-address c =
    let parted = IsPartitionedBy-leb (λ r. r.start) c.args.ranges.now c.args.address (starts_rise c.args.ranges.now c.requires) in
    let point = IsPartitionPoint-from_clause
    (λ r. leb r.start c.args.address) _ _ c.partition_point-after.ensures.partitioned parted
    (λ a r q k. search rules) in
    leb-true _ _ (point.0 _ none (omega arith) (omega arith))

pub returns-then-address-range : goal.returns-then-address-range
returns-then-address-range c =
    let parted = IsPartitionedBy-leb (λ r. r.start) c.args.ranges.now c.args.address (starts_rise c.args.ranges.now c.requires) in
    let point = IsPartitionPoint-from_clause
    (λ r. leb r.start c.args.address) _ _ c.partition_point-after.ensures.partitioned parted
    (λ a r q k. search rules) in
    held c.args.ranges.now c.requires c.args.address c.partition_point-after.result (λ k d h. leb-true _ _ (point.0 k d (omega arith) h))
    (λ k d h l. leb-false _ _ (point.1 k d h l)) (omega arith) c.partition_point-after.ensures.bound none
    (within_words c.args.address _ _ (leb-true _ _ (point.0 _ none (omega arith) (omega arith))) c.if-address-range.true)

pub returns-else-address-range : goal.returns-else-address-range
returns-else-address-range c =
    let parted = IsPartitionedBy-leb (λ r. r.start) c.args.ranges.now c.args.address (starts_rise c.args.ranges.now c.requires) in
    let point = IsPartitionPoint-from_clause
    (λ r. leb r.start c.args.address) _ _ c.partition_point-after.ensures.partitioned parted
    (λ a r q k. search rules) in
    not_held c.args.ranges.now c.requires c.args.address c.partition_point-after.result (λ k d h. leb-true _ _ (point.0 k d (omega arith) h))
    (λ k d h l. leb-false _ _ (point.1 k d h l)) (omega arith) c.partition_point-after.ensures.bound none
    (past_words c.args.address _ _ (leb-true _ _ (point.0 _ none (omega arith) (omega arith))) c.if-address-range.false)
