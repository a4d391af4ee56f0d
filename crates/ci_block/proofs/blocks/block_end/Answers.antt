use Rattle.std.proofs.Common.{get_or}
use Rattle.std.proofs.lemmas.List.Elements.{Contains-get_or}
use Rattle.ci_block.proofs.BlockLaws.{ends_at_next, ends_with_range}
use Rattle.ci_block.proofs.blocks.block_end.Goals as goal

pub range_end-end-requires : goal.range_end-end-requires
range_end-end-requires c =
    let leaders = c.args.leaders.now in
    let leader = get_or leaders c.args.index 0 in
    ((c.requires.leaders.listing.listed leader).0 (Contains-get_or leaders c.args.index 0 c.requires.within)).0

pub returns-then-index-leaders : goal.returns-then-index-leaders
returns-then-index-leaders c =
    rw c.min.ensures
    (ends_at_next c.args.image.now c.args.leaders.now c.requires.leaders c.args.index c.requires.within c.range_end-end.result
    c.range_end-end.ensures c.if-index-leaders.true)

pub returns-else-index-leaders : goal.returns-else-index-leaders
returns-else-index-leaders c =
    ends_with_range c.args.image.now c.args.leaders.now c.requires.leaders c.args.index c.requires.within c.range_end-end.result
    c.range_end-end.ensures c.if-index-leaders.false
