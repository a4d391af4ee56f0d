use Rattle.std.proofs.Common.{get_or, arith}
use Rattle.std.proofs.lemmas.List.Elements.{Contains-get_or}
use Rattle.ci_block.proofs.BlockLaws.{all_blocks, block_of_stretch, no_blocks, one_more_block}
use Rattle.ci_block.proofs.blocks.blocks_of.Goals as goal

pub loop-index-init : goal.loop-index-init
loop-index-init c = rw c.in_ok-blocks.ensures.items (no_blocks c.args.image.now c.args.leaders.now)

pub loop-index-preserved : goal.loop-index-preserved
loop-index-preserved c =
    let image = c.args.image.now in
    let leaders = c.args.leaders.now in
    let index = c.loop-index.index in
    let leader = get_or leaders index 0 in
    let block = c.in_ok-block_between.field-0 in
    rw c.in_ok-push.ensures.items
    (one_more_block image leaders index c.loop-index.blocks.items block c.loop-index.invariant c.loop-index-test.true
    (block_of_stretch image leaders c.requires leader c.block_end-end.result (Contains-get_or leaders index 0 c.loop-index-test.true)
    c.block_end-end.ensures block c.in_ok-block_between.ensures)
    c.in_ok-block_between.ensures.leads)

pub returns : goal.returns
returns c = all_blocks c.args.image.now c.args.leaders.now c.loop-index.index c.loop-index.blocks.items (omega arith) c.loop-index.invariant
