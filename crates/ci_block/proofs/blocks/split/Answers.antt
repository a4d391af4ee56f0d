use Rattle.std.proofs.Common.{◌<◌, sym, subst}
use Rattle.std.specs.List.{AllPairs}
use Rattle.ci_block.proofs.BlockLaws.{blocks_in_order}
use Rattle.ci_block.proofs.blocks.split.Goals as goal

pub invariant_of-result : goal.invariant_of-result
invariant_of-result c = blocks_in_order _ c.in_ok-blocks_of.field-0.items c.in_ok-blocks_of.ensures.by_leader
    (subst (λ leaders. AllPairs (λ a b. a < b) leaders) (sym c.all.ensures) c.requires.listing.ascending)
