use Rattle.std.proofs.Common.{refl, arith}
use Rattle.ci_elf.proofs.WordPlaceLaws.{all_firsts, firsts_more, no_firsts, words_before}
use Rattle.ci_elf.proofs.places.Places.new.Goals as goal

pub loop-range-init : goal.loop-range-init
loop-range-init c = rw c.new-firsts.ensures.items (no_firsts c.args.text.now)

pub overflow_add-count : goal.overflow_add-count
overflow_add-count c = omega arith

pub loop-range-preserved : goal.loop-range-preserved
loop-range-preserved c =
    rw c.in_ok-push.ensures.items
    (firsts_more c.args.text.now c.loop-range.range-index c.loop-range.firsts.items c.loop-range.count _ (omega arith) refl c.loop-range.invariant)

pub invariant_of-result : goal.invariant_of-result
invariant_of-result c =
    let firsts = c.loop-range.firsts.items in
    rw c.in_ok-from_slice.ensures.items
    (all_firsts c.args.text.now c.loop-range.range-index firsts c.loop-range.count c.requires (omega arith) c.loop-range.invariant (omega arith))

pub prove-unreachable-requires : goal.prove-unreachable-requires
prove-unreachable-requires c =
    let before = words_before c.args.text.now c.loop-range.range-index c.requires (omega arith) in
    omega (arith, c.loop-range.invariant.all, before)
