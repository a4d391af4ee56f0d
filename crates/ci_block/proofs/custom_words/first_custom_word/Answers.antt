-- The first range with such a word has the first.
use Rattle.std.proofs.Common.{◌<◌, length, ap, subst, arith}
use Rattle.ci_block.proofs.CustomLaws.{first_at_all, none_at_all}
use Rattle.ci_block.proofs.custom_words.first_custom_word.Goals as goal

pub returns-in-Some : goal.returns-in-Some
returns-in-Some c =
    let ranges = c.ranges-index-end.ensures in
    first_at_all c.args.image.now ranges.well_formed c.loop-index.index c.in-Some.found.address c.in-Some.found.word
    (subst (λ rs. c.loop-index.index < length rs) ranges.value c.loop-index-test.true) c.loop-index.invariant c.in-Some.ensures

pub returns : goal.returns
returns c =
    let ranges = c.ranges-index-end.ensures in
    let all = ap length ranges.value in
    none_at_all c.args.image.now ranges.well_formed (λ j below. c.loop-index.invariant j (omega (arith, all, c.loop-index-test.false)))
