-- The words of a range are words of the text.
use Rattle.std.proofs.Common.{arith}
use Rattle.ci_block.proofs.CustomLaws.{below_top, word_there}
use Rattle.ci_block.proofs.custom_words.first_custom_word_in.Goals as goal

pub overflow_mul-address : goal.overflow_mul-address
overflow_mul-address c =
    let ranges = c.ranges-2.ensures in
    omega (arith, below_top c.args.image.now ranges.well_formed c.ranges-2.result.now ranges.value c.args.index c.loop-place.place c.loop-place-test.true)

pub overflow_add-address : goal.overflow_add-address
overflow_add-address c =
    let ranges = c.ranges-2.ensures in
    omega (arith, below_top c.args.image.now ranges.well_formed c.ranges-2.result.now ranges.value c.args.index c.loop-place.place c.loop-place-test.true)

pub word-word-requires : goal.word-word-requires
word-word-requires c =
    let ranges = c.ranges-2.ensures in
    word_there c.args.image.now ranges.well_formed c.ranges-2.result.now ranges.value c.args.index c.loop-place.place c.loop-place-test.true
