use Rattle.std.proofs.Common.{◌≡◌, ◌+◌, subst, arith}
use Rattle.std.specs.Prelude.{Some}
use Rattle.ci_block.specs.private.Loading.{IsFromDataWords, end_word, first_word}
use Rattle.ci_block.specs.private.Marks.{Adds}
use Rattle.ci_block.proofs.LoadingLaws.{data_word_or_before, from_data_word, segment_top}
use Rattle.ci_block.proofs.MarkLaws.{added_both}
use Rattle.ci_block.proofs.data.mark_from_segment.Goals as goal

pub overflow_add-end : goal.overflow_add-end
overflow_add-end c =
    omega (arith, segment_top c.args.image.now c.requires.well_formed c.args.segment c.requires.there)

pub overflow_add-end-2 : goal.overflow_add-end-2
overflow_add-end-2 c =
    omega (arith, segment_top c.args.image.now c.requires.well_formed c.args.segment c.requires.there)

pub overflow_mul-word : goal.overflow_mul-word
overflow_mul-word c =
    omega (arith, segment_top c.args.image.now c.requires.well_formed c.args.segment c.requires.there)

pub loop-word-preserved : goal.loop-word-preserved
loop-word-preserved c =
    let image = c.args.image.now in
    let first = first_word c.args.segment in
    let word = c.loop-word.word in
    let value = c.data_word.result in
    added_both c.args.marks.now c.loop-word.marks c.mark_if_some.new.self (IsFromDataWords image first word) (λ a. value ≡ Some a)
    (IsFromDataWords image first (word + 1)) c.loop-word.invariant c.mark_if_some.ensures
    (from_data_word image first word value c.data_word.ensures.found c.data_word.ensures.only (omega arith))
    (data_word_or_before image first word value c.data_word.ensures.found c.data_word.ensures.only (omega arith))

pub returns : goal.returns
returns c =
    let all : c.loop-word.word ≡ end_word c.args.segment = omega arith in
    subst (λ n. Adds c.args.marks.now c.loop-word.marks (IsFromDataWords c.args.image.now (first_word c.args.segment) n)) all c.loop-word.invariant
