use Rattle.std.proofs.Common.{◌≡◌, ◌+◌, lit<, sym, ◌∙◌, subst, arith, true≢false}
use Rattle.ci_elf.specs.Executables.{InText}
use Rattle.ci_block.proofs.LoadingLaws.{as_data_word}
use Rattle.ci_block.proofs.RangeLaws.{text_ranges}
use Rattle.ci_block.proofs.data.data_word.Goals as goal

pub returns-then-in_text-clause-only : goal.returns-then-in_text-clause-only
returns-then-in_text-clause-only c value w =
    let image = c.args.image.now in
    let here : c.args.address ≡ c.args.address + 0 = omega arith in
    absurd (w.not_text 0 (lit< tt) (subst (InText image.ranges) here (c.in_text.ensures.0 c.if-in_text.true)))

pub returns-clause-found : goal.returns-clause-found
returns-clause-found c =
    let image = c.args.image.now in
    as_data_word image c.args.address c.requires.aligned (text_ranges image c.requires.well_formed)
    (λ t. true≢false (sym (c.in_text.ensures.1 t) ∙ c.if-in_text.false)) c.loaded_word.result c.loaded_word.ensures.found

pub returns-clause-only : goal.returns-clause-only
returns-clause-only c value w = c.loaded_word.ensures.only value w.word
