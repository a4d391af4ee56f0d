-- The first word names no row where it is the word of none.
use Rattle.std.proofs.Common.{◌∙◌, sym}
use Rattle.std.specs.String.{string_bytes}
use Rattle.std.proofs.lemmas.Option.{same_Some}
use Rattle.ci_arguments.proofs.Matches.{first_text, if_none_then}
use Rattle.ci_arguments.proofs.parse.row_in_front.Goals as goal

pub returns-clause-none : goal.returns-clause-none
returns-clause-none c =
    if_none_then c.row_called.result _ _
    (λ none row there is. none row there (same_Some c.as_str.result.now row.word
    (sym (first_text string_bytes c.args.words.now c.in_ok-first.field-0.now c.as_str.result.now c.in_ok-first.ensures.value c.as_str.ensures.value) ∙ is)))
    c.row_called.ensures.none
