-- The parser has the options so far.
use Rattle.std.proofs.Common.{◌≡◌, Bool, [], map, take}
use Rattle.std.specs.Prelude.{All}
use Rattle.clap.specs.Words.{app_of}
use Rattle.ci_arguments.specs.Words.{Text}
use Rattle.ci_arguments.specs.private.Parses.{app_for, names_in, option_row}
use Rattle.ci_arguments.proofs.parse.with_options.Given as goal

abbrev pub invariant-loop-option : goal.invariant-loop-option
invariant-loop-option l = (word : Text) (repeats : Text → Bool)
    → app_of l.fn.parser ≡ app_for word (record { names = []; repeats = repeats })
    → All (λ option. option.repeatable ≡ repeats option.name) (map option_row l.options)
    → app_of l.parser
    ≡ app_for word (record { names = names_in (map option_row (take l.option-index l.options)); repeats = repeats })
