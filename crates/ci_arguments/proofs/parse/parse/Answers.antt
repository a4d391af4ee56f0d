-- The parser is that of the row.
use Rattle.std.proofs.Common.{◌≡◌, ◌≢◌, [], map, subst, sym, true}
use Rattle.std.specs.Prelude.{IfErr}
use Rattle.std.specs.String.{string_bytes}
use Rattle.clap.specs.Words.{fault_of, is_simple_and_free}
use Rattle.ci_arguments.specs.declared.reader.WordsErr.TheVariants.{NoReading}
use Rattle.ci_arguments.specs.private.Parses.{command_row}
use Rattle.ci_arguments.proofs.TableLaws.{simple_row}
use Rattle.ci_arguments.proofs.parse.parse.Goals as goal

pub matches_in-requires : goal.matches_in-requires
matches_in-requires c = subst (λ app. is_simple_and_free app ≡ true) (sym c.in-Ok.ensures) (simple_row (command_row c.args.row.now))

pub returns-in-Ok-clause-none : goal.returns-in-Ok-clause-none
returns-in-Ok-clause-none c =
    subst (λ app. IfErr c.matches_in.result
    (λ error. error ≡ NoReading → fault_of app (map string_bytes c.args.words.now) ≢ [])) c.in-Ok.ensures
    c.matches_in.ensures.none
