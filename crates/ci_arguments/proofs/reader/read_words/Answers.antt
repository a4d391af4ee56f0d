-- The table of the program is that of the definition.
use Rattle.std.proofs.Common.{map}
use Rattle.std.proofs.lemmas.Result.{IfOk-weaker}
use Rattle.std.specs.String.{string_bytes}
use Rattle.ci_arguments.specs.Tables.{commands}
use Rattle.ci_arguments.specs.Read.{reading_of}
use Rattle.ci_arguments.proofs.RangeLaws.{number_within, places_within}
use Rattle.ci_arguments.proofs.Readings.{one_reading}
use Rattle.ci_arguments.proofs.reader.read_words.Goals as goal

pub returns-clause-ok : goal.returns-clause-ok
unfolding commands
returns-clause-ok c = c.read_by.ensures.ok

pub returns-clause-only : goal.returns-clause-only
unfolding commands
returns-clause-only c =
    IfOk-weaker c.read_by.result _ _
    (λ said reads other is. one_reading (map string_bytes c.args.words.now) other (reading_of said) is reads) c.read_by.ensures.ok

pub returns-clause-ranges : goal.returns-clause-ranges
unfolding commands
returns-clause-ranges c =
    IfOk-weaker c.read_by.result _ _ (λ said. number_within (map string_bytes c.args.words.now) (reading_of said))
    c.read_by.ensures.ok

pub returns-clause-places : goal.returns-clause-places
unfolding commands
returns-clause-places c =
    IfOk-weaker c.read_by.result _ _ (λ said. places_within (map string_bytes c.args.words.now) (reading_of said))
    c.read_by.ensures.ok

pub returns-clause-no_reading : goal.returns-clause-no_reading
unfolding commands
returns-clause-no_reading c = c.read_by.ensures.no_reading
