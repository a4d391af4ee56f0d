-- The reading of the words is that of the matches of the row that the first word names.
use Rattle.std.proofs.Common.{map, ap}
use Rattle.std.proofs.lemmas.Result.{IfErr-weaker, IfOk-weaker}
use Rattle.std.specs.Prelude.{slice_get}
use Rattle.std.specs.String.{string_bytes}
use Rattle.clap.specs.Words.{found_of, rows_of}
use Rattle.clap.proofs.TakesLemmas.{passed_up}
use Rattle.ci_arguments.specs.private.Parses.{command_row}
use Rattle.ci_arguments.specs.Read.{reading_of}
use Rattle.ci_arguments.proofs.Readings.{read_here, refused_here, unmatched_here}
use Rattle.ci_arguments.proofs.reader.read_by.Goals as goal

pub returns-in_default-clause-no_reading : goal.returns-in_default-clause-no_reading
returns-in_default-clause-no_reading c = λ e reading reads.
    c.in_default.ensures.none reads.row reads.in_table (ap (λ words. slice_get words 0) reads.reads.command)

pub returns-in_err-matches-clause-no_reading : goal.returns-in_err-matches-clause-no_reading
returns-in_err-matches-clause-no_reading c = passed_up _ _ _ c.from_residual.ensures.1 (λ e.
    refused_here (map command_row c.args.rows.now) c.requires (map string_bytes c.args.words.now)
    (command_row c.in-Some.row.now) c.in-Some.ensures.some.0 c.in-Some.ensures.some.1 (c.in_err-matches.ensures.none e))

pub returns-clause-ok : goal.returns-clause-ok
returns-clause-ok c =
    IfOk-weaker c.reading_by.result _ _
    (λ said. read_here (map command_row c.args.rows.now) c.requires (map string_bytes c.args.words.now)
    (command_row c.in-Some.row.now) c.in-Some.ensures.some.0 c.in-Some.ensures.some.1
    (rows_of (found_of c.in_ok-matches.matches)) c.in_ok-matches.ensures.ok (reading_of said))
    c.reading_by.ensures.ok

pub returns-clause-no_reading : goal.returns-clause-no_reading
returns-clause-no_reading c =
    IfErr-weaker c.reading_by.result _ _
    (λ error none e. unmatched_here (map command_row c.args.rows.now) c.requires (map string_bytes c.args.words.now)
    (command_row c.in-Some.row.now) c.in-Some.ensures.some.0 c.in-Some.ensures.some.1
    (rows_of (found_of c.in_ok-matches.matches)) c.in_ok-matches.ensures.ok (none e))
    c.reading_by.ensures.none
