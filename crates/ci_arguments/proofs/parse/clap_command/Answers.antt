-- The parser has the word and the options of the row.
use Rattle.ci_arguments.specs.private.Parses.{command_row, repeats_in}
use Rattle.ci_arguments.proofs.TableLaws.{repeats_alike}
use Rattle.ci_arguments.proofs.parse.clap_command.Goals as goal

pub returns : goal.returns
returns c =
    let row = command_row c.args.row.now in
    c.with_options.ensures row.word (repeats_in row.options) (c.in_ok-parser.ensures (repeats_in row.options)) (repeats_alike row c.requires)
