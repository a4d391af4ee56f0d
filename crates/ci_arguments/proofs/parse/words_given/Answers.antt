-- The values that `clap` found, or none.
use Rattle.std.proofs.Common.{◌∙◌, Some, None, ap, sym, take_all}
use Rattle.clap.specs.Words.{found_of}
use Rattle.ci_arguments.proofs.Matches.{values_are}
use Rattle.ci_arguments.proofs.SettingLaws.{texts}
use Rattle.ci_arguments.proofs.parse.words_given.Goals as goal

pub returns-in_default : goal.returns-in_default
returns-in_default c = ap texts c.new-words.ensures.items
    ∙ sym (values_are (found_of c.args.matches.now) c.args.id.now None c.in_default.ensures)

pub returns : goal.returns
returns c = c.loop-word.invariant
    ∙ (ap texts (take_all c.loop-word.word-index c.in-Some.given.now c.loop-word-test.false)
    ∙ sym (values_are (found_of c.args.matches.now) c.args.id.now (Some (texts c.in-Some.given.now)) c.in-Some.ensures))
