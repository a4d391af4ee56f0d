-- For every reader: the headline over a shelf that tells its files: of the bytes that they held, and of those that they
-- hold.
use Rattle.std.specs.Prelude.{◌≡◌, ℕ, List, Option, Some, IfSome}
use Rattle.std.specs.FinMap as map
use Rattle.ci_io.specs.Outcomes.{Files, SinkState}
use Rattle.ci_arguments.specs.declared.tables.CommandName.TheVariants.{Find}
use Rattle.ci_arguments.specs.Words.{Reading, ReadsAs}
use Rattle.ci_calls.specs.Finishing.{Takes}
use Rattle.ci_calls.specs.Inputs.{AreRead}
use Rattle.ci_find.specs.ChoiceReading.{find_output, find_files}
use Rattle.ci_find.specs.Headline.{FoundBytes, bytes_read, IsChosen}

-- What `find` reads was held before, and what it writes is left; the sink took the text; and of these bytes all of the
-- headline holds.
pub record IsChosenOver (reading : Reading) (held left : Files) (sink_before sink_after : SinkState) : Type 0 where
  pub bytes : FoundBytes
  pub read_are : AreRead (Some held) (find_files reading) (bytes_read bytes)
  pub units_left : map.get left (find_output reading).units ≡ Some bytes.units
  pub logs_left : map.get left (find_output reading).logs ≡ Some bytes.logs
  pub report_left : map.get left (find_output reading).report ≡ Some bytes.report
  pub new_left : map.get left (find_output reading).new ≡ Some bytes.new
  pub put : Takes sink_before sink_after bytes.text
  pub chosen : IsChosen reading bytes

-- Where the words read as `find`, and the shelf tells its files, those after the call are told too, and are so chosen.
abbrev pub AreChosenOver : List (List ℕ) → (before after : Option Files) → (sink_before sink_after : SinkState) → Type 0
AreChosenOver words before after sink_before sink_after =
    IfSome before (λ held. (reading : Reading) → ReadsAs words reading → reading.command ≡ Find
    → (left : Files) × (after ≡ Some left) × IsChosenOver reading held left sink_before sink_after)
