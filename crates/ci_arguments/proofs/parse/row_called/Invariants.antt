-- No row so far has the word.
use Rattle.std.proofs.Common.{◌≢◌, ℕ, ◌<◌, get_or, map}
use Rattle.ci_arguments.specs.Tables.{CommandRow}
use Rattle.ci_arguments.specs.private.Parses.{command_row}
use Rattle.ci_arguments.proofs.parse.row_called.Given as goal

abbrev pub invariant-loop-row : goal.invariant-loop-row
invariant-loop-row l = (k : ℕ) → k < l.row-index → (d : CommandRow) → l.word ≢ (get_or (map command_row l.rows) k d).word
