-- For private contracts: what is appended for entries.
use Rattle.std.specs.Prelude.{◌≡◌, ℕ, List, ◌++◌}
use Rattle.ci_select.specs.Histories.{History}
use Rattle.ci_select.specs.Instances.{Instance}
use Rattle.ci_report.specs.Reports.{AreEntryLines}

-- the text grew by the lines of the entries
pub record AddsLines (instance : Instance) (history : History) (before after : List ℕ) : Type 0 where
  pub lines : List ℕ
  pub are_lines : AreEntryLines instance history lines
  pub text_is : after ≡ before ++ lines
