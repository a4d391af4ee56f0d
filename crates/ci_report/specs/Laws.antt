-- What the definition says of all reports: a law, which the function of `src/laws.rt` has as its contract.
use Rattle.std.specs.Prelude.{◌≡◌, ℕ, List}
use Rattle.ci_block.specs.Blocks.{AreInOrder}
use Rattle.ci_emu.specs.declared.profile.Profile.{Profile}
use Rattle.ci_log.specs.Books.{Book}
use Rattle.ci_select.specs.Instances.{Instance}
use Rattle.ci_report.specs.Reports.{IsReport}

-- A book over a profile has one report.
abbrev pub ReportIsOne : Type 0
ReportIsOne =
    (instance : Instance) (profile : Profile) (book : Book) (left right : List ℕ)
    → AreInOrder instance.blocks → IsReport instance profile book left → IsReport instance profile book right
    → left ≡ right
