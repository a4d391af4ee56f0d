-- For every reader: the command `relog`, a log book in a version.
use Rattle.std.specs.Prelude.{◌≡◌, ℕ, List, [], ◌∷◌, ◌++◌, codes, length}
use Rattle.std.specs.Fmt.{decimal}
use Rattle.ci_reading.specs.Lines.{line}
use Rattle.ci_log.specs.Books.{Book, Spells, SpellsIn}
use Rattle.ci_log.specs.declared.book.Version.{Version}
use Rattle.ci_log.specs.declared.book.Version.TheVariants.{One, Two}
use Rattle.ci_calls.specs.declared.success.Success.{Success}
use Rattle.ci_calls.specs.declared.success.Written.{Written}
use Rattle.ci_calls.specs.Files.{book_input}
use Rattle.ci_calls.specs.Inputs.{Input}

abbrev pub relog_inputs : List ℕ → List Input
relog_inputs logs = book_input logs ∷ []

abbrev pub version_number : Version → ℕ
version_number One = 1
version_number Two = 2

-- the version and the length, in bytes, of what is written
abbrev pub relog_line : Version → ℕ → List ℕ
relog_line version length =
    line (codes "relog version " ++ decimal (version_number version) ++ codes " bytes " ++ decimal length)

-- it writes the spelling, in the version, of the book that the file spells, and puts its line
pub record IsRelogMade (out : List ℕ) (version : Version) (read : List (List ℕ)) (success : Success) : Type 0 where
  pub logs : List ℕ
  pub book : Book
  pub read_is : read ≡ logs ∷ []
  pub logs_spell : Spells logs book
  pub file : Written
  pub writes_one : success.writes.items ≡ file ∷ []
  pub name_is : file.name.now ≡ out
  pub file_spells : SpellsIn version file.bytes.items book
  pub puts_line : success.text.items ≡ relog_line version (length file.bytes.items)
