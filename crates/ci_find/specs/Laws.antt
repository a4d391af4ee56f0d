-- What holds of all choices, checks and loads: laws, which the functions of `src/laws.rt` have as their contracts.
use Rattle.std.specs.Prelude.{◌≡◌, ◌≢◌, ℕ, ◌+◌, ◌<◌, ◌⊎◌, List, Option, Some, All, length}
use Rattle.std.specs.FinMap as map
use Rattle.ci_io.specs.Outcomes.{Files}
use Rattle.ci_elf.specs.Rules.{rules, KeepsRules}
use Rattle.ci_machine.specs.declared.ends.End.TheVariants.{Exit}
use Rattle.ci_vemit.specs.Templates.{modules_of}
use Rattle.ci_vemit.specs.Texts.{text_of}
use Rattle.ci_vread.specs.Spelling.{Spell}
use Rattle.ci_arguments.specs.Words.{Reading, ReadsAs, name_at}
use Rattle.ci_arguments.specs.declared.tables.CommandName.TheVariants.{Find, Check}
use Rattle.ci_arguments.specs.declared.tables.OptionName.{OptionName}
use Rattle.ci_arguments.specs.declared.tables.OptionName.TheVariants.{LogVersion}
use Rattle.ci_calls.specs.declared.refusals.Refusal.{Refusal}
use Rattle.ci_calls.specs.declared.refusals.Refusal.TheVariants.{TooLarge}
use Rattle.ci_calls.specs.declared.success.Success.{Success}
use Rattle.ci_calls.specs.Finishing.{Change, with_files}
use Rattle.ci_calls.specs.Inputs.{Input, MayHold}
use Rattle.ci_calls.specs.Refusals.{Name, status_of}
use Rattle.ci_find.specs.Commands.{inputs_by}
use Rattle.ci_find.specs.Endings.{Ends, IsAnswered, IsDone, IsRefusal}
use Rattle.ci_find.specs.FindCommand.{FindOutput, IsFindMade}
use Rattle.ci_find.specs.Headline.{TellTheBest}
use Rattle.ci_find.specs.LoadCommand.{IsLoadMade}
use Rattle.ci_find.specs.Profiled.{Settings, instance_by}

-- ---- `find`

-- What `find` makes of an executable that keeps all rules tells the best, and the text of its modules spells them.
abbrev pub ChoicesTellTheBest : Type 0
ChoicesTellTheBest =
    (output : FindOutput) (settings : Settings) (read : List (List ℕ)) (success : Success)
    (made : IsFindMade output settings read success) → KeepsRules made.executable (rules made.executable)
    → Spell (text_of (modules_of made.choice.units)) (modules_of made.choice.units)
    × TellTheBest (instance_by made.profiled) (modules_of made.choice.units) made.choice.book

-- ---- `check` of what `find` wrote

-- One reading asks for a choice and the other for its check, with the same names of OLD, NEW, UNITS and LOGS, and the
-- same options except --log.
pub record AreSameChoice (find check : Reading) : Type 0 where
  pub finds : find.command ≡ Find
  pub checks : check.command ≡ Check
  pub names : (place : ℕ) → place < 4 → name_at find place ≡ name_at check place
  pub settings : (option : OptionName) → option ≢ LogVersion → find.settings option ≡ check.settings option

-- Of each of the files that are read both hold the same: the same bytes under its name, or nothing.
abbrev pub HoldTheSame : List Input → Files → Files → Type 0
HoldTheSame inputs files others = All (λ input. map.get files input.name ≡ map.get others input.name) inputs

-- the refusal of a log book of this name that is longer than one that is read may be
pub record IsOfLongBook (told : Option Files) (book : List ℕ) (refusal : Refusal) : Type 0 where
  pub name : Name
  pub is_name : name.now ≡ book
  pub refusal_is : refusal ≡ TooLarge name
  pub bytes : List ℕ
  pub there : MayHold told book bytes
  pub too_long : 268435456 < length bytes

-- The check of a choice refuses nothing but a log book that is too long, where each file that it reads is as the choice
-- left it: OLD, NEW, UNITS, LOGS, and those of --table and --input. Other files may be any.
abbrev pub CheckAcceptsChoices : Type 0
CheckAcceptsChoices =
    (held now : Files) (find_words check_words : List (List ℕ)) (find check : Reading) (success : Success)
    (refusal : Refusal) → ReadsAs find_words find → ReadsAs check_words check → AreSameChoice find check
    → IsDone (Some held) find_words success
    → HoldTheSame (inputs_by Check check) now (with_files success.writes.items held)
    → IsRefusal (Some now) check_words refusal → IsOfLongBook (Some now) (name_at check 3) refusal

-- Where the call of a choice ended with 0, and each file that its check reads is as that call left it, the call of the
-- check ends with 0, unless memory runs out, or a read or a put fails, or the log book is too long.
abbrev pub ChecksEnd : Type 0
ChecksEnd =
    (held left now : Files) (find_words check_words : List (List ℕ)) (find check : Reading) (found checked : Change)
    (status : ℕ) → ReadsAs find_words find → ReadsAs check_words check → AreSameChoice find check
    → found.shelf_before.files ≡ Some held → found.shelf_after.files ≡ Some left → Ends find_words found 0
    → checked.shelf_before.files ≡ Some now → HoldTheSame (inputs_by Check check) now left
    → Ends check_words checked status
    → IsAnswered checked 0 status
    ⊎ ((refusal : Refusal) × IsOfLongBook checked.shelf_before.files (name_at check 3) refusal
    × (status ≡ status_of refusal))

-- ---- `load`

-- The run of the program of a seed exits with code 0, and costs more than that of the program that uses the units by
-- just what the cuts save: in the line of a load the first cost less the second is the gain.
abbrev pub LoadsSave : Type 0
LoadsSave =
    (seed : ℕ) (read : List (List ℕ)) (success : Success) (made : IsLoadMade seed read success)
    → (made.profile.end ≡ Some (Exit 0)) × (made.profile.cost ≡ made.new_cost + made.saved)

-- The line of a load is a function of the seed.
abbrev pub LoadIsOne : Type 0
LoadIsOne =
    (seed : ℕ) (read : List (List ℕ)) (left right : Success) → IsLoadMade seed read left → IsLoadMade seed read right
    → left.text.items ≡ right.text.items
