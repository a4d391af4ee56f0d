-- For private contracts: the verdict on the files of a choice.
use Rattle.std.specs.Prelude.{◌≡◌, [], codes, Result, Ok, Err, ⊤}
use Rattle.ci_reading.specs.Lines.{line}
use Rattle.ci_elf.specs.Executables.{Executable}
use Rattle.ci_select.specs.Instances.{Instance}
use Rattle.ci_select.specs.WrongPlaces.{IsAcceptable, IsFirstWrongPlace, place}
use Rattle.ci_calls.specs.declared.refusals.Refusal.{Refusal}
use Rattle.ci_calls.specs.declared.refusals.Refusal.TheVariants.{Rejected, NoMemory}
use Rattle.ci_calls.specs.declared.success.Success.{Success}
use Rattle.ci_find.specs.declared.check.ChoiceFiles.{ChoiceFiles}

-- The files are accepted, which is what is put; or this is the first place that is wrong, or memory ran out.
abbrev pub IsAnswerOn : Instance → Executable → ChoiceFiles → Result Success Refusal → Type 0
IsAnswerOn instance file choice (Ok success) =
    IsAcceptable instance file choice.book choice.modules.items choice.new.items
    × (success.text.items ≡ line (codes "accepted")) × (success.writes.items ≡ [])
IsAnswerOn instance file choice (Err (Rejected round leader item reason)) =
    IsFirstWrongPlace instance file choice.book choice.modules.items choice.new.items (place round leader item reason)
IsAnswerOn instance file choice (Err NoMemory) = ⊤
IsAnswerOn instance file choice (Err refusal) = ⊥
