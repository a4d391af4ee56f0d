-- What is due to the words over the files that a shelf tells: one status.
use Rattle.std.proofs.Common.{◌≡◌, ℕ, ◌⊎◌, inl, inr, List, length, Some, sym, subst, ◌∙◌}
use Rattle.ci_io.specs.Outcomes.{Files}
use Rattle.ci_select.specs.declared.plan.Plan.{Plan}
use Rattle.ci_cut.specs.FlowGraph.{FlowGraph}
use Rattle.ci_cut.specs.declared.graph.Limits.{Limits}
use Rattle.ci_arguments.specs.Words.{Reading, ReadsAs, HasNoReading, name_at, number_at, name_set, number_set, word_set, words_set}
use Rattle.ci_arguments.specs.declared.tables.CommandName.{CommandName}
use Rattle.ci_arguments.specs.declared.tables.CommandName.TheVariants.{Best, Pair, Asm, Dis, Run, Blocks, Eval, Find, Check, Area, Rename, Relog, Gates, Geval, Load}
use Rattle.ci_arguments.specs.declared.tables.OptionName.TheVariants as option
use Rattle.ci_arguments.proofs.Readings.{one_reading}
use Rattle.ci_calls.specs.declared.refusals.Refusal.{Refusal}
use Rattle.ci_calls.specs.declared.success.Success.{Success}
use Rattle.ci_calls.specs.Inputs.{AreRead, IsFileRefusal}
use Rattle.ci_calls.specs.Refusals.{status_of}
use Rattle.ci_calls.proofs.OneRefusal.{read_once, read_or_refused, refusal_once}
use Rattle.ci_commands.specs.BestCommand.{HoldsNoBlock, IsBestLine}
use Rattle.ci_commands.specs.PairCommand.{IsPairLine}
use Rattle.ci_block.specs.CustomWords.{IsFirstCustomWord}
use Rattle.ci_commands.proofs.Causes.{many_gates_once, unsupported_once}
use Rattle.ci_commands.specs.EvalCommand.{IsNoModule, IsPast}
use Rattle.ci_commands.specs.GatesCommand.{IsFirstTooMany}
use Rattle.ci_commands.proofs.OneBlock.{best_or_refused, blocks_or_refused}
use Rattle.ci_commands.proofs.OneModule.{eval_or_refused, gates_or_refused, geval_or_refused}
use Rattle.ci_find.specs.CheckCommand.{IsCheckRefused}
use Rattle.ci_find.specs.ChoiceReading.{find_output, rename_settings, settings_of, IsPlanOf}
use Rattle.ci_find.specs.Commands.{arguments_of, inputs_of, search_call, IsMade, IsRefusedOf, MakesBy, RefusesBy}
use Rattle.ci_find.specs.Endings.{IsRefusal, usage, file, once_read, IsDue}
use Rattle.ci_find.specs.FindCommand.{IsFindRefused}
use Rattle.ci_find.proofs.OneChoice.{area_or_refused, check_or_refused, check_refused_once, find_or_refused, find_refused_once, one_plan}
use Rattle.ci_find.proofs.Renames.{rename_or_refused, rename_refused_once}

-- ---- the commands

-- what a choice refuses by one plan of its reading it refuses by another
module _ (reading : Reading) (read : List (List ℕ)) (refusal : Refusal) (plan : Plan) (is_plan : IsPlanOf reading plan) where
  found_by : RefusesBy Find reading read refusal → IsFindRefused (settings_of reading plan) read refusal
  found_by (other, also, is) =
      subst (λ p. IsFindRefused (settings_of reading p) read refusal) (one_plan reading other plan also is_plan) is

  checked_by : RefusesBy Check reading read refusal → IsCheckRefused (settings_of reading plan) read refusal
  checked_by (other, also, is) =
      subst (λ p. IsCheckRefused (settings_of reading p) read refusal) (one_plan reading other plan also is_plan) is

-- a search of a block refuses nothing of what it makes a line, whatever is searched for
module _
    (IsLineOf : FlowGraph → Limits → ℕ → List ℕ → Type 0) (reading : Reading) (read : List (List ℕ)) where
  searched_or_refused : (success : Success) (refusal : Refusal) → (search_call IsLineOf reading).Makes read success
      → (search_call IsLineOf reading).Refuses read refusal → ⊥
  searched_or_refused success refusal made is =
      best_or_refused read success refusal (word_set reading option.At) (words_set reading option.Leader) IsLineOf made.0
      (number_set reading option.Budget) (name_set reading option.Table) made.3 is

  -- it is refused with one status
  search_refused_once : (first second : Refusal) → (search_call IsLineOf reading).Refuses read first
      → (search_call IsLineOf reading).Refuses read second → status_of first ≡ status_of second
  search_refused_once first second a b =
      let address = word_set reading option.At in
      let named = words_set reading option.Leader in
      unsupported_once (HoldsNoBlock address named a.bytes) (HoldsNoBlock address named b.bytes) first second
      a.unsupported b.unsupported

-- of what something is made is not refused
made_or_refused : (command : CommandName) (reading : Reading) (read : List (List ℕ)) (success : Success) (refusal : Refusal)
    → MakesBy command reading read success → RefusesBy command reading read refusal → ⊥
made_or_refused Best reading read success refusal made is =
    searched_or_refused IsBestLine reading read success refusal made is
made_or_refused Pair reading read success refusal made is =
    searched_or_refused IsPairLine reading read success refusal made is
made_or_refused Asm reading read success refusal made is = is
made_or_refused Dis reading read success refusal made is = is
made_or_refused Run reading read success refusal made is = is
made_or_refused Blocks reading read success refusal made is =
    blocks_or_refused read success refusal (words_set reading option.Leader) made is
made_or_refused Eval reading read success refusal made is =
    eval_or_refused read success refusal (number_at reading 1) (arguments_of reading) made is
made_or_refused Find reading read success refusal made is =
    find_or_refused (find_output reading) (settings_of reading made.0) read success refusal made.2
    (found_by reading read refusal made.0 made.1 is)
made_or_refused Check reading read success refusal made is =
    check_or_refused (settings_of reading made.0) read success refusal made.2
    (checked_by reading read refusal made.0 made.1 is)
made_or_refused Area reading read success refusal made is =
    area_or_refused (settings_of reading made.0) (number_set reading option.Limit) read success refusal made.2
    (found_by reading read refusal made.0 made.1 is)
made_or_refused Rename reading read success refusal made is =
    rename_or_refused (name_at reading 1) (rename_settings reading) read success refusal made is
made_or_refused Relog reading read success refusal made is = is
made_or_refused Gates reading read success refusal made is = gates_or_refused read success refusal (name_at reading 1) made is
made_or_refused Geval reading read success refusal made is =
    geval_or_refused read success refusal (number_at reading 1) (arguments_of reading) made is
made_or_refused Load reading read success refusal made is = is

-- it is refused with one status
refused_once : (command : CommandName) (reading : Reading) (read : List (List ℕ)) (first second : Refusal)
    → RefusesBy command reading read first → RefusesBy command reading read second → status_of first ≡ status_of second
refused_once Best reading read first second a b = search_refused_once IsBestLine reading read first second a b
refused_once Pair reading read first second a b = search_refused_once IsPairLine reading read first second a b
refused_once Asm reading read first second a b = absurd a
refused_once Dis reading read first second a b = absurd a
refused_once Run reading read first second a b = absurd a
refused_once Blocks reading read first second a b =
    unsupported_once (IsFirstCustomWord a.file) (IsFirstCustomWord b.file) first second a.custom b.custom
refused_once Eval reading read first second a b =
    unsupported_once (IsNoModule a.modules (number_at reading 1)) (IsNoModule b.modules (number_at reading 1)) first second
    a.unsupported b.unsupported
refused_once Find reading read first second a b =
    find_refused_once (settings_of reading a.0) read first second a.2 (found_by reading read second a.0 a.1 b)
refused_once Check reading read first second a b =
    check_refused_once (settings_of reading a.0) read first second a.2 (checked_by reading read second a.0 a.1 b)
refused_once Area reading read first second a b =
    find_refused_once (settings_of reading a.0) read first second a.2 (found_by reading read second a.0 a.1 b)
refused_once Rename reading read first second a b =
    rename_refused_once (rename_settings reading) read first second a b
refused_once Relog reading read first second a b = absurd a
refused_once Gates reading read first second a b =
    many_gates_once (IsFirstTooMany a.modules) (IsFirstTooMany b.modules) first second a.many b.many
refused_once Geval reading read first second a b =
    unsupported_once (IsPast (length a.nets) (number_at reading 1)) (IsPast (length b.nets) (number_at reading 1)) first second
    a.unsupported b.unsupported
refused_once Load reading read first second a b = absurd a

-- ---- one status is due

-- the status that is due to a reading
abbrev ReadingStatus : Files → Reading → ℕ → Type 0
ReadingStatus held reading status =
    ((refusal : Refusal) × IsFileRefusal (Some held) (inputs_of reading) refusal × (status ≡ status_of refusal))
    ⊎ ((read : List (List ℕ)) × AreRead (Some held) (inputs_of reading) read
    × ((refusal : Refusal) × IsRefusedOf reading read refusal × (status ≡ status_of refusal)))
    ⊎ ((read : List (List ℕ)) × AreRead (Some held) (inputs_of reading) read
    × ((success : Success) × IsMade reading read success) × (status ≡ 0))

module _ (held : Files) (reading : Reading) where
  -- what is refused of the files of one reading is refused of those of another
  same_files : (read other : List (List ℕ)) (refusal : Refusal) → AreRead (Some held) (inputs_of reading) read
      → AreRead (Some held) (inputs_of reading) other → IsRefusedOf reading read refusal → IsRefusedOf reading other refusal
  same_files read other refusal a b is =
      subst (λ r. IsRefusedOf reading r refusal) (read_once held (inputs_of reading) read other a b) is

  -- files that are not all read are not all read
  read_or_not : {X : Type 0} (refusal : Refusal) (read : List (List ℕ)) → IsFileRefusal (Some held) (inputs_of reading) refusal
      → AreRead (Some held) (inputs_of reading) read → X
  read_or_not refusal read is files = absurd (read_or_refused held (inputs_of reading) read refusal files is)

  reading_once : (first second : ℕ) → ReadingStatus held reading first → ReadingStatus held reading second → first ≡ second
  reading_once first second (inl a) (inl b) = a.2 ∙ refusal_once held (inputs_of reading) a.0 b.0 a.1 b.1 ∙ sym b.2
  reading_once first second (inl a) (inr (inl b)) = read_or_not a.0 b.0 a.1 b.1
  reading_once first second (inl a) (inr (inr b)) = read_or_not a.0 b.0 a.1 b.1
  reading_once first second (inr (inl a)) (inl b) = read_or_not b.0 a.0 b.1 a.1
  reading_once first second (inr (inl a)) (inr (inl b)) =
      a.2.2 ∙ refused_once reading.command reading b.0 a.2.0 b.2.0 (same_files a.0 b.0 a.2.0 a.1 b.1 a.2.1) b.2.1 ∙ sym b.2.2
  reading_once first second (inr (inl a)) (inr (inr b)) =
      absurd (made_or_refused reading.command reading b.0 b.2.0 a.2.0 b.2.1 (same_files a.0 b.0 a.2.0 a.1 b.1 a.2.1))
  reading_once first second (inr (inr a)) (inl b) = read_or_not b.0 a.0 b.1 a.1
  reading_once first second (inr (inr a)) (inr (inl b)) =
      absurd (made_or_refused reading.command reading a.0 a.2.0 b.2.0 a.2.1 (same_files b.0 a.0 b.2.0 b.1 a.1 b.2.1))
  reading_once first second (inr (inr a)) (inr (inr b)) = a.3 ∙ sym b.3

-- the status that is due to words: that of their reading, or 1 where they have none
abbrev WordsStatus : Files → List (List ℕ) → ℕ → Type 0
WordsStatus held words status =
    (HasNoReading words × (status ≡ 1)) ⊎ ((reading : Reading) × ReadsAs words reading × ReadingStatus held reading status)

refusal_status : (held : Files) (words : List (List ℕ)) (status : ℕ) (refusal : Refusal) → status ≡ status_of refusal
    → IsRefusal (Some held) words refusal → WordsStatus held words status
refusal_status held words status refusal is (usage none) = inl (none, is)
refusal_status held words status refusal is (file {refusal = r} reading reads refused) =
    inr (reading, reads, inl (r, refused, is))
refusal_status held words status refusal is (once_read {refusal = r} reading read reads files refused) =
    inr (reading, reads, inr (inl (read, files, (r, refused, is))))

due_status : (held : Files) (words : List (List ℕ)) (status : ℕ) → IsDue (Some held) words status → WordsStatus held words status
due_status held words status (inl (zero, (success, is))) =
    inr (is.reading, is.reads, inr (inr (is.made.read, is.made.files, (success, is.made.made), zero)))
due_status held words status (inr (refusal, is, same)) = refusal_status held words status refusal same is

words_once : (held : Files) (words : List (List ℕ)) (first second : ℕ) → WordsStatus held words first
    → WordsStatus held words second → first ≡ second
words_once held words first second (inl a) (inl b) = a.1 ∙ sym b.1
words_once held words first second (inl a) (inr b) = absurd (a.0 b.0 b.1)
words_once held words first second (inr a) (inl b) = absurd (b.0 a.0 a.1)
words_once held words first second (inr a) (inr b) =
    reading_once held b.0 first second
    (subst (λ reading. ReadingStatus held reading first) (one_reading words a.0 b.0 a.1 b.1) a.2) b.2

-- one status is due
pub IsDue-same : (held : Files) (words : List (List ℕ)) (first second : ℕ) → IsDue (Some held) words first
    → IsDue (Some held) words second → first ≡ second
IsDue-same held words first second a b =
    words_once held words first second (due_status held words first a) (due_status held words second b)
