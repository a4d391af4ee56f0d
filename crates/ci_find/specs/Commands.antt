-- For every reader: what each command reads, what it makes of that, and what it refuses once all its files are read, by
-- its reading.
use Rattle.std.specs.Prelude.{◌≡◌, ℕ, Bool, List, [], ◌∷◌, Result, unwrap_or}
use Rattle.ci_io.specs.Outcomes.{ShelfState}
use Rattle.ci_cut.specs.declared.graph.Limits.{Limits}
use Rattle.ci_cut.specs.FlowGraph.{FlowGraph}
use Rattle.ci_arguments.specs.Words.{Reading, name_at, number_at, word_at, name_set, number_set, word_set, words_set}
use Rattle.ci_arguments.specs.declared.tables.CommandName.{CommandName}
use Rattle.ci_arguments.specs.declared.tables.CommandName.TheVariants.{Best, Pair, Asm, Dis, Run, Blocks, Eval, Find, Check, Area, Rename, Relog, Gates, Geval, Load}
use Rattle.ci_arguments.specs.declared.tables.OptionName.TheVariants as option
use Rattle.ci_calls.specs.declared.refusals.Refusal.{Refusal}
use Rattle.ci_calls.specs.declared.success.Success.{Success}
use Rattle.ci_calls.specs.Evaluations.{RefusesNothing}
use Rattle.ci_calls.specs.Inputs.{Input}
use Rattle.ci_calls.specs.Reads.{IsAnswerOf}
use Rattle.ci_commands.specs.BestCommand.{best_inputs, IsBestLine, IsBestMade, IsBestRefused}
use Rattle.ci_commands.specs.PairCommand.{IsPairLine}
use Rattle.ci_commands.specs.AsmCommand.{asm_inputs, IsAsmMade}
use Rattle.ci_commands.specs.DisCommand.{dis_inputs, IsDisMade}
use Rattle.ci_commands.specs.RunCommand.{run_inputs, IsRunMade}
use Rattle.ci_commands.specs.BlocksCommand.{blocks_inputs, IsBlocksMade, IsBlocksRefused}
use Rattle.ci_commands.specs.EvalCommand.{eval_inputs, IsEvalMade, IsEvalRefused}
use Rattle.ci_commands.specs.RelogCommand.{relog_inputs, IsRelogMade}
use Rattle.ci_commands.specs.GatesCommand.{gates_inputs, IsGatesMade, IsGatesRefused}
use Rattle.ci_commands.specs.GevalCommand.{geval_inputs, IsGevalMade, IsGevalRefused}
use Rattle.ci_select.specs.declared.plan.Plan.{Plan}
use Rattle.ci_find.specs.ChoiceReading.{IsPlanOf, log_version, settings_of, find_output, find_files, check_files}
use Rattle.ci_find.specs.ChoiceReading.{rename_files, rename_settings}
use Rattle.ci_find.specs.FindCommand.{IsFindMade, IsFindRefused}
use Rattle.ci_find.specs.LoadCommand.{IsLoadMade}
use Rattle.ci_find.specs.CheckCommand.{IsCheckMade, IsCheckRefused}
use Rattle.ci_find.specs.AreaCommand.{IsAreaMade}
use Rattle.ci_find.specs.RenameCommand.{IsRenameMade, IsRenameRefused}

-- what a call of a command is: the files that it reads, in order; what it makes of their bytes; and what it refuses of
-- them, though each file alone is well formed
pub record CommandCall : Type 1 where
  pub inputs : List Input
  pub Makes : List (List ℕ) → Success → Type 0
  pub Refuses : List (List ℕ) → Refusal → Type 0

-- the values of a, b, c, d and e, of which the last two are 0 where they are not given
abbrev pub arguments_of : Reading → List ℕ
arguments_of reading =
    word_at reading 2 ∷ word_at reading 3 ∷ word_at reading 4 ∷ unwrap_or (word_set reading option.ArgumentD) 0
    ∷ unwrap_or (word_set reading option.ArgumentE) 0 ∷ []

-- a search of a block, by the relation of its graph, the limits and the budget with the line that is due
abbrev pub search_call : (FlowGraph → Limits → ℕ → List ℕ → Type 0) → Reading → CommandCall
search_call IsLineOf reading = record {
  inputs = best_inputs (word_set reading option.At) (name_at reading 0) (name_set reading option.Table);
  Makes = λ read success.
      (limits : Limits) × (limits.inputs ≡ number_set reading option.Inputs)
      × (limits.outputs ≡ number_set reading option.Outputs)
      × IsBestMade (word_set reading option.At) (words_set reading option.Leader) IsLineOf limits
      (number_set reading option.Budget) (name_set reading option.Table) read success;
  Refuses = IsBestRefused (word_set reading option.At) (words_set reading option.Leader);
}

-- ---- all commands

abbrev pub call_by : CommandName → Reading → CommandCall
call_by Best reading = search_call IsBestLine reading
call_by Pair reading = search_call IsPairLine reading
call_by Asm reading = record {
  inputs = asm_inputs (name_at reading 0);
  Makes = IsAsmMade (name_at reading 1);
  Refuses = RefusesNothing;
}
call_by Dis reading = record {
  inputs = dis_inputs (name_at reading 0);
  Makes = IsDisMade;
  Refuses = RefusesNothing;
}
call_by Run reading = record {
  inputs =
      run_inputs (name_at reading 0) (name_set reading option.Units) (name_set reading option.Table)
      (name_set reading option.Input);
  Makes =
      IsRunMade (number_set reading option.Steps) (name_set reading option.Units) (name_set reading option.Table)
      (name_set reading option.Input);
  Refuses = RefusesNothing;
}
call_by Blocks reading = record {
  inputs = blocks_inputs (name_at reading 0);
  Makes = IsBlocksMade (words_set reading option.Leader);
  Refuses = IsBlocksRefused;
}
call_by Eval reading = record {
  inputs = eval_inputs (name_at reading 0);
  Makes = IsEvalMade (number_at reading 1) (arguments_of reading);
  Refuses = IsEvalRefused (number_at reading 1);
}
call_by Find reading = record {
  inputs = find_files reading;
  Makes = λ read success.
      (plan : Plan) × IsPlanOf reading plan
      × IsFindMade (find_output reading) (settings_of reading plan) read success;
  Refuses = λ read refusal.
      (plan : Plan) × IsPlanOf reading plan × IsFindRefused (settings_of reading plan) read refusal;
}
call_by Check reading = record {
  inputs = check_files reading;
  Makes = λ read success.
      (plan : Plan) × IsPlanOf reading plan × IsCheckMade (settings_of reading plan) read success;
  Refuses = λ read refusal.
      (plan : Plan) × IsPlanOf reading plan × IsCheckRefused (settings_of reading plan) read refusal;
}
call_by Area reading = record {
  inputs = find_files reading;
  Makes = λ read success.
      (plan : Plan) × IsPlanOf reading plan
      × IsAreaMade (settings_of reading plan) (number_set reading option.Limit) read success;
  Refuses = λ read refusal.
      (plan : Plan) × IsPlanOf reading plan × IsFindRefused (settings_of reading plan) read refusal;
}
call_by Rename reading = record {
  inputs = rename_files reading;
  Makes = IsRenameMade (name_at reading 1) (rename_settings reading);
  Refuses = IsRenameRefused (rename_settings reading);
}
call_by Relog reading = record {
  inputs = relog_inputs (name_at reading 0);
  Makes = IsRelogMade (name_at reading 1) (log_version reading);
  Refuses = RefusesNothing;
}
call_by Gates reading = record {
  inputs = gates_inputs (name_at reading 0);
  Makes = IsGatesMade (name_at reading 1);
  Refuses = IsGatesRefused;
}
call_by Geval reading = record {
  inputs = geval_inputs (name_at reading 0);
  Makes = IsGevalMade (number_at reading 1) (arguments_of reading);
  Refuses = IsGevalRefused (number_at reading 1);
}
call_by Load reading = record {
  inputs = [];
  Makes = IsLoadMade (number_at reading 0);
  Refuses = RefusesNothing;
}

abbrev pub inputs_by : CommandName → Reading → List Input
inputs_by command reading = (call_by command reading).inputs

abbrev pub MakesBy : CommandName → Reading → List (List ℕ) → Success → Type 0
MakesBy command reading = (call_by command reading).Makes

abbrev pub RefusesBy : CommandName → Reading → List (List ℕ) → Refusal → Type 0
RefusesBy command reading = (call_by command reading).Refuses

-- the answer to a call, over a shelf
abbrev pub IsAnswerTo :
    (List ℕ → Bool) → (List ℕ → Bool) → ShelfState → ShelfState → CommandCall → Result Success Refusal → Type 0
IsAnswerTo read_may_fail write_may_fail before after call =
    IsAnswerOf read_may_fail write_may_fail before after call.inputs call.Makes call.Refuses

-- the answer of a command, over a shelf, to a reading
abbrev pub IsAnswerBy :
    (List ℕ → Bool) → (List ℕ → Bool) → ShelfState → ShelfState → CommandName → Reading → Result Success Refusal → Type 0
IsAnswerBy read_may_fail write_may_fail before after command reading =
    IsAnswerTo read_may_fail write_may_fail before after (call_by command reading)

-- ---- by the reading's own command

abbrev pub inputs_of : Reading → List Input
inputs_of reading = inputs_by reading.command reading

abbrev pub IsMade : Reading → List (List ℕ) → Success → Type 0
IsMade reading = MakesBy reading.command reading

abbrev pub IsRefusedOf : Reading → List (List ℕ) → Refusal → Type 0
IsRefusedOf reading = RefusesBy reading.command reading
