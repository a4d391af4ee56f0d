-- The settings are those that the words say, and the numbers are in the ranges of their options.
use Rattle.std.proofs.Common.{◌≡◌, ◌∙◌, ℕ, inl, Bool, List, Option, Result, Ok, Err, arith, subst}
use Rattle.std.proofs.lemmas.Result.{err_from_is_err_and}
use Rattle.ci_io.specs.Outcomes.{ShelfState}
use Rattle.ci_cut.specs.FlowGraph.{FlowGraph}
use Rattle.ci_cut.specs.declared.graph.Limits.{Limits}
use Rattle.ci_arguments.specs.Read.{reading_of}
use Rattle.ci_arguments.specs.Words.{Reading, name_at, name_set, number_set, word_set, words_set}
use Rattle.ci_arguments.specs.declared.tables.OptionName.TheVariants.{At, Inputs, Leader, Outputs, Budget, Table}
use Rattle.ci_calls.specs.declared.refusals.Refusal.{Refusal}
use Rattle.ci_calls.specs.declared.success.Success.{Success}
use Rattle.ci_calls.specs.Reads.{IsAnswerOf}
use Rattle.ci_calls.proofs.InputLaws.{nothing_read}
use Rattle.ci_commands.specs.BestCommand.{best_inputs, IsBestMade, IsBestRefused}
use Rattle.ci_commands.specs.PairCommand.{IsLineOf}
use Rattle.ci_find.specs.Commands.{search_call, IsAnswerTo}
use Rattle.ci_find.proofs.commands.evaluate_search.Goals as goal

pub overflow_cast-settings : goal.overflow_cast-settings
overflow_cast-settings g c = omega (arith, c.requires.inputs, c.number.ensures)

pub overflow_cast-settings-2 : goal.overflow_cast-settings-2
overflow_cast-settings-2 g c = omega (arith, c.requires.outputs, c.number-2.ensures)

pub overflow_cast-settings-3 : goal.overflow_cast-settings-3
overflow_cast-settings-3 g c = omega (arith, c.requires.budget, c.number-3.ensures)

module _
    (read_may_fail write_may_fail : List ℕ → Bool) (before after : ShelfState)
    (IsLine : FlowGraph → Limits → ℕ → List ℕ → Type 0) (reading : Reading) (limits : Limits) where
  -- what is answered by settings
  abbrev IsAnsweredBy :
      (file : List ℕ) (at : Option ℕ) (leaders : List ℕ) (budget : ℕ) (table : Option (List ℕ))
      → Result Success Refusal → Type 0
  IsAnsweredBy file at leaders budget table =
      IsAnswerOf read_may_fail write_may_fail before after (best_inputs at file table)
      (IsBestMade at leaders IsLine limits budget table) (IsBestRefused at leaders)

  -- by those that the words say
  abbrev IsAnsweredBySaid : Result Success Refusal → Type 0
  IsAnsweredBySaid =
      IsAnsweredBy (name_at reading 0) (word_set reading At) (words_set reading Leader) (number_set reading Budget)
      (name_set reading Table)

  -- where they are the same
  same_settings :
      (result : Result Success Refusal) (file : List ℕ) (at : Option ℕ) (leaders : List ℕ) (budget : ℕ)
      (table : Option (List ℕ)) → IsAnsweredBy file at leaders budget table result → file ≡ name_at reading 0
      → at ≡ word_set reading At → leaders ≡ words_set reading Leader → budget ≡ number_set reading Budget
      → table ≡ name_set reading Table → IsAnsweredBySaid result
  same_settings result file at leaders budget table answer file_is at_is leaders_are budget_is table_is =
      subst (λ T. T) (λ i. IsAnsweredBy (file_is i) (at_is i) (leaders_are i) (budget_is i) (table_is i) result) answer

  -- with the limits of the words
  answered_by :
      (result : Result Success Refusal) → IsAnsweredBySaid result → limits.inputs ≡ number_set reading Inputs
      → limits.outputs ≡ number_set reading Outputs
      → IsAnswerTo read_may_fail write_may_fail before after (search_call IsLine reading) result
  answered_by (Ok success) made inputs outputs =
      record { answered = made.answered; read = made.read; made = (limits, inputs, outputs, made.made) }
  answered_by (Err refusal) refused inputs outputs = refused

pub returns-in_err-leaders : goal.returns-in_err-leaders
returns-in_err-leaders g c =
    let p = err_from_is_err_and c.from_residual.result c.from_residual.ensures.1 in
    rw (p.1, p.2)
    (inl (nothing_read g.F.Shelf.read_may_fail g.F.Shelf.write_may_fail (g.F.Shelf.state c.args.shelf.now) _))

pub invariant_of-settings : goal.invariant_of-settings
invariant_of-settings g c =
    let inputs = c.requires.inputs in
    let outputs = c.requires.outputs in
    record {
      inputs_in_range = (omega (arith, inputs, c.number.ensures), omega (arith, inputs, c.number.ensures));
      outputs_in_range = (omega (arith, outputs, c.number-2.ensures), omega (arith, outputs, c.number-2.ensures));
    }

pub evaluate-requires : goal.evaluate-requires
evaluate-requires g c = omega (arith, c.requires.budget, c.number-3.ensures)

pub returns : goal.returns
returns g c =
    let reading = reading_of c.args.words.now in
    answered_by g.F.Shelf.read_may_fail g.F.Shelf.write_may_fail (g.F.Shelf.state c.args.shelf.now)
    (g.F.Shelf.state c.evaluate.new.shelf) (IsLineOf c.args.sought) reading _ c.evaluate.result
    (same_settings g.F.Shelf.read_may_fail g.F.Shelf.write_may_fail (g.F.Shelf.state c.args.shelf.now)
    (g.F.Shelf.state c.evaluate.new.shelf) (IsLineOf c.args.sought) reading _ c.evaluate.result c.name_at.result.now
    c.word.result c.as_slice.result.now c.number-3.result _ c.evaluate.ensures c.name_at.ensures c.word.ensures
    (c.as_slice.ensures.value ∙ c.in_ok-leaders.ensures) c.number-3.ensures c.name.ensures)
    c.number.ensures c.number-2.ensures
