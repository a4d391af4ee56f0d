-- The settings are those that the words say, and the steps are in their range.
use Rattle.std.proofs.Common.{◌∙◌, arith, inl, refl, subst}
use Rattle.std.proofs.lemmas.Result.{err_from_is_err_and}
use Rattle.ci_arguments.specs.Tables.{commands}
use Rattle.ci_arguments.specs.declared.tables.OptionName.TheVariants.{Steps}
use Rattle.ci_calls.specs.Reads.{IsAnswerOf}
use Rattle.ci_calls.proofs.InputLaws.{nothing_read}
use Rattle.ci_find.specs.RenameCommand.{rename_inputs, IsRenameMade, IsRenameRefused}
use Rattle.ci_find.proofs.commands.evaluate_rename.Goals as goal

pub evaluate-requires : goal.evaluate-requires
unfolding commands
evaluate-requires g c = omega (arith, c.requires Steps 1 4294967296 refl, c.number.ensures)

pub returns-in_err-leaders : goal.returns-in_err-leaders
returns-in_err-leaders g c =
    let p = err_from_is_err_and c.from_residual.result c.from_residual.ensures.1 in
    rw (p.1, p.2)
    (inl (nothing_read g.F.Shelf.read_may_fail g.F.Shelf.write_may_fail (g.F.Shelf.state c.args.shelf.now) _))

pub returns : goal.returns
returns g c =
    let leaders = c.as_slice.ensures.value ∙ c.in_ok-leaders.ensures in
    subst (λ T. T)
    (λ i. IsAnswerOf g.F.Shelf.read_may_fail g.F.Shelf.write_may_fail (g.F.Shelf.state c.args.shelf.now)
    (g.F.Shelf.state c.evaluate.new.shelf) (rename_inputs (c.name_at.ensures i) (c.name.ensures i))
    (IsRenameMade (c.name_at-2.ensures i)
    (record { steps = c.number.ensures i; named = leaders i; input = c.name.ensures i }))
    (IsRenameRefused (record { steps = c.number.ensures i; named = leaders i; input = c.name.ensures i }))
    c.evaluate.result)
    c.evaluate.ensures
