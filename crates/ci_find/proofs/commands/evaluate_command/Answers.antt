-- The numbers of `best` and `pair` are in the ranges of their options. Memory runs out for the leaders of `blocks` before
-- any file is read; `load` reads none.
use Rattle.std.proofs.Common.{inl, refl}
use Rattle.std.proofs.lemmas.Result.{err_from_is_err_and}
use Rattle.ci_arguments.specs.Tables.{commands}
use Rattle.ci_arguments.specs.declared.tables.OptionName.TheVariants.{Inputs, Outputs, Budget}
use Rattle.ci_calls.proofs.InputLaws.{nothing_read}
use Rattle.ci_find.proofs.commands.evaluate_command.Goals as goal

pub evaluate_search-requires : goal.evaluate_search-requires
unfolding commands
evaluate_search-requires g c =
    let keeps = rw c.in-Best.is at c.requires.ranges in
    record { inputs = keeps Inputs 1 5 refl; outputs = keeps Outputs 1 3 refl; budget = (keeps Budget 1 4194304 refl).1 }

pub evaluate_search-requires-in-Pair : goal.evaluate_search-requires-in-Pair
unfolding commands
evaluate_search-requires-in-Pair g c =
    let keeps = rw c.in-Pair.is at c.requires.ranges in
    record { inputs = keeps Inputs 1 5 refl; outputs = keeps Outputs 1 3 refl; budget = (keeps Budget 1 4194304 refl).1 }

pub returns-in_err-leaders-in-Blocks : goal.returns-in_err-leaders-in-Blocks
returns-in_err-leaders-in-Blocks g c =
    let p = err_from_is_err_and c.from_residual.result c.from_residual.ensures.1 in
    rw (p.1, p.2)
    (inl (nothing_read g.F.Shelf.read_may_fail g.F.Shelf.write_may_fail (g.F.Shelf.state c.args.shelf.now) _))

pub returns-in-Load : goal.returns-in-Load
returns-in-Load g c =
    rw c.in-Load.is
    (c.evaluate_load.ensures g.F.Shelf.read_may_fail g.F.Shelf.write_may_fail (g.F.Shelf.state c.args.shelf.now))
