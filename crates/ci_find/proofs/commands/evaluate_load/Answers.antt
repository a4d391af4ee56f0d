-- The seed is in its range, and no file is read.
use Rattle.std.proofs.Common.{[], ℕ, inl, arith, refl, subst}
use Rattle.std.proofs.lemmas.Result.{err_from_is_err_and}
use Rattle.ci_arguments.specs.Tables.{commands}
use Rattle.ci_calls.proofs.InputLaws.{none_read, nothing_read}
use Rattle.ci_find.specs.LoadCommand.{IsLoadMade}
use Rattle.ci_find.proofs.commands.evaluate_load.Goals as goal

pub overflow_cast-seed : goal.overflow_cast-seed
unfolding commands
overflow_cast-seed c = omega (arith, c.requires 0 0 4294967295 refl, c.number_at-seed.ensures)

pub returns-in_err-evaluate : goal.returns-in_err-evaluate
returns-in_err-evaluate c =
    let p = err_from_is_err_and c.from_residual.result c.from_residual.ensures.1 in
    rw (p.1, p.2) (λ read_may_fail write_may_fail shelf. inl (nothing_read read_may_fail write_may_fail shelf []))

pub returns : goal.returns
returns c = λ read_may_fail write_may_fail shelf. record {
  answered = [];
  read = none_read read_may_fail write_may_fail shelf;
  made = subst (λ (seed : ℕ). IsLoadMade seed [] c.in_ok-evaluate.field-0) c.number_at-seed.ensures
      c.in_ok-evaluate.ensures;
}
