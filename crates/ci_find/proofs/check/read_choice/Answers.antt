-- What the three files of a choice hold, or the first of them that is not read.
use Rattle.std.proofs.Common.{[], ◌∷◌, ℕ, List}
use Rattle.std.proofs.lemmas.Result.{err_from_is_err_and}
use Rattle.ci_calls.specs.Files.{book_input, new_file_input, units_input}
use Rattle.ci_calls.specs.Reads.{HaveRead}
use Rattle.ci_calls.proofs.InputLaws.{HaveRead-append, unread_behind}
use Rattle.ci_find.proofs.check.read_choice.Given.{Over}
use Rattle.ci_find.proofs.check.read_choice.Goals as goal
use Rattle.ci_find.proofs.check.read_choice.Goals.{In_ok-modules}

-- the new file and the units are read
two_read : (g : Over) (c : In_ok-modules g)
    → HaveRead g.F.Shelf.read_may_fail g.F.Shelf.write_may_fail (g.F.Shelf.state c.args.shelf.now)
    (g.F.Shelf.state c.read_units.new.shelf)
    (new_file_input c.args.names.now.new.now ∷ units_input c.args.names.now.units.now ∷ [])
    (c.in_ok-new.new.items ∷ c.in_ok-modules.ensures.0 ∷ [])
two_read g c =
    let names = c.args.names.now in
    let bytes : List ℕ = c.in_ok-new.new.items in
    let modules = c.in_ok-modules.ensures in
    HaveRead-append g.F.Shelf.read_may_fail g.F.Shelf.write_may_fail (g.F.Shelf.state c.args.shelf.now)
    (g.F.Shelf.state c.read_new_file.new.shelf) (g.F.Shelf.state c.read_units.new.shelf)
    (new_file_input names.new.now ∷ []) (units_input names.units.now ∷ []) (bytes ∷ []) (modules.0 ∷ [])
    c.in_ok-new.ensures.read modules.1

pub returns-in_err-new-clause-refused : goal.returns-in_err-new-clause-refused
returns-in_err-new-clause-refused g c =
    let p = err_from_is_err_and c.from_residual.result c.from_residual.ensures.1 in
    let names = c.args.names.now in
    rw (p.1, p.2)
    (λ others. c.in_err-new.ensures.refused (units_input names.units.now ∷ book_input names.logs.now ∷ others))

pub returns-in_err-modules-clause-refused : goal.returns-in_err-modules-clause-refused
returns-in_err-modules-clause-refused g c =
    let p = err_from_is_err_and c.from_residual-in_err-modules.result c.from_residual-in_err-modules.ensures.1 in
    let names = c.args.names.now in
    let bytes : List ℕ = c.in_ok-new.new.items in
    rw (p.1, p.2)
    (λ others. unread_behind g.F.Shelf.read_may_fail g.F.Shelf.write_may_fail (g.F.Shelf.state c.args.shelf.now)
    (g.F.Shelf.state c.read_new_file.new.shelf) (g.F.Shelf.state c.read_units.new.shelf)
    (new_file_input names.new.now ∷ []) (units_input names.units.now ∷ book_input names.logs.now ∷ others)
    (bytes ∷ []) c.in_err-modules.field-0.0 c.in_ok-new.ensures.read
    (c.in_err-modules.ensures (book_input names.logs.now ∷ others)))

pub returns-in_err-book-clause-refused : goal.returns-in_err-book-clause-refused
returns-in_err-book-clause-refused g c =
    let p = err_from_is_err_and c.from_residual-in_err-book.result c.from_residual-in_err-book.ensures.1 in
    let names = c.args.names.now in
    let bytes : List ℕ = c.in_ok-new.new.items in
    rw (p.1, p.2)
    (λ others. unread_behind g.F.Shelf.read_may_fail g.F.Shelf.write_may_fail (g.F.Shelf.state c.args.shelf.now)
    (g.F.Shelf.state c.read_units.new.shelf) (g.F.Shelf.state c.read_book.new.shelf)
    (new_file_input names.new.now ∷ units_input names.units.now ∷ []) (book_input names.logs.now ∷ others)
    (bytes ∷ c.in_ok-modules.ensures.0 ∷ []) c.in_err-book.field-0.0
    (two_read g (goal.at.returns-in_err-book-clause-refused g c).In_ok-modules) (c.in_err-book.ensures others))

pub returns-clause-read : goal.returns-clause-read
returns-clause-read g c =
    let names = c.args.names.now in
    let bytes : List ℕ = c.in_ok-new.new.items in
    let modules = c.in_ok-modules.ensures in
    let book = c.in_ok-book.ensures in (
      modules.0,
      book.0,
      HaveRead-append g.F.Shelf.read_may_fail g.F.Shelf.write_may_fail (g.F.Shelf.state c.args.shelf.now)
          (g.F.Shelf.state c.read_units.new.shelf) (g.F.Shelf.state c.read_book.new.shelf)
          (new_file_input names.new.now ∷ units_input names.units.now ∷ []) (book_input names.logs.now ∷ [])
          (bytes ∷ modules.0 ∷ []) (book.0 ∷ []) (two_read g (goal.at.returns-clause-read g c).In_ok-modules) book.1,
      modules.2,
      book.2,
    )
