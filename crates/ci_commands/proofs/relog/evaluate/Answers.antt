-- The book that the file spells, in the version.
use Rattle.std.proofs.Common.{◌∙◌, [], ◌∷◌, ap, inl, length, refl}
use Rattle.std.proofs.lemmas.Result.{err_from_is_err_and}
use Rattle.ci_calls.proofs.InputLaws.{read_without_memory}
use Rattle.ci_commands.specs.RelogCommand.{relog_line}
use Rattle.ci_commands.proofs.relog.evaluate.Goals as goal

pub returns-in_err-book : goal.returns-in_err-book
returns-in_err-book g c =
    let p = err_from_is_err_and c.from_residual.result c.from_residual.ensures.1 in
    rw (p.1, p.2) (inl (c.in_err-book.ensures []))

pub returns-in_err-bytes : goal.returns-in_err-bytes
returns-in_err-bytes g c =
    let p = err_from_is_err_and c.from_residual-in_err-bytes.result c.from_residual-in_err-bytes.ensures.1 in
    rw (p.1, p.2) (inl (read_without_memory _ _ _ _ _ _ c.in_ok-book.ensures.1))

pub returns-in_err-text : goal.returns-in_err-text
returns-in_err-text g c =
    let p = err_from_is_err_and c.from_residual-in_err-text.result c.from_residual-in_err-text.ensures.1 in
    rw (p.1, p.2) (inl (read_without_memory _ _ _ _ _ _ c.in_ok-book.ensures.1))

pub returns-in_err-vec : goal.returns-in_err-vec
returns-in_err-vec g c =
    let p = err_from_is_err_and c.from_residual-in_err-vec.result c.from_residual-in_err-vec.ensures.1 in
    rw (p.1, p.2) (inl (read_without_memory _ _ _ _ _ _ c.in_ok-book.ensures.1))

pub returns : goal.returns
returns g c =
    let read = c.in_ok-book.ensures in
    record {
      answered = read.0 ∷ [];
      read = read.1;
      made = record {
        logs = read.0;
        book = c.in_ok-book.book;
        read_is = refl;
        logs_spell = read.2;
        file = record { name = c.args.out; bytes = c.in_ok-bytes.bytes };
        writes_one = c.in_ok-vec.ensures.items;
        name_is = refl;
        file_spells = c.in_ok-bytes.ensures;
        puts_line =
            rw c.into_bytes.ensures.value
            (c.in_ok-text.ensures ∙ ap (λ bytes. relog_line c.args.version (length bytes)) c.as_slice.ensures.value);
      };
    }
