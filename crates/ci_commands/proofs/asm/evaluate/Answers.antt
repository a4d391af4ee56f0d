-- The words of the text that the file holds, or its first fault.
use Rattle.std.proofs.Common.{[], ◌∷◌, inl, refl}
use Rattle.std.proofs.lemmas.Result.{err_from_is_err_and}
use Rattle.ci_calls.proofs.InputLaws.{one_read, read_without_memory}
use Rattle.ci_commands.proofs.Causes.{unread_text}
use Rattle.ci_commands.proofs.asm.evaluate.Goals as goal

pub returns-in_err-bytes : goal.returns-in_err-bytes
returns-in_err-bytes g c =
    let p = err_from_is_err_and c.from_residual-in_err-bytes.result c.from_residual-in_err-bytes.ensures.1 in
    let bad = rw c.as_slice.ensures.value at c.in_err-bytes.ensures.fault in
    let file = c.in_ok-read.ensures in
    rw (p.1, p.2) (inl
    (unread_text g.F.Shelf.read_may_fail g.F.Shelf.write_may_fail (g.F.Shelf.state c.args.shelf.now)
    (g.F.Shelf.state c.read_file.new.shelf) c.args.text.now c.in_ok-read.read.items file.read file.within_limit
    c.in_err-bytes.field-0.0 bad))

pub returns-in_err-vec : goal.returns-in_err-vec
returns-in_err-vec g c =
    let p = err_from_is_err_and c.from_residual-in_err-vec.result c.from_residual-in_err-vec.ensures.1 in
    let assembled = rw c.as_slice.ensures.value at c.in_ok-bytes.ensures.bytes in
    let file = c.in_ok-read.ensures in
    rw (p.1, p.2) (inl (read_without_memory _ _ _ _ _ _
    (one_read _ _ _ _ _ c.in_ok-read.read.items file.read file.within_limit (assembled.0, assembled.1))))

pub returns : goal.returns
returns g c =
    let bytes = c.in_ok-read.read.items in
    let assembled = rw c.as_slice.ensures.value at c.in_ok-bytes.ensures.bytes in
    let file = c.in_ok-read.ensures in
    record {
      answered = bytes ∷ [];
      read = one_read _ _ _ _ _ bytes file.read file.within_limit (assembled.0, assembled.1);
      made = record {
        bytes = bytes;
        words = assembled.0;
        read_is = refl;
        text = assembled.1;
        file = record { name = c.args.out; bytes = c.in_ok-bytes.bytes };
        writes_one = c.in_ok-vec.ensures.items;
        name_is = refl;
        words_are = assembled.2;
        puts_nothing = c.new.ensures.items;
      };
    }
