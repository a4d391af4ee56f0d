-- The listing of the words that the file holds.
use Rattle.std.proofs.Common.{[], ◌∷◌, inl, refl}
use Rattle.std.proofs.lemmas.Result.{err_from_is_err_and}
use Rattle.ci_calls.proofs.InputLaws.{one_read, read_without_memory}
use Rattle.ci_commands.proofs.dis.evaluate.Goals as goal

pub returns-in_err-text : goal.returns-in_err-text
returns-in_err-text g c =
    let p = err_from_is_err_and c.from_residual-in_err-text.result c.from_residual-in_err-text.ensures.1 in
    let file = c.in_ok-bytes.ensures in
    rw (p.1, p.2) (inl (read_without_memory _ _ _ _ _ _
    (one_read _ _ _ _ _ c.in_ok-bytes.bytes.items file.read file.within_limit tt)))

pub returns : goal.returns
returns g c =
    let bytes = c.in_ok-bytes.bytes.items in
    record {
      answered = bytes ∷ [];
      read = one_read _ _ _ _ _ bytes c.in_ok-bytes.ensures.read c.in_ok-bytes.ensures.within_limit tt;
      made = record {
        bytes = bytes;
        read_is = refl;
        listing = rw c.into_bytes.ensures.value (rw c.as_slice.ensures.value at c.in_ok-text.ensures);
        writes_none = c.new.ensures.items;
      };
    }
