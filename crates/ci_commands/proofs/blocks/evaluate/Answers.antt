-- The lines of the blocks of the executable that the file holds, or why there are none.
use Rattle.std.proofs.Common.{[], ◌∷◌, inl, refl}
use Rattle.std.proofs.lemmas.Result.{err_from_is_err_and}
use Rattle.ci_block.specs.CustomWords.{IsFirstCustomWord}
use Rattle.ci_commands.specs.BlocksCommand.{blocks_inputs, IsBlocksRefused}
use Rattle.ci_commands.proofs.Causes.{refused_by}
use Rattle.ci_commands.proofs.blocks.evaluate.Goals as goal

pub returns-in_err-image : goal.returns-in_err-image
returns-in_err-image g c =
    let p = err_from_is_err_and c.from_residual.result c.from_residual.ensures.1 in
    rw (p.1, p.2) (inl (c.in_err-image.ensures []))

pub returns-in_err-text : goal.returns-in_err-text
returns-in_err-text g c =
    let p = err_from_is_err_and c.from_residual-in_err-text.result c.from_residual-in_err-text.ensures.1 in
    let image = c.in_ok-image.ensures in
    rw (p.1, p.2)
    (refused_by g.F.Shelf.read_may_fail g.F.Shelf.write_may_fail (g.F.Shelf.state c.args.shelf.now)
    (g.F.Shelf.state c.read_image.new.shelf) (blocks_inputs c.args.file.now) (image.0 ∷ []) image.1 IsBlocksRefused
    (IsFirstCustomWord c.in_ok-image.image)
    (λ refusal custom. record { bytes = image.0; read_is = refl; file = c.in_ok-image.image; file_is = image.2; custom = custom })
    c.in_err-text.field-0.0 c.in_err-text.ensures.cause)

pub returns : goal.returns
returns g c =
    let image = c.in_ok-image.ensures in
    record {
      answered = image.0 ∷ [];
      read = image.1;
      made = record {
        bytes = image.0;
        read_is = refl;
        file = c.in_ok-image.image;
        file_is = image.2;
        text = rw c.into_bytes.ensures.value c.in_ok-text.ensures.done;
        writes_none = c.new.ensures.items;
      };
    }
