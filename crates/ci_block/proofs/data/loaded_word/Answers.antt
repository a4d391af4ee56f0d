use Rattle.std.proofs.Common.{lit<, ap}
use Rattle.std.specs.Prelude.{Some}
use Rattle.ci_block.proofs.LoadingLaws.{first_byte, only_word, some_is, word_of_bytes}
use Rattle.ci_block.proofs.data.loaded_word.Goals as goal

pub returns-clause-found : goal.returns-clause-found
returns-clause-found c =
    word_of_bytes c.args.image.now c.args.address c.in_ok-first.first c.in_ok-second.second c.in_ok-third.third c.in_ok-fourth.fourth
    c.in_ok-first.ensures.found c.in_ok-second.ensures.found c.in_ok-third.ensures.found c.in_ok-fourth.ensures.found c.read_u32.result c.read_u32.ensures

pub returns-clause-only : goal.returns-clause-only
returns-clause-only c value w =
    ap Some (only_word c.args.image.now c.args.address c.in_ok-first.first c.in_ok-second.second c.in_ok-third.third c.in_ok-fourth.fourth value w
    (some_is _ _ (c.in_ok-first.ensures.only _ (first_byte c.args.image.now c.args.address value w)))
    (some_is _ _ (c.in_ok-second.ensures.only _ (w.loaded 1 (lit< tt)))) (some_is _ _ (c.in_ok-third.ensures.only _ (w.loaded 2 (lit< tt))))
    (some_is _ _ (c.in_ok-fourth.ensures.only _ (w.loaded 3 (lit< tt)))) c.read_u32.result c.read_u32.ensures)
