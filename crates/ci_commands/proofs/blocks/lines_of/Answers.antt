-- One block more adds its line.
use Rattle.std.proofs.Common.{◌++◌, List, ℕ, [], ◌∷◌, ◌∙◌, take, ap, sym, append-nil}
use Rattle.std.specs.List.{flat_map}
use Rattle.std.proofs.lemmas.Grind.{flat_map-append}
use Rattle.std.proofs.lemmas.List.{get_or_default, take_more}
use Rattle.ci_block.specs.declared.blocks.Block.{Block}
use Rattle.ci_commands.specs.BlocksCommand.{block_line}
use Rattle.ci_commands.proofs.blocks.lines_of.Goals as goal

pub loop-block-preserved : goal.loop-block-preserved
loop-block-preserved c =
    let blocks : List Block = c.args.blocks.now in
    let block : Block = c.block-item.result in
    let k = c.loop-block.block-index in
    let f : Block → List ℕ = block_line c.args.live.now in
    let front : List ℕ = flat_map f (take k blocks) in
    c.in_ok-push_line.ensures
    ∙ ap (λ (t : List ℕ). t ++ f block) c.loop-block.invariant
    ∙ sym (
    ap (flat_map f) (take_more blocks k block c.loop-block-test.true)
    ∙ flat_map-append f (take k blocks) _
    ∙ ap (λ (b : Block). front ++ flat_map f (b ∷ [])) (get_or_default blocks k block _ c.loop-block-test.true ∙ sym c.block-item.is)
    ∙ ap (λ (t : List ℕ). front ++ t) (append-nil (f block)))
