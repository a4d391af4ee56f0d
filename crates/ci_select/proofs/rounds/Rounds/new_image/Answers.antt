use Rattle.std.proofs.Common.{◌≡◌, rules, length, get_or, sym, ◌∙◌, ap, subst, arith, length-append}
use Rattle.std.proofs.lemmas.Slice.Zip.{zip_end, zip_turn}
use Rattle.ci_elf.specs.Executables.{Executable}
use Rattle.ci_block.specs.declared.blocks.Block.{Block}
use Rattle.ci_block.specs.Patches.{PatchesBlock}
use Rattle.ci_block.proofs.PatchLaws.{read_with}
use Rattle.ci_select.proofs.NewImageLaws.{CanBePatched, blocks_of, can_be_patched, insns_of, new_file_of, same_size}
use Rattle.ci_select.proofs.PatchLaws.{PatchesBlocks, no_blocks_patched, one_more_block_patched}
use Rattle.ci_select.proofs.rounds.Rounds.new_image.Goals as goal

pub loop-block-init : goal.loop-block-init
loop-block-init c =
    let rounds = c.args.self.now in
    subst (λ file. PatchesBlocks c.args.image.now file (blocks_of rounds) (insns_of rounds) 0) (sym c.in_ok-new.ensures)
    (no_blocks_patched c.args.image.now (blocks_of rounds) (insns_of rounds))

pub patch_block-requires-clause-read : goal.patch_block-requires-clause-read
patch_block-requires-clause-read c =
    read_with c.args.image.now c.loop-block.new c.requires.image c.loop-block.invariant.same_else c.loop-block.invariant.text_alone

-- this iteration's block can be written into the file
ready : (c : goal.After-deref) → CanBePatched c.loop-block.new.ranges c.in-Some.block.now.leader c.deref.result.now
ready c =
    let rounds = c.args.self.now in
    let block = c.in-Some.block.now in
    let turn = zip_turn (blocks_of rounds) rounds.present.items c.loop-block.yielded c.into_iter-block-iterator.result
    c.loop-block.block-iterator c.next.new.self c.next.result (search rules) (search rules) c.loop-block.yielded_by
    (c.in-Some.block, c.in-Some.insns) c.in-Some.is c.next.ensures.steps in
    subst (λ (file : Executable). CanBePatched file.ranges block.leader c.deref.result.now) (sym c.loop-block.invariant.same_else)
    (can_be_patched rounds c.args.image.now c.requires.blocks c.requires.follows
    (length c.loop-block.yielded) block c.deref.result.now turn.0 (turn.2 block)
    (c.deref.ensures.value ∙ ap (λ v. v.items) (turn.3 block.insns)))

pub patch_block-requires-clause-few : goal.patch_block-requires-clause-few
patch_block-requires-clause-few c = (ready c).few

pub patch_block-requires-clause-text : goal.patch_block-requires-clause-text
patch_block-requires-clause-text c = (ready c).text

pub patch_block-requires-clause-formed : goal.patch_block-requires-clause-formed
patch_block-requires-clause-formed c = (ready c).formed

pub loop-block-preserved : goal.loop-block-preserved
loop-block-preserved c =
    let rounds = c.args.self.now in
    let file = c.args.image.now in
    let mid = c.loop-block.new in
    let new = c.patch_block.new.image in
    let count = length c.loop-block.yielded in
    let turn = zip_turn (blocks_of rounds) rounds.present.items c.loop-block.yielded c.into_iter-block-iterator.result
    c.loop-block.block-iterator c.next.new.self c.next.result (search rules) (search rules) c.loop-block.yielded_by
    (c.in-Some.block, c.in-Some.insns) c.in-Some.is c.next.ensures.steps in
    let here : (d : Block) → PatchesBlock mid new (get_or (blocks_of rounds) count d).leader (insns_of rounds count d) = λ d.
    subst (λ (b : Block). PatchesBlock mid new b.leader (insns_of rounds count d)) (turn.2 d)
    (subst (PatchesBlock mid new c.in-Some.block.now.leader)
    (c.deref.ensures.value ∙ ap (λ v. v.items) (turn.3 d.insns)) c.patch_block.ensures) in
    subst (PatchesBlocks file new (blocks_of rounds) (insns_of rounds)) (sym (length-append c.loop-block.yielded _))
    (one_more_block_patched file (blocks_of rounds) (insns_of rounds) c.requires.blocks
    (same_size rounds file c.requires.blocks c.requires.follows) mid new count turn.0 c.loop-block.invariant here
    c.in-Some.block.now)

pub returns-clause-bytes : goal.returns-clause-bytes
returns-clause-bytes c = λ history follows.
    let rounds = c.args.self.now in
    let file = c.args.image.now in
    let end = zip_end (blocks_of rounds) rounds.present.items c.loop-block.yielded c.into_iter-block-iterator.result
    c.loop-block.block-iterator c.next.new.self c.next.result (search rules) (search rules) c.loop-block.yielded_by
    c.in-None.is c.next.ensures.steps in
    let all : length c.loop-block.yielded ≡ length (blocks_of rounds) = omega (arith, end, follows.many) in
    new_file_of rounds file c.requires.blocks history follows c.loop-block.new.bytes
    (subst (λ f. PatchesBlocks file f (blocks_of rounds) (insns_of rounds) (length (blocks_of rounds))) c.loop-block.invariant.same_else
    (subst (PatchesBlocks file c.loop-block.new (blocks_of rounds) (insns_of rounds)) all c.loop-block.invariant))
