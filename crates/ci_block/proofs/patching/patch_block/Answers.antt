use Rattle.std.proofs.Common.{◌≡◌, ◌+◌, ◌*◌, length, sym, ◌∙◌, subst, arith}
use Rattle.std.proofs.lemmas.List.{get_or_default}
use Rattle.ci_isa.specs.declared.instruction.Insn.TheVariants.{Ebreak}
use Rattle.ci_isa.specs.Table.{IsWellFormed, IsWordOf}
use Rattle.ci_elf.specs.Executables.{Executable, IsTextWord}
use Rattle.ci_block.specs.Patches.{PatchesWords}
use Rattle.ci_block.proofs.PatchLaws.{none_patched, one_more_patched, text_word_below_top}
use Rattle.ci_block.proofs.patching.patch_block.Goals as goal

pub loop-k-init : goal.loop-k-init
loop-k-init c = none_patched c.args.image.now c.requires.read c.args.leader c.args.insns.now

pub overflow_add-leader : goal.overflow_add-leader
overflow_add-leader c =
    let below = text_word_below_top c.args.image.now c.requires.read (c.args.leader + 4 * c.loop-k.k) (c.requires.text c.loop-k.k c.loop-k-test.true) in
    omega (arith, below)

pub encode-requires : goal.encode-requires
encode-requires c =
    subst IsWellFormed
    (get_or_default c.args.insns.now c.loop-k.k Ebreak c.index-insns-k.result c.loop-k-test.true ∙ sym c.index-insns-k.is)
    (c.requires.formed c.loop-k.k c.loop-k-test.true)

pub patch-requires : goal.patch-requires
patch-requires c =
    subst (λ (file : Executable). IsTextWord file.ranges (c.args.leader + 4 * c.loop-k.k)) (sym c.loop-k.invariant.same_else)
    (c.requires.text c.loop-k.k c.loop-k-test.true)

pub loop-k-preserved : goal.loop-k-preserved
loop-k-preserved c =
    let insns = c.args.insns.now in
    let k = c.loop-k.k in
    let there = get_or_default insns k Ebreak c.index-insns-k.result c.loop-k-test.true ∙ sym c.index-insns-k.is in
    subst (λ file. PatchesWords c.args.image.now file c.args.leader insns (k + 1)) (sym c.patch.ensures)
    (one_more_patched c.args.image.now c.requires.read c.args.leader insns k c.encode.result
    (λ j below. c.requires.text j (omega (arith, c.loop-k-test.true))) c.encode.type_inv
    (subst (IsWordOf c.encode.result) (sym there) c.encode.ensures.reads_back) c.loop-k.image c.loop-k.invariant)

pub returns : goal.returns
returns c =
    let end : c.loop-k.k ≡ length c.args.insns.now = omega (arith, c.loop-k.auto.k-end, c.loop-k-test.false) in
    subst (PatchesWords c.args.image.now c.loop-k.image c.args.leader c.args.insns.now) end c.loop-k.invariant
