use Rattle.std.proofs.Common.{◌≡◌, ℕ, ◌≤◌, ◌+◌, length, true, sym, ◌∙◌, ap, subst, take, arith}
use Rattle.std.specs.Prelude.{if◌then◌else◌, nat_lt}
use Rattle.ci_elf.specs.Executables.{Executable}
use Rattle.ci_block.specs.Patches.{PatchesBlock}
use Rattle.ci_block.proofs.PatchLaws.{read_with}
use Rattle.ci_machine.specs.Words.{AreBytes}
use Rattle.ci_rename.specs.private.FilesSoFar.{AreRenamedSoFar}
use Rattle.ci_rename.proofs.FilesSoFar.{CanBeWritten, all_renamed, can_be_written, few, few_blocks, has_leader, none_so_far, one_more, renamed_here, room, stands, tested_some}
use Rattle.ci_rename.proofs.file.rename.Goals as goal
use Rattle.ci_rename.proofs.file.rename.Goals.{then-renamed-gt0, else-renamed-gt0}

pub loop-block-init : goal.loop-block-init
loop-block-init c =
    subst (λ file. AreRenamedSoFar c.args.image.now file c.args.live.now (take 0 c.args.blocks.now) 0 0) (sym c.in_ok-new.ensures)
    (none_so_far c.requires.image c.requires.analysis.2)

pub after-requires : goal.after-requires
after-requires c =
    has_leader c.requires.image c.requires.analysis.2 c.loop-block.block-index c.block-item.result c.all-block-items.result.now
    c.all-block-items.ensures.value c.loop-block-test.true c.block-item.is

pub rename_block-requires : goal.rename_block-requires
rename_block-requires c = record {
  few = subst (λ list. length list ≤ 256) (sym c.deref.ensures.value)
      (few c.requires.image c.requires.analysis.2 c.loop-block.block-index c.block-item.result c.all-block-items.result.now
      c.all-block-items.ensures.value c.loop-block-test.true c.block-item.is);
}

pub patch_block-requires-clause-read : goal.patch_block-requires-clause-read
patch_block-requires-clause-read c =
    read_with c.args.image.now c.loop-block.new c.requires.image c.loop-block.invariant.new_is c.loop-block.invariant.text_alone

-- the block of this turn is renamed, and can be written
ready : (c : goal.After-deref-then-renamed-gt0) → CanBeWritten c.loop-block.new c.block-item.result.leader c.deref-then-renamed-gt0.result.now
ready c =
    let block = c.block-item.result in
    let renamed = c.in_ok-renamed.renamed in
    can_be_written c.requires.image c.requires.analysis.2 c.loop-block.block-index block c.all-block-items.result.now
    c.all-block-items.ensures.value c.loop-block-test.true c.block-item.is c.loop-block.new c.loop-block.values c.loop-block.changed
    c.loop-block.invariant renamed.insns.items renamed.values
    (renamed_here c.args.live.now block c.after.result c.deref.result.now renamed.insns.items renamed.values c.after.ensures
    c.deref.ensures.value c.in_ok-renamed.ensures)
    (subst AreBytes c.bytes.ensures c.bytes_are_small.ensures) c.deref-then-renamed-gt0.result.now c.deref-then-renamed-gt0.ensures.value

pub patch_block-requires-clause-few : goal.patch_block-requires-clause-few
patch_block-requires-clause-few c = (ready c).few

pub patch_block-requires-clause-text : goal.patch_block-requires-clause-text
patch_block-requires-clause-text c = (ready c).text

pub patch_block-requires-clause-formed : goal.patch_block-requires-clause-formed
patch_block-requires-clause-formed c = (ready c).formed

pub overflow_add-values : goal.overflow_add-values
overflow_add-values c =
    let block = c.block-item.result in
    let renamed = c.in_ok-renamed.renamed in
    let few = room c.requires.image c.requires.analysis.2 c.loop-block.block-index block c.all-block-items.result.now
    c.all-block-items.ensures.value c.loop-block-test.true c.block-item.is c.loop-block.new c.loop-block.values c.loop-block.changed
    c.loop-block.invariant renamed.insns.items renamed.values
    (renamed_here c.args.live.now block c.after.result c.deref.result.now renamed.insns.items renamed.values c.after.ensures
    c.deref.ensures.value c.in_ok-renamed.ensures)
    (subst AreBytes c.bytes.ensures c.bytes_are_small.ensures) in
    omega (arith, few)

pub overflow_add-changed : goal.overflow_add-changed
overflow_add-changed c =
    let few = few_blocks c.requires.image c.requires.analysis.2 c.loop-block.block-index c.loop-block.new c.loop-block.values c.loop-block.changed
    c.loop-block.invariant in
    omega (arith, few)

pub loop-block-preserved : goal.loop-block-preserved
loop-block-preserved c =
    let block = c.block-item.result in
    let renamed = c.in_ok-renamed.renamed in
    let mid = c.loop-block.new in
    let is = renamed_here c.args.live.now block c.after.result c.deref.result.now renamed.insns.items renamed.values c.after.ensures
    c.deref.ensures.value c.in_ok-renamed.ensures in
    let bytes = subst AreBytes c.bytes.ensures c.bytes_are_small.ensures in
    let more : (new : Executable) (later counted : ℕ) → PatchesBlock mid new block.leader renamed.insns.items → later ≡ c.loop-block.values + renamed.values
    → counted ≡ c.loop-block.changed + (if nat_lt 0 renamed.values then 1 else 0)
    → AreRenamedSoFar c.args.image.now new c.args.live.now (take (c.loop-block.block-index + 1) c.args.blocks.now) later counted =
    one_more c.requires.image c.requires.analysis.2 c.loop-block.block-index block c.all-block-items.result.now
    c.all-block-items.ensures.value c.loop-block-test.true c.block-item.is mid c.loop-block.values c.loop-block.changed
    c.loop-block.invariant renamed.insns.items renamed.values is bytes in
    elim c.if-renamed-gt0.branch [
      | then-renamed-gt0 w ↦
          let some : nat_lt 0 renamed.values ≡ true = tested_some renamed.values w.if-renamed-gt0.true in
          more c.if-renamed-gt0.new c.if-renamed-gt0.values c.if-renamed-gt0.changed
          (subst (λ file. PatchesBlock mid file block.leader renamed.insns.items) (sym w.new-is)
          (subst (PatchesBlock mid w.patch_block.new.image block.leader) w.deref-then-renamed-gt0.ensures.value w.patch_block.ensures))
          w.values-is (w.changed-is ∙ ap (λ b. c.loop-block.changed + (if b then 1 else 0)) (sym some))
      | else-renamed-gt0 w ↦
          let nothing : renamed.values ≡ 0 = omega (arith, w.if-renamed-gt0.false) in
          more c.if-renamed-gt0.new c.if-renamed-gt0.values c.if-renamed-gt0.changed
          (subst (λ file. PatchesBlock mid file block.leader renamed.insns.items) (sym w.new-is)
          (stands c.requires.image c.requires.analysis.2 c.loop-block.block-index block c.all-block-items.result.now
          c.all-block-items.ensures.value c.loop-block-test.true c.block-item.is mid c.loop-block.values c.loop-block.changed
          c.loop-block.invariant renamed.insns.items renamed.values is bytes nothing))
          (omega (arith, w.values-is, nothing))
          (w.changed-is ∙ omega arith ∙ ap (λ n. c.loop-block.changed + (if nat_lt 0 n then 1 else 0)) (sym nothing))
    ]

all_of : (c : goal.After-loop-block) → length c.args.blocks.now ≤ c.loop-block.block-index
all_of c = subst (λ blocks. length blocks ≤ c.loop-block.block-index) c.all-block-items.ensures.value c.loop-block-test.false

pub returns : goal.returns
returns c =
    all_renamed c.requires.image c.requires.analysis.2 c.loop-block.new c.loop-block.block-index c.loop-block.values c.loop-block.changed
    c.requires.plain (all_of c) c.loop-block.invariant
