use Rattle.std.proofs.Common.{◌≡◌, subst, arith}
use Rattle.ci_elf.specs.Fields.{e_phnum}
use Rattle.ci_elf.specs.private.Parts.{ArePartsFromText}
use Rattle.ci_elf.proofs.SharingLaws.{from_text_none, from_text_more}
use Rattle.ci_elf.proofs.sharing.parts_from_text.Goals as goal

pub loop-n-init : goal.loop-n-init
loop-n-init c = rw c.new-parts.ensures.items (from_text_none c.args.bytes.now c.args.texts.now)

pub loop-n-preserved : goal.loop-n-preserved
loop-n-preserved c =
    rw c.in_ok-push.ensures.items
    (from_text_more c.args.bytes.now c.args.texts.now c.loop-n.n c.loop-n.parts.items _ c.loop-n.invariant c.part_from_text.ensures)

pub returns : goal.returns
returns c =
    let all : c.loop-n.n ≡ e_phnum c.args.bytes.now = omega arith in
    subst (λ n. ArePartsFromText c.args.bytes.now c.args.texts.now n c.loop-n.parts.items) all c.loop-n.invariant
