use Rattle.std.proofs.Common.{◌≡◌, false, length, sym, ◌∙◌, arith}
use Rattle.std.specs.FinSet as finite
use Rattle.ci_rename.specs.private.ValueTests.{is_used}
use Rattle.ci_rename.proofs.UsedRegisters.{is_free_by, unused_by}
use Rattle.ci_rename.proofs.renaming.is_free.Goals as goal

pub returns : goal.returns
returns c =
    let insns = c.args.insns.now in
    let live_out = c.args.live_out.now in
    let r = c.args.register in
    let used : c.has-is_used.result ≡ is_used insns (length insns) r = c.has-is_used.ensures.value ∙ c.requires.used r in
    let live : c.has-is_live.result ≡ finite.contains live_out r = c.has-is_live.ensures.value in (
      λ both.
          let unused : c.has-is_used.result ≡ false = grind arith in
          let dead : c.has-is_live.result ≡ false = grind arith in
          is_free_by insns live_out r c.requires.some c.requires.named (sym used ∙ unused) (sym live ∙ dead),
      λ free.
          let unused : c.has-is_used.result ≡ false = used ∙ unused_by insns live_out r free in
          let dead : c.has-is_live.result ≡ false = live ∙ free.dead in
          grind arith,
    )
