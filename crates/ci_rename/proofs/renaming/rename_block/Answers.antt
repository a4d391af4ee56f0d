use Rattle.std.proofs.Common.{ap, sym, ◌∙◌, subst, length, arith}
use Rattle.ci_rename.specs.Renaming.{AreGoneThrough, none}
use Rattle.ci_rename.specs.private.Passes.{HasLeastFree}
use Rattle.ci_rename.proofs.GoingThrough.{one_more, through_length}
use Rattle.ci_rename.proofs.renaming.rename_block.Goals as goal

pub loop-i-init : goal.loop-i-init
loop-i-init c =
    let same = c.in_ok-from_slice.ensures.items in
    record {
      through = subst (λ l. AreGoneThrough c.args.live_out c.args.insns.now 0 l 0) (sym same) none;
      same_length = ap length same;
      counted = omega arith;
      least = subst (λ l. HasLeastFree c.args.live_out l c.least_free.result) (sym same) c.least_free.ensures;
    }

pub loop-i-preserved : goal.loop-i-preserved
loop-i-preserved c =
    let old = c.loop-i.pass in
    let next = c.in_ok-pass.pass in
    let step = c.in_ok-pass.ensures.step in
    record {
      through = one_more c.args.live_out c.args.insns.now old.insns.items next.insns.items c.loop-i.i old.values next.values c.loop-i.invariant.through step;
      same_length = through_length c.args.live_out old.insns.items c.loop-i.i next.insns.items step.further step.gone ∙ c.loop-i.invariant.same_length;
      counted = omega (arith, step.counted, step.most, c.loop-i.invariant.counted);
      least = c.in_ok-pass.ensures.least;
    }
