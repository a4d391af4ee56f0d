use Rattle.std.proofs.Common.{◌-◌, sym, arith, subst}
use Rattle.std.proofs.lemmas.List.{get_or_default}
use Rattle.ci_log.specs.declared.flattening.Child.{Child}
use Rattle.ci_log.specs.declared.flattening.Child.TheVariants.{Leaf}
use Rattle.ci_log.specs.declared.log.Item.TheVariants.{F}
use Rattle.ci_search.specs.private.Branches.{IsBranch}
use Rattle.ci_search.proofs.WaitingLaws.{joins, all_joined}
use Rattle.ci_search.proofs.trees.branches.Goals as goal

pub loop-left-init : goal.loop-left-init
loop-left-init c = record { within = omega arith; joined = λ graph limits start first later before joined. joined }

pub loop-left-preserved : goal.loop-left-preserved
loop-left-preserved c = record {
  within = omega (arith, c.loop-left.invariant.within);
  joined = λ graph limits start first later before all.
      let here = joins graph limits start first before c.args.bottom c.args.pending.now c.loop-left.left (c.loop-left.left - 1) later
      c.loop-left.region c.loop-left.root (omega (arith, c.loop-left-test.true)) (omega (arith, c.loop-left-test.true))
      (c.loop-left.invariant.joined graph limits start first later before all) in
      here.joined c.branch-region.new.region c.in_ok-root.root
      (subst (λ (child : Child). IsBranch c.loop-left.region c.branch-region.new.region child c.loop-left.root c.in_ok-root.root)
      (sym (get_or_default c.args.pending.now (c.loop-left.left - 1) (Leaf F) c.index-pending-left.result (omega arith))) c.in_ok-root.ensures);
}

pub returns-in_err-root : goal.returns-in_err-root
returns-in_err-root c graph limits start first later before all =
    let here = joins graph limits start first before c.args.bottom c.args.pending.now c.loop-left.left (c.loop-left.left - 1) later
    c.loop-left.region c.loop-left.root (omega (arith, c.loop-left-test.true)) (omega (arith, c.loop-left-test.true))
    (c.loop-left.invariant.joined graph limits start first later before all) in
    rw c.from_residual.ensures (here.spent c.in_err-root.ensures.0 c.branch-region.new.region c.in_err-root.ensures.1)

pub returns : goal.returns
returns c graph limits start first later before all =
    all_joined graph limits start first before c.args.bottom c.args.pending.now c.loop-left.left later c.loop-left.region c.loop-left.root
    (omega (arith, c.loop-left-test.false)) (c.loop-left.invariant.joined graph limits start first later before all)
