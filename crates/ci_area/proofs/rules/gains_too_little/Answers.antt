use Rattle.std.proofs.Common.{◌∙◌, arith, lt-ltb}
use Rattle.ci_area.proofs.BoundTests.{is_less, is_same, is_before}
use Rattle.ci_area.proofs.DecidedLaws.{before_prefix, before_taken}
use Rattle.ci_area.proofs.PieceSums.{scaled_is}
use Rattle.std.specs.FinSet as set
use Rattle.ci_area.proofs.rules.gains_too_little.Goals as goal

pub returns-then-bound-needed : goal.returns-then-bound-needed
returns-then-bound-needed c pieces prefix represents measured rest = let rate = c.requires.rate in (
  λ _. is_less pieces c.args.limit (set.contains c.args.best.now.set) prefix c.args.num c.args.den rate.0 rate.1 rate.2
      (omega (arith, c.requires.fits, represents.area_is)) c.scaled_bound-bound.result c.args.best.now.gain
      (c.scaled_bound-bound.ensures ∙ scaled_is pieces prefix c.args.decided.now represents c.args.num c.args.den c.args.beyond rest c.args.limit)
      measured.gain_is c.if-bound-needed.true,
  λ _. lt-ltb _ _ c.if-bound-needed.true,
)

pub returns-then-bound-needed-2 : goal.returns-then-bound-needed-2
returns-then-bound-needed-2 c pieces prefix represents measured rest = let rate = c.requires.rate in
    let scaled = c.scaled_bound-bound.ensures
    ∙ scaled_is pieces prefix c.args.decided.now represents c.args.num c.args.den c.args.beyond rest c.args.limit in (
      λ e. is_same pieces c.args.limit (set.contains c.args.best.now.set) prefix c.args.num c.args.den rate.0 rate.1 rate.2
          (omega (arith, c.requires.fits, represents.area_is)) c.scaled_bound-bound.result c.args.best.now.gain scaled measured.gain_is
          (omega (arith, c.if-bound-needed.false)) (omega (arith, c.if-bound-needed.false, c.if-bound-needed-2.true))
          (before_prefix pieces prefix c.args.decided.now represents (set.contains c.args.best.now.set) (c.comes_before.ensures.0 e)),
      λ is. c.comes_before.ensures.1 (before_taken pieces prefix c.args.decided.now represents (set.contains c.args.best.now.set)
          (is_before pieces c.args.limit (set.contains c.args.best.now.set) prefix c.args.num c.args.den rate.0 rate.1 rate.2
          (omega (arith, c.requires.fits, represents.area_is)) c.scaled_bound-bound.result c.args.best.now.gain scaled measured.gain_is
          (omega (arith, c.if-bound-needed.false)) is)),
    )
