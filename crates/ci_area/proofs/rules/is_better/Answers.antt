use Rattle.std.proofs.Common.{arith, lt-ltb}
use Rattle.ci_area.proofs.BetterTests.{too_large, gains_more, comes_first, is_first}
use Rattle.ci_area.proofs.rules.is_better.Goals as goal

pub returns-then-decided-limit : goal.returns-then-decided-limit
returns-then-decided-limit c pieces some measured = (
  λ e. absurd (cc),
  λ is. absurd (too_large pieces c.args.limit c.args.decided.now some c.args.best.now measured (omega (arith, c.if-decided-limit.true)) is),
)

pub returns-then-gain-best : goal.returns-then-gain-best
returns-then-gain-best c pieces some measured = (
  λ _. gains_more pieces c.args.limit c.args.decided.now some c.args.best.now measured (omega (arith, c.if-decided-limit.false))
      (omega (arith, c.if-gain-best.true)),
  λ _. lt-ltb _ _ (omega (arith, c.if-gain-best.true)),
)

pub returns-then-gain-best-2 : goal.returns-then-gain-best-2
returns-then-gain-best-2 c pieces some measured = (
  λ e. comes_first pieces c.args.limit c.args.decided.now some c.args.best.now measured (omega (arith, c.if-decided-limit.false))
      (omega (arith, c.if-gain-best-2.true)) (c.comes_before.ensures.0 e).0,
  λ is. c.comes_before.ensures.1
      (is_first pieces c.args.limit c.args.decided.now some c.args.best.now measured (omega (arith, c.if-gain-best-2.true)) is, omega arith),
)
