use Rattle.std.proofs.Common.{true≢false, sym, ◌∙◌, subst, arith}
use Rattle.std.specs.FinSet as set
use Rattle.ci_area.specs.private.Tried.{IsFirstUntried}
use Rattle.ci_area.proofs.GreedyLaws.{first_instead}
use Rattle.ci_area.proofs.greedy.first_with.Goals as goal

pub returns-then-gains_more : goal.returns-then-gains_more
returns-then-gains_more c =
    first_instead c.args.pieces.now (set.contains c.args.tried.now) c.args.number
    (λ was. true≢false (sym was ∙ sym c.has.ensures.value ∙ c.if-has.false)) c.in-Some.other
    (subst (IsFirstUntried c.args.pieces.now (set.contains c.args.tried.now) c.args.number) c.in-Some.is c.requires.first)
    (λ k below. c.requires.pieces.gain_least k (omega (arith, below, c.requires.number)))
    (c.gains_more.ensures.0 c.if-gains_more.true)
