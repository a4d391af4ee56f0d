use Rattle.std.proofs.Common.{◌≡◌, ◌-◌, ◌*◌, true}
use Rattle.ci_word.specs.Numbers.{sum_below}
use Rattle.ci_area.specs.Pieces.{area_at, gain_at}
use Rattle.ci_area.proofs.bounds.beyond_below.Given as goal

abbrev pub invariant-loop-k : goal.invariant-loop-k
invariant-loop-k l = l.beyond ≡ sum_below l.k (λ _. true) (λ k. l.den * gain_at l.pieces k - l.num * area_at l.pieces k)
