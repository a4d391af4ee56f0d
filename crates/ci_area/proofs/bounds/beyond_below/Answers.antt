use Rattle.ci_word.specs.Numbers.{sum_below}
use Rattle.std.proofs.Common.{◌≡◌, ℕ, suc, ◌+◌, ◌*◌, ◌-◌, true, sym, ap, ◌∙◌, arith}
use Rattle.ci_word.proofs.NumberLaws.{sum_below-zero, sum_below-suc}
use Rattle.ci_area.specs.Pieces.{area_at, gain_at}
use Rattle.ci_area.proofs.AreaLaws.{beyond_fits}
use Rattle.ci_area.proofs.bounds.beyond_below.Goals as goal

pub loop-k-init : goal.loop-k-init
loop-k-init c = sym (sum_below-zero (λ _. true) (λ k. c.args.den * gain_at c.args.pieces.now k - c.args.num * area_at c.args.pieces.now k))

pub overflow_add-beyond : goal.overflow_add-beyond
overflow_add-beyond c =
    omega (
      arith,
      c.loop-k.invariant,
      c.beyond_price-beyond.ensures,
      beyond_fits c.args.num c.args.den (gain_at c.args.pieces.now) (area_at c.args.pieces.now) c.loop-k.k _
          (omega (arith, c.loop-k-test.true, c.requires.within)) c.requires.den c.requires.pieces.gain_most,
    )

pub loop-k-preserved : goal.loop-k-preserved
loop-k-preserved c =
    let step = λ (k : ℕ). c.args.den * gain_at c.args.pieces.now k - c.args.num * area_at c.args.pieces.now k in
    let before : c.loop-k.beyond ≡ sum_below c.loop-k.k (λ _. true) step = c.loop-k.invariant in
    let here : c.beyond_price-beyond.result ≡ step c.loop-k.k = c.beyond_price-beyond.ensures in
    let more = sum_below-suc c.loop-k.k (λ _. true) step in
    let at_next : sum_below (c.loop-k.k + 1) (λ _. true) step ≡ sum_below (suc c.loop-k.k) (λ _. true) step = ap (λ (n : ℕ). sum_below n (λ _. true) step) (omega arith) in
    (λ i. before i + here i) ∙ sym more ∙ sym at_next
