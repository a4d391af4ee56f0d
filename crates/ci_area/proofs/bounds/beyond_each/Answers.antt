use Rattle.std.proofs.Common.{◌≡◌, ℕ, suc, ◌+◌, ◌*◌, ◌-◌, ◌<◌, true, length, length-set, replicate, slice_index_or, refl, sym, ap, ◌∙◌, subst, arith}
use Rattle.ci_word.proofs.NumberLaws.{sum_below-zero, sum_below-suc}
use Rattle.ci_cut.proofs.WholeRows.{written_more}
use Rattle.ci_area.specs.Pieces.{area_at, gain_at}
use Rattle.ci_area.specs.private.Beyond.{beyond_below}
use Rattle.ci_area.proofs.AreaLaws.{beyond_fits}
use Rattle.ci_area.proofs.bounds.beyond_each.Goals as goal

pub loop-k-init : goal.loop-k-init
loop-k-init c = record {
  size = refl;
  told = λ left within.
      let first : left ≡ 0 = omega (arith, within) in
      subst (λ (n : ℕ). slice_index_or (replicate 33 0) n 0 ≡ beyond_below c.args.pieces.now c.args.num c.args.den n) (sym first)
      (sym (sum_below-zero (λ _. true) (λ k. c.args.den * gain_at c.args.pieces.now k - c.args.num * area_at c.args.pieces.now k)));
}

pub overflow_add-beyond : goal.overflow_add-beyond
overflow_add-beyond c =
    omega (
      arith,
      c.loop-k.invariant.told c.loop-k.k (omega arith),
      c.beyond_price.ensures,
      beyond_fits c.args.num c.args.den (gain_at c.args.pieces.now) (area_at c.args.pieces.now) c.loop-k.k (length c.args.pieces.now)
          c.loop-k-test.true c.requires.den c.requires.pieces.gain_most,
    )

pub loop-k-preserved : goal.loop-k-preserved
loop-k-preserved c =
    let k = c.loop-k.k in
    let below : ℕ → ℕ = beyond_below c.args.pieces.now c.args.num c.args.den in
    let step = λ (k : ℕ). c.args.den * gain_at c.args.pieces.now k - c.args.num * area_at c.args.pieces.now k in
    let before : slice_index_or c.loop-k.beyond k 0 ≡ below k = c.loop-k.invariant.told k (omega arith) in
    let here : c.beyond_price.result ≡ step k = c.beyond_price.ensures in
    let more = sum_below-suc k (λ _. true) step in
    let at_next : below (k + 1) ≡ below (suc k) = ap below (omega arith) in
    let new : ℕ = slice_index_or c.loop-k.beyond k 0 + c.beyond_price.result in
    let room : k + 1 < length c.loop-k.beyond = omega (arith, c.loop-k-test.true, c.requires.pieces.few, c.loop-k.invariant.size) in
    record {
      size = length-set c.loop-k.beyond (k + 1) new ∙ c.loop-k.invariant.size;
      told = λ left within.
          written_more (λ (n x : ℕ). x ≡ below n) 0 c.loop-k.beyond (k + 1) new room
          (λ j less. c.loop-k.invariant.told j (omega (arith, less))) ((λ i. before i + here i) ∙ sym more ∙ sym at_next)
          left (omega (arith, within));
    }
