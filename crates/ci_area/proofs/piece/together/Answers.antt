use Rattle.std.proofs.Common.{ℕ, Bool, length, sym, ◌∙◌, arith}
use Rattle.std.specs.FinSet as set
use Rattle.ci_word.proofs.NumberLaws.{sum_below-zero}
use Rattle.ci_cut.proofs.MemberSums.{sum_below-member, sum_below-outside}
use Rattle.ci_area.specs.Pieces.{area_at, gain_at}
use Rattle.ci_area.proofs.PieceSums.{sum_below-part}
use Rattle.ci_area.proofs.piece.together.Goals as goal
use Rattle.ci_area.proofs.piece.together.Goals.{then-has, else-has}

pub loop-k-init : goal.loop-k-init
loop-k-init c = (sym (sum_below-zero _ _), sym (sum_below-zero _ _))

pub overflow_add-area : goal.overflow_add-area
overflow_add-area c =
    omega (
      arith,
      c.loop-k.invariant.0,
      sum_below-part c.loop-k.k (length c.args.pieces.now) (set.contains c.args.chosen.now) (area_at c.args.pieces.now) c.loop-k-test.true,
      c.requires.area_most,
    )

pub overflow_add-gain : goal.overflow_add-gain
overflow_add-gain c =
    omega (
      arith,
      c.loop-k.invariant.1,
      sum_below-part c.loop-k.k (length c.args.pieces.now) (set.contains c.args.chosen.now) (gain_at c.args.pieces.now) c.loop-k-test.true,
      c.requires.gain_most,
    )

pub loop-k-preserved : goal.loop-k-preserved
loop-k-preserved c =
    let k = c.loop-k.k in
    let chosen : ℕ → Bool = set.contains c.args.chosen.now in
    let areas : ℕ → ℕ = area_at c.args.pieces.now in
    let gains : ℕ → ℕ = gain_at c.args.pieces.now in
    let before = c.loop-k.invariant in
    elim c.if-has.branch [
      | then-has w ↦
          let member = sym c.has.ensures.value ∙ w.if-has.true in
          let more_area = sum_below-member k chosen areas member in
          let more_gain = sum_below-member k chosen gains member in
          (omega (arith, before.0, w.area-is), omega (arith, before.1, w.gain-is))
      | else-has w ↦
          let outside = sym c.has.ensures.value ∙ w.if-has.false in
          let more_area = sum_below-outside k chosen areas outside in
          let more_gain = sum_below-outside k chosen gains outside in
          (omega (arith, before.0, w.area-is), omega (arith, before.1, w.gain-is))
    ]
