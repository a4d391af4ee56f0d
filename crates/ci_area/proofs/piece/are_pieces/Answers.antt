use Rattle.std.proofs.Common.{◌≤◌, ℕ, true, refl, sym, inl, inr, subst, arith}
use Rattle.std.proofs.lemmas.Bool.{cases_eq}
use Rattle.ci_word.proofs.NumberLaws.{sum_below-zero}
use Rattle.ci_cut.proofs.MemberSums.{sum_below-member}
use Rattle.ci_area.specs.Pieces.{area_at, gain_at}
use Rattle.ci_area.proofs.piece.are_pieces.Goals as goal

pub loop-k-init : goal.loop-k-init
loop-k-init c = (
  sym (sum_below-zero (λ _. true) (area_at c.args.pieces.now)),
  sym (sum_below-zero (λ _. true) (gain_at c.args.pieces.now)),
  omega arith,
  omega arith,
  λ j below. absurd (omega (arith, below)),
)

pub loop-k-preserved : goal.loop-k-preserved
loop-k-preserved c =
    let before = c.loop-k.invariant in
    let k = c.loop-k.k in
    let area = sum_below-member k (λ _. true) (area_at c.args.pieces.now) refl in
    let gain = sum_below-member k (λ _. true) (gain_at c.args.pieces.now) refl in (
      omega (arith, before.0),
      omega (arith, before.1),
      omega (arith, before.2),
      omega (arith, before.3),
      λ j below. elim (cases_eq j k) [
        | inl same ↦ subst (λ (n : ℕ). 1 ≤ gain_at c.args.pieces.now n) (sym same) (omega (arith, c.if-piece-eq0.false))
        | inr other ↦ before.4 j (omega arith)
      ],
    )
