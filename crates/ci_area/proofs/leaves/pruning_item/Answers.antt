use Rattle.std.proofs.Common.{◌≡◌, ℕ, ◌<◌, List, [], slice_index_or, sym, ◌∙◌, subst, inl, inr, arith, length, true≢false}
use Rattle.std.proofs.lemmas.Bool.{cases_eq}
use Rattle.std.specs.FinSet as set
use Rattle.ci_area.specs.declared.piece.Piece.{Piece}
use Rattle.ci_area.specs.declared.decided.Decided.{Decided}
use Rattle.ci_area.specs.declared.rates.Rates.{Rates}
use Rattle.ci_area.specs.AreaPrefixes.{Prefix}
use Rattle.ci_area.specs.AreaRules.{GainsTooLittle}
use Rattle.ci_area.specs.Pieces.{area_at, gain_at}
use Rattle.ci_area.specs.Representation.{Represents}
use Rattle.ci_area.specs.private.Beyond.{beyond_below, AreRates}
use Rattle.ci_area.proofs.AreaSearchLaws.{none_prunes}
use Rattle.ci_area.proofs.PieceSums.{decided_fits, area_fits, gain_fits}
use Rattle.ci_area.proofs.leaves.pruning_item.Goals as goal
use Rattle.ci_area.proofs.leaves.pruning_item.Goals.{else-piece-ne0-via-then-piece-ne0+else-gains_too_little-2, else-piece-ne0-via-else-piece-ne0}

-- what the table has at a prefix
module _ (pieces : List Piece) (rates : Rates) (are : AreRates pieces rates) (prefix : Prefix) (decided : Decided)
    (is : Represents pieces prefix decided) where
  unpriced_here : slice_index_or rates.unpriced decided.left 0 ≡ beyond_below pieces 0 1 decided.left
  unpriced_here = are.unpriced.told decided.left (omega (arith, is.is_left))

  priced_here : (k : ℕ) → k < length pieces → slice_index_or (slice_index_or rates.by_piece k []) decided.left 0
      ≡ beyond_below pieces (gain_at pieces k) (area_at pieces k) decided.left
  priced_here k below = (are.told k below).told decided.left (omega (arith, is.is_left))

pub gains_too_little-requires-clause-few : goal.gains_too_little-requires-clause-few
gains_too_little-requires-clause-few c =
    let some = c.requires.represents in
    decided_fits c.args.pieces.now some.0 c.args.decided.now some.1 0 1 (slice_index_or c.args.rates.now.unpriced c.args.decided.now.left 0)
    (unpriced_here c.args.pieces.now c.args.rates.now c.requires.rates some.0 c.args.decided.now some.1) c.requires.pieces (omega arith)

pub gains_too_little-requires-then-piece-ne0-clause-rate : goal.gains_too_little-requires-then-piece-ne0-clause-rate
gains_too_little-requires-then-piece-ne0-clause-rate c = (
  omega (arith, c.if-piece-ne0.true),
  gain_fits c.args.pieces.now c.requires.pieces c.loop-k.k c.loop-k-test.true,
  area_fits c.args.pieces.now c.requires.pieces c.loop-k.k c.loop-k-test.true,
)

pub gains_too_little-requires-then-piece-ne0-clause-few : goal.gains_too_little-requires-then-piece-ne0-clause-few
gains_too_little-requires-then-piece-ne0-clause-few c =
    let some = c.requires.represents in
    let k = c.loop-k.k in
    decided_fits c.args.pieces.now some.0 c.args.decided.now some.1 (gain_at c.args.pieces.now k) (area_at c.args.pieces.now k)
    (slice_index_or (slice_index_or c.args.rates.now.by_piece k []) c.args.decided.now.left 0)
    (priced_here c.args.pieces.now c.args.rates.now c.requires.rates some.0 c.args.decided.now some.1 k c.loop-k-test.true)
    c.requires.pieces (area_fits c.args.pieces.now c.requires.pieces k c.loop-k-test.true)

pub loop-k-preserved : goal.loop-k-preserved
loop-k-preserved c prefix represents j below =
    let pieces = c.args.pieces.now in
    let k = c.loop-k.k in
    let here : GainsTooLittle pieces c.args.limit (set.contains c.args.best.now.set) prefix (gain_at pieces k) (area_at pieces k) → ⊥ =
    elim c.else-piece-ne0.branch as (λ _. GainsTooLittle pieces c.args.limit (set.contains c.args.best.now.set) prefix (gain_at pieces k) (area_at pieces k) → ⊥) [
      | else-piece-ne0-via-then-piece-ne0+else-gains_too_little-2 w ↦ λ is.
          true≢false (sym ((w.gains_too_little-then-piece-ne0.ensures pieces prefix represents c.requires.measured
          (priced_here pieces c.args.rates.now c.requires.rates prefix c.args.decided.now represents k c.loop-k-test.true)).1 is)
          ∙ w.if-gains_too_little-2.false)
      | else-piece-ne0-via-else-piece-ne0 w ↦ λ is. omega (arith, is.some, w.if-piece-ne0.false)
    ] in
    elim (cases_eq j k) [
      | inl same ↦ subst (λ (n : ℕ). ¬ GainsTooLittle pieces c.args.limit (set.contains c.args.best.now.set) prefix
          (gain_at pieces n) (area_at pieces n)) (sym same) here
      | inr other ↦ c.loop-k.invariant prefix represents j (omega arith)
    ]

pub returns : goal.returns
returns c prefix represents =
    none_prunes c.args.pieces.now c.args.limit (set.contains c.args.best.now.set) prefix
    (λ more. omega (arith, more, represents.area_is, c.if-decided-limit.false))
    (λ is. true≢false (sym ((c.gains_too_little.ensures c.args.pieces.now prefix represents c.requires.measured
    (unpriced_here c.args.pieces.now c.args.rates.now c.requires.rates prefix c.args.decided.now represents)).1 is) ∙ c.if-gains_too_little.false))
    (λ k below. c.loop-k.invariant prefix represents k (omega (arith, below, c.loop-k-test.false)))
