use Rattle.std.proofs.Common.{ℕ, ◌<◌, length, refl, sym, ◌∙◌, true≢false, arith}
use borrow.Author.Count.{below_more}
use Rattle.ci_dfg.specs.Bundles.{IsBundledAt}
use Rattle.ci_dfg.proofs.bundled.are_bundled.Goals as goal

pub loop-k-preserved : goal.loop-k-preserved
loop-k-preserved c =
    below_more (IsBundledAt c.args.insns.now) c.loop-k.k c.loop-k.invariant
    (c.is_bundled_at.ensures.0 c.if-not-is_bundled_at.false)

pub returns-then-not-is_bundled_at : goal.returns-then-not-is_bundled_at
returns-then-not-is_bundled_at c = (
  λ yes. absurd (true≢false (sym yes)),
  λ bundled.
      let k = c.loop-k.k in
      let here = c.loop-k-test.true in
      let is = c.is_bundled_at.ensures.1 (bundled.put k here, bundled.first k here, bundled.second k here) in
      absurd (true≢false (sym is ∙ c.if-not-is_bundled_at.true)),
)

pub returns : goal.returns
returns c =
    let insns = c.args.insns.now in
    let whole : (k : ℕ) → k < length insns → IsBundledAt insns k = λ k below. c.loop-k.invariant k (omega arith) in
    (λ yes. record { put = λ k below. (whole k below).0; first = λ k below. (whole k below).1; second = λ k below. (whole k below).2 }, λ bundled. refl)
