use Rattle.std.proofs.Common.{◌≡◌, false, refl, sym, ◌∙◌, below_more}
use Rattle.ci_rename.specs.private.ValueTests as tests
use Rattle.ci_rename.proofs.ValueTests.{tied_by}
use Rattle.ci_rename.proofs.renaming.is_tied.Goals as goal

pub returns-then-ties : goal.returns-then-ties
returns-then-ties c = (
  λ _. tied_by c.args.insns.now c.args.i c.args.register c.loop-k.k c.loop-k-test.true (sym c.ties.ensures ∙ c.if-ties.true),
  λ _. refl,
)

pub loop-k-preserved : goal.loop-k-preserved
loop-k-preserved c j below =
    below_more (λ j. tests.ties c.args.insns.now c.args.i c.args.register j ≡ false) c.loop-k.k c.loop-k.invariant
    (sym c.ties.ensures ∙ c.if-ties.false) j below
