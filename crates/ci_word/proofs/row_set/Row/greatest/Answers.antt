use Rattle.std.proofs.Common.{◌-◌, refl, arith}
use Rattle.ci_word.proofs.RowLaws.{greatest_in_word, no_number}
use Rattle.ci_word.proofs.row_set.Row.greatest.Goals as goal

pub returns-then-word-ne0 : goal.returns-then-word-ne0
returns-then-word-ne0 c =
    greatest_in_word c.self.inside.words c.args.self.now c.self.view_is c.self.invariant (c.loop-index.index - 1) _ (omega arith)
    (λ k above. c.loop-index.invariant.none k (omega arith)) c.if-word-ne0.true refl

pub returns : goal.returns
returns c = no_number c.self.inside.words c.args.self.now c.self.view_is c.self.invariant (λ k. c.loop-index.invariant.none k (omega arith))
