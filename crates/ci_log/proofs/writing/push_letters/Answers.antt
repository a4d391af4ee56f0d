use Rattle.std.proofs.Common.{◌++◌, ap, ◌∙◌, arith}
use Rattle.std.proofs.lemmas.List.{take_all}
use Rattle.ci_log.specs.Trees.{letters}
use Rattle.ci_log.proofs.writing.push_letters.Goals as goal

pub returns : goal.returns
returns c =
    c.loop-item.invariant
    ∙ (ap (λ v. c.loop-rest.text.items ++ letters v)
    (take_all c.loop-item.item-index c.loop-rest.rest.now (omega (arith, c.loop-item-test.false)))
    ∙ c.loop-rest.invariant)
