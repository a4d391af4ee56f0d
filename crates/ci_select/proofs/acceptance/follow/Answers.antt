use Rattle.ci_select.specs.WrongPlaces.{no_end}
use Rattle.ci_select.proofs.acceptance.follow.Goals as goal

pub returns-in-End-clause-judged : goal.returns-in-End-clause-judged
returns-in-End-clause-judged c = λ history follows.
    (rw c.nowhere.ensures (no_end (c.in-End.ensures history follows) (λ same. absurd (cc))), follows)
