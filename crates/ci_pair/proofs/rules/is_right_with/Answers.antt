use Rattle.std.proofs.Common.{sym, ◌∙◌, arith, true≢false, ltb-true}
use Rattle.std.proofs.lemmas.Bool.{not-true}
use Rattle.ci_pair.proofs.rules.is_right_with.Goals as goal

pub returns-in-O : goal.returns-in-O
returns-in-O c prefix delays represents next more =
    rw c.in-O.is (omega (arith, ltb-true _ _ more, c.from.ensures, c.outputs_with.ensures prefix delays represents next))

pub returns-in-C : goal.returns-in-C
returns-in-C c prefix delays represents next way_back =
    rw c.in-C.is
    (λ convex. true≢false (sym
    ((c.convex_with.ensures c.args.graph.now prefix delays c.requires.rows represents next).1 convex) ∙ not-true _ way_back))
