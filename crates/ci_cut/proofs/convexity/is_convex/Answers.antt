use Rattle.std.proofs.Common.{IsTrue, ap, sym, ◌∙◌, inl, inr}
use Rattle.std.specs.FinSet as set
use Rattle.std.proofs.lemmas.Bool.Decides.{not_from_Decides}
use Rattle.ci_cut.proofs.NodeLaws.{node_there}
use Rattle.ci_cut.proofs.WalkLaws.{searched_none, violated, searched_member, searched_passed, searched_not_reached}
use Rattle.ci_cut.proofs.convexity.is_convex.Goals as goal
use Rattle.ci_cut.proofs.convexity.is_convex.Goals.{then-has+else-meets, else-has+then-meets-2}
use Rattle.ci_cut.proofs.convexity.is_convex.Goals.{then-meets-2-via-then-meets-2}
use Rattle.ci_cut.proofs.convexity.is_convex.Goals.{then-meets-2-via-else-meets-2+then-meets-3}
use Rattle.ci_cut.proofs.convexity.is_convex.Goals.{else-has+else-meets-2+else-meets-3}

pub loop-k-init : goal.loop-k-init
loop-k-init c = rw c.empty-passed.ensures (searched_none _ _)

pub returns-then-meets : goal.returns-then-meets
returns-then-meets c =
    let here = ap (λ n. n.before) (node_there c.args.graph.now _ c.loop-k.k _ c.nodes-node-items.ensures.value c.loop-k-test.true c.node-item.is) in
    let member = sym c.has.ensures.value ∙ c.if-has.true in
    let arc_in = c.meets.ensures.value.0 c.if-meets.true in
    (λ e. cc, λ convex. absurd (violated _ _ _ _ _ c.nodes-node-items.ensures.kept here c.loop-k.invariant member arc_in convex))

pub loop-k-preserved : goal.loop-k-preserved
loop-k-preserved c =
    let here = ap (λ n. n.before) (node_there c.args.graph.now _ c.loop-k.k _ c.nodes-node-items.ensures.value c.loop-k-test.true c.node-item.is) in
    let flows = c.nodes-node-items.ensures.kept in
    let so_far = c.loop-k.invariant in
    elim c.if-has.branch [
      | then-has+else-meets w ↦
          rw w.passed-is (searched_member _ _ _ _ _ flows here so_far (sym c.has.ensures.value ∙ w.if-has.true)
          (not_from_Decides _ w.meets.ensures.value w.if-meets.false))
      | else-has+then-meets-2 w ↦
          let outside : ¬ (IsTrue (set.contains c.args.cut.now c.loop-k.k)) = λ member. let value = c.has.ensures.value in let no = w.if-has.false in cc in
          rw (w.passed-is, w.insert.ensures) (searched_passed _ _ _ _ _ flows here so_far outside (elim w.then-meets-2.branch [
            | then-meets-2-via-then-meets-2 w' ↦ inl (w.meets-else-has.ensures.value.0 w'.if-meets-2.true)
            | then-meets-2-via-else-meets-2+then-meets-3 w' ↦ inr (w'.meets-else-meets-2.ensures.value.0 w'.if-meets-3.true)
          ]))
      | else-has+else-meets-2+else-meets-3 w ↦
          let outside : ¬ (IsTrue (set.contains c.args.cut.now c.loop-k.k)) = λ member. let value = c.has.ensures.value in let no = w.if-has.false in cc in
          rw w.passed-is (searched_not_reached _ _ _ _ _ flows here so_far outside
          (not_from_Decides _ w.meets-else-has.ensures.value w.if-meets-2.false)
          (not_from_Decides _ w.meets-else-meets-2.ensures.value w.if-meets-3.false))
    ]
