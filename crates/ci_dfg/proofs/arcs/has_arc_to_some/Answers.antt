use Rattle.std.proofs.Common.{◌≡◌, ◌≤◌, false, sym, ◌∙◌, arith}
use borrow.Author.Count.{below_more}
use Rattle.ci_dfg.specs.BlockGraph.{has_own_arc}
use Rattle.ci_dfg.proofs.BundleEnds.{some_found, none_found}
use Rattle.ci_dfg.proofs.arcs.has_arc_to_some.Goals as goal

pub loop-l-preserved : goal.loop-l-preserved
loop-l-preserved c n above below =
    below_more (λ n. c.args.k ≤ n → has_own_arc c.args.insns.now n c.args.i ≡ false) c.loop-l.l
    (λ n lower from. c.loop-l.invariant n from lower)
    (λ _. sym c.has_own_arc.ensures ∙ c.if-has_own_arc.false) n below above

pub returns-then-has_own_arc : goal.returns-then-has_own_arc
returns-then-has_own_arc c =
    sym (some_found c.args.k c.args.last c.loop-l.l (λ l. has_own_arc c.args.insns.now l c.args.i) (omega arith) (omega arith)
    (sym c.has_own_arc.ensures ∙ c.if-has_own_arc.true))

pub returns : goal.returns
returns c =
    sym (none_found c.args.k c.args.last (λ l. has_own_arc c.args.insns.now l c.args.i) (λ n above below. c.loop-l.invariant n above (omega arith)))
