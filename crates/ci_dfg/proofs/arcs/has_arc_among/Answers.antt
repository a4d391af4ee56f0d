use Rattle.std.proofs.Common.{◌≡◌, ◌≤◌, false, sym, ◌∙◌, arith}
use borrow.Author.Count.{below_more}
use Rattle.ci_dfg.specs.BlockGraph.{some_between, has_own_arc}
use Rattle.ci_dfg.proofs.BundleEnds.{some_found, none_found}
use Rattle.ci_dfg.proofs.arcs.has_arc_among.Goals as goal

pub loop-i-preserved : goal.loop-i-preserved
loop-i-preserved c n above below =
    below_more (λ n. c.args.first ≤ n → some_between c.args.k c.args.last (λ l. has_own_arc c.args.insns.now l n) ≡ false) c.loop-i.i
    (λ n lower from. c.loop-i.invariant n from lower)
    (λ _. sym c.has_arc_to_some.ensures ∙ c.if-has_arc_to_some.false) n below above

pub returns-then-has_arc_to_some : goal.returns-then-has_arc_to_some
returns-then-has_arc_to_some c =
    sym (some_found c.args.first c.args.j c.loop-i.i (λ i. some_between c.args.k c.args.last (λ l. has_own_arc c.args.insns.now l i))
    (omega arith) (omega arith) (sym c.has_arc_to_some.ensures ∙ c.if-has_arc_to_some.true))

pub returns : goal.returns
returns c =
    sym (none_found c.args.first c.args.j (λ i. some_between c.args.k c.args.last (λ l. has_own_arc c.args.insns.now l i))
    (λ n above below. c.loop-i.invariant n above (omega arith)))
