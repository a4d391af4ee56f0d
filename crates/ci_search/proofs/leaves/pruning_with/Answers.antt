use Rattle.std.proofs.Common.{◌≡◌, ℕ, suc, ◌<◌, true, length, Option, None, Some, is_some, IsTrue, true≢false, sym, arith}
use Rattle.ci_cut.specs.FlowGraph.{FlowGraph}
use Rattle.ci_cut.specs.Prefixes.{Prefix, eligible_nodes, is_next}
use Rattle.ci_cut.specs.Representation.{IsLastBelow}
use Rattle.ci_cut.proofs.PrefixLaws.{next_parts, eligible_below}
use Rattle.ci_search.proofs.leaves.pruning_with.Goals as goal

-- behind a decision of a node with an eligible one below it a node is undecided
undecided_below : (graph : FlowGraph) (prefix : Prefix) (node : ℕ) → IsTrue (is_next graph prefix node) → (last : Option ℕ)
    → IsLastBelow graph node last → is_some last ≡ true → suc (length prefix) < eligible_nodes graph
undecided_below graph prefix node next None none some = absurd (true≢false (sym some))
undecided_below graph prefix node next (Some k) below some = omega (arith, below.none_between, (next_parts graph prefix node next).1)

pub returns-then-is_right_with : goal.returns-then-is_right_with
returns-then-is_right_with c best prefix delays represents next =
    let graph = c.args.graph.now in
    let right = c.is_right_with.ensures best prefix delays represents next c.if-is_right_with.true in
    let within = eligible_below graph c.args.node (next_parts graph prefix c.args.node next).0 in (
      tt,
      right.1,
      undecided_below graph prefix c.args.node next _ (c.requires.rows.last_below c.args.node (omega (arith, within))) c.if-is_none.ensures,
    )

pub returns-then-is_right_with-2 : goal.returns-then-is_right_with-2
returns-then-is_right_with-2 c best prefix delays represents next =
    let graph = c.args.graph.now in
    let right = c.is_right_with-2.ensures best prefix delays represents next c.if-is_right_with-2.true in
    let within = eligible_below graph c.args.node (next_parts graph prefix c.args.node next).0 in (
      tt,
      right.1,
      undecided_below graph prefix c.args.node next _ (c.requires.rows.last_below c.args.node (omega (arith, within))) c.if-is_none.ensures,
    )
