use Rattle.std.proofs.Common.{◌↔◌, ℕ, ◌+◌, Bool, ◌||◌, IsTrue, length, sym, ap, ◌∙◌, arith, subst}
use Rattle.std.specs.FinSet as set
use Rattle.ci_cut.specs.Representation.{row_at, HasReaderOutside}
use Rattle.ci_cut.proofs.NodeLaws.{node_there}
use Rattle.ci_cut.proofs.OneMore.{bool_byte-is, bool_byte-le}
use Rattle.ci_cut.proofs.Represented.{outputs-few, same_taken}
use Rattle.ci_cut.proofs.Decisions as more
use Rattle.ci_cut.proofs.prefix.PrefixTerms.outputs_with.Goals as goal

pub overflow_add-result : goal.overflow_add-result
overflow_add-result c =
    let here = c.requires.next in
    omega (
      arith,
      outputs-few c.args.graph.now here.0 c.args.self.now here.1 here.2,
      c.from.ensures,
      bool_byte-le (c.index-nodes-node.result.live || c.is_read_outside.result),
    )

pub returns : goal.returns
returns c prefix delays represents next =
    let graph = c.args.graph.now in
    let node = c.args.node in
    let below = more.node_below graph prefix node next in
    let read_node = node_there graph _ node _ c.nodes.ensures.value (omega (arith, below, ap length c.nodes.ensures.value)) c.index-nodes-node.is in
    (λ i. represents.outputs_are i + (c.from.ensures ∙ bool_byte-is (c.index-nodes-node.result.live || c.is_read_outside.result)) i)
    ∙ sym (more.outputs_in graph prefix node next represents.kept _ (λ k. c.requires.rows.readers node k below) c.is_read_outside.result _
    (subst (λ (cut : ℕ → Bool). IsTrue c.is_read_outside.result ↔ HasReaderOutside (set.contains (row_at c.args.rows.now.readers node)) cut)
    (same_taken graph prefix c.args.self.now delays represents) c.is_read_outside.ensures)
    (ap (λ n. n.live || c.is_read_outside.result) (sym read_node)))
