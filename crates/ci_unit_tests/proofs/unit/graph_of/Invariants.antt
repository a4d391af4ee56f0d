use Rattle.std.proofs.Common.{◌≡◌, ℕ, ◌<◌, IsTrue, length}
use Rattle.std.specs.List.{list_any}
use Rattle.ci_isa.specs.Effects.{operands, without_x0, may_join}
use Rattle.ci_isa.specs.Sequences.{nth_insn}
use Rattle.ci_cut.specs.declared.graph.Source.TheVariants.{Entry}
use Rattle.ci_cut.specs.FlowGraph.{node_in, is_source}
use Rattle.ci_cut.specs.GraphRules.{IsFlowGraph}
use Rattle.ci_unit_tests.proofs.unit.graph_of.Given as goal

abbrev pub invariant-loop-k : goal.invariant-loop-k
invariant-loop-k g l = record {
  count : length l.nodes.items ≡ l.k;
  kept : IsFlowGraph (record { nodes = l.nodes.items; read = 1; pad = 0 });
  eligible : (j : ℕ) → j < l.k → (node_in l.nodes.items j).eligible ≡ may_join (nth_insn l.insns j);
  registers :
      (j : ℕ) → j < l.k → (r : ℕ)
      → IsTrue (list_any (is_source (Entry r)) (node_in l.nodes.items j).sources) → r < 32;
  sources :
      (j : ℕ) → j < l.k
      → length (node_in l.nodes.items j).sources ≡ length (without_x0 (operands (nth_insn l.insns j)));
}
