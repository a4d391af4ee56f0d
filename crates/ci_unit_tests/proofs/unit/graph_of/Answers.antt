use Rattle.std.proofs.Common.{◌≡◌, ℕ, ◌+◌, ◌<◌, IsTrue, length, sym, ap, ◌∙◌, subst, arith}
use Rattle.std.specs.FinSet as set
use Rattle.std.proofs.lemmas.List.{get_or_read, length-append}
use Rattle.std.specs.List.{list_any}
use Rattle.ci_isa.specs.declared.instruction.Insn.TheVariants.{Ebreak}
use Rattle.ci_isa.specs.Effects.{operands, without_x0, may_join}
use Rattle.ci_isa.specs.Sequences.{nth_insn}
use Rattle.ci_cut.specs.declared.graph.Source.TheVariants.{Entry}
use Rattle.ci_cut.specs.FlowGraph.{is_source}
use Rattle.ci_cut.specs.GraphRules.{IsFlowGraph}
use Rattle.ci_cut.proofs.SetLaws.{below_empty}
use Rattle.ci_cut.proofs.GraphLaws.{flow_graph_none, flow_graph_push}
use Rattle.ci_unit.specs.Uses.{AreRegisters}
use Rattle.ci_unit_tests.proofs.NodeLaws.{each_more, registers_of}
use Rattle.ci_unit_tests.proofs.unit.graph_of.Goals as goal

pub loop-k-init : goal.loop-k-init
loop-k-init g c = record {
  count = ap length c.new-nodes.ensures.items;
  kept =
      subst (λ nodes. IsFlowGraph (record { nodes = nodes; read = 1; pad = 0 })) (sym c.new-nodes.ensures.items)
      (flow_graph_none 1 0 (omega arith));
  eligible = λ j below. absurd (omega arith);
  registers = λ j below. absurd (omega arith);
  sources = λ j below. absurd (omega arith);
}

pub loop-k-preserved : goal.loop-k-preserved
loop-k-preserved g c =
    let insns = c.args.insns.now in
    let nodes = c.loop-k.nodes.items in
    let k = c.loop-k.k in
    let before = c.loop-k.invariant in
    let pushed = c.in_ok-push.ensures.items in
    let insn = get_or_read insns k c.index-insns-k.result (omega arith) c.index-insns-k.is Ebreak in
    record {
      count = ap length pushed ∙ length-append nodes _ ∙ ap (λ n. n + 1) before.count;
      kept =
          subst (λ list. IsFlowGraph (record { nodes = list; read = 1; pad = 0 })) (sym pushed)
          (flow_graph_push (record { nodes = nodes; read = 1; pad = 0 }) _ before.kept (omega (arith, before.count))
          record {
            arcs =
                λ j has.
                let never = subst (λ row. IsTrue (set.contains row j)) c.empty.ensures has in
                omega (arith, before.count, below_empty k j never);
            made = λ j has. omega (arith, before.count, c.in_ok-sources.ensures.made j has);
            latency_least = λ _. omega arith;
            latency_most = omega arith;
            delay_most = omega arith;
            pad_least = λ _. omega arith;
          });
      eligible =
          each_more (λ j node. node.eligible ≡ may_join (nth_insn insns j)) nodes _ _ k pushed before.count
          before.eligible (c.is_eligible.ensures ∙ ap may_join insn);
      registers =
          each_more (λ j node. (r : ℕ) → IsTrue (list_any (is_source (Entry r)) node.sources) → r < 32) nodes _ _ k
          pushed before.count before.registers c.in_ok-sources.ensures.registers;
      sources =
          each_more (λ j node. length node.sources ≡ length (without_x0 (operands (nth_insn insns j)))) nodes _ _ k
          pushed before.count before.sources
          (let same = ap (λ i. length (without_x0 (operands i))) insn in
          omega (arith, ap length c.in_ok-sources.ensures.value, c.kept_operands.ensures, same));
    }

pub returns-clause-registers : goal.returns-clause-registers
returns-clause-registers g c =
    subst AreRegisters (sym c.new.ensures)
    (registers_of (record { nodes = c.loop-k.nodes.items; read = 1; pad = 0 })
    (λ j below. c.loop-k.invariant.registers j (omega (arith, below, c.loop-k.invariant.count))))
