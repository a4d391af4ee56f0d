-- The nodes of a block make a graph.
use Rattle.std.specs.Prelude.{◌≡◌, ℕ, ◌+◌, ◌<◌, ◌≤◌, true, List, [], ◌∷◌, ◌++◌, length, map, IsTrue, nat_lt, ◌&&◌}
use Rattle.std.specs.List.{list_any}
use Rattle.std.specs.Ordering.{nat_cmp}
use Rattle.std.specs.FinSet as set
use Rattle.std.proofs.Common.{sym, ap, ◌∙◌, subst, inl, inr, add-one, true≢false, zero-le}
use Rattle.std.proofs.lemmas.Bool.{cases_lt, and_parts, ltb-true}
use Rattle.std.proofs.lemmas.List.{length-map, get_or-map, map-append, get_or_past}
use Rattle.ci_word.specs.Numbers.{numbers_below}
use Rattle.ci_word.proofs.NumberLaws.{contains-set_below, numbers_below-zero, numbers_below-suc, length-all_below, get_or-all_below}
use Rattle.ci_isa.specs.declared.instruction.Insn.{Insn}
use Rattle.ci_isa.specs.Effects.{class_of}
use Rattle.ci_lat.specs.Latencies.{Latencies}
use Rattle.ci_lat.specs.TableRules.{IsLatencyTable}
use Rattle.ci_cut.specs.declared.graph.Source.TheVariants.{Made}
use Rattle.ci_cut.specs.declared.graph.Node.{Node}
use Rattle.ci_cut.specs.FlowGraph.{HasArc, node_at, no_node, is_source, reads}
use Rattle.ci_cut.specs.GraphRules.{IsFlowGraph}
use Rattle.ci_isa.specs.Sequences.{nth_insn}
use Rattle.ci_dfg.specs.BlockGraph.{has_arc_into, node_of, graph_of}
use Rattle.ci_dfg.proofs.KindLaws as kinds
use Rattle.ci_dfg.proofs.SourceLaws.{sources_rise}

module _ (insns : List Insn) (live_out : set.FinSet nat_cmp) (table : Latencies) where
  -- no instruction, no node
  pub nodes_none : map (node_of insns live_out table) (numbers_below 0 (λ _. true)) ≡ []
  nodes_none = ap (map (node_of insns live_out table)) (numbers_below-zero (λ _. true))

  -- one instruction more, one node more
  pub nodes_more : (k : ℕ) → map (node_of insns live_out table) (numbers_below (k + 1) (λ _. true))
      ≡ map (node_of insns live_out table) (numbers_below k (λ _. true)) ++ node_of insns live_out table k ∷ []
  nodes_more k = rw (add-one, numbers_below-suc) (map-append (node_of insns live_out table) (numbers_below k (λ _. true)) (k ∷ []))

  -- a node for each instruction
  pub length-nodes : length (graph_of insns live_out table).nodes ≡ length insns
  length-nodes = length-map (numbers_below (length insns) (λ _. true)) (node_of insns live_out table) ∙ length-all_below (length insns)

  -- at an instruction's number stands its node
  pub node_at_within : (k : ℕ) → k < length insns → node_at (graph_of insns live_out table) k ≡ node_of insns live_out table k
  node_at_within k there =
      get_or-map (node_of insns live_out table) (numbers_below (length insns) (λ _. true)) k k no_node (rw length-all_below there)
      ∙ ap (node_of insns live_out table) (get_or-all_below (length insns) k k there)

  -- and its arcs are those of the definition
  pub contains-before : (k j : ℕ) → k < length insns
      → set.contains (node_at (graph_of insns live_out table) k).before j ≡ (nat_lt j k && has_arc_into insns k j)
  contains-before k j there = ap (λ node. set.contains node.before j) (node_at_within k there) ∙ contains-set_below k (has_arc_into insns k) j

  -- past the last instruction stands none
  pub node_at_past : (k : ℕ) → length insns ≤ k → node_at (graph_of insns live_out table) k ≡ no_node
  node_at_past k past = get_or_past (graph_of insns live_out table).nodes k no_node (rw length-nodes past)

  -- what holds of each instruction's node, and of none, holds at every number
  each_node : (P : ℕ → Node → Type 0) → ((k : ℕ) → P k (node_of insns live_out table k)) → ((k : ℕ) → P k no_node)
      → (k : ℕ) → P k (node_at (graph_of insns live_out table) k)
  each_node P within past k =
      elim (cases_lt k (length insns)) [
        | inl there ↦ subst (P k) (sym (node_at_within k there)) (within k)
        | inr beyond ↦ subst (P k) (sym (node_at_past k beyond)) (past k)
      ]

  -- arcs and sources come from earlier nodes
  pub arcs_rise : (j k : ℕ) → HasArc (graph_of insns live_out table) j k → j < k
  arcs_rise j k = each_node
      (λ at node. IsTrue (set.contains node.before j) → j < at)
      (λ at arc. ltb-true j at (and_parts (nat_lt j at) (has_arc_into insns at j) (sym (contains-set_below at (has_arc_into insns at) j) ∙ arc)).0)
      (λ at arc. absurd (true≢false (sym arc ∙ set.contains-empty nat_cmp j)))
      k

  pub made_rise : (j k : ℕ) → IsTrue (reads (graph_of insns live_out table) k (Made j)) → j < k
  made_rise j k = each_node
      (λ at node. IsTrue (list_any (is_source (Made j)) node.sources) → j < at)
      (λ at found. sources_rise insns at j found)
      (λ at found. absurd (true≢false (sym found)))
      k

  -- the graph of a block keeps what a graph keeps
  pub is_flow_graph : length insns ≤ 256 → IsLatencyTable table → IsFlowGraph (graph_of insns live_out table)
  is_flow_graph few kept = record {
    few = rw length-nodes few;
    arcs_rise = arcs_rise;
    sources_rise = made_rise;
    latency_least = each_node (λ at node. IsTrue node.eligible → 1 ≤ node.latency)
        (λ at joins. kinds.latency_least table kept (class_of (nth_insn insns at)) (kinds.may_join_delayed (nth_insn insns at) joins))
        (λ at eligible. absurd (true≢false (sym eligible)));
    latency_most = each_node (λ at node. node.latency ≤ 1000) (λ at. kinds.latency_most table kept (class_of (nth_insn insns at))) (λ at. zero-le);
    delay_most = each_node (λ at node. node.delay ≤ 100000) (λ at. kinds.delay_most table kept (class_of (nth_insn insns at))) (λ at. zero-le);
    pad_least = each_node (λ at node. IsTrue node.eligible → table.pad ≤ node.latency)
        (λ at joins. kinds.pad_least table kept (class_of (nth_insn insns at)) (kinds.may_join_delayed (nth_insn insns at) joins))
        (λ at eligible. absurd (true≢false (sym eligible)));
    pad_read = kept.pad_below_read;
  }

pub ruleset so_far = (nodes_none, nodes_more)
