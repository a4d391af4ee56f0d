-- The data-flow graph of a basic block: its nodes are the instructions in order, numbered from 0.
use Rattle.std.specs.Prelude.{ℕ, zero, suc, Bool, true, false, not, ◌&&◌, ◌||◌, ◌==◌, nat_lt, nat_le, List, map, length}
use Rattle.std.specs.Prelude.{Option, Some, None}
use Rattle.std.specs.Ordering.{nat_cmp}
use Rattle.std.specs.List.{list_any}
use Rattle.std.specs.FinSet as set
use Rattle.ci_word.specs.Numbers.{numbers_below, set_below, some_below}
use Rattle.ci_isa.specs.declared.instruction.Insn.{Insn}
use Rattle.ci_isa.specs.Effects.{operands, results, without_x0, reads_register, writes_register, is_access, ends_block}
use Rattle.ci_isa.specs.Effects.{is_unit, is_cread, is_cput, class_of, may_join}
use Rattle.ci_isa.specs.Sequences.{nth_insn, latest_writer}
use Rattle.ci_lat.specs.Latencies.{Latencies, latency_of, delay_of}
use Rattle.ci_cut.specs.declared.graph.Source.{Source}
use Rattle.ci_cut.specs.declared.graph.Source.TheVariants.{Entry, Made}
use Rattle.ci_cut.specs.declared.graph.Node.{Node}
use Rattle.ci_cut.specs.FlowGraph.{FlowGraph, is_source}

-- ---- bundles

-- The second word stands in one bundle with the first, directly before it: it is a unit word behind a `cput`, or a
-- `cread` behind a unit word or behind the `cread` of one.
abbrev pub stay_together : Insn → Insn → Bool
stay_together first second = (is_cput first && is_unit second) || ((is_unit first || is_cread first) && is_cread second)

-- some number from the first to the last passes the test
abbrev pub some_between : ℕ → ℕ → (ℕ → Bool) → Bool
some_between first last p = some_below (suc last) (λ n. nat_le first n && p n)

-- ---- sources

module _ (insns : List Insn) where
  abbrev pub source_from : ℕ → Option ℕ → Source
  source_from register None = Entry register
  source_from register (Some writer) = Made writer

  -- where node k's operand in the register comes from: the latest earlier node that writes it, else the block's entry
  abbrev pub source_of : ℕ → ℕ → Source
  source_of k register = source_from register (latest_writer insns register k)

  -- the sources of node k's operands, in their order; x0 has none
  abbrev pub sources : ℕ → List Source
  sources k = map (source_of k) (without_x0 (operands (nth_insn insns k)))

  -- ---- arcs into node k from an earlier node j

  -- true: k reads a register from j
  abbrev pub has_true_arc : ℕ → ℕ → Bool
  has_true_arc k j = list_any (is_source (Made j)) (sources k)

  -- anti: j reads a register that k writes
  abbrev pub has_anti_arc : ℕ → ℕ → Bool
  has_anti_arc k j = list_any (reads_register (nth_insn insns j)) (results (nth_insn insns k))

  -- output: both write the same register
  abbrev pub has_output_arc : ℕ → ℕ → Bool
  has_output_arc k j = list_any (writes_register (nth_insn insns j)) (results (nth_insn insns k))

  -- memory: both are loads or stores
  abbrev pub has_memory_arc : ℕ → ℕ → Bool
  has_memory_arc k j = is_access (nth_insn insns j) && is_access (nth_insn insns k)

  -- control: k ends the block
  abbrev pub has_control_arc : ℕ → ℕ → Bool
  has_control_arc k j = ends_block (nth_insn insns k)

  -- by their order alone, whatever values k takes
  abbrev pub has_order_arc : ℕ → ℕ → Bool
  has_order_arc k j = ((has_anti_arc k j || has_output_arc k j) || has_memory_arc k j) || has_control_arc k j

  -- by what the two do
  abbrev pub has_own_arc : ℕ → ℕ → Bool
  has_own_arc k j = has_true_arc k j || has_order_arc k j

  -- node k stands in one bundle with the node directly before it
  abbrev pub is_joined : ℕ → Bool
  is_joined zero = false
  is_joined (suc k) = stay_together (nth_insn insns k) (nth_insn insns (suc k))

  -- so do all nodes from the first to the last
  abbrev pub is_span : ℕ → ℕ → Bool
  is_span first last = nat_le first last && not (some_below (suc last) (λ i. nat_lt first i && not (is_joined i)))

  -- bundle: what has to stay behind a node of a bundle has to stay behind its last node
  abbrev pub has_arc_from_bundle : ℕ → ℕ → Bool
  has_arc_from_bundle k j =
      has_own_arc k j || (not (is_joined (suc j)) && some_below j (λ i. is_span i j && has_own_arc k i))

  -- bundle: what has to stay before a node of a bundle has to stay before its first node
  abbrev pub has_arc_into_bundle : ℕ → ℕ → Bool
  has_arc_into_bundle k j =
      not (is_joined k)
      && some_below (length insns) (λ l. nat_lt k l && (is_span k l && has_arc_from_bundle l j))

  -- bundle: each node of a bundle has to stay behind the one before it
  abbrev pub has_arc_inside_bundle : ℕ → ℕ → Bool
  has_arc_inside_bundle k j = (k == suc j) && is_joined k

  abbrev pub has_arc_into : ℕ → ℕ → Bool
  has_arc_into k j = (has_arc_from_bundle k j || has_arc_into_bundle k j) || has_arc_inside_bundle k j

  -- ---- live values

  -- a node behind k writes the register
  abbrev pub is_written_after : ℕ → ℕ → Bool
  is_written_after k register =
      some_below (length insns) (λ j. nat_lt k j && writes_register (nth_insn insns j) register)

  -- Node k's value is live after the block: its register is, and no later node writes it.
  abbrev pub is_live : set.FinSet nat_cmp → ℕ → Bool
  is_live live_out k =
      list_any (λ r. set.contains live_out r && not (is_written_after k r)) (without_x0 (results (nth_insn insns k)))

  -- ---- the graph

  module _ (live_out : set.FinSet nat_cmp) (table : Latencies) where
    abbrev pub node_of : ℕ → Node
    node_of k = record {
      eligible = may_join (nth_insn insns k);
      latency = latency_of table (class_of (nth_insn insns k));
      delay = delay_of table (class_of (nth_insn insns k));
      sources = sources k;
      before = set_below k (has_arc_into k);
      live = is_live live_out k;
    }

    -- the graph of a block of these instructions, after which these registers are live
    abbrev pub graph_of : FlowGraph
    graph_of = record {
      nodes = map node_of (numbers_below (length insns) (λ _. true));
      read = table.read;
      pad = table.pad;
    }
