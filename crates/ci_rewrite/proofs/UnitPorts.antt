-- The inputs and the outputs of the unit of a cut: how many they are, and in which registers.
use Rattle.std.specs.Prelude.{◌≡◌, ℕ, ◌<◌, ◌≤◌, Bool, true, ◌==◌, List, ◌++◌, replicate, length, slice_index}
use Rattle.std.specs.FinSet as finite
use Rattle.std.specs.List.{list_any}
use Rattle.std.specs.Ordering.{nat_cmp}
use Rattle.std.proofs.Common.{sym, ap, ◌∙◌, subst, arith, inl, inr}
use Rattle.std.proofs.lemmas.Bool.{and_parts}
use Rattle.std.proofs.lemmas.List.Elements.{All-from_recursion}
use Rattle.ci_word.specs.Numbers.{count_below}
use Rattle.ci_word.proofs.NumberLaws.{length-numbers_below}
use Rattle.ci_isa.specs.declared.instruction.Insn.{Insn}
use Rattle.ci_isa.specs.FieldBounds.{FieldsFit}
use Rattle.ci_isa.specs.Effects.{operands, is_kept}
use Rattle.ci_isa.specs.Sequences.{nth_insn}
use Rattle.ci_isa.proofs.LastWriter.{latest_writer_is_last}
use Rattle.ci_isa.proofs.OperandLaws.{operand_below, result_below}
use Rattle.ci_lat.specs.Latencies.{Latencies}
use Rattle.ci_cut.specs.declared.graph.Source.{Source}
use Rattle.ci_cut.specs.declared.graph.Source.TheVariants.{Entry}
use Rattle.ci_cut.specs.declared.graph.Source.TheVariants.{Made}
use Rattle.ci_cut.specs.FlowGraph.{FlowGraph, is_source}
use Rattle.ci_cut.specs.Ports.{is_outside, is_output, inputs, outputs}
use Rattle.ci_dfg.specs.BlockGraph.{source_of, graph_of}
use Rattle.ci_dfg.proofs.ArcLaws.{found_from}
use Rattle.ci_dfg.proofs.BlockIsGraph.{node_at_within, length-nodes, made_rise}
use Rattle.ci_dfg.proofs.SourceLaws.{entry_is, made_is}
use Rattle.ci_unit.specs.private.Reading.{IsSmall}
use Rattle.ci_unit.specs.Units.{inputs_of, outputs_of}
use Rattle.ci_unit.specs.Uses as uses
use Rattle.ci_unit.proofs.CountLaws.{passes_there}
use Rattle.ci_unit.proofs.InputLaws as lists
use Rattle.ci_unit.proofs.SourceLaws.{same_source, each_weaker, own_sources, given_at}
use Rattle.ci_rewrite.specs.FoldedBlock.{no_op, places_left}
use Rattle.ci_rewrite.proofs.CutNodes.{IsFolding, late}
use Rattle.ci_rewrite.proofs.Stages.{those_below}

-- ---- inputs

-- registers are below one number, and nodes below another
abbrev pub IsBelow : ℕ → ℕ → Source → Type 0
IsBelow registers nodes (Entry r) = r < registers
IsBelow registers nodes (Made k) = k < nodes

module _ (insns : List Insn) (live_out : finite.FinSet nat_cmp) (table : Latencies) (cut : ℕ → Bool)
    (fit : (k : ℕ) → k < length insns → FieldsFit (nth_insn insns k)) where
  abbrev graph : FlowGraph
  graph = graph_of insns live_out table

  -- a member reads the source in some register, and it is made outside
  pub record IsInput (s : Source) : Type 0 where
    pub node : ℕ
    pub there : node < length insns
    pub member : cut node ≡ true
    pub register : ℕ
    pub kept : is_kept register ≡ true
    pub operand : list_any (λ n. n == register) (operands (nth_insn insns node)) ≡ true
    pub same : source_of insns node register ≡ s
    pub outside : is_outside cut s ≡ true

  pub input_is : (s : Source) → list_any (is_source s) (inputs_of insns graph cut) ≡ true → IsInput s
  input_is s among =
      let (outside, (k, there, member, reading)) = lists.input_read insns graph cut s among in
      let (r, kept, operand, same) = found_from (is_source s) (source_of insns k) (operands (nth_insn insns k))
      (sym (ap (λ node. list_any (is_source s) node.sources) (node_at_within insns live_out table k there)) ∙ reading) in
      record {
        node = k;
        there = there;
        member = member;
        register = r;
        kept = kept;
        operand = operand;
        same = sym (same_source s (source_of insns k r) same);
        outside = outside;
      }

  input_below : (s : Source) → IsInput s → IsBelow 32 (length insns) s
  input_below (Entry r) is =
      subst (λ q. q < 32) (entry_is insns is.node is.register r is.same).1
      (operand_below (nth_insn insns is.node) is.register (fit is.node is.there) is.operand)
  input_below (Made w) is =
      let last = (latest_writer_is_last insns is.register is.node w).0 (made_is insns is.node is.register w is.same) in
      omega (arith, last.before, is.there)

  pub few_inputs : length (inputs_of insns graph cut) ≤ inputs graph cut
  few_inputs =
      lists.few_inputs insns graph cut (made_rise insns live_out table) (length-nodes insns live_out table)
      (All-from_recursion IsSmall (inputs_of insns graph cut)
      (each_weaker (λ s. list_any (is_source s) (inputs_of insns graph cut) ≡ true) IsSmall (λ s among. small s (input_below s (input_is s among)))
      (inputs_of insns graph cut) (own_sources (inputs_of insns graph cut))))
    where
      small : (s : Source) → IsBelow 32 (length insns) s → IsSmall s
      small (Entry r) below = omega arith
      small (Made k) below = tt

  -- the unit word takes its sources from x0 to x31
  pub input_register_below : (i : ℕ) → slice_index (uses.input_registers insns graph cut) i < 32
  input_register_below i = elim (given_at (uses.register_of insns) (inputs_of insns graph cut) i) [
    | inl past ↦ omega (arith, past)
    | inr (s, among, is) ↦ subst (λ r. r < 32) is (by_source s (input_below s (input_is s among)))
  ]
    where
      by_source : (s : Source) → IsBelow 32 (length insns) s → uses.register_of insns s < 32
      by_source (Entry r) below = below
      by_source (Made k) below = result_below (nth_insn insns k) (fit k below)

-- ---- outputs

module _ (insns : List Insn) (live_out : finite.FinSet nat_cmp) (table : Latencies) (cut : ℕ → Bool) where
  pub length-outputs_of : length (outputs_of insns (graph_of insns live_out table) cut) ≡ outputs (graph_of insns live_out table) cut
  length-outputs_of =
      length-numbers_below (length insns) (is_output (graph_of insns live_out table) cut)
      ∙ ap (λ m. count_below m (is_output (graph_of insns live_out table) cut)) (sym (length-nodes insns live_out table))

module _ {insns : List Insn} {live_out : finite.FinSet nat_cmp} {table : Latencies} {cut early : ℕ → Bool} {n : ℕ}
    (known : IsFolding insns live_out table cut early n) where
  abbrev is_out : ℕ → Bool
  is_out = is_output (graph_of insns live_out table) cut

  pub output_member : (o : ℕ) → is_out o ≡ true → cut o ≡ true
  output_member o is = (and_parts (cut o) _ is).0

  -- the nodes of the list of outputs are outputs, and no others are
  module _ (nodes : List ℕ) (same : outputs_of insns (graph_of insns live_out table) cut ≡ nodes) where
    pub output_at : (i : ℕ) → i < length nodes → is_out (slice_index nodes i) ≡ true
    output_at = passes_there is_out (length insns) nodes same

-- ---- the use of a unit

module _ {insns : List Insn} {live_out : finite.FinSet nat_cmp} {table : Latencies} {cut early : ℕ → Bool} {n : ℕ}
    (known : IsFolding insns live_out table cut early n) (number : ℕ) where
  -- the unit word and its `cread`, and the no-ops
  abbrev pub in_place : List Insn
  in_place =
      uses.use_of insns (graph_of insns live_out table) cut number
      ++ replicate (places_left (graph_of insns live_out table) cut) no_op

  -- the actions of the folded block
  abbrev pub folded_actions : List Insn
  folded_actions = those_below insns early n ++ in_place ++ those_below insns (late known) n
