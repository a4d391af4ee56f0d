-- The graph of a block of instructions: which operands it has, and what a block that is folded by it keeps.
use Rattle.std.specs.Prelude.{◌≡◌, ℕ, ◌<◌, Bool, List, length, pos, ◌+ℤ◌}
use Rattle.std.specs.FinSet as set
use Rattle.std.specs.List.{list_any}
use Rattle.std.specs.Ordering.{nat_cmp}
use Rattle.std.proofs.Common.{sym, ap, ◌∙◌, subst, inl, inr, true≢false}
use Rattle.std.proofs.lemmas.Bool.{cases_lt}
use Rattle.std.proofs.lemmas.List.{length-map}
use Rattle.ci_isa.specs.declared.instruction.Insn.{Insn}
use Rattle.ci_isa.specs.Effects.{operands, without_x0}
use Rattle.ci_isa.proofs.OperandLaws.{operand_below}
use Rattle.ci_isa.specs.Sequences.{nth_insn}
use Rattle.ci_lat.specs.Latencies.{Latencies}
use Rattle.ci_cut.specs.declared.graph.Source.TheVariants.{Entry}
use Rattle.ci_cut.specs.FlowGraph.{FlowGraph, node_at, is_source}
use Rattle.ci_cut.specs.Gain.{Fits, gain}
use Rattle.ci_cut.specs.Hardware.{hardware}
use Rattle.ci_dfg.specs.BlockGraph.{source_of, graph_of}
use Rattle.ci_dfg.proofs.ArcLaws.{found_from}
use Rattle.ci_dfg.proofs.SourceLaws.{entry_is}
use Rattle.ci_dfg.proofs.BlockIsGraph.{length-nodes, node_at_within, node_at_past}
use Rattle.ci_unit.specs.Operands.{AreOperands, FitsSomeLimits}
use Rattle.ci_unit.proofs.SourceLaws.{same_source}
use Rattle.ci_unit.specs.Units.{unit_of}
use Rattle.ci_unit.specs.Uses.{AreRegisters}
use Rattle.ci_rewrite.specs.Blocks.{AllFieldsFit, IsBlock}
use Rattle.ci_rewrite.specs.Costs.{cost_of}
use Rattle.ci_rewrite.specs.FoldedBlock.{IsGraphOf, IsFolded}
use Rattle.ci_rewrite.specs.Folds.{KeepsEffect, SavesGain}
use Rattle.ci_rewrite.specs.SameEffect.{KeepsShape}
use Rattle.ci_rewrite.specs.SameSteps.{KeepsRuns}
use Rattle.ci_rewrite.proofs.FoldedRuns.{folded_has_same_effect}
use Rattle.ci_rewrite.proofs.Keeping.{folding_keeps_shape}
use Rattle.ci_rewrite.proofs.Savings.{folding_saves}

module _ (insns : List Insn) (graph : FlowGraph) (of_block : IsGraphOf insns graph) where
  abbrev live_out : set.FinSet nat_cmp
  live_out = of_block.0

  abbrev table : Latencies
  table = of_block.1

  node_is : (k : ℕ) → node_at graph k ≡ node_at (graph_of insns live_out table) k
  node_is k = ap (λ g. node_at g k) of_block.2

  -- there is a node for each instruction
  pub same_length : length graph.nodes ≡ length insns
  same_length = ap (λ g. length g.nodes) of_block.2 ∙ length-nodes insns live_out table

  -- it has the operands of the instructions,
  pub has_operands : AreOperands insns graph
  has_operands = subst (AreOperands insns) (sym of_block.2) (record {
    same_length = length-nodes insns live_out table;
    eligible_is = λ k there. ap (λ node. node.eligible) (node_at_within insns live_out table k there);
    sources_fit = λ k there. ap (λ node. length node.sources) (node_at_within insns live_out table k there)
        ∙ length-map (without_x0 (operands (nth_insn insns k))) (source_of insns k);
  })

  -- which are registers, where the fields fit
  pub has_registers : AllFieldsFit insns → AreRegisters graph
  has_registers fit k r read = elim (cases_lt k (length insns)) [
    | inl there ↦
        let sources = ap (λ node. list_any (is_source (Entry r)) node.sources) (node_is k ∙ node_at_within insns live_out table k there) in
        let found = found_from (is_source (Entry r)) (source_of insns k) (operands (nth_insn insns k)) (sym sources ∙ read) in
        subst (λ q. q < 32) (entry_is insns k found.0 r (sym (same_source (Entry r) (source_of insns k found.0) found.3))).1
        (operand_below (nth_insn insns k) found.0 (fit k there) found.2)
    | inr past ↦
        absurd (true≢false (sym read ∙ ap (λ node. list_any (is_source (Entry r)) node.sources) (node_is k ∙ node_at_past insns live_out table k past)))
  ]

-- ---- what is folded by it

module _ (insns : List Insn) (graph : FlowGraph) (cut : ℕ → Bool) (number : ℕ) (folded : List Insn)
    (fits : FitsSomeLimits graph cut) (is : IsFolded insns graph cut number folded) where
  module _ (live_out : set.FinSet nat_cmp) (table : Latencies) (same : graph ≡ graph_of insns live_out table) where
    fits_there : Fits (graph_of insns live_out table) fits.0 cut
    fits_there = subst (λ g. Fits g fits.0 cut) same fits.1

    folded_there : IsFolded insns (graph_of insns live_out table) cut number folded
    folded_there = subst (λ g. IsFolded insns g cut number folded) same is

  pub keeps_shape : IsGraphOf insns graph → number < 32 → (n : ℕ) → IsBlock insns n → KeepsShape insns n folded
  keeps_shape (live_out, table, same) small n block =
      folding_keeps_shape insns n live_out table fits.0 cut number folded block (fits_there live_out table same) small (folded_there live_out table same)

  pub keeps_effect : number < 32 → KeepsEffect insns graph cut number folded
  keeps_effect small n live_out table block named same =
      subst (λ g. KeepsRuns insns n live_out number (unit_of insns g cut) folded) (sym same)
      (folded_has_same_effect insns n live_out table fits.0 cut number folded block named (fits_there live_out table same) small
      (folded_there live_out table same))

  pub saves_gain : SavesGain insns graph cut number folded
  saves_gain n live_out table latencies block same of_table unit =
      folding_saves insns n live_out table latencies fits.0 cut number folded block of_table
      (fits_there live_out table same) (folded_there live_out table same) (unit ∙ ap (λ g. hardware g cut) same)
      ∙ ap (λ g. pos (cost_of latencies folded) +ℤ gain g cut) (sym same)
