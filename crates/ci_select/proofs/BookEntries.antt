-- The entries of a legal book: each has a leader of 32 bits, a cut of nodes of its block, and the number of a unit.
use Rattle.std.proofs.Common.{ℕ, ◌<◌, ◌≤◌, ◌^◌, List, [], ◌∷◌, length, arith}
use Rattle.std.specs.FinSet as set
use Rattle.std.specs.List.{AllByRecursion}
use Rattle.std.specs.Ordering.{nat_cmp}
use Rattle.ci_isa.specs.declared.instruction.Insn.{Insn}
use Rattle.ci_live.specs.Sets.{after_block}
use Rattle.ci_cut.specs.declared.graph.Limits.{Limits}
use Rattle.ci_cut.specs.FlowGraph.{FlowGraph}
use Rattle.ci_cut.specs.Gain.{Fits}
use Rattle.ci_cut.proofs.PrefixLaws.{eligible_below}
use Rattle.ci_cut.proofs.RisingCounts.{nth_below}
use Rattle.ci_dfg.proofs.BlockIsGraph.{length-nodes}
use Rattle.ci_log.specs.declared.book.Entry.{Entry}
use Rattle.ci_log.specs.declared.book.Entry.TheVariants.{Best, Without, Spent, Take}
use Rattle.ci_log.specs.Books.{IsCut, IsEntry}
use Rattle.ci_select.specs.Histories.{History}
use Rattle.ci_select.specs.Instances.{Instance, AreOfSomeFile}
use Rattle.ci_select.specs.PresentBlocks.{IsPresent, graph_at}
use Rattle.ci_select.specs.LegalBooks.{HasShortLog, IsLegalHistory, IsRight, searched, taken}
use Rattle.ci_select.proofs.PresentLaws.{blocks_in_order, block_of_present, present_is_sound, due_take, take_is_small}

-- a set that fits has a node, and each of its nodes is one of the graph's
is_cut :
    {graph : FlowGraph} {limits : Limits} {cut : set.FinSet nat_cmp} → length graph.nodes ≤ 256
    → Fits graph limits (set.contains cut) → IsCut cut
is_cut {graph = graph} {cut = cut} few fits =
    let member = nth_below (set.contains cut) (length graph.nodes) 0 (omega (arith, fits.room)) in
    record {
      node = member.0;
      has_node = member.2;
      below = λ k here. omega (arith, few, eligible_below graph k (fits.eligible k here));
    }

module _ {instance : Instance} (of_file : AreOfSomeFile instance.blocks instance.live) {history : History} where
  -- a leader is the address of a word of the text
  small_leader : {leader : ℕ} {insns : List Insn} → IsPresent instance history leader insns → leader < 2 ^ 32
  small_leader present =
      let found = block_of_present present in
      let block = of_file.1.2.blocks_are.each found.0 found.1 in
      let loads = of_file.2.loaded block.range block.there in
      omega (
        arith,
        found.2,
        block.some,
        block.within,
        loads.2.to,
        of_file.2.filled loads.0 loads.1,
        of_file.2.below_top loads.0 loads.1,
      )

  module _ (legal : IsLegalHistory instance history) where
    few_nodes :
        {leader : ℕ} {insns : List Insn} → IsPresent instance history leader insns
        → length (graph_at instance leader insns).nodes ≤ 256
    few_nodes {leader = leader} {insns = insns} present =
        let found = block_of_present present in
        let sound = present_is_sound of_file legal present in
        omega (
          arith,
          length-nodes insns (after_block instance.live leader) instance.table,
          sound.same_length found.0 found.1 found.2,
          (of_file.1.2.blocks_are.each found.0 found.1).at_most,
        )

    -- an entry that is right
    one_entry : (entry : Entry) → HasShortLog entry → IsRight instance history entry → IsEntry entry
    one_entry (Best leader cut log) short (searched what present is) =
        (small_leader present, is_cut (few_nodes present) is.good.0, record { is_tree = is.tree; few = short })
    one_entry (Without leader log) short (searched what present is) =
        (small_leader present, record { is_tree = is.tree; few = short })
    one_entry (Spent leader budget) short (searched what present is) =
        (small_leader present, omega (arith, is.0, instance.plan.budget_in_range.1))
    one_entry (Take leader unit) short (searched what present is) = absurd is
    one_entry (Take leader unit) short (taken what) =
        let is = due_take what in (
          small_leader is.next.candidate.candidate.has_cut.present,
          take_is_small (blocks_in_order instance of_file) legal is,
        )

-- each entry of a legal history
pub each_entry :
    (instance : Instance) → AreOfSomeFile instance.blocks instance.live → (history : History)
    → IsLegalHistory instance history → AllByRecursion HasShortLog history → AllByRecursion IsEntry history
each_entry instance of_file [] legal short = tt
each_entry instance of_file (entry ∷ history) legal short =
    (one_entry of_file legal.1 entry short.0 legal.0, each_entry instance of_file history legal.1 short.1)
