-- The folded block of a cut that fits keeps the runs of the block.
use Rattle.std.proofs.Common.{ℕ, ◌<◌, arith, List, take}
use Rattle.std.specs.Prelude.{Bool}
use Rattle.std.specs.FinSet as finite
use Rattle.std.specs.Ordering.{nat_cmp}
use Rattle.ci_isa.specs.declared.instruction.Insn.{Insn}
use Rattle.ci_lat.specs.Latencies.{Latencies}
use Rattle.ci_verilog.specs.Modules.{Module}
use Rattle.ci_machine.specs.Blocks.{behind}
use Rattle.ci_machine.specs.Programs.{Program, State, in_text}
use Rattle.ci_machine.specs.Steps.{Meaning}
use Rattle.ci_machine.specs.Touches.{LeavesTextFor}
use Rattle.ci_cut.specs.declared.graph.Limits.{Limits}
use Rattle.ci_cut.specs.Gain.{Fits}
use Rattle.ci_dfg.specs.BlockGraph.{graph_of}
use Rattle.ci_unit.specs.Units.{Unit, unit_of}
use Rattle.ci_rewrite.specs.Blocks.{IsBlock, AreNamed, Covers, live_behind}
use Rattle.ci_rewrite.specs.FoldedBlock.{IsFolded}
use Rattle.ci_rewrite.specs.SameSteps.{StandAlike, PassAlike, FoldedHasSameEffect}
use Rattle.ci_rewrite.specs.UnitModules.{IgnoreOperands, HasUnits}
use Rattle.ci_rewrite.proofs.EndSteps.{passed_blocks_end_alike}
use Rattle.ci_rewrite.proofs.Keeping.{shape, have_modules, covers}
use Rattle.ci_rewrite.proofs.ModuleUnits.{computing_ignores, modules_serve, modules_compute}
use Rattle.ci_rewrite.proofs.Steps.{folding_keeps_steps}
use Rattle.ci_rewrite.proofs.WithOperands.{stay_bare, three_matter, folding_keeps}

module _ (insns : List Insn) (n : ℕ) (live_out : finite.FinSet nat_cmp) (table : Latencies) (limits : Limits)
    (cut : ℕ → Bool) (number : ℕ) (folded : List Insn) (block : IsBlock insns n) (named : AreNamed live_out)
    (fits : Fits (graph_of insns live_out table) limits cut) (small : number < 32)
    (is : IsFolded insns (graph_of insns live_out table) cut number folded) where
  abbrev unit : Unit
  unit = unit_of insns (graph_of insns live_out table) cut

  passes : (modules : List Module) (meaning : Meaning) → HasUnits modules meaning insns number unit
      → (program : Program) (set : ℕ → Bool) (left right : State) → Covers set insns live_out
      → StandAlike meaning program set insns folded left right → LeavesTextFor meaning program n left
      → PassAlike meaning program (live_behind insns n live_out) (behind (take n insns) left.pc) n left right
  passes modules meaning units program set left right covered start leaves =
      let serve = modules_serve modules meaning units.are_modules units.is_extended insns block.fit units.have units.bare in
      let computes = modules_compute modules meaning units.are_modules units.is_extended number unit units.compute in
      folding_keeps_steps meaning program set insns folded n live_out left right block named serve
      (folding_keeps (in_text program) meaning.units insns n live_out table limits cut number folded block named fits small is serve computes)
      covered start leaves

pub folded_has_same_effect : FoldedHasSameEffect
folded_has_same_effect insns n live_out table limits cut number folded block named fits small is = record {
  covers = covers insns n live_out table limits cut number folded block fits small is named;
  have_modules = have_modules insns n live_out table limits cut number folded block fits small is;
  stay_bare = λ modules all bare compute.
      stay_bare insns n live_out table limits cut number folded block fits small is (IgnoreOperands modules)
      (λ none. computing_ignores modules all number (unit_of insns (graph_of insns live_out table) cut) compute
      (three_matter insns n live_out table limits cut number folded block fits small is none)) bare;
  passes = passes insns n live_out table limits cut number folded block named fits small is;
  ends = λ modules meaning units program set left right covered start left_mapped right_mapped leaves.
      passed_blocks_end_alike meaning program insns folded n live_out (behind (take n insns) left.pc) left right
      block (shape insns n live_out table limits cut number folded block fits small is)
      start.block start.folded_block left_mapped right_mapped
      (passes insns n live_out table limits cut number folded block named fits small is modules meaning units program set left right covered start
      (λ i below made. let within = block.actions.within in leaves i (omega arith) made))
      leaves;
}
