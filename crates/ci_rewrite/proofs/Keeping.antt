-- Folding keeps the shape and the effect of a block.
use Rattle.std.specs.Prelude.{◌≡◌, ◌≢◌, ℕ, ◌<◌, ◌≤◌, Bool, true, false, not, ◌&&◌, ◌||◌, List, length, take}
use Rattle.std.specs.FinSet as finite
use Rattle.std.specs.Ordering.{nat_cmp}
use Rattle.std.proofs.Common.{refl, sym, ap, ◌∙◌, subst, arith, inl, inr, true≢false}
use Rattle.std.proofs.lemmas.Bool.{cases_lt, or_cases, and_parts, ltb-false}
use Rattle.ci_isa.specs.declared.instruction.Insn.{Insn}
use Rattle.ci_isa.specs.declared.instruction.Insn.TheVariants.{Ebreak}
use Rattle.ci_isa.specs.Effects.{may_join, reads_register, writes_register}
use Rattle.ci_isa.specs.Sequences.{nth_insn}
use Rattle.ci_isa.proofs.OperandLaws.{joins, read_below}
use Rattle.ci_lat.specs.Latencies.{Latencies}
use Rattle.ci_machine.specs.Actions.{Units, accessed}
use Rattle.ci_machine.specs.Cores.{first_hidden}
use Rattle.ci_machine.specs.Words.{AreTaken, MakesWords}
use Rattle.ci_elf.specs.WordLists.{AreWords}
use Rattle.ci_dfg.specs.Bundles.{another}
use Rattle.ci_rewrite.specs.private.Follows.{MayStand, Follow}
use Rattle.ci_machine.proofs.NamedReads.{needed, needed_behind}
use Rattle.ci_machine.proofs.RelatedLists.{no_text}
use Rattle.ci_cut.specs.declared.graph.Limits.{Limits}
use Rattle.ci_cut.specs.Gain.{Fits}
use Rattle.ci_dfg.specs.BlockGraph.{graph_of}
use Rattle.ci_dfg.proofs.BlockIsGraph.{node_at_within, node_at_past}
use Rattle.ci_dfg.proofs.BundledLists.{is_bundled}
use Rattle.ci_unit.specs.Units.{inputs_of, unit_of}
use Rattle.ci_rewrite.specs.Blocks.{IsBlock, AreNamed, Covers, live_before, live_behind}
use Rattle.ci_rewrite.specs.FoldedBlock.{AreEarly, IsFolded}
use Rattle.ci_rewrite.specs.SameEffect.{HasSameEffect, KeepsShape, FoldingKeepsShape}
use Rattle.ci_rewrite.specs.UnitModules.{HaveModules}
use Rattle.ci_rewrite.proofs.PassedUnits.{ServePassed, ComputesPassed, KeepsPassed, FoldingKeepsPassed}
use Rattle.ci_verilog.specs.Modules.{Module}
use Rattle.ci_machine.specs.Extended.{HasModule}
use Rattle.ci_rewrite.proofs.Alive.{living}
use Rattle.ci_rewrite.proofs.AllNodes.{block_clear}
use Rattle.ci_rewrite.proofs.BundlePlaces.{keeps_bundles}
use Rattle.ci_rewrite.proofs.Coverage.{needed_before}
use Rattle.ci_rewrite.proofs.CoverLaws.{live_behind_is, covered, covers_needed}
use Rattle.ci_rewrite.proofs.CutNodes.{IsFolding}
use Rattle.ci_rewrite.proofs.Lists.{take_those, behind_first}
use Rattle.ci_rewrite.proofs.SameRuns.{same_runs, folded_leaves_text}
use Rattle.ci_rewrite.proofs.Shapes.{folded_length, folded_drop, folded_take, folded_fits, all_folded, folded_stands, is_block}
use Rattle.ci_rewrite.proofs.Stages.{those_below}
use Rattle.ci_rewrite.proofs.Tracking.{core_at}
use Rattle.ci_rewrite.proofs.UnitPorts.{few_inputs, length-outputs_of}
use Rattle.ci_cut.specs.Ports.{inputs}
use Rattle.ci_unit.specs.Uses.{passes}

module _ (insns : List Insn) (n : ℕ) (live_out : finite.FinSet nat_cmp) (table : Latencies) (limits : Limits) (cut : ℕ → Bool)
    (block : IsBlock insns n) (fits : Fits (graph_of insns live_out table) limits cut) where
  -- a member of a cut that fits acts, and may join
  pub members_act : (k : ℕ) → cut k ≡ true → (k < n) × (may_join (nth_insn insns k) ≡ true)
  members_act k member = elim (cases_lt k (length insns)) [
    | inl there ↦
        let may : may_join (nth_insn insns k) ≡ true =
        sym (ap (λ node. node.eligible) (node_at_within insns live_out table k there)) ∙ fits.eligible k member in
        elim (cases_lt k n) [
          | inl acts ↦ (acts, may)
          | inr past ↦ absurd (true≢false (sym (block.actions.end k past there) ∙ (joins (nth_insn insns k) may).acts))
        ]
    | inr past ↦ absurd (true≢false (sym (fits.eligible k member) ∙ ap (λ node. node.eligible) (node_at_past insns live_out table k past)))
  ]

  pub folding_of : (early : ℕ → Bool) → AreEarly insns (graph_of insns live_out table) cut early → IsFolding insns live_out table cut early n
  folding_of early are_early = record {
    convex = fits.convex;
    are_early = are_early;
    actions = block.actions;
    bundled = is_bundled insns block.fit block.bundled;
    fit = block.fit;
    members = members_act;
    few_inputs = omega (arith, few_inputs insns live_out table cut block.fit, fits.inputs_within, limits.inputs_in_range.1);
    few_named = λ none. omega (arith, few_inputs insns live_out table cut block.fit, ltb-false 3 (inputs (graph_of insns live_out table) cut) none);
    some_outputs = omega (arith, length-outputs_of insns live_out table cut, fits.has_output);
    few_outputs = omega (arith, length-outputs_of insns live_out table cut, fits.outputs_within, limits.outputs_in_range.1);
    room = let room = fits.room in omega (arith, room);
  }

-- ---- one fold

module _ (insns : List Insn) (n : ℕ) (live_out : finite.FinSet nat_cmp) (table : Latencies) (limits : Limits) (cut : ℕ → Bool)
    (number : ℕ) (folded : List Insn) (block : IsBlock insns n) (fits : Fits (graph_of insns live_out table) limits cut) (small : number < 32)
    (is : IsFolded insns (graph_of insns live_out table) cut number folded) where
  known : IsFolding insns live_out table cut is.early n
  known = folding_of insns n live_out table limits cut block fits is.early is.are_early

  pub shape : KeepsShape insns n folded
  shape = record {
    same_length = folded_length known number folded is refl;
    same_end = folded_drop known number folded is refl;
    bundles = keeps_bundles known number folded is refl;
    is_block = is_block known number folded is refl small block.few;
  }

  pub have_modules : (modules : List Module) → HaveModules modules insns → number < length modules → HaveModules modules folded
  have_modules modules have there k =
      all_folded known number folded is refl (HasModule modules) have
      (record { put = tt; unit = there; reads = λ r index below few. tt }) tt k Ebreak

  -- ---- registers

  module _ (named : AreNamed live_out) where
    live_is : (r : ℕ) → needed_behind insns n live_out r ≡ live_behind insns n live_out r
    live_is = live_behind_is insns n live_out block.actions

    -- what is live behind the actions are registers that programs can name
    visible : (r : ℕ) → live_behind insns n live_out r ≡ true → r < first_hidden
    visible r live = elim (behind_first insns n block.actions.most) [
      | inl (short, none) ↦ named r (last_of_or (finite.contains live_out r) (sym (ap (λ l. live_before l live_out r) none) ∙ live))
      | inr (there, one) ↦ elim (or_cases (reads_register (nth_insn insns n) r || false) (finite.contains live_out r && not (writes_register (nth_insn insns n) r || false))
          (sym (ap (λ l. live_before l live_out r) one) ∙ live)) [
            | inl read ↦ read_below (nth_insn insns n) r (block.fit n there) (only (reads_register (nth_insn insns n) r) read)
            | inr kept ↦ named r (and_parts (finite.contains live_out r) (not (writes_register (nth_insn insns n) r || false)) kept).0
          ]
    ]
      where
        last_of_or : (b : Bool) → (false || (b && not false)) ≡ true → b ≡ true
        last_of_or b is = grind arith

        only : (b : Bool) → (b || false) ≡ true → b ≡ true
        only b is = grind arith

    pub covers : (set : ℕ → Bool) → Covers set insns live_out → Covers set folded live_out
    covers set has = covers_needed set folded live_out (folded_fits known number folded is refl small) named (λ r below needs.
        covered set insns live_out has r below
        (needed_before known number r below (sym (ap (λ l. needed l (finite.contains live_out) r) is.is_list) ∙ needs)))

    -- ---- the actions

    module _ (text : ℕ → Bool) (units : Units) (serve : ServePassed units insns)
        (computes : ComputesPassed units (passes (graph_of insns live_out table) cut) number (unit_of insns (graph_of insns live_out table) cut)) where
      actions : List Insn
      actions = those_below insns (λ _. true) n

      effect : HasSameEffect text (live_behind insns n live_out) units (take n insns) (take n folded)
      effect = subst (λ (p : List Insn × List Insn). HasSameEffect text (live_behind insns n live_out) units p.0 p.1)
          (λ i. (sym (take_those insns n block.actions.within) i, sym (folded_take known number folded is refl) i))
          (record {
            runs = λ core holds.
                same_runs known number serve computes core holds (λ _. false)
                (λ k below access none. no_text (accessed (nth_insn insns k) (core_at units insns core k)))
                (live_behind insns n live_out) visible
                (λ r w live last. living known r w last (visible r live) (live_is r ∙ live));
            leaves_text = λ core holds leaves.
                folded_leaves_text known number serve computes core holds text (λ k below access. block_clear units insns core text n leaves k below);
          })

      keeps_passed : KeepsPassed text units insns n live_out folded
      keeps_passed = record { shape = shape; effect = effect; covers = covers }

  -- ---- what all words of the folded block keep

  pub stands_folded : (P : ℕ → Type 0) → Follow (MayStand P) another insns → (passes (graph_of insns live_out table) cut ≡ false → P number)
      → Follow (MayStand P) another folded
  stands_folded P stands bare = folded_stands known number folded is refl P stands bare

  pub words_folded : (units : Units) → ((k : ℕ) → k < length insns → MakesWords units (nth_insn insns k))
      → ((values : List ℕ) → AreTaken units number values → AreWords (units.results number values))
      → (k : ℕ) → k < length folded → MakesWords units (nth_insn folded k)
  words_folded units words unit k =
      all_folded known number folded is refl (MakesWords units) words (record { put = tt; unit = unit; reads = λ r index below few. tt }) tt k Ebreak

  pub few_bare : passes (graph_of insns live_out table) cut ≡ false → length (inputs_of insns (graph_of insns live_out table) cut) ≤ 3
  few_bare = known.few_named

pub folding_keeps_shape : FoldingKeepsShape
folding_keeps_shape insns n live_out table limits cut number folded block fits small is =
    shape insns n live_out table limits cut number folded block fits small is

pub folding_keeps_passed : FoldingKeepsPassed
folding_keeps_passed text units insns n live_out table limits cut number folded block named fits small is serve computes =
    keeps_passed insns n live_out table limits cut number folded block fits small is named text units serve computes
