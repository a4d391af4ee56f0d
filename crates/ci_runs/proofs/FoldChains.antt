-- All folds of a block together: what they keep of it, what they save, and what stays in it.
use Rattle.std.specs.Prelude.{◌≡◌, ℕ, ◌<◌, ◌⊎◌, Bool, true, false, not, ◌&&◌, pos, ℤ, ◌+ℤ◌, List, [], ◌∷◌, ◌++◌, All, length, replicate}
use Rattle.std.specs.FinSet as finite
use Rattle.std.specs.List.{Contains}
use Rattle.std.specs.Ordering.{nat_cmp}
use lib.IntN.{+ℤ_assoc, +ℤ_idr}
use Rattle.std.proofs.Common.{refl, sym, ap, ◌∙◌, subst, arith, inl, inr, true≢false}
use Rattle.std.proofs.lemmas.Bool.{cases_Bool, false_from_ne_true}
use Rattle.std.proofs.lemmas.List.{get_or_default, get_or-map, length-map}
use Rattle.std.proofs.lemmas.List.Elements.{Contains-append_left, Contains-append_right}
use Rattle.std.proofs.lemmas.Option.{slice_get_within}
use Rattle.ci_word.specs.Numbers.{numbers_below}
use Rattle.ci_word.proofs.NumberLaws.{Contains-numbers_below_iff}
use Rattle.ci_isa.specs.declared.instruction.Insn.{Insn}
use Rattle.ci_isa.specs.declared.instruction.Insn.TheVariants.{Ebreak}
use Rattle.ci_isa.specs.Effects.{may_join}
use Rattle.ci_isa.specs.Sequences.{nth_insn}
use Rattle.ci_lat.specs.Latencies.{Latencies as Table}
use Rattle.ci_verilog.specs.Modules.{Module, IsModule}
use Rattle.ci_machine.specs.Actions.{Units}
use Rattle.ci_machine.specs.Extended.{IsExtended, latencies_with}
use Rattle.ci_machine.specs.Runs.{Latencies}
use Rattle.ci_machine.specs.Steps.{Meaning}
use Rattle.ci_cut.specs.declared.graph.Limits.{Limits}
use Rattle.ci_cut.specs.FlowGraph.{FlowGraph}
use Rattle.ci_cut.specs.Gain.{gain}
use Rattle.ci_dfg.specs.BlockGraph.{graph_of}
use Rattle.ci_dfg.proofs.BlockIsGraph.{node_at_within}
use Rattle.ci_unit.specs.Units.{unit_of}
use Rattle.ci_unit.specs.Uses.{use_of}
use Rattle.ci_rewrite.specs.Blocks.{IsBlock, AreNamed}
use Rattle.ci_rewrite.specs.Costs.{cost_of}
use Rattle.ci_rewrite.specs.RunLatencies.{AreOfTable}
use Rattle.ci_rewrite.specs.FoldedBlock.{IsFolded, no_op, places_left, those}
use Rattle.ci_rewrite.specs.SameEffect.{Serve, KeepsBlock}
use Rattle.ci_rewrite.proofs.Chains.{block_keeps_itself, keeping_joins}
use Rattle.ci_rewrite.proofs.Keeping.{folding_of}
use Rattle.ci_rewrite.proofs.ModuleUnits.{modules_compute}
use Rattle.ci_rewrite.proofs.Savings.{folding_saves}
use Rattle.ci_rewrite.proofs.Shapes.{all_folded}
use Rattle.ci_rewrite.proofs.WithOperands.{folding_keeps}
use Rattle.ci_runs.specs.FoldedFiles.{AreFolds, none, more, total}
use Rattle.ci_runs.proofs.StandingWords.{CanStand}

-- ---- what stays

-- an instruction outside a cut stands in the folded block
outside_stays : (insns : List Insn) (graph : FlowGraph) (cut : ℕ → Bool) (number : ℕ) (folded : List Insn) → IsFolded insns graph cut number folded
    → (k : ℕ) → k < length insns → cut k ≡ false → Contains folded (nth_insn insns k)
outside_stays insns graph cut number folded is k below out =
    subst (λ (list : List Insn). Contains list (nth_insn insns k)) (sym is.is_list) (by_side (cases_Bool (is.early k)))
  where
    before : List Insn
    before = those insns is.early ++ use_of insns graph cut number ++ replicate (places_left graph cut) no_op

    late : ℕ → Bool
    late j = not (cut j) && not (is.early j)

    among : (test : ℕ → Bool) → test k ≡ true → Contains (those insns test) (nth_insn insns k)
    among test passes =
        let (j, within, at) = (Contains-numbers_below_iff (length insns) test k).1 (below, passes) in (
          j,
          omega (arith, length-map (numbers_below (length insns) test) (nth_insn insns)),
          get_or-map (nth_insn insns) (numbers_below (length insns) test) j k (nth_insn insns k) within ∙ ap (nth_insn insns) at,
        )

    by_side : (is.early k ≡ true) ⊎ (is.early k ≡ false) → Contains (before ++ those insns late) (nth_insn insns k)
    by_side (inl early) =
        Contains-append_left before (those insns late) (nth_insn insns k)
        (Contains-append_left (those insns is.early ++ use_of insns graph cut number) (replicate (places_left graph cut) no_op) (nth_insn insns k)
        (Contains-append_left (those insns is.early) (use_of insns graph cut number) (nth_insn insns k) (among is.early early)))
    by_side (inr not_early) =
        Contains-append_right before (those insns late) (nth_insn insns k)
        (among late (λ i. not (out i) && not (not_early i)))

-- What folds keep: the block, and that the machine has its instructions.
pub record AreKept (modules : List Module) (text : ℕ → Bool) (units : Units) (first : List Insn) (n : ℕ) (live_out : finite.FinSet nat_cmp)
    (folded : List Insn) : Type 0 where
  pub keeps : KeepsBlock text units first n live_out folded
  pub can_stand : (k : ℕ) → k < length folded → CanStand modules (nth_insn folded k)

module _ (modules : List Module) (live_out : finite.FinSet nat_cmp) (table : Table) (limits : Limits) (first : List Insn) where
  -- what may not join a unit stands in the block after all folds
  pub others_stay : (insn : Insn) → may_join insn ≡ false → Contains first insn → (folded : List Insn) (gains : List ℤ)
      → AreFolds modules live_out table limits first folded gains → Contains folded insn
  others_stay insn out there folded [] none = there
  others_stay insn out there folded (g ∷ gains) (more {insns = insns} cut number before fits small is compute cycles) =
      let (k, below, at) = others_stay insn out there insns gains before in
      let here : nth_insn insns k ≡ insn = get_or_default insns k Ebreak insn below ∙ at in
      let graph = graph_of insns live_out table in
      subst (λ (i : Insn). Contains folded i) here
      (outside_stays insns graph cut number folded is k below
      (false_from_ne_true (cut k) (λ member.
      true≢false (sym (sym (ap (λ node. node.eligible) (node_at_within insns live_out table k below)) ∙ fits.eligible k member)
      ∙ ap may_join here ∙ out))))

  -- ---- what is kept

  module _ (meaning : Meaning) (all : All IsModule modules) (is_extended : IsExtended modules meaning) (n : ℕ)
      (block : IsBlock first n) (named : AreNamed live_out) (serve : Serve meaning.units first)
      (stand : (k : ℕ) → k < length first → CanStand modules (nth_insn first k)) (text : ℕ → Bool) where
    -- all folds together keep the block,
    pub folds_keep : (folded : List Insn) (gains : List ℤ) → AreFolds modules live_out table limits first folded gains
        → AreKept modules text meaning.units first n live_out folded
    folds_keep folded [] none = record { keeps = block_keeps_itself text meaning.units first n live_out block serve; can_stand = stand }
    folds_keep folded (g ∷ gains) (more {insns = insns} cut number before fits small is compute cycles) =
        let had = folds_keep insns gains before in
        let present = had.keeps.shape.is_block in
        let unit = unit_of insns (graph_of insns live_out table) cut in
        let there : number < length modules = slice_get_within modules number compute.computing compute.there in
        record {
          keeps =
              keeping_joins text meaning.units first n live_out insns folded had.keeps
              (folding_keeps text meaning.units insns n live_out table limits cut number folded present named fits small is had.keeps.serve
              (modules_compute modules meaning all is_extended number unit compute));
          can_stand = λ k.
              all_folded (folding_of insns n live_out table limits cut present fits is.early is.are_early) number folded is refl (CanStand modules)
              had.can_stand (record { put = tt; unit = there; reads = λ r index below few. tt }) tt k Ebreak;
        }

    -- ---- what is saved

    module _ (latencies : Latencies) (of_table : AreOfTable table latencies) where
      abbrev all_latencies : Latencies
      all_latencies = latencies_with latencies modules

      -- two differences in one
      joined : (a b c s g : ℤ) → a ≡ b +ℤ s → b ≡ c +ℤ g → a ≡ c +ℤ (g +ℤ s)
      joined a b c s g earlier last = earlier ∙ ap (λ z. z +ℤ s) last ∙ +ℤ_assoc c g s

      -- and save the sum of their gains
      pub folds_save : (folded : List Insn) (gains : List ℤ) → AreFolds modules live_out table limits first folded gains
          → pos (cost_of all_latencies first) ≡ pos (cost_of all_latencies folded) +ℤ total gains
      folds_save folded [] none = sym (+ℤ_idr (pos (cost_of all_latencies first)))
      folds_save folded (g ∷ gains) (more {insns = insns} cut number before fits small is compute cycles) =
          let present = (folds_keep insns gains before).keeps.shape.is_block in
          joined (pos (cost_of all_latencies first)) (pos (cost_of all_latencies insns)) (pos (cost_of all_latencies folded)) (total gains)
          (gain (graph_of insns live_out table) cut) (folds_save insns gains before)
          (folding_saves insns n live_out table all_latencies limits cut number folded present
          (record { of_class = of_table.of_class; pad = of_table.pad; read = of_table.read }) fits is cycles)
