-- What the rounds hold before the first entry.
use Rattle.std.proofs.Common.{◌≡◌, ℕ, ◌<◌, ◌≤◌, List, [], length, map, filter, reverse, get_or, refl, sym, ap, ◌∙◌, subst, arith}
use Rattle.std.specs.List.{Contains, sum, sum_by}
use Rattle.std.proofs.lemmas.List.{get_or-map, length-map}
use Rattle.std.proofs.lemmas.List.Elements.{Contains-get_or}
use Rattle.std.proofs.lemmas.List.Sums.{count_by-le-length, length-filter, sum-map, sum_by-le-sum_by}
use Rattle.std.proofs.lemmas.Option.{none-some}
use Rattle.std.proofs.lemmas.Simd.{map-map}
use Rattle.ci_isa.specs.declared.instruction.Insn.{Insn}
use Rattle.ci_isa.specs.Effects.{may_join}
use Rattle.ci_block.specs.declared.blocks.Block.{Block}
use Rattle.ci_block.specs.Blocks.{size_of}
use Rattle.ci_select.specs.declared.rounds.Rounds.{Rounds}
use Rattle.ci_select.specs.Instances.{AreOfSomeFile}
use Rattle.ci_select.specs.PresentBlocks.{original}
use Rattle.ci_select.specs.UnitNumbers as units
use Rattle.ci_select.specs.Savings as savings
use Rattle.ci_select.specs.private.Followed.{Follows, entered_from, instance_in}
use Rattle.ci_select.proofs.BlockSums.{few_instructions}
use Rattle.ci_select.proofs.EnteredPlaces.{leaders_of_entered}

-- how many instructions may join a unit
joining : List Insn → ℕ
joining insns = length (filter may_join insns)

joining_few : (insns : List Insn) → joining insns ≤ length insns
unfolding joining
joining_few insns = omega (arith, length-filter may_join insns, count_by-le-length may_join insns)

-- these are the instructions of the blocks
module _ {V : Type 0} (items : V → List Insn) (present : List V) (blocks : List Block)
    (same : map items present ≡ map (λ (block : Block). block.insns.items) blocks) where
  same_length : length present ≡ length blocks
  same_length =
      sym (length-map present items) ∙ ap length same ∙ length-map blocks (λ (block : Block). block.insns.items)

  -- each block has its own
  same_items : (k : ℕ) (v : V) (block : Block) → k < length blocks
      → items (get_or present k v) ≡ (get_or blocks k block).insns.items
  same_items k v block within =
      sym (get_or-map items present k v [] (omega (arith, same_length)))
      ∙ ap (λ (lists : List (List Insn)). get_or lists k []) same
      ∙ get_or-map (λ (block : Block). block.insns.items) blocks k block [] within

  -- so that no more may join than there are
  few_join : sum_by (λ v. length (filter may_join (items v))) present ≤ sum_by size_of blocks
  unfolding joining
  few_join =
      let here = sum-map (λ v. joining (items v)) present in
      let there = sum-map (λ (block : Block). joining block.insns.items) blocks in
      let moved =
      ap sum
      (sym (map-map joining items present) ∙ ap (map joining) same
      ∙ map-map joining (λ (block : Block). block.insns.items) blocks) in
      let less = sum_by-le-sum_by (λ (block : Block). joining block.insns.items) size_of blocks
      (λ block. joining_few block.insns.items) in
      omega (arith, here, there, moved, less)

-- ---- the rounds

pub follows_none :
    (rounds : Rounds) → AreOfSomeFile rounds.blocks.now rounds.live.now
    → map (λ insns. insns.items) rounds.present.items ≡ map (λ block. block.insns.items) rounds.blocks.now
    → reverse rounds.unsearched.items ≡ entered_from rounds.profile.now rounds.blocks.now
    → rounds.candidates.entries ≡ [] → rounds.units ≡ [] → rounds.round ≡ 0 → rounds.saved ≡ 0 → Follows [] rounds
follows_none rounds file present unsearched no_candidate no_unit no_round no_cycle =
    let blocks = rounds.blocks.now in
    let instance = instance_in rounds in
    let few = few_join (λ insns. insns.items) rounds.present.items blocks present in
    record {
      of_file = file;
      legal = tt;
      many = same_length (λ insns. insns.items) rounds.present.items blocks present;
      present = λ k block within.
          original (
            get_or blocks k block,
            Contains-get_or blocks k block within,
            refl,
            same_items (λ insns. insns.items) rounds.present.items blocks present k block.insns block within,
          );
      unsearched = λ block.
          ap (map (λ place. (get_or blocks place block).leader)) unsearched
          ∙ leaders_of_entered rounds.profile.now blocks block;
      ranked = λ rank candidate there. absurd (omega (arith, (subst (λ es. Contains es (rank, candidate)) no_candidate there).1));
      all_ranked = λ leader saved waits is. absurd (none-some _ is.has_cut.has_cut.found);
      units = subst (units.AreUnits instance []) (sym no_unit) units.none;
      round_is = no_round;
      saved = subst (savings.IsSaved instance []) (sym no_cycle) savings.none;
      few = omega (arith, few, few_instructions file, no_round);
      bounded = omega (arith, no_cycle);
    }
