-- The live sets of blocks, from what was found.
use Rattle.std.proofs.Common.{◌≡◌, ℕ, ◌<◌, inl, inr, List, [], ◌∷◌, length, map, get_or, nat_cmp, ◌==◌, sym, ap, ◌∙◌, subst, arith}
use Rattle.std.specs.FinSet as set
use Rattle.std.specs.List.{position_or_len}
use Rattle.std.proofs.lemmas.Bool.{cases_lt, eq-eqb, ne_eqb}
use Rattle.std.proofs.lemmas.Grind.{get_or_default_zero}
use Rattle.std.proofs.lemmas.List.{get_or_past, get_or-map, length-map}
use Rattle.std.proofs.lemmas.List.Sums.{position_or_len_is}
use Rattle.ci_block.specs.declared.blocks.Block.{Block}
use Rattle.ci_block.specs.Blocks.{AreInOrder}
use Rattle.ci_live.specs.declared.flow.Flow.{Flow}
use Rattle.ci_live.specs.declared.iteration.Found.{Found as FoundSets}
use Rattle.ci_live.specs.private.Flows.{AreFlows, AreWithin, Has, IsWithin, flow_at}
use Rattle.ci_live.specs.private.Found.{IsSolution, IsSound, live_at, on_edges}
use Rattle.ci_live.specs.Liveness.{AreLiveSets, IsLive, IsLiveAfter}
use Rattle.ci_live.specs.Sets.{set_of}
use Rattle.ci_live.proofs.TransferLaws.{on_edges_reached}
use Rattle.ci_live.proofs.NumberedBlocks.{block_at, leader_at, leads_iff_live_after, reached_iff_live}
use Rattle.ci_live.proofs.ReachLaws.{on_edges_has}
use Rattle.ci_live.proofs.SearchLaws.{Ascend}

-- the set of the leader of this number
pub set_at :
    (leaders : List ℕ) (sets : List (set.FinSet nat_cmp)) (k leader : ℕ) → Ascend leaders → k < length leaders
    → get_or leaders k 0 ≡ leader → live_at sets k ≡ set_of leaders sets leader
set_at leaders sets k leader ascending within is =
    let place : position_or_len (λ l. l == leader) leaders ≡ k =
    position_or_len_is (λ l. l == leader) leaders k 0 (omega arith)
    (λ j before. ne_eqb (get_or leaders j 0) leader (λ same. let h = ascending j k 0 before within in omega arith))
    (λ h. eq-eqb (get_or leaders k 0) leader is) in
    ap (λ n. get_or sets n set.empty) (sym place)

pub leaders_many :
    (leaders : List ℕ) (blocks : List Block) → leaders ≡ map (λ (block : Block). block.leader) blocks → length leaders ≡ length blocks
leaders_many leaders blocks same = ap length same ∙ length-map blocks (λ (b : Block). b.leader)

-- a list with a number has a block
pub block_of : (blocks : List Block) (k : ℕ) → k < length blocks → Block
block_of [] k within = let h : ⊥ = omega arith in absurd h
block_of (block ∷ blocks) k within = block

pub leaders_ascend :
    (leaders : List ℕ) (blocks : List Block) → leaders ≡ map (λ (block : Block). block.leader) blocks
    → AreInOrder blocks → Ascend leaders
leaders_ascend leaders blocks same ascending i j d before within =
    let f : Block → ℕ = λ block. block.leader in
    let many = leaders_many leaders blocks same in
    let some = block_of blocks j (omega arith) in
    let at_i : get_or leaders i d ≡ f (get_or blocks i some) = ap (λ (xs : List ℕ). get_or xs i d) same ∙ get_or-map f blocks i some d (omega arith) in
    let at_j : get_or leaders j d ≡ f (get_or blocks j some) = ap (λ (xs : List ℕ). get_or xs j d) same ∙ get_or-map f blocks j some d (omega arith) in
    omega (arith, ascending i j some before (omega arith))

-- each flow leads to some of the flows
pub flows_within :
    (leaders : List ℕ) (blocks : List Block) (flows : List Flow) → leaders ≡ map (λ (block : Block). block.leader) blocks
    → AreFlows leaders blocks (length blocks) flows → AreWithin flows
flows_within leaders blocks flows same are k =
    let many : length leaders ≡ length flows = leaders_many leaders blocks same ∙ sym are.many in
    elim (cases_lt k (length blocks)) [
      | inl within ↦
          let at = block_at blocks k (block_of blocks k within) within in
          subst (λ n. IsWithin n (flow_at flows k).successors) many (are.each k at.0 within at.1.1).successors.within
      | inr past ↦ subst (λ (flow : Flow). IsWithin (length flows) flow.successors) (sym (get_or_past flows k _ (omega (arith, are.many)))) (tt, tt)
    ]

sound_solution : (flows : List Flow) (found : FoundSets) → IsSolution flows found → IsSound flows found
sound_solution flows found solution = record {
  many = solution.many;
  live = λ k r. (solution.live k r).0;
  any = λ r. (solution.any r).0;
  all = λ k r has. (solution.any r).1 (k, (solution.live k r).0 has);
}

pub are_live_sets :
    (leaders : List ℕ) (blocks : List Block) (flows : List Flow) (found : FoundSets) (after : List (set.FinSet nat_cmp))
    → leaders ≡ map (λ (block : Block). block.leader) blocks
    → AreInOrder blocks
    → AreFlows leaders blocks (length blocks) flows → IsSolution flows found
    → ((k : ℕ) → k < length flows → live_at after k ≡ on_edges found.live.items found.any (flow_at flows k).successors)
    → AreLiveSets blocks (record { leaders = leaders; live_in = found.live.items; live_out = after })
are_live_sets leaders blocks flows found after same ascending are solution each =
    let rise = leaders_ascend leaders blocks same ascending in
    let many_blocks = leaders_many leaders blocks same in
    let sound = sound_solution flows found solution in
    record {
      leaders = sym same;
      at =
          λ leader r (k, within, is).
          let at = block_at blocks k (block_of blocks k (omega arith)) (omega arith) in
          let here : get_or leaders k 0 ≡ leader = sym (get_or_default_zero leaders k leader within) ∙ is in
          let led : at.0.leader ≡ leader = sym (leader_at leaders blocks same k at.0 at.1) ∙ here in
          let set_is = set_at leaders found.live.items k leader rise within here in
          let reached = reached_iff_live leaders blocks same flows are r ascending k at.0 at.1 in (
            λ h. subst (λ l. IsLive blocks l r) led (reached.0 ((solution.live k r).0 (subst (λ s. Has s r) (sym set_is) h))),
            λ live. subst (λ s. Has s r) set_is ((solution.live k r).1 (reached.1 (subst (λ l. IsLive blocks l r) (sym led) live))),
          );
      after =
          λ leader r (k, within, is).
          let at = block_at blocks k (block_of blocks k (omega arith)) (omega arith) in
          let here : get_or leaders k 0 ≡ leader = sym (get_or_default_zero leaders k leader within) ∙ is in
          let led : at.0.leader ≡ leader = sym (leader_at leaders blocks same k at.0 at.1) ∙ here in
          let set_is = sym (each k (omega (arith, are.many))) ∙ set_at leaders after k leader rise within here in
          let leads = leads_iff_live_after leaders blocks same flows are r ascending k at.0 at.1 in
          let successors = (flow_at flows k).successors in (
            λ h.
                subst (λ l. IsLiveAfter blocks l r) led
                (leads.0 (on_edges_reached flows found sound r successors (subst (λ s. Has s r) (sym set_is) h))),
            λ live.
                let (j, to, reached) = leads.1 (subst (λ l. IsLiveAfter blocks l r) (sym led) live) in
                subst (λ s. Has s r) set_is
                (on_edges_has found.live.items found.any successors j r (λ i. sound.all i r) to ((solution.live j r).1 reached)),
          );
    }
