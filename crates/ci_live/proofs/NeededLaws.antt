-- What is live at a leader and after its block, by the block itself.
use Rattle.std.proofs.Common.{◌≡◌, ℕ, ◌⊎◌, ◌↔◌, inl, inr, List, [], ◌∷◌, get_or, refl, sym, ap, ◌∙◌, subst, arith}
use Rattle.std.specs.List.{All, Contains}
use Rattle.std.proofs.lemmas.List.{get_or_default, get_or-map, length-map}
use Rattle.std.proofs.lemmas.List.Elements.{All-head, All-tail}
use Rattle.ci_isa.specs.Sequences.{ReadFirst, Write}
use Rattle.ci_block.specs.declared.blocks.Block.{Block}
use Rattle.ci_block.specs.Blocks.{AreInOrder}
use Rattle.ci_live.specs.Laws.{LiveAtSuccessor, LiveIsNeeded}
use Rattle.ci_live.specs.Liveness.{AreLiveSets, FollowEachOther, IsLive, IsLiveAfter, IsSuccessor, first_of}
use Rattle.ci_live.specs.Sets.{Sets}
use Rattle.ci_live.proofs.LivenessLaws.{live_where_read}
use Rattle.ci_live.proofs.NumberedBlocks.{first_there, live_where_passed, one_number}

-- the leader of a block has live sets
pub has_sets : (blocks : List Block) (sets : Sets) → AreLiveSets blocks sets → (block : Block) → Contains blocks block → Contains sets.leaders block.leader
has_sets blocks sets are block (k, within, is) =
    let f : Block → ℕ = λ block. block.leader in
    subst (λ (leaders : List ℕ). Contains leaders block.leader) are.leaders
    (k, omega (arith, length-map blocks f), get_or-map f blocks k block block.leader within ∙ ap f is)

-- where leaders ascend, a leader has one block
one_block :
    (blocks : List Block) → AreInOrder blocks
    → (a b : Block) → Contains blocks a → Contains blocks b → a.leader ≡ b.leader → a ≡ b
one_block blocks order a b (j, j_within, is_a) (k, k_within, is_b) same =
    let place : j ≡ k = one_number blocks order j k a b (j_within, is_a) (k_within, is_b) same in
    sym is_a ∙ get_or_default blocks j a b j_within ∙ ap (λ n. get_or blocks n b) place ∙ is_b

module _ (blocks : List Block) (order : AreInOrder blocks) (block : Block) (there : Contains blocks block) (r : ℕ) where
  -- by the list of blocks that shows it
  by_passed :
      (passed : List Block) (last : Block)
      → (first_of passed last).leader ≡ block.leader
      → All (λ (b : Block). Contains blocks b) passed → Contains blocks last → FollowEachOther passed last
      → ReadFirst last.insns.items r → All (λ (b : Block). ¬ Write b.insns.items r) passed
      → ReadFirst block.insns.items r ⊎ (IsLiveAfter blocks block.leader r × ¬ Write block.insns.items r)
  by_passed [] last is passed_there last_there follow reads unwritten =
      inl (subst (λ (b : Block). ReadFirst b.insns.items r) (one_block blocks order last block last_there there is) reads)
  by_passed (first ∷ passed) last is passed_there last_there follow reads unwritten =
      let first_is_there = All-head (λ (b : Block). Contains blocks b) first passed passed_there in
      let rest_there = All-tail (λ (b : Block). Contains blocks b) first passed passed_there in
      let same : first ≡ block = one_block blocks order first block first_is_there there is in
      inr (
        record {
          block = first;
          block_there = first_is_there;
          of = is;
          successor = first_of passed last;
          successor_there = first_there blocks passed last rest_there last_there;
          follows = follow.0;
          live = record {
            passed = passed;
            last = last;
            from = refl;
            passed_there = rest_there;
            last_there = last_there;
            follow = follow.1;
            reads = reads;
            unwritten = All-tail (λ (b : Block). ¬ Write b.insns.items r) first passed unwritten;
          };
        },
        subst (λ (b : Block). ¬ Write b.insns.items r) same (All-head (λ (b : Block). ¬ Write b.insns.items r) first passed unwritten),
      )

  live_iff_needed :
      IsLive blocks block.leader r
      ↔ (ReadFirst block.insns.items r ⊎ (IsLiveAfter blocks block.leader r × ¬ Write block.insns.items r))
  live_iff_needed = (
    λ live. by_passed live.passed live.last live.from live.passed_there live.last_there live.follow live.reads live.unwritten,
    λ needed. elim needed [
      | inl reads ↦ live_where_read blocks r block there reads
      | inr (after, unwritten) ↦
          let same : after.block ≡ block = one_block blocks order after.block block after.block_there there after.of in
          live_where_passed blocks r block after.successor.leader there
          (subst (λ (b : Block). IsSuccessor b after.successor) same after.follows) unwritten after.live
    ],
  )

pub live_is_needed : LiveIsNeeded
live_is_needed blocks sets block r order are there =
    let listed = has_sets blocks sets are block there in
    let at = are.at block.leader r listed in
    let after = are.after block.leader r listed in
    let needed = live_iff_needed blocks order block there r in (
      λ h. elim (needed.0 (at.0 h)) [ inl reads ↦ inl reads | inr (live, unwritten) ↦ inr (after.1 live, unwritten) ],
      λ some. at.1 (needed.1 (elim some [ inl reads ↦ inl reads | inr (h, unwritten) ↦ inr (after.0 h, unwritten) ])),
    )

pub live_at_successor : LiveAtSuccessor
live_at_successor blocks sets before after r are there after_there follows has =
    (are.after before.leader r (has_sets blocks sets are before there)).1 (record {
      block = before;
      block_there = there;
      of = refl;
      successor = after;
      successor_there = after_there;
      follows = follows;
      live = (are.at after.leader r (has_sets blocks sets are after after_there)).0 has;
    })
