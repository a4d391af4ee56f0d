-- What blocks say determines their live sets.
use Rattle.std.proofs.Common.{◌≡◌, ℕ, ◌<◌, List, length, map, get_or, Bool, true, false, IsTrue, refl, sym, ap, ◌∙◌, subst, arith}
use Rattle.std.specs.List.{Contains}
use Rattle.std.proofs.lemmas.List.{get_or_default, get_or-map, length-map}
use Rattle.ci_word.proofs.NumberLaws.{same_numbers}
use Rattle.ci_isa.specs.Sequences.{ReadFirst, Write}
use Rattle.ci_block.specs.declared.blocks.Block.{Block}
use Rattle.ci_block.specs.Blocks.{AreBlocks}
use Rattle.ci_block.specs.Laws.{BlockContents, contents_of}
use Rattle.ci_block.proofs.OneBlock.{blocks_are_one}
use Rattle.ci_block.proofs.OneListing.{listing_is_one}
use Rattle.ci_live.specs.Laws.{AnalysisIsOne, LiveSetsAreOne}
use Rattle.ci_live.specs.Liveness.{IsLive, IsLiveAfter, LeadsTo}
use Rattle.ci_live.proofs.LiveLaws.{block_of}
use Rattle.ci_live.proofs.LivenessLaws.{live_from_steps, live_where_read}
use Rattle.ci_live.proofs.NeededLaws.{has_sets}
use Rattle.ci_live.proofs.NumberedBlocks.{Stands, block_at, live_where_passed}

-- a leader of blocks has one of them
pub block_with :
    (blocks : List Block) (leader : ℕ) → Contains (map (λ (block : Block). block.leader) blocks) leader
    → (block : Block) × Contains blocks block × (block.leader ≡ leader)
block_with blocks leader (k, within, is) =
    let below : k < length blocks = omega (arith, within, length-map blocks (λ (block : Block). block.leader)) in
    found k below is (block_at blocks k (block_of blocks k below) below)
  where
    found :
        (k : ℕ) → k < length blocks → get_or (map (λ (block : Block). block.leader) blocks) k leader ≡ leader
        → ((block : Block) × Stands blocks k block) → (block : Block) × Contains blocks block × (block.leader ≡ leader)
    found k below is (block, (within, at)) =
        (block, (k, within, at), sym (ap (λ (b : Block). b.leader) at) ∙ sym (get_or-map (λ (b : Block). b.leader) blocks k block leader below) ∙ is)

-- the other list has a block that says the same
pub record IsOther (right : List Block) (block : Block) : Type 0 where
  pub other : Block
  pub there : Contains right other
  pub leader : block.leader ≡ other.leader
  pub insns : block.insns.items ≡ other.insns.items
  pub next : block.next ≡ other.next

module _ (left right : List Block) (same : map contents_of left ≡ map contents_of right) where
  pub other_of : (block : Block) → Contains left block → IsOther right block
  other_of block (k, within, is) =
      let many : length left ≡ length right = sym (length-map left contents_of) ∙ ap length same ∙ length-map right contents_of in
      let below : k < length right = omega arith in
      let other = get_or right k block in
      let says : contents_of block ≡ contents_of other =
      sym (ap contents_of is) ∙ sym (get_or-map contents_of left k block (contents_of block) within)
      ∙ ap (λ (xs : List BlockContents). get_or xs k (contents_of block)) same
      ∙ get_or-map contents_of right k block (contents_of block) below in
      record {
        other = other;
        there = (k, below, get_or_default right k other block below);
        leader = ap (λ (c : BlockContents). c.leader) says;
        insns = ap (λ (c : BlockContents). c.insns) says;
        next = ap (λ (c : BlockContents). c.next) says;
      }

  module _ (r : ℕ) where
    live_there : (leader : ℕ) → IsLive left leader r → IsLive right leader r
    live_there leader live =
        subst (λ l. IsLive right l r) live.from
        (live_from_steps left r (λ (block : Block). IsLive right block.leader r)
        (λ block there reads.
        let o = other_of block there in
        subst (λ l. IsLive right l r) (sym o.leader) (live_where_read right r o.other o.there (subst (λ xs. ReadFirst xs r) o.insns reads)))
        (λ block after there after_there follows unwritten reached.
        let o = other_of block there in
        subst (λ l. IsLive right l r) (sym o.leader)
        (live_where_passed right r o.other after.leader o.there (subst (λ n. LeadsTo n after.leader) o.next follows)
        (subst (λ xs. ¬ Write xs r) o.insns unwritten) reached))
        live.passed live.last live.passed_there live.last_there live.follow live.reads live.unwritten)

    live_after_there : (leader : ℕ) → IsLiveAfter left leader r → IsLiveAfter right leader r
    live_after_there leader after =
        let o = other_of after.block after.block_there in
        let s = other_of after.successor after.successor_there in
        record {
          block = o.other;
          block_there = o.there;
          of = sym o.leader ∙ after.of;
          successor = s.other;
          successor_there = s.there;
          follows = subst (λ l. LeadsTo o.other.next l) s.leader (subst (λ n. LeadsTo n after.successor.leader) o.next after.follows);
          live = subst (λ l. IsLive right l r) s.leader (live_there after.successor.leader after.live);
        }

same_test : (a b : Bool) → (IsTrue a → IsTrue b) → (IsTrue b → IsTrue a) → a ≡ b
same_test true b there back = sym (there refl)
same_test false true there back = back refl
same_test false false there back = refl

pub live_sets_are_one : LiveSetsAreOne
live_sets_are_one left right of_left of_right leader same l r listed =
    let (block, there, led) = block_with left leader (subst (λ (leaders : List ℕ). Contains leaders leader) (sym l.leaders) listed) in
    let o = other_of left right same block there in
    let also : Contains of_right.leaders leader =
    subst (λ n. Contains of_right.leaders n) (sym o.leader ∙ led) (has_sets right of_right r o.other o.there) in (
      same_numbers _ _
          (λ k.
          same_test _ _ (λ h. (r.at leader k also).1 (live_there left right same k leader ((l.at leader k listed).0 h)))
          (λ h. (l.at leader k listed).1 (live_there right left (sym same) k leader ((r.at leader k also).0 h)))),
      same_numbers _ _
          (λ k.
          same_test _ _ (λ h. (r.after leader k also).1 (live_after_there left right same k leader ((l.after leader k listed).0 h)))
          (λ h. (l.after leader k listed).1 (live_after_there right left (sym same) k leader ((r.after leader k also).0 h)))),
    )

pub analysis_is_one : AnalysisIsOne
analysis_is_one file targets named left right of_left of_right leader ascending l r =
    let leaders = listing_is_one file targets named l.leaders r.leaders l.listing r.listing in
    live_sets_are_one left right of_left of_right leader
    (blocks_are_one file l.leaders left right ascending l.blocks_are (subst (λ (xs : List ℕ). AreBlocks file xs right) (sym leaders) r.blocks_are))
    l.live r.live
