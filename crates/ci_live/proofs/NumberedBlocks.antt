-- Liveness by lists of blocks and by the numbers of blocks is one.
use Rattle.std.proofs.Common.{◌≡◌, ℕ, ◌<◌, ◌↔◌, inl, inr, List, [], ◌∷◌, length, map, get_or, slice_index, refl, sym, ap, ◌∙◌, subst, arith}
use Rattle.std.specs.List.{All, Contains}
use Rattle.std.proofs.lemmas.Bool.{cases_lt}
use Rattle.std.proofs.lemmas.List.{get_or_default, get_or-map, length-map}
use Rattle.std.proofs.lemmas.List.Elements.{All-cons, All-head}
use Rattle.ci_block.specs.declared.blocks.Block.{Block}
use Rattle.ci_block.specs.Blocks.{AreInOrder}
use Rattle.ci_live.specs.declared.flow.Flow.{Flow}
use Rattle.ci_live.specs.declared.flow.Successors.{Successors}
use Rattle.ci_live.specs.private.Flows.{AreFlows, AreSuccessorNumbers, IsReached, here, further, Leads, flow_at}
use Rattle.ci_isa.specs.Sequences.{ReadFirst, Write}
use Rattle.ci_live.specs.Liveness.{FollowEachOther, IsLive, IsLiveAfter, IsSuccessor, LeadsTo, first_of}
use Rattle.ci_live.proofs.LivenessLaws.{live_from_steps, live_where_read}

-- block k is this one
abbrev pub Stands : List Block → ℕ → Block → Type 0
Stands blocks k block = (k < length blocks) × (get_or blocks k block ≡ block)

-- there is a block at each number
pub block_at : (blocks : List Block) (k : ℕ) → Block → k < length blocks → (block : Block) × Stands blocks k block
block_at blocks k d within = (get_or blocks k d, (within, get_or_default blocks k (get_or blocks k d) d within))

-- a block is live where it leads to one at which the register is live, and doesn't write it
pub live_where_passed :
    (blocks : List Block) (r : ℕ) (block : Block) (leader : ℕ) → Contains blocks block → LeadsTo block.next leader
    → ¬ Write block.insns.items r → IsLive blocks leader r → IsLive blocks block.leader r
live_where_passed blocks r block leader there leads unwritten live = record {
  passed = block ∷ live.passed;
  last = live.last;
  from = refl;
  passed_there = All-cons (λ (b : Block). Contains blocks b) block live.passed there live.passed_there;
  last_there = live.last_there;
  follow = (subst (λ a. LeadsTo block.next a) (sym live.from) leads, live.follow);
  reads = live.reads;
  unwritten = All-cons (λ (b : Block). ¬ Write b.insns.items r) block live.passed unwritten live.unwritten;
}

pub reached_below : (flows : List Flow) (r k : ℕ) → IsReached flows r k → k < length flows
reached_below flows r _ (here k within has) = within
reached_below flows r _ (further k j within leads unwritten reached) = within

-- blocks of one leader have one number, where leaders ascend
pub one_number :
    (blocks : List Block) → AreInOrder blocks
    → (j k : ℕ) (a b : Block) → Stands blocks j a → Stands blocks k b → a.leader ≡ b.leader → j ≡ k
one_number blocks ascending j k a b (j_within, is_a) (k_within, is_b) same =
    let at_j : get_or blocks j b ≡ a = get_or_default blocks j b a j_within ∙ is_a in
    let at_k : get_or blocks k a ≡ b = get_or_default blocks k a b k_within ∙ is_b in
    let lead_a : (get_or blocks j a).leader ≡ a.leader = ap (λ (x : Block). x.leader) is_a in
    let lead_b : (get_or blocks k b).leader ≡ b.leader = ap (λ (x : Block). x.leader) is_b in
    let also_a : (get_or blocks j b).leader ≡ a.leader = ap (λ (x : Block). x.leader) at_j in
    let also_b : (get_or blocks k a).leader ≡ b.leader = ap (λ (x : Block). x.leader) at_k in
    elim (cases_lt j k) [
      | inl before ↦ absurd (omega (arith, ascending j k a before k_within))
      | inr h ↦ elim (cases_lt k j) [
        | inl after ↦ absurd (omega (arith, ascending k j b after j_within))
        | inr g ↦ omega arith
      ]
    ]

pub first_there :
    (blocks : List Block) (passed : List Block) (last : Block) → All (λ (b : Block). Contains blocks b) passed
    → Contains blocks last → Contains blocks (first_of passed last)
first_there blocks [] last there last_there = last_there
first_there blocks (block ∷ passed) last there last_there = All-head (λ (b : Block). Contains blocks b) block passed there

-- the leaders of blocks, by number
pub leader_at :
    (leaders : List ℕ) (blocks : List Block) → leaders ≡ map (λ (block : Block). block.leader) blocks
    → (k : ℕ) (block : Block) → Stands blocks k block → slice_index leaders k ≡ block.leader
leader_at leaders blocks same k block (within, is) =
    ap (λ (xs : List ℕ). get_or xs k 0) same ∙ get_or-map (λ (b : Block). b.leader) blocks k block 0 within
    ∙ ap (λ (b : Block). b.leader) is

-- a successor by number is a block that is a successor
leads_to_successor :
    (leaders : List ℕ) (blocks : List Block) → leaders ≡ map (λ (block : Block). block.leader) blocks
    → (before : Block) (successors : Successors) → AreSuccessorNumbers leaders before.next successors → (k : ℕ) (after : Block) → Stands blocks k after
    → Leads successors k ↔ IsSuccessor before after
leads_to_successor leaders blocks same before successors are k after stands =
    let many : length leaders ≡ length blocks = ap length same ∙ length-map blocks (λ (b : Block). b.leader) in
    subst (λ a. Leads successors k ↔ LeadsTo before.next a) (leader_at leaders blocks same k after stands)
    (are.leads k (omega (arith, many, stands.0)))

module _ (leaders : List ℕ) (blocks : List Block)
    (leaders_are : leaders ≡ map (λ (block : Block). block.leader) blocks) (flows : List Flow)
    (are : AreFlows leaders blocks (length blocks) flows) (r : ℕ) where
  pub live_from_reached : (k : ℕ) → IsReached flows r k → (block : Block) → Stands blocks k block → IsLive blocks block.leader r
  live_from_reached _ (here k within has) block (there, is) =
      live_where_read blocks r block (k, there, is) (((are.each k block there is).uses r).0 has)
  live_from_reached _ (further k j within leads unwritten reached) block (there, is) =
      let flow = are.each k block there is in
      let ahead = reached_below flows r j reached in
      let at = block_at blocks j block (omega (arith, are.many)) in
      live_where_passed blocks r block at.0.leader (k, there, is) ((leads_to_successor leaders blocks leaders_are block _ flow.successors j at.0 at.1).0 leads)
      (λ w. unwritten ((flow.defs r).1 w))
      (live_from_reached j reached at.0 at.1)

  pub reached_from_live :
      (passed : List Block) (last : Block)
      → All (λ (b : Block). Contains blocks b) passed → Contains blocks last → FollowEachOther passed last
      → ReadFirst last.insns.items r → All (λ (b : Block). ¬ Write b.insns.items r) passed
      → (k : ℕ) → Stands blocks k (first_of passed last) → IsReached flows r k
  reached_from_live =
      live_from_steps blocks r (λ (block : Block). (k : ℕ) → Stands blocks k block → IsReached flows r k)
      (λ block there read k (within, is). here k (omega (arith, are.many)) (((are.each k block within is).uses r).1 read))
      (λ block after there (j, after_within, after_is) follows unwritten reached k (within, is).
      let flow = are.each k block within is in
      further k j (omega (arith, are.many)) ((leads_to_successor leaders blocks leaders_are block _ flow.successors j after (after_within, after_is)).1 follows)
      (λ has. unwritten ((flow.defs r).0 has))
      (reached j (after_within, after_is)))

  module _ (ascending : AreInOrder blocks) where
    -- the register is live at block k
    pub reached_iff_live : (k : ℕ) (block : Block) → Stands blocks k block → IsReached flows r k ↔ IsLive blocks block.leader r
    reached_iff_live k block stands = (
      λ reached. live_from_reached k reached block stands,
      λ live.
          let (i, within, is) = first_there blocks live.passed live.last live.passed_there live.last_there in
          subst (λ n. IsReached flows r n)
          (one_number blocks ascending i k (first_of live.passed live.last) block (within, is) stands live.from)
          (reached_from_live live.passed live.last live.passed_there live.last_there live.follow live.reads live.unwritten i (within, is)),
    )

    -- and behind it
    pub leads_iff_live_after :
        (k : ℕ) (block : Block) → Stands blocks k block
        → ((j : ℕ) × Leads (flow_at flows k).successors j × IsReached flows r j) ↔ IsLiveAfter blocks block.leader r
    leads_iff_live_after k block (within, is) = (
      λ (j, leads, reached).
          let ahead = reached_below flows r j reached in
          let at = block_at blocks j block (omega (arith, are.many)) in
          record {
            block = block;
            block_there = (k, within, is);
            of = refl;
            successor = at.0;
            successor_there = (j, at.1.0, at.1.1);
            follows = (leads_to_successor leaders blocks leaders_are block _ (are.each k block within is).successors j at.0 at.1).0 leads;
            live = live_from_reached j reached at.0 at.1;
          },
      λ after.
          let b = after.block_there in
          let s = after.successor_there in
          let same : b.0 ≡ k = one_number blocks ascending b.0 k after.block block (b.1, b.2) (within, is) after.of in (
            s.0,
            subst (λ n. Leads (flow_at flows n).successors s.0) same
                ((leads_to_successor leaders blocks leaders_are after.block _
                (are.each b.0 after.block b.1 b.2).successors s.0 after.successor (s.1, s.2)).1 after.follows),
            (reached_iff_live s.0 after.successor (s.1, s.2)).1 after.live,
          ),
    )
