-- The block whose search is due is one of the file's, and an entry that tells of its search is right.
use Rattle.std.proofs.Common.{◌≡◌, ◌↔◌, ℕ, nat_lt, false, List, length, map, slice_index_or, refl, sym, ap, ◌∙◌, subst}
use Rattle.std.proofs.lemmas.List.Elements.{All-contains, All-contains_itself, All-filter, All-map, All-weaker}
use Rattle.std.proofs.lemmas.Option.{slice_get_within, get_or_from_slice_get}
use Rattle.std.specs.List.{All, Contains}
use Rattle.ci_isa.specs.declared.instruction.Insn.{Insn}
use Rattle.ci_block.specs.declared.blocks.Block.{Block}
use Rattle.ci_cut.specs.FlowGraph.{FlowGraph}
use Rattle.ci_cut.specs.Need.{NeedExceeds}
use Rattle.ci_log.specs.declared.book.Entry.{Entry}
use Rattle.ci_log.specs.declared.book.Entry.TheVariants.{Best, Without, Spent, Take}
use Rattle.ci_select.specs.declared.plan.Plan.{Plan}
use Rattle.ci_select.specs.declared.rounds.Due.TheVariants as due
use Rattle.ci_select.specs.declared.rounds.Rounds.{Rounds}
use Rattle.ci_select.specs.Histories.{History, is_take, leader_of}
use Rattle.ci_select.specs.Instances.{Instance, entered}
use Rattle.ci_select.specs.PresentBlocks.{IsPresent}
use Rattle.ci_select.specs.Dues.{IsDue, IsSearchDue, at_first, after_take}
use Rattle.ci_select.specs.LegalBooks.{IsLegalHistory, IsRight, IsSearched, searched}
use Rattle.ci_select.specs.GivenUp.{IsGivenUp, IsGivenUpByNeed}
use Rattle.ci_select.specs.private.Followed.{Follows, IsDueGraph, instance_in}
use Rattle.ci_select.proofs.PresentLaws.{block_of_present, due_search, take_is_due}

-- ---- the block

-- a block is there at the leader
abbrev pub HasBlock : Instance → ℕ → Type 0
HasBlock instance leader = (block : Block) × Contains instance.blocks block × (block.leader ≡ leader)

-- at each leader of a block that was entered
entered_blocks : (instance : Instance) → All (HasBlock instance) (entered instance)
entered_blocks instance =
    All-filter (λ (leader : ℕ). nat_lt 0 (instance.entries leader)) (HasBlock instance)
    (map (λ (block : Block). block.leader) instance.blocks)
    (All-map (HasBlock instance) (λ (block : Block). block.leader) instance.blocks
    (All-weaker (Contains instance.blocks) (λ (block : Block). HasBlock instance block.leader)
    (λ block there. (block, there, refl)) instance.blocks (All-contains_itself instance.blocks)))

-- so at that of a search that is due
pub block_of_search :
    {instance : Instance} {history : History} {leader : ℕ} → IsLegalHistory instance history
    → IsSearchDue instance history leader → HasBlock instance leader
block_of_search {instance} {leader = leader} legal (at_first {history = history} first there) =
    let at = length history in
    All-contains (HasBlock instance) (entered instance) leader (entered_blocks instance) (
      at,
      slice_get_within (entered instance) at leader there,
      get_or_from_slice_get (entered instance) at leader leader there,
    )
block_of_search legal (after_take) = block_of_present (take_is_due legal.0).next.candidate.candidate.has_cut.present

module _ {history : History} {rounds : Rounds} (follows : Follows history rounds) where
  -- which stands in the present program
  pub present_of_search :
      {leader : ℕ} → IsSearchDue (instance_in rounds) history leader
      → (insns : List Insn) × IsPresent (instance_in rounds) history leader insns
  present_of_search due =
      let found = block_of_search follows.legal due in
      let place = found.1.0 in
      let insns = (slice_index_or rounds.present.items place found.0.insns).items in (
        insns,
        subst (λ leader. IsPresent (instance_in rounds) history leader insns)
            (ap (λ (block : Block). block.leader) found.1.2 ∙ found.2) (follows.present place found.0 found.1.1),
      )

  -- ---- its entry

  -- the search of the block of the entry is due
  search_here :
      (entry : Entry) {leader : ℕ} → leader_of entry ≡ leader → IsDue (instance_in rounds) history (due.Search leader)
      → IsDue (instance_in rounds) history (due.Search (leader_of entry))
  search_here entry same what = subst (λ leader. IsDue (instance_in rounds) history (due.Search leader)) (sym same) what

  -- an entry that tells of the search of its graph is right
  pub search_is_right :
      (graph : FlowGraph) (plan : Plan) (entry : Entry) {leader : ℕ} → IsDueGraph rounds graph
      → plan ≡ (instance_in rounds).plan → leader_of entry ≡ leader
      → IsDue (instance_in rounds) history (due.Search leader) → IsSearched graph plan entry
      → IsRight (instance_in rounds) history entry
  search_is_right graph plan entry of_block same_plan same what is =
      let here = search_here entry same what in
      let present = present_of_search (due_search here) in
      searched here present.1
      (subst (λ graph. IsSearched graph (instance_in rounds).plan entry)
      (of_block history (leader_of entry) present.0 follows here present.1)
      (subst (λ plan. IsSearched graph plan entry) same_plan is))

  -- and one that is given up exactly by the need of its graph is so by that of its block
  pub gives_up_by_need :
      (graph : FlowGraph) (plan : Plan) (entry : Entry) {leader : ℕ} → IsDueGraph rounds graph
      → plan ≡ (instance_in rounds).plan → leader_of entry ≡ leader
      → IsDue (instance_in rounds) history (due.Search leader)
      → IsGivenUp entry ↔ NeedExceeds graph plan.limits plan.budget
      → IsGivenUpByNeed (instance_in rounds) history entry
  gives_up_by_need graph plan entry of_block same_plan same what is insns search present =
      let here = search_here entry same what in
      let bounds = (instance_in rounds).plan in
      subst (λ (graph : FlowGraph). IsGivenUp entry ↔ NeedExceeds graph bounds.limits bounds.budget)
      (of_block history (leader_of entry) insns follows here present)
      (subst (λ (plan : Plan). IsGivenUp entry ↔ NeedExceeds graph plan.limits plan.budget) same_plan is)

-- and it is no take
pub search_is_no_take : (graph : FlowGraph) (plan : Plan) (entry : Entry) → IsSearched graph plan entry → is_take entry ≡ false
search_is_no_take graph plan (Best leader cut log) is = refl
search_is_no_take graph plan (Without leader log) is = refl
search_is_no_take graph plan (Spent leader budget) is = refl
search_is_no_take graph plan (Take leader unit) is = absurd is
