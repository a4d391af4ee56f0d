-- Behind the entry of a search the rounds hold what the entries say: the block is searched, and a cut that was found is a
-- candidate more.
use Rattle.std.proofs.Common.{◌≡◌, ℕ, ◌-◌, ◌^◌, ◌<◌, inl, inr, false, true≢false, refl, sym, ap, ◌∙◌, subst, List, []}
use Rattle.std.proofs.Common.{◌∷◌, ◌++◌, length, map, reverse, Some, ℤ, pos, ◌*ℤ◌, ◌<ℤ◌, arith}
use Rattle.std.specs.Prelude.{slice_get, slice_index_or}
use Rattle.std.specs.FinSet as finite
use Rattle.std.specs.Global.{Vec}
use Rattle.std.specs.BTreeMap.{BTreeMap, insert_entry}
use Rattle.std.specs.List.{Contains}
use Rattle.std.specs.Ordering.{nat_cmp}
use Rattle.std.proofs.lemmas.Bool.{cases_eq}
use Rattle.std.proofs.lemmas.List.{get_or_default, length-append, length-map, length-reverse, reverse-append}
use Rattle.ci_isa.specs.declared.instruction.Insn.{Insn}
use Rattle.ci_block.specs.declared.blocks.Block.{Block}
use Rattle.ci_cut.specs.FlowGraph.{FlowGraph}
use Rattle.ci_cut.specs.Gain.{gain}
use Rattle.ci_log.specs.declared.book.Entry.{Entry}
use Rattle.ci_log.specs.declared.book.Entry.TheVariants.{Best}
use Rattle.ci_log.specs.declared.log.Item.{Item}
use Rattle.ci_unit.specs.Operands.{AreOperands, FitsSomeLimits}
use Rattle.ci_unit.specs.Units.{Unit, unit_of}
use Rattle.ci_select.specs.declared.rounds.Candidate.{Candidate}
use Rattle.ci_select.specs.declared.rounds.Rank.{Rank}
use Rattle.ci_select.specs.declared.rounds.Rounds.{Rounds}
use Rattle.ci_select.specs.Histories.{History, is_take, leader_of}
use Rattle.ci_select.specs.Instances.{Instance}
use Rattle.ci_select.specs.PresentBlocks.{HasPresentCut, IsPresent, unchanged, graph_at}
use Rattle.ci_select.specs.UnitNumbers.{of_search as units_of_search}
use Rattle.ci_select.specs.Candidates.{IsCandidate}
use Rattle.ci_select.specs.Savings.{of_search as saved_of_search}
use Rattle.ci_select.specs.Dues.{searches}
use Rattle.ci_select.specs.private.Followed.{Follows, IsDueGraph, IsRanked, instance_in, searches_due, steps_left}
use Rattle.ci_select.specs.LegalBooks.{IsRight}
use Rattle.ci_select.proofs.DuePlaces.{last_is_at, last_of_pushed, last_within, order_of, present_at}
use Rattle.ci_select.proofs.EntryLaws.{entry_cases, first_there, later_there, new_is_there, others_stay}
use Rattle.ci_select.proofs.HistoryLaws.{kept_cut, keeps_cut, last_search_is, new_cut, round_stays}
use Rattle.ci_select.proofs.PresentIsOne.{block_of_present, present_before, present_is_one, search_takes_none}
use Rattle.ci_select.proofs.PresentLaws.{IsSearchedAt, other_search, own_search, present_is_sound, right_cases}
use Rattle.ci_select.proofs.RankLaws.{rank_order}
use Rattle.ci_select.proofs.RankTies.{rank_is_one}
use Rattle.ci_select.proofs.SearchDues.{search_due_is_one}
use Rattle.ci_select.proofs.SearchesDue.{list_of_due, listed_once}

-- an entry that is right and no take is a search
pub searched_at :
    {instance : Instance} {history : History} (entry : Entry) → IsRight instance history entry
    → is_take entry ≡ false → IsSearchedAt instance history entry
searched_at entry right search = elim (right_cases right) [
  | inl is ↦ is
  | inr (l, unit, same, is) ↦ absurd (true≢false (sym (ap is_take same) ∙ search))
]

pub follows_entry :
    {history : History} {after : Rounds} {left right : Entry} → left ≡ right → Follows (left ∷ history) after
    → Follows (right ∷ history) after
follows_entry {history} {after} same follows = subst (λ e. Follows (e ∷ history) after) same follows

-- the instructions at the place of a leader are those of its present block
pub present_here :
    {history : History} {before : Rounds} {leader : ℕ} {insns : List Insn} (place : ℕ) (held : Vec Insn)
    → Follows history before → place < length before.blocks.now
    → ((block : Block) → (slice_index_or before.blocks.now place block).leader ≡ leader)
    → held ≡ slice_index_or before.present.items place held → IsPresent (instance_in before) history leader insns
    → held.items ≡ insns
present_here {history} {before} {leader} {insns} place held follows within leads is present =
    let block = (block_of_present present).0 in
    let same : held ≡ slice_index_or before.present.items place block.insns =
    is ∙ get_or_default before.present.items place held block.insns (omega (arith, follows.many)) in
    ap (λ (v : Vec Insn). v.items) same
    ∙ present_is_one (instance_in before) history leader
    (slice_index_or before.present.items place block.insns).items insns (order_of follows)
    (present_at place block follows within (leads block)) present

-- the block at the place has this leader
pub record IsPlaceOf (blocks : List Block) (leader place : ℕ) : Type 0 where
  pub within : place < length blocks
  pub leads : (block : Block) → (slice_index_or blocks place block).leader ≡ leader

-- equal lists have equal rests
same_rest : (a b : ℕ) (xs ys : List ℕ) → a ∷ xs ≡ b ∷ ys → xs ≡ ys
same_rest a b xs ys same = cc

-- ---- what an entry of a search leaves

module _ {history : History} {before : Rounds} (entry : Entry) (follows : Follows history before)
    (right : IsRight (instance_in before) history entry) (search : is_take entry ≡ false) where
  -- the search that is due
  at : IsSearchedAt (instance_in before) history entry
  at = searched_at entry right search

  -- it is the first of the list,
  listed : searches_due (instance_in before) history ≡ leader_of entry ∷ searches_due (instance_in before) (entry ∷ history)
  listed = list_of_due entry at.is_due search

  -- a block that waits for no search is another one,
  waits_apart : (leader : ℕ) → ¬ Contains (searches_due (instance_in before) history) leader → ¬ (leader_of entry ≡ leader)
  waits_apart leader waits same =
      waits (subst (λ xs. Contains xs leader) (sym listed)
      (subst (λ l. Contains (leader_of entry ∷ searches_due (instance_in before) (entry ∷ history)) l) same
      (first_there (leader_of entry) (searches_due (instance_in before) (entry ∷ history)))))

  -- and waits for none behind the entry
  waits_on : (leader : ℕ) → ¬ Contains (searches_due (instance_in before) history) leader
      → ¬ Contains (searches_due (instance_in before) (entry ∷ history)) leader
  waits_on leader waits there =
      waits (subst (λ xs. Contains xs leader) (sym listed)
      (later_there (leader_of entry) leader (searches_due (instance_in before) (entry ∷ history)) there))

  -- its cut stays,
  cut_stays : {leader : ℕ} {insns : List Insn} {cut : finite.FinSet nat_cmp} → ¬ (leader_of entry ≡ leader)
      → HasPresentCut (instance_in before) history leader insns cut
      → HasPresentCut (instance_in before) (entry ∷ history) leader insns cut
  cut_stays {leader} other has = record {
    present = unchanged (search_takes_none entry leader search) has.present;
    has_cut = keeps_cut (other_search entry leader other) has.has_cut;
  }

  -- and was there before,
  cut_was : {leader : ℕ} {insns : List Insn} {cut : finite.FinSet nat_cmp} → ¬ (leader_of entry ≡ leader)
      → HasPresentCut (instance_in before) (entry ∷ history) leader insns cut
      → HasPresentCut (instance_in before) history leader insns cut
  cut_was {leader} other has = record {
    present = present_before (search_takes_none entry leader search) has.present;
    has_cut = kept_cut (other_search entry leader other) has.has_cut;
  }

  -- as what it saves does
  candidate_stays : (leader : ℕ) (saved : ℤ) → ¬ (leader_of entry ≡ leader)
      → IsCandidate (instance_in before) history leader saved
      → IsCandidate (instance_in before) (entry ∷ history) leader saved
  candidate_stays leader saved other is =
      record { insns = is.insns; cut = is.cut; has_cut = cut_stays other is.has_cut; saved_is = is.saved_is }

  -- and was
  candidate_was : (leader : ℕ) (saved : ℤ) → ¬ (leader_of entry ≡ leader)
      → IsCandidate (instance_in before) (entry ∷ history) leader saved
      → IsCandidate (instance_in before) history leader saved
  candidate_was leader saved other is =
      record { insns = is.insns; cut = is.cut; has_cut = cut_was other is.has_cut; saved_is = is.saved_is }

  -- so that its candidate stays,
  ranked_stays : (rank : Rank) (candidate : Candidate)
      → IsRanked (instance_in before) history before.blocks.now rank candidate
      → IsRanked (instance_in before) (entry ∷ history) before.blocks.now rank candidate
  ranked_stays rank candidate is =
      let other = waits_apart rank.leader is.waits in
      record {
        insns = is.insns;
        waits = waits_on rank.leader is.waits;
        within = is.within;
        leader = is.leader;
        has_cut = cut_stays other is.has_cut;
        graph = is.graph;
        unit = is.unit;
        saved = candidate_stays rank.leader (pos rank.saved.0) other is.saved;
        small = is.small;
      }

  -- and a candidate of another block is held
  abbrev pub IsHeld : List (Rank × Candidate) → ℕ → Type 0
  IsHeld entries leader =
      (rank : Rank) × (candidate : Candidate) × Contains entries (rank, candidate) × (rank.leader ≡ leader)

  -- as it was before
  others_held : (leader : ℕ) (saved : ℤ) → ¬ (leader_of entry ≡ leader)
      → IsCandidate (instance_in before) (entry ∷ history) leader saved → IsHeld before.candidates.entries leader
  others_held leader saved other is =
      follows.all_ranked leader saved (λ also. other (search_due_is_one at.is_due also))
      (candidate_was leader saved other is)

  -- a candidate of the block itself was found by the entry
  found_now : (saved : ℤ) (leader : ℕ) → leader_of entry ≡ leader → IsCandidate (instance_in before) (entry ∷ history) leader saved
      → (cut : finite.FinSet nat_cmp) × (log : List Item) × (entry ≡ Best leader cut log)
  found_now saved leader its is =
      let own = last_search_is entry history leader
      (own_search entry (graph_at (instance_in before) (leader_of entry) at.insns) (instance_in before).plan leader at.is_searched its) in
      (is.cut, is.has_cut.has_cut.log, some_is (sym own ∙ is.has_cut.has_cut.found))
    where
      some_is : {other : Entry} → Some entry ≡ Some other → entry ≡ other
      some_is same = cc

  -- ---- the rounds behind it

  -- so that a place is left,
  pub some_left : 0 < length before.unsearched.items
  some_left =
      let block = (block_of_present at.present).0 in
      let long = ap length (follows.unsearched block ∙ listed) in
      omega (
        arith,
        long,
        length-map (reverse before.unsearched.items) (λ place. (slice_index_or before.blocks.now place block).leader),
        length-reverse before.unsearched.items,
      )

  module _ (unsearched : Vec ℕ) (place : ℕ)
      (is_popped : before.unsearched.items ≡ unsearched.items ++ place ∷ []) where
    -- the last of them,
    last_left : slice_get before.unsearched.items (length before.unsearched.items - 1) ≡ Some place
    last_left =
        subst (λ xs. slice_get xs (length xs - 1) ≡ Some place) (sym is_popped) (last_of_pushed unsearched.items place)

    -- which is that of the block that is searched,
    pub place_is : IsPlaceOf before.blocks.now (leader_of entry) place
    place_is = record {
      within = last_within place follows last_left;
      leads = λ block. last_is_at place follows last_left block at.is_due;
    }

    -- and behind it the places of the other searches that are due
    rest_left : (block : Block)
        → map (λ place. (slice_index_or before.blocks.now place block).leader) (reverse unsearched.items)
        ≡ searches_due (instance_in before) (entry ∷ history)
    rest_left block =
        let lead = λ (place : ℕ). (slice_index_or before.blocks.now place block).leader in
        let turned : map lead (reverse before.unsearched.items) ≡ lead place ∷ map lead (reverse unsearched.items) =
        ap (λ xs. map lead (reverse xs)) is_popped ∙ ap (map lead) (reverse-append unsearched.items (place ∷ [])) in
        same_rest (lead place) (leader_of entry) (map lead (reverse unsearched.items)) (searches_due (instance_in before) (entry ∷ history))
        (sym turned ∙ follows.unsearched block ∙ listed)

    -- so that one search fewer is due
    pub search_leaves_fewer : (candidates : BTreeMap Rank Candidate)
        → steps_left (record before { unsearched = unsearched; candidates = candidates }) < steps_left before
    search_leaves_fewer candidates = omega (arith, ap length is_popped, length-append unsearched.items (place ∷ []))

    -- the rounds by their candidates
    follows_by : (candidates : BTreeMap Rank Candidate)
        → ((rank : Rank) (candidate : Candidate) → Contains candidates.entries (rank, candidate)
        → IsRanked (instance_in before) (entry ∷ history) before.blocks.now rank candidate)
        → ((leader : ℕ) (saved : ℤ) → IsCandidate (instance_in before) (entry ∷ history) leader saved
        → IsHeld candidates.entries leader)
        → Follows (entry ∷ history) (record before { unsearched = unsearched; candidates = candidates })
    follows_by candidates ranked held = record {
      of_file = follows.of_file;
      legal = (right, follows.legal);
      many = follows.many;
      present = λ k block within. unchanged (search_takes_none entry (slice_index_or before.blocks.now k block).leader search) (follows.present k block within);
      unsearched = rest_left;
      ranked = ranked;
      all_ranked = λ leader saved settled is. held leader saved is;
      units = units_of_search search follows.units;
      round_is = follows.round_is ∙ sym (round_stays entry history search);
      saved = saved_of_search search follows.saved;
      few = follows.few;
      bounded = follows.bounded;
    }

    -- Where it found no cut, there are the same candidates.
    pub follows_search_without : ((cut : finite.FinSet nat_cmp) (log : List Item) (leader : ℕ) → ¬ (entry ≡ Best leader cut log))
        → Follows (entry ∷ history) (record before { unsearched = unsearched })
    follows_search_without none = follows_by before.candidates
        (λ rank candidate there. ranked_stays rank candidate (follows.ranked rank candidate there))
        (λ leader saved is. elim (cases_eq (leader_of entry) leader) [
          | inl its ↦ let found = found_now saved leader its is in absurd (none found.0 found.1 leader found.2)
          | inr other ↦ others_held leader saved other is
        ])

    -- Where it found one, that is a candidate more.
    module _ (rank : Rank) (candidate : Candidate)
        (is : IsRanked (instance_in before) (entry ∷ history) before.blocks.now rank candidate)
        (leads : rank.leader ≡ leader_of entry) (candidates : BTreeMap Rank Candidate)
        (inserted : candidates.entries ≡ insert_entry rank_order before.candidates.entries rank candidate) where
      all_are_ranked : (r : Rank) (c : Candidate) → Contains candidates.entries (r, c)
          → IsRanked (instance_in before) (entry ∷ history) before.blocks.now r c
      all_are_ranked r c there =
          elim (entry_cases rank_order rank candidate before.candidates.entries (r, c) (rank_is_one rank) (subst (λ es. Contains es (r, c)) inserted there)) [
            | inl new ↦ subst (λ (e : Rank × Candidate). IsRanked (instance_in before) (entry ∷ history) before.blocks.now e.0 e.1) (sym new) is
            | inr old ↦ ranked_stays r c (follows.ranked r c old)
          ]

      all_are_held : (leader : ℕ) (saved : ℤ) → IsCandidate (instance_in before) (entry ∷ history) leader saved
          → IsHeld candidates.entries leader
      all_are_held leader saved found = elim (cases_eq (leader_of entry) leader) [
        | inl its ↦ (rank, candidate, subst (λ es. Contains es (rank, candidate)) (sym inserted) (new_is_there rank_order rank candidate before.candidates.entries (rank_is_one rank)), leads ∙ its)
        | inr other ↦
            let old = others_held leader saved other found in (
              old.0,
              old.1,
              subst (λ es. Contains es (old.0, old.1)) (sym inserted)
                  (others_stay rank_order rank candidate before.candidates.entries (old.0, old.1) (rank_is_one rank)
                  (λ equal. other (sym leads ∙ sym (ap (λ (r : Rank). r.leader) equal) ∙ old.3)) old.2),
              old.3,
            )
      ]

      pub follows_search_best : Follows (entry ∷ history) (record before { unsearched = unsearched; candidates = candidates })
      follows_search_best = follows_by candidates all_are_ranked all_are_held

-- ---- the candidate of a cut that was found

-- what is asked of a cut that is made a candidate
pub record IsMade (graph : FlowGraph) (insns : List Insn) (cut : finite.FinSet nat_cmp) : Type 0 where
  pub operands : AreOperands insns graph
  pub fits : FitsSomeLimits graph (finite.contains cut)
  pub gains : pos 0 <ℤ gain graph (finite.contains cut)

module _ {history : History} {before : Rounds} (rank : Rank) (cut : finite.FinSet nat_cmp) (log : List Item)
    (graph : FlowGraph) (place : ℕ) (held : Vec Insn) (follows : Follows history before)
    (right : IsRight (instance_in before) history (Best rank.leader cut log)) (graphs : IsDueGraph before graph)
    (within : place < length before.blocks.now)
    (leads : (block : Block) → (slice_index_or before.blocks.now place block).leader ≡ rank.leader)
    (is : held ≡ slice_index_or before.present.items place held) where
  -- the search that is due found the cut
  found : IsSearchedAt (instance_in before) history (Best rank.leader cut log)
  found = searched_at (Best rank.leader cut log) right refl

  -- the graph is that of its present instructions,
  graph_is : graph ≡ graph_at (instance_in before) rank.leader found.insns
  graph_is = graphs history rank.leader found.insns follows (searches found.is_due) found.present

  -- and these are those at the place,
  insns_are : held.items ≡ found.insns
  insns_are = present_here place held follows within leads is found.present

  -- so that the cut can be made a candidate
  pub cut_is_made : IsMade graph held.items cut
  cut_is_made =
      let sound = present_is_sound follows.of_file follows.legal found.present in
      let good = found.is_searched.good in
      subst (λ g. IsMade g held.items cut) (sym graph_is)
      (subst (λ i. IsMade (graph_at (instance_in before) rank.leader found.insns) i cut) (sym insns_are)
      (record { operands = sound.operands; fits = ((instance_in before).plan.limits, good.0); gains = good.1 }))

  -- its block waits for no search
  waits_no_more : ¬ Contains (searches_due (instance_in before) (Best rank.leader cut log ∷ history)) rank.leader
  waits_no_more =
      listed_once (instance_in before) history rank.leader (searches_due (instance_in before) (Best rank.leader cut log ∷ history))
      (order_of follows) (list_of_due (Best rank.leader cut log) found.is_due refl)

  -- and has the cut,
  has_new_cut : HasPresentCut (instance_in before) (Best rank.leader cut log ∷ history) rank.leader found.insns cut
  has_new_cut = record { present = unchanged refl found.present; has_cut = new_cut }

  -- so that the candidate is ranked
  pub new_is_ranked : (unit : Unit) → unit ≡ unit_of held.items graph (finite.contains cut)
      → pos rank.saved.0 ≡ gain graph (finite.contains cut) *ℤ pos ((instance_in before).entries rank.leader)
      → rank.saved.0 < 2 ^ 82
      → IsRanked (instance_in before) (Best rank.leader cut log ∷ history) before.blocks.now rank
      (record { place = place; graph = graph; cut = cut; unit = unit })
  new_is_ranked unit unit_is saved_is small = record {
    insns = found.insns;
    waits = waits_no_more;
    within = within;
    leader = leads;
    has_cut = has_new_cut;
    graph = graph_is;
    unit = unit_is ∙ (λ i. unit_of (insns_are i) (graph_is i) (finite.contains cut));
    saved = record {
      insns = found.insns;
      cut = cut;
      has_cut = has_new_cut;
      saved_is = saved_is ∙ ap (λ g. gain g (finite.contains cut) *ℤ pos ((instance_in before).entries rank.leader)) graph_is;
    };
    small = small;
  }
