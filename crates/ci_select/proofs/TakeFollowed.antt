-- Behind a take the rounds hold what the entries say: its cut is folded, its block is to be searched again, and the
-- other candidates stay.
use Rattle.std.proofs.Common.{◌≡◌, ◌≢◌, ℕ, ◌+◌, ◌^◌, ◌<◌, ◌⊎◌, inl, inr, refl, sym, ap, ◌∙◌, subst, List, [], ◌∷◌, ◌++◌}
use Rattle.std.proofs.Common.{length, filter, map, reverse, set, Some, ℤ, pos, arith}
use Rattle.std.specs.Prelude.{slice_get, slice_index_or}
use Rattle.std.specs.FinSet as finite
use Rattle.std.specs.Global.{Vec}
use Rattle.std.specs.BTreeMap.{BTreeMap}
use Rattle.std.specs.List.{All, Contains, sum_by}
use Rattle.std.specs.Map.{keys_of}
use Rattle.std.specs.Ordering.{nat_cmp}
use Rattle.std.specs.Vec.{with_item}
use Rattle.std.specs.declared.cmp.Ordering.TheVariants.{Less}
use Rattle.std.proofs.lemmas.Bool.{cases_eq, cases_lt, ne_eqb}
use Rattle.std.proofs.lemmas.Int.{ints}
use Rattle.std.proofs.lemmas.List.{get_or-set_other, get_or-set_same, length-map, length-reverse, length-set, nil_from_length}
use Rattle.std.proofs.lemmas.List.Sums.{sum_by-set}
use Rattle.std.proofs.lemmas.Option.{slice_get_within}
use Rattle.ci_isa.specs.declared.instruction.Insn.{Insn}
use Rattle.ci_isa.specs.Effects.{may_join}
use Rattle.ci_block.specs.declared.blocks.Block.{Block}
use Rattle.ci_log.specs.declared.book.Entry.TheVariants.{Take}
use Rattle.ci_rewrite.specs.FoldedBlock.{IsFolded}
use Rattle.ci_unit.specs.Units.{Unit}
use Rattle.ci_select.specs.declared.rounds.Candidate.{Candidate}
use Rattle.ci_select.specs.declared.rounds.Due.TheVariants as due
use Rattle.ci_select.specs.declared.rounds.Rank.{Rank}
use Rattle.ci_select.specs.declared.rounds.Rounds.{Rounds}
use Rattle.ci_select.specs.Histories.{History}
use Rattle.ci_select.specs.Instances.{Instance}
use Rattle.ci_select.specs.PresentBlocks.{HasPresentCut, IsPresent, folded, unchanged}
use Rattle.ci_select.specs.UnitNumbers.{AreUnits, IsUnitAt, known as known_unit, new as new_unit}
use Rattle.ci_select.specs.Candidates.{IsCandidate}
use Rattle.ci_select.specs.Savings.{of_take}
use Rattle.ci_select.specs.Dues.{HasNoSearchDue, IsDue, IsSearchDue, after_take, takes_known, takes_new}
use Rattle.ci_select.specs.private.Followed.{Follows, IsRanked, instance_in, operations_left, steps_left}
use Rattle.ci_select.specs.LegalBooks.{taken}
use Rattle.ci_select.proofs.CandidateLaws.{saved_is_one}
use Rattle.ci_select.proofs.DuePlaces.{order_of}
use Rattle.ci_select.proofs.EntryLaws.{later_there, there_cases}
use Rattle.ci_select.proofs.FoldedLeavesFewer.{folded_leaves_fewer}
use Rattle.ci_select.proofs.HistoryLaws.{kept_cut, keeps_cut}
use Rattle.ci_select.proofs.PresentIsOne.{block_of_present, present_before}
use Rattle.ci_select.proofs.PresentLaws.{due_take, take_is_small}
use Rattle.ci_select.proofs.RankLaws.{rank_order}
use Rattle.ci_select.proofs.RankTies.{before_is_other, before_rest, first_taken}
use Rattle.ci_select.proofs.SearchesDue.{none_listed}
use Rattle.ci_select.proofs.TakenLaws.{CanBeTaken, can_be_taken, first_is_due_at, insns_are}
use Rattle.ci_select.proofs.UnitLaws.{numbered_is_there, unit_is_one, units_are_one}

-- ---- the number of the unit

-- the unit that is due has the number, or is new and gets it
abbrev pub IsNumbered : List Unit → ℕ → Unit → Type 0
IsNumbered units number unit =
    (Contains units unit × (number < length units)) ⊎ ((¬ Contains units unit) × (number ≡ length units))

-- by what is due, there being one list of units and one unit
due_is_numbered :
    {instance : Instance} {history : History} {leader number : ℕ} (units : List Unit) (unit : Unit)
    → IsDue instance history (due.Take leader number)
    → ((us : List Unit) → AreUnits instance history us → us ≡ units)
    → ((u : Unit) → IsUnitAt instance history leader u → u ≡ unit) → IsNumbered units number unit
due_is_numbered {number = number} units unit (takes_known {units = us} {unit = u} next is) one same =
    let here : slice_get units number ≡ Some unit =
    subst (λ v. slice_get units number ≡ Some v) (same u next.unit_is)
    (subst (λ vs. slice_get vs number ≡ Some u) (one us next.units_are) is) in
    inl (numbered_is_there units number unit here, slice_get_within units number unit here)
due_is_numbered units unit (takes_new {units = us} {unit = u} next apart few) one same =
    inr (
      λ there.
          apart (subst (λ v. Contains us v) (sym (same u next.unit_is))
          (subst (λ vs. Contains vs unit) (sym (one us next.units_are)) there)),
      ap length (one us next.units_are),
    )

pub follows_take_of :
    {history : History} {after : Rounds} {left right number : ℕ} → left ≡ right
    → Follows (Take left number ∷ history) after → Follows (Take right number ∷ history) after
follows_take_of {history} {after} {number = number} same follows =
    subst (λ l. Follows (Take l number ∷ history) after) same follows

-- ---- the candidate that is taken

-- The candidate was taken out of the map first, and its take is due.
pub record IsTakenOut (history : History) (before : Rounds) (rank : Rank) (candidate : Candidate)
    (rest : List (Rank × Candidate)) (number : ℕ) : Type 0 where
  pub follows : Follows history before
  pub removed : before.candidates.entries ≡ (rank, candidate) ∷ rest
  pub above : All (λ r. rank_order rank r ≡ Less) (keys_of rest)
  pub is_due : IsDue (instance_in before) history (due.Take rank.leader number)

-- where a take is due, it is that of the candidate that goes first
pub first_is_taken :
    {history : History} {before : Rounds} {leader number : ℕ} (rank : Rank) (candidate : Candidate)
    (rest : List (Rank × Candidate)) → Follows history before
    → before.candidates.entries ≡ (rank, candidate) ∷ rest → All (λ r. rank_order rank r ≡ Less) (keys_of rest)
    → IsDue (instance_in before) history (due.Take leader number)
    → IsTakenOut history before rank candidate rest number × (rank.leader ≡ leader)
first_is_taken {history} {before} {leader} {number} rank candidate rest follows removed above is =
    let first = first_taken before.candidates.entries rest rank candidate removed above in
    let leads : rank.leader ≡ leader = first_is_due_at follows first is in (
      record {
        follows = follows;
        removed = removed;
        above = above;
        is_due = subst (λ l. IsDue (instance_in before) history (due.Take l number)) (sym leads) is;
      },
      leads,
    )

module _ {history : History} {before : Rounds} {rank : Rank} {candidate : Candidate}
    {rest : List (Rank × Candidate)} {number : ℕ} (known : IsTakenOut history before rank candidate rest number) where
  open known use {follows, removed, above, is_due}

  -- the candidate is ranked,
  held : IsRanked (instance_in before) history before.blocks.now rank candidate
  held =
      follows.ranked rank candidate
      (first_taken before.candidates.entries rest rank candidate removed above).there

  -- its place is one of a block,
  pub taken_within : candidate.place < length before.present.items
  taken_within = omega (arith, held.within, follows.many)

  -- and what it saves more fits
  pub saved_fits : before.saved + rank.saved.0 < 2 ^ 128
  saved_fits = omega (arith, follows.bounded, follows.few, held.small)

  -- a take is due, so that no search is
  no_search : HasNoSearchDue (instance_in before) history
  no_search = (due_take is_due).next.no_search

  -- the number is one of 32,
  pub number_is_small : number < 32
  number_is_small = take_is_small (order_of follows) follows.legal (due_take is_due)

  -- and it is that of the candidate's unit
  pub number_is : IsNumbered before.units number candidate.unit
  number_is =
      due_is_numbered before.units candidate.unit is_due
      (λ us are. units_are_one (instance_in before) history us before.units (order_of follows) are follows.units)
      (λ u at. unit_is_one (order_of follows) at
      (record { insns = held.insns; cut = candidate.cut; has_cut = held.has_cut; unit_is = held.unit }))

  -- ---- what is asked of the fold

  module _ (block : Vec Insn) (here : block ≡ slice_index_or before.present.items candidate.place block) where
    -- the cut can be taken
    pub taken_can_be_taken : CanBeTaken block.items candidate.graph candidate.cut number
    taken_can_be_taken = can_be_taken follows held is_due block here

    -- ---- the rounds behind it

    module _ (new_block : Vec Insn)
        (is_folded : IsFolded block.items candidate.graph (finite.contains candidate.cut) number new_block.items) where
      fewer_here : length (filter may_join new_block.items) < length (filter may_join block.items)
      fewer_here =
          folded_leaves_fewer block.items candidate.graph (finite.contains candidate.cut) number new_block.items
          taken_can_be_taken.of_block taken_can_be_taken.fits is_folded

      fewer_operations :
          sum_by (λ (insns : Vec Insn). length (filter may_join insns.items)) (with_item before.present candidate.place new_block).items
          < operations_left before
      fewer_operations =
          let sums = sum_by-set (λ (insns : Vec Insn). length (filter may_join insns.items)) before.present.items candidate.place new_block block taken_within in
          let same = ap (λ (insns : Vec Insn). length (filter may_join insns.items)) here in
          omega (arith, sums, same, fewer_here)

      folded_now : IsPresent (instance_in before) (Take rank.leader number ∷ history) rank.leader new_block.items
      folded_now = folded candidate.cut held.has_cut.present held.has_cut.has_cut
          (subst (λ g. IsFolded held.insns g (finite.contains candidate.cut) number new_block.items) held.graph
          (subst (λ i. IsFolded i candidate.graph (finite.contains candidate.cut) number new_block.items)
          (insns_are follows held is_due block here) is_folded))

      -- the block is folded, and the others are as they were
      present_now : (k : ℕ) (b : Block) → k < length before.blocks.now
          → IsPresent (instance_in before) (Take rank.leader number ∷ history) (slice_index_or before.blocks.now k b).leader
          (slice_index_or (with_item before.present candidate.place new_block).items k b.insns).items
      present_now k b within = elim (cases_eq k candidate.place) [
        | inl same ↦
            let read : slice_index_or (with_item before.present candidate.place new_block).items k b.insns ≡ new_block =
            ap (λ n. slice_index_or (set before.present.items candidate.place new_block) n b.insns) same
            ∙ get_or-set_same before.present.items candidate.place new_block b.insns taken_within in
            let lead : (slice_index_or before.blocks.now k b).leader ≡ rank.leader =
            ap (λ n. (slice_index_or before.blocks.now n b).leader) same ∙ held.leader b in
            subst (λ l. IsPresent (instance_in before) (Take rank.leader number ∷ history) l (slice_index_or (with_item before.present candidate.place new_block).items k b.insns).items) (sym lead)
            (subst (λ (v : Vec Insn). IsPresent (instance_in before) (Take rank.leader number ∷ history) rank.leader v.items) (sym read) folded_now)
        | inr other ↦
            let read : slice_index_or (with_item before.present candidate.place new_block).items k b.insns ≡ slice_index_or before.present.items k b.insns =
            get_or-set_other before.present.items candidate.place k new_block b.insns other in
            subst (λ (v : Vec Insn). IsPresent (instance_in before) (Take rank.leader number ∷ history) (slice_index_or before.blocks.now k b).leader v.items) (sym read)
            (unchanged (ne_eqb rank.leader (slice_index_or before.blocks.now k b).leader (apart k b within other)) (follows.present k b within))
      ]
        where
          apart : (k : ℕ) (b : Block) → k < length before.blocks.now → k ≢ candidate.place
              → ¬ (rank.leader ≡ (slice_index_or before.blocks.now k b).leader)
          apart k b within other same =
              let lead = held.leader b in
              elim (cases_lt k candidate.place) [
                | inl less ↦
                    let rise = order_of follows k candidate.place b less held.within in
                    absurd (omega (arith, rise, same, lead))
                | inr more ↦
                    let rise = order_of follows candidate.place k b (omega (arith, other, more)) within in
                    absurd (omega (arith, rise, same, lead))
              ]

  -- ---- the other candidates

  -- the cut of another block stays,
  cut_stays : {leader : ℕ} {insns : List Insn} {cut : finite.FinSet nat_cmp} → ¬ (rank.leader ≡ leader)
      → HasPresentCut (instance_in before) history leader insns cut
      → HasPresentCut (instance_in before) (Take rank.leader number ∷ history) leader insns cut
  cut_stays {leader} other has =
      record { present = unchanged (ne_eqb rank.leader leader other) has.present; has_cut = keeps_cut refl has.has_cut }

  -- and was there before,
  cut_was : {leader : ℕ} {insns : List Insn} {cut : finite.FinSet nat_cmp} → ¬ (rank.leader ≡ leader)
      → HasPresentCut (instance_in before) (Take rank.leader number ∷ history) leader insns cut
      → HasPresentCut (instance_in before) history leader insns cut
  cut_was {leader} other has = record {
    present = present_before (ne_eqb rank.leader leader other) has.present;
    has_cut = kept_cut {entry = Take rank.leader number} refl has.has_cut;
  }

  -- as what it saves does
  candidate_stays : (leader : ℕ) (saved : ℤ) → ¬ (rank.leader ≡ leader)
      → IsCandidate (instance_in before) history leader saved
      → IsCandidate (instance_in before) (Take rank.leader number ∷ history) leader saved
  candidate_stays leader saved other has =
      record { insns = has.insns; cut = has.cut; has_cut = cut_stays other has.has_cut; saved_is = has.saved_is }

  -- and was
  candidate_was : (leader : ℕ) (saved : ℤ) → ¬ (rank.leader ≡ leader)
      → IsCandidate (instance_in before) (Take rank.leader number ∷ history) leader saved
      → IsCandidate (instance_in before) history leader saved
  candidate_was leader saved other has =
      record { insns = has.insns; cut = has.cut; has_cut = cut_was other has.has_cut; saved_is = has.saved_is }

  -- of another block each,
  rest_apart : (r : Rank) (c : Candidate) → IsRanked (instance_in before) history before.blocks.now r c
      → Contains rest (r, c) → ¬ (rank.leader ≡ r.leader)
  rest_apart r c has there same =
      let saved : pos rank.saved.0 ≡ pos r.saved.0 =
      saved_is_one (order_of follows)
      (subst (λ l. IsCandidate (instance_in before) history l (pos rank.saved.0)) same held.saved) has.saved in
      before_is_other rank r (before_rest rest rank (r, c) above there) (omega (arith, ints, saved)) same

  -- and all were there before,
  was_there : (r : Rank) (c : Candidate) → Contains rest (r, c) → Contains before.candidates.entries (r, c)
  was_there r c there = subst (λ es. Contains es (r, c)) (sym removed) (later_there (rank, candidate) (r, c) rest there)

  -- they stay ranked,
  rest_ranked : (r : Rank) (c : Candidate) → Contains rest (r, c)
      → IsRanked (instance_in before) (Take rank.leader number ∷ history) before.blocks.now r c
  rest_ranked r c there =
      let has = follows.ranked r c (was_there r c there) in
      let other = rest_apart r c has there in
      record {
        insns = has.insns;
        waits = λ listed. elim (there_cases rank.leader r.leader [] listed) [
          | inl same ↦ other same
          | inr (k, within, at) ↦ omega (arith, within)
        ];
        within = has.within;
        leader = has.leader;
        has_cut = cut_stays other has.has_cut;
        graph = has.graph;
        unit = has.unit;
        saved = candidate_stays r.leader (pos r.saved.0) other has.saved;
        small = has.small;
      }

  -- and are all that there are
  rest_held : (leader : ℕ) (saved : ℤ) → ¬ IsSearchDue (instance_in before) (Take rank.leader number ∷ history) leader
      → IsCandidate (instance_in before) (Take rank.leader number ∷ history) leader saved
      → (r : Rank) × (c : Candidate) × Contains rest (r, c) × (r.leader ≡ leader)
  rest_held leader saved settled has = elim (cases_eq rank.leader leader) [
    | inl same ↦
        absurd (settled (subst (λ l. IsSearchDue (instance_in before) (Take rank.leader number ∷ history) l) same after_take))
    | inr other ↦
        let old = follows.all_ranked leader saved (no_search leader) (candidate_was leader saved other has) in
        elim (there_cases (rank, candidate) (old.0, old.1) rest (subst (λ es. Contains es (old.0, old.1)) removed old.2)) [
          | inl same ↦ absurd (other (ap (λ (e : Rank × Candidate). e.0.leader) same ∙ old.3))
          | inr there ↦ (old.0, old.1, there, old.3)
        ]
  ]

  -- ---- the units

  -- the unit is there, or is new and comes last
  units_now : (units : List Unit) → (number ≡ length before.units → units ≡ before.units ++ candidate.unit ∷ [])
      → (number ≢ length before.units → units ≡ before.units)
      → AreUnits (instance_in before) (Take rank.leader number ∷ history) units
  units_now units added stayed =
      let at : IsUnitAt (instance_in before) history rank.leader candidate.unit =
      record { insns = held.insns; cut = candidate.cut; has_cut = held.has_cut; unit_is = held.unit } in
      elim number_is [
        | inl (there, less) ↦
            subst (λ us. AreUnits (instance_in before) (Take rank.leader number ∷ history) us)
            (sym (stayed (λ same. omega (arith, same, less)))) (known_unit follows.units at there)
        | inr (apart, next) ↦
            subst (λ us. AreUnits (instance_in before) (Take rank.leader number ∷ history) us) (sym (added next))
            (new_unit follows.units at apart)
      ]

  -- no search was due,
  none_unsearched : before.unsearched.items ≡ []
  none_unsearched =
      let block = (block_of_present held.has_cut.present).0 in
      let none = ap length (follows.unsearched block ∙ none_listed (instance_in before) history no_search) in
      nil_from_length before.unsearched.items
      (omega (
        arith,
        none,
        length-map (reverse before.unsearched.items) (λ place. (slice_index_or before.blocks.now place block).leader),
        length-reverse before.unsearched.items,
      ))

  -- ---- the rounds behind it

  module _ (block new_block : Vec Insn) (here : block ≡ slice_index_or before.present.items candidate.place block)
      (is_folded : IsFolded block.items candidate.graph (finite.contains candidate.cut) number new_block.items)
      (unsearched : Vec ℕ) (pushed : unsearched.items ≡ before.unsearched.items ++ candidate.place ∷ [])
      (candidates : BTreeMap Rank Candidate) (left : candidates.entries ≡ rest) (units : List Unit)
      (added : number ≡ length before.units → units ≡ before.units ++ candidate.unit ∷ [])
      (stayed : number ≢ length before.units → units ≡ before.units) where
    -- the rounds behind the take
    abbrev pub after_take_of : Rounds
    after_take_of = record before {
      present = with_item before.present candidate.place new_block;
      unsearched = unsearched;
      candidates = candidates;
      units = units;
      round = before.round + 1;
      saved = before.saved + rank.saved.0;
    }

    -- so that the search of the block alone is,
    one_left : unsearched.items ≡ candidate.place ∷ []
    one_left = pushed ∙ ap (λ places. places ++ candidate.place ∷ []) none_unsearched

    -- and fewer operations are left
    fewer_left : operations_left after_take_of < operations_left before
    fewer_left = fewer_operations block here new_block is_folded

    pub follows_take : Follows (Take rank.leader number ∷ history) after_take_of
    follows_take = record {
      of_file = follows.of_file;
      legal = (taken is_due, follows.legal);
      many = length-set before.present.items candidate.place new_block ∙ follows.many;
      present = present_now block here new_block is_folded;
      unsearched = λ b.
          ap (λ places. map (λ place. (slice_index_or before.blocks.now place b).leader) (reverse places)) one_left
          ∙ ap (λ l. l ∷ []) (held.leader b);
      ranked = λ r c there. rest_ranked r c (subst (λ es. Contains es (r, c)) left there);
      all_ranked = λ leader saved settled has.
          let old = rest_held leader saved settled has in
          (old.0, old.1, subst (λ es. Contains es (old.0, old.1)) (sym left) old.2, old.3);
      units = units_now units added stayed;
      round_is = omega (arith, follows.round_is);
      saved = of_take follows.saved held.saved;
      few = omega (arith, follows.few, fewer_left);
      bounded = omega (arith, follows.bounded, held.small);
    }

    -- and fewer steps
    pub take_leaves_fewer : steps_left after_take_of < steps_left before
    take_leaves_fewer = omega (arith, fewer_left, ap length one_left)
