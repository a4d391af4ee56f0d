-- What the rounds hold tells what is due behind the entries that they follow.
use Rattle.std.proofs.Common.{◌≡◌, ℕ, suc, ◌-◌, ◌<◌, pos, inl, inr, List, [], ◌∷◌, ◌++◌, length, map, reverse, get_or, Some, None, refl, sym, ap, subst, ◌∙◌, arith}
use Rattle.std.specs.Prelude.{slice_get}
use Rattle.std.specs.List.{Contains}
use Rattle.std.proofs.lemmas.Bool.{cases_lt}
use Rattle.std.proofs.lemmas.Int.{ints}
use Rattle.std.proofs.lemmas.List.{get_or-reverse, get_or_past, length-append, length-map, length-reverse}
use Rattle.std.proofs.Math.ListN.{get_or-map}
use Rattle.std.proofs.Math.Seq.{get_or-append_seam}
use Rattle.std.proofs.lemmas.List.Elements.{Contains-get_or}
use Rattle.std.proofs.lemmas.Option.{get_or_from_slice_get, none-some, slice_get-get_or, slice_get_within}
use Rattle.ci_block.specs.declared.blocks.Block.{Block}
use Rattle.ci_block.specs.Blocks.{AreInOrder}
use Rattle.ci_block.specs.Leaders.{entry}
use Rattle.ci_live.specs.Sets.{Sets}
use Rattle.ci_log.specs.declared.book.Entry.TheVariants.{Spent}
use Rattle.ci_select.specs.declared.rounds.Candidate.{Candidate}
use Rattle.ci_select.specs.declared.rounds.Due.TheVariants as due
use Rattle.ci_select.specs.declared.rounds.Rank.{Rank}
use Rattle.ci_select.specs.declared.rounds.Rounds.{Rounds}
use Rattle.ci_select.specs.Histories.{History}
use Rattle.ci_select.specs.Instances.{AreOfSomeFile}
use Rattle.ci_select.specs.PresentBlocks.{IsPresent}
use Rattle.ci_select.specs.Candidates.{HasNoCandidate, IsCandidate, IsDueCandidate}
use Rattle.ci_select.specs.Dues.{HasNoSearchDue, IsDue, IsNextTake, IsSearchDue}
use Rattle.ci_select.specs.private.Followed.{Follows, IsFirst, instance_in}
use Rattle.ci_select.proofs.CandidateLaws.{due_candidate_is_one, saved_is_one}
use Rattle.ci_select.proofs.DueLaws.{next_of_take, search_due_is_one}
use Rattle.ci_select.proofs.PresentIsOne.{blocks_in_order}
use Rattle.ci_select.proofs.SearchesDue.{due_of_list, list_of_due}

-- the blocks of the rounds are in order
pub order_of : {history : History} {rounds : Rounds} → Follows history rounds → AreInOrder rounds.blocks.now
order_of {rounds = rounds} follows = blocks_in_order (instance_in rounds) follows.of_file

-- ---- candidates

-- the candidate that the rounds hold first is the one that is due,
pub first_is_due :
    {history : History} {rounds : Rounds} (rank : Rank) (candidate : Candidate) → Follows history rounds
    → HasNoSearchDue (instance_in rounds) history → IsFirst rounds.candidates.entries (rank, candidate)
    → IsDueCandidate (instance_in rounds) history rank.leader
first_is_due {history} {rounds} rank candidate follows no_search first = record {
  saved = pos rank.saved.0;
  candidate = (follows.ranked rank candidate first.there).saved;
  greatest = λ other others is.
      let found = follows.all_ranked other others (no_search other) is in
      let held = (follows.ranked found.0 found.1 found.2).saved in
      let same : others ≡ pos found.0.saved.0 =
      saved_is_one (order_of follows) is
      (subst (λ leader. IsCandidate (instance_in rounds) history leader (pos found.0.saved.0)) found.3 held) in
      let leader : found.0.leader ≡ other = found.3 in
      elim (first.before (found.0, found.1) found.2) [
        | inl less ↦ inl (rw same (omega (arith, ints)))
        | inr is ↦ inr (same ∙ ap pos is.0, omega (arith, is.1, leader))
      ];
}

-- and the one that is due is the first
pub first_leads :
    {history : History} {rounds : Rounds} {leader : ℕ} (rank : Rank) (candidate : Candidate)
    → Follows history rounds → HasNoSearchDue (instance_in rounds) history
    → IsFirst rounds.candidates.entries (rank, candidate) → IsDueCandidate (instance_in rounds) history leader
    → rank.leader ≡ leader
first_leads rank candidate follows no_search first is =
    due_candidate_is_one (order_of follows) (first_is_due rank candidate follows no_search first) is

-- where they hold none, there is none
pub none_is_candidate :
    {history : History} {rounds : Rounds} → Follows history rounds → rounds.candidates.entries ≡ []
    → HasNoSearchDue (instance_in rounds) history → HasNoCandidate (instance_in rounds) history
none_is_candidate {rounds = rounds} follows none no_search leader saved is =
    let found = follows.all_ranked leader saved (no_search leader) is in
    let there = subst (λ entries. Contains entries (found.0, found.1)) none found.2 in
    omega (arith, there.1)

-- the take of the first candidate is next
pub next_of_first :
    {history : History} {rounds : Rounds} (rank : Rank) (candidate : Candidate) → Follows history rounds
    → HasNoSearchDue (instance_in rounds) history → IsFirst rounds.candidates.entries (rank, candidate)
    → IsNextTake (instance_in rounds) history rank.leader rounds.units candidate.unit
next_of_first rank candidate follows no_search first =
    let ranked = follows.ranked rank candidate first.there in
    record {
      no_search = no_search;
      candidate = first_is_due rank candidate follows no_search first;
      units_are = follows.units;
      unit_is =
          record { insns = ranked.insns; cut = candidate.cut; has_cut = ranked.has_cut; unit_is = ranked.unit };
    }

-- where a take is due, there is one
pub some_candidate :
    {history : History} {rounds : Rounds} {leader number : ℕ} → Follows history rounds
    → IsDue (instance_in rounds) history (due.Take leader number) → rounds.candidates.entries ≡ [] → ⊥
some_candidate {leader = leader} follows is none =
    let next = (next_of_take is).2 in
    none_is_candidate follows none next.no_search leader next.candidate.saved next.candidate.candidate

-- ---- searches

-- a file has a block, since it begins somewhere
a_block : (blocks : List Block) → 0 < length blocks → Block
a_block [] some = absurd (omega arith)
a_block (block ∷ blocks) some = block

-- so that there is a block
pub block_of_file : {blocks : List Block} {live : Sets} → AreOfSomeFile blocks live → Block
block_of_file {blocks} {live} file =
    let well = file.2 in
    let analysis = file.1.2 in
    let listed = (analysis.listing.listed file.0.entry).1 (well.entry, inl (entry refl)) in
    let leaders = ap length analysis.blocks_are.by_leader in
    a_block blocks (omega (arith, listed.1, leaders, length-map blocks (λ (block : Block). block.leader)))

-- what stands last in a list stands first in its reverse
last_of_reverse :
    (xs : List ℕ) (x : ℕ) → slice_get xs (length xs - 1) ≡ Some x → (rest : List ℕ) × (reverse xs ≡ x ∷ rest)
last_of_reverse xs x last =
    let some = slice_get_within xs (length xs - 1) x last in
    let place : length xs - 1 - 0 ≡ length xs - 1 = omega arith in
    let first : get_or (reverse xs) 0 x ≡ x =
    get_or-reverse xs 0 x (omega (arith, some)) ∙ ap (λ k. get_or xs k x) place
    ∙ get_or_from_slice_get xs (length xs - 1) x x last in
    begins (reverse xs) (omega (arith, some, length-reverse xs)) first
  where
    begins : (ys : List ℕ) → 0 < length ys → get_or ys 0 x ≡ x → (rest : List ℕ) × (ys ≡ x ∷ rest)
    begins [] some is = absurd (omega arith)
    begins (y ∷ ys) some is = (ys, ap (λ z. z ∷ ys) is)

module _ {history : History} {rounds : Rounds} (place : ℕ) (follows : Follows history rounds)
    (last : slice_get rounds.unsearched.items (length rounds.unsearched.items - 1) ≡ Some place) where
  -- the leader of the block at the last place
  abbrev pub leader_at : Block → ℕ
  leader_at block = (get_or rounds.blocks.now place block).leader

  -- the search of that block is due
  pub search_at_last : (block : Block) → IsSearchDue (instance_in rounds) history (leader_at block)
  search_at_last block =
      let back = last_of_reverse rounds.unsearched.items place last in
      let leader : ℕ → ℕ = λ k. (get_or rounds.blocks.now k block).leader in
      due_of_list (instance_in rounds) history (leader_at block) (map leader back.0)
      (sym (follows.unsearched block) ∙ ap (map leader) back.1)

  -- the place lies among those of the blocks
  pub last_within : place < length rounds.blocks.now
  last_within = elim (cases_lt place (length rounds.blocks.now)) [
    | inl within ↦ within
    | inr past ↦
        let block = block_of_file follows.of_file in
        let other : Block = record block { leader = suc block.leader } in
        let same = search_due_is_one (search_at_last block) (search_at_last other) in
        absurd (omega (
          arith,
          same,
          ap (λ (b : Block). b.leader) (get_or_past rounds.blocks.now place block past),
          ap (λ (b : Block). b.leader) (get_or_past rounds.blocks.now place other past),
        ))
  ]

  -- so that the live sets have the block,
  pub last_is_live : (block : Block) → Contains rounds.live.now.leaders (leader_at block)
  last_is_live block =
      let blocks = rounds.blocks.now in
      let lead : Block → ℕ = λ b. b.leader in
      subst (λ leaders. Contains leaders (leader_at block)) follows.of_file.1.2.live.leaders
      (subst (Contains (map lead blocks)) (get_or-map lead blocks place block)
      (Contains-get_or (map lead blocks) place (lead block) (omega (arith, last_within, length-map blocks lead))))

  -- and it is the one whose search is due
  pub last_is_at : {leader : ℕ} (block : Block) → IsSearchDue (instance_in rounds) history leader → leader_at block ≡ leader
  last_is_at block is = search_due_is_one (search_at_last block) is

-- what was put last into a list is its last element
pub last_of_pushed : (xs : List ℕ) (x : ℕ) → slice_get (xs ++ x ∷ []) (length (xs ++ x ∷ []) - 1) ≡ Some x
last_of_pushed xs x =
    let place : length (xs ++ x ∷ []) - 1 ≡ length xs = omega (arith, length-append xs (x ∷ [])) in
    ap (slice_get (xs ++ x ∷ [])) place
    ∙ slice_get-get_or (xs ++ x ∷ []) (length xs) x (omega (arith, length-append xs (x ∷ [])))
    ∙ ap Some (get_or-append_seam xs x [] x)

-- a list with no last element is empty
nothing_last : (xs : List ℕ) → slice_get xs (length xs - 1) ≡ None → length xs ≡ 0
nothing_last xs none = elim (cases_lt 0 (length xs)) [
  | inl some ↦
      let last = slice_get-get_or xs (length xs - 1) 0 (omega arith) in
      absurd (none-some (get_or xs (length xs - 1) 0) (sym none ∙ last))
  | inr few ↦ omega arith
]

-- no search is due where no place is left
pub none_unsearched :
    {history : History} {rounds : Rounds} → Follows history rounds
    → slice_get rounds.unsearched.items (length rounds.unsearched.items - 1) ≡ None
    → HasNoSearchDue (instance_in rounds) history
none_unsearched {history} {rounds} follows none leader is =
    let block = block_of_file follows.of_file in
    let listed = sym (list_of_due (Spent 0 0) is refl) ∙ sym (follows.unsearched block) in
    let count = ap length listed in
    omega (
      arith,
      nothing_last rounds.unsearched.items none,
      count,
      length-reverse rounds.unsearched.items,
      length-map (reverse rounds.unsearched.items) (λ (k : ℕ). (get_or rounds.blocks.now k block).leader),
    )

-- ---- present blocks

-- the instructions that the rounds hold at the place of a block are those of the block in the present program
pub present_at :
    {history : History} {rounds : Rounds} {leader : ℕ} (place : ℕ) (block : Block) → Follows history rounds
    → place < length rounds.blocks.now → (get_or rounds.blocks.now place block).leader ≡ leader
    → IsPresent (instance_in rounds) history leader (get_or rounds.present.items place block.insns).items
present_at {history} {rounds} place block follows within is =
    subst (λ l. IsPresent (instance_in rounds) history l (get_or rounds.present.items place block.insns).items) is
    (follows.present place block within)
