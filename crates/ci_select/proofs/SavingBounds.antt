-- A legal book saves less than 2 to the power 63 cycles, where the profiled run has at most 2 to the power 32 steps.
use Rattle.std.proofs.Common.{◌≡◌, ℕ, ◌+◌, ◌*◌, ◌≤◌, Bool, true, false, List, [], ◌∷◌, length, refl, sym, ap, ◌∙◌, subst, inl, inr, arith}
use Rattle.std.specs.Prelude.{if◌then◌else◌, ◌==◌, reverse}
use Rattle.std.specs.FinSet as finite
use Rattle.std.specs.List.{sum_by}
use Rattle.std.proofs.lemmas.Bool.{cases_eq, eq-eqb, eqb-true, ne_eqb}
use Rattle.std.proofs.lemmas.List.Sorted.{IsPermutation-reverse, sum_by-IsPermutation}
use Rattle.std.proofs.lemmas.List.Sums.{count_by-le-length, length-filter}
use Rattle.std.proofs.lemmas.Nat.{mul-le}
use Rattle.ci_lat.specs.TableRules.{IsLatencyTable}
use Rattle.ci_isa.specs.declared.instruction.Insn.{Insn}
use Rattle.ci_isa.specs.Effects.{may_join}
use Rattle.ci_block.specs.declared.blocks.Block.{Block}
use Rattle.ci_log.specs.declared.book.Entry.{Entry}
use Rattle.ci_select.specs.Histories.{History, is_take_of, leader_of}
use Rattle.ci_select.specs.Instances.{AreOfSomeFile, Instance, entries_of}
use Rattle.ci_select.specs.PresentBlocks.{IsPresent, original, unchanged, folded, graph_at}
use Rattle.ci_select.specs.Savings.{IsSaved, none, of_search, of_take}
use Rattle.ci_select.specs.Takes.{cycles_of}
use Rattle.ci_select.specs.LegalBooks.{IsLegalHistory}
use Rattle.ci_select.specs.Laws.{SavedIsFew, TakesSaveFew}
use Rattle.ci_select.proofs.CandidateGains.{candidate_saves_few}
use Rattle.ci_select.proofs.FoldedLeavesFewer.{folded_leaves_fewer, joining}
use Rattle.ci_select.proofs.PresentIsOne.{block_of_present, search_takes_none}
use Rattle.ci_select.proofs.PresentLaws.{blocks_in_order, cut_fits, present_is_sound, right_cases, searched_is_no_take, take_is_due}
use Rattle.ci_select.proofs.SumLaws.{sum_by_both, sum_by_less, sum_by_times, within_sum_by}
use Rattle.ci_select.proofs.TakenSavings.{takes_save}
use Rattle.ci_select.proofs.UnitSavings.{place_of, share}

-- ---- takes of a block

-- how many takes a block has
abbrev takes_of : ℕ → History → ℕ
takes_of leader [] = 0
takes_of leader (entry ∷ history) = (if is_take_of leader entry then 1 else 0) + takes_of leader history

one_at_most : (b : Bool) → (if b then 1 else 0) ≤ 1
one_at_most true = omega arith
one_at_most false = omega arith

-- an entry that is none leaves their number as it is
none_taken : (leader : ℕ) (entry : Entry) (history : History) → is_take_of leader entry ≡ false
    → takes_of leader (entry ∷ history) ≡ takes_of leader history
none_taken leader entry history other =
    let nothing : ◌≡◌ {A = ℕ} (if is_take_of leader entry then 1 else 0) 0 = ap (λ b. if b then 1 else 0) other in
    omega (arith, nothing)

joining_few : (insns : List Insn) → joining insns ≤ length insns
joining_few insns = omega (arith, length-filter may_join insns, count_by-le-length may_join insns)

-- each leaves fewer operations of the block
takes_fit :
    {instance : Instance} {history : History} {leader : ℕ} {insns : List Insn}
    → AreOfSomeFile instance.blocks instance.live → IsLegalHistory instance history
    → IsPresent instance history leader insns → takes_of leader history + joining insns ≤ 256
takes_fit {instance} {insns = insns} of_file legal (original is) =
    let few = (present_is_sound {instance = instance} of_file legal (original is)).can_be_folded.few in
    omega (arith, few, joining_few insns)
takes_fit {leader = leader} of_file legal (unchanged {history = h} {entry = e} other before) =
    omega (arith, none_taken leader e h other, takes_fit of_file legal.1 before)
takes_fit {instance} of_file legal (folded {history = h} {leader = leader} {unit = u} {insns = insns} {new = new} cut before has_cut is) =
    let sound = present_is_sound of_file legal.1 before in
    let fits = cut_fits (blocks_in_order instance of_file) legal.1 ((take_is_due legal.0).next.no_search leader)
    (record { present = before; has_cut = has_cut }) in
    let fewer = folded_leaves_fewer insns (graph_at instance leader insns) (finite.contains cut) u new sound.graph fits is in
    omega (arith, one_at_most (leader == leader), takes_fit of_file legal.1 before, fewer)

-- so there are few
takes_few :
    (instance : Instance) (history : History) (leader : ℕ) → AreOfSomeFile instance.blocks instance.live
    → IsLegalHistory instance history → takes_of leader history ≤ 257
takes_few instance [] leader of_file legal = omega arith
takes_few instance (entry ∷ history) leader of_file legal = elim (right_cases legal.0) [
  | inl is ↦
      let other = searched_is_no_take entry (graph_at instance (leader_of entry) is.insns) instance.plan leader is.is_searched in
      omega (arith, none_taken leader entry history other, takes_few instance history leader of_file legal.1)
  | inr (l, unit, same, is) ↦ elim (cases_eq l leader) [
    | inl its ↦
        let candidate = is.next.candidate.candidate in
        let few = takes_fit of_file legal.1 (subst (λ p. IsPresent instance history p candidate.insns) its candidate.has_cut.present) in
        omega (arith, few, one_at_most (is_take_of leader entry))
    | inr other ↦
        omega (
          arith,
          none_taken leader entry history (ap (is_take_of leader) same ∙ ne_eqb l leader other),
          takes_few instance history leader of_file legal.1,
        )
  ]
]

-- ---- what a block saves

-- one take more
more_taken : (b : Bool) (s t c more : ℕ) → s ≤ t * c → (b ≡ true → more ≤ c)
    → s + (if b then more else 0) ≤ ((if b then 1 else 0) + t) * c
more_taken true s t c more before few = let most : more ≤ c = few refl in omega arith
more_taken false s t c more before few = omega arith

share_few :
    {instance : Instance} {history : History} {saved : ℕ} (leader : ℕ) → AreOfSomeFile instance.blocks instance.live
    → IsLatencyTable instance.table → IsLegalHistory instance history → (is : IsSaved instance history saved)
    → share place_of leader is ≤ takes_of leader history * (262144 * instance.entries leader)
share_few leader of_file kept legal none = omega arith
share_few {instance} leader of_file kept legal (of_search {history = h} {entry = e} found before) =
    omega (
      arith,
      share_few leader of_file kept legal.1 before,
      ap (λ n. n * (262144 * instance.entries leader)) (none_taken leader e h (search_takes_none e leader found)),
    )
share_few {instance} leader of_file kept legal (of_take {history = h} {leader = l} {more = m} before candidate) =
    more_taken (l == leader) (share place_of leader before) (takes_of leader h) (262144 * instance.entries leader) m
    (share_few leader of_file kept legal.1 before)
    (λ its. subst (λ p. m ≤ 262144 * instance.entries p) (eqb-true l leader its) (candidate_saves_few of_file kept legal candidate))

-- ---- all blocks

-- the blocks save all that is saved
blocks_save_all :
    {instance : Instance} {history : History} {saved : ℕ} (is : IsSaved instance history saved)
    → saved ≤ sum_by (λ block. share place_of block.leader is) instance.blocks
blocks_save_all none = omega arith
blocks_save_all (of_search found before) = blocks_save_all before
blocks_save_all {instance} (of_take {leader = l} {saved = s} {more = m} before candidate) =
    let (block, there, leads) = block_of_present candidate.has_cut.present in
    let here : (if l == block.leader then m else 0) ≡ m = ap (λ b. if b then m else 0) (eq-eqb l block.leader (sym leads)) in
    omega (
      arith,
      blocks_save_all before,
      sum_by_both (λ (b : Block). share place_of b.leader before) (λ (b : Block). if l == b.leader then m else 0) instance.blocks,
      within_sum_by (λ (b : Block). if l == b.leader then m else 0) instance.blocks block there,
      here,
    )

history_saves_few :
    {instance : Instance} {history : History} {saved : ℕ} → AreOfSomeFile instance.blocks instance.live
    → IsLatencyTable instance.table → IsLegalHistory instance history → IsSaved instance history saved
    → saved ≤ 134217728 * entries_of instance
history_saves_few {instance} {history} of_file kept legal is = omega (
  arith,
  blocks_save_all is,
  sum_by_less (λ (b : Block). share place_of b.leader is) (λ (b : Block). 134217728 * instance.entries b.leader) instance.blocks
      (λ b there. few b.leader),
  sum_by_times 134217728 (λ (b : Block). instance.entries b.leader) instance.blocks,
)
  where
    few : (leader : ℕ) → share place_of leader is ≤ 134217728 * instance.entries leader
    few leader =
        omega (
          arith,
          share_few leader of_file kept legal is,
          mul-le (takes_of leader history) (262144 * instance.entries leader) 257 (262144 * instance.entries leader)
              (takes_few instance history leader of_file legal) (omega arith),
        )

pub saved_is_few : SavedIsFew
saved_is_few instance book saved of_file kept legal few is =
    let most = history_saves_few of_file kept legal.entries is in
    omega (arith, most, few)

pub takes_save_few : TakesSaveFew
takes_save_few instance book takes of_file kept legal few are =
    let most = history_saves_few of_file kept legal.entries (takes_save are) in
    omega (arith, most, few, sum_by-IsPermutation cycles_of takes (reverse takes) (IsPermutation-reverse takes))
