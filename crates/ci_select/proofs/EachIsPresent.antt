-- Behind a legal history each block of the file is present, unless a search of it is due.
use Rattle.std.proofs.Common.{ℕ, ◌⊎◌, List, [], ◌∷◌, reverse, refl, sym, ap, ◌∙◌, subst, inl, inr}
use Rattle.std.specs.List.{Contains}
use Rattle.std.proofs.lemmas.Bool.{cases_eq, ne_eqb}
use Rattle.ci_isa.specs.declared.instruction.Insn.{Insn}
use Rattle.ci_block.specs.declared.blocks.Block.{Block}
use Rattle.ci_log.specs.declared.book.Entry.TheVariants.{Take}
use Rattle.ci_log.specs.declared.book.Finish.{Finish}
use Rattle.ci_select.specs.declared.rounds.Due.TheVariants as due
use Rattle.ci_select.specs.Histories.{History, is_take_of, leader_of}
use Rattle.ci_select.specs.Instances.{Instance}
use Rattle.ci_select.specs.PresentBlocks.{IsPresent, original, unchanged, graph_at}
use Rattle.ci_select.specs.Dues.{HasNoSearchDue, IsDue, IsSearchDue, after_take, ends_empty, ends_full}
use Rattle.ci_select.specs.LegalBooks.{IsLegalHistory}
use Rattle.ci_select.specs.Laws.{EachBlockIsPresent}
use Rattle.ci_select.proofs.PresentLaws.{right_cases, searched_is_no_take}
use Rattle.ci_select.proofs.SearchDues.{search_due_is_one}

abbrev pub HasPresent : Instance → History → ℕ → Type 0
HasPresent instance history leader = (insns : List Insn) × IsPresent instance history leader insns

-- the search that is due behind a take brings the block that was folded
pub present_or_due :
    (instance : Instance) (history : History) (block : Block) → IsLegalHistory instance history → Contains instance.blocks block
    → HasPresent instance history block.leader ⊎ IsSearchDue instance history block.leader
present_or_due instance [] block legal there = inl (block.insns.items, original (block, there, refl, refl))
present_or_due instance (entry ∷ history) block legal there = elim (right_cases legal.0) [
  | inl is ↦
      let other = searched_is_no_take entry (graph_at instance (leader_of entry) is.insns) instance.plan block.leader is.is_searched in
      elim (present_or_due instance history block legal.1 there) [
        | inl (insns, present) ↦ inl (insns, unchanged other present)
        | inr its ↦ inl (
          is.insns,
          unchanged other (subst (λ l. IsPresent instance history l is.insns) (search_due_is_one is.is_due its) is.present),
        )
      ]
  | inr (leader, unit, same, is) ↦ elim (cases_eq leader block.leader) [
    | inl its ↦ inr (subst (λ e. IsSearchDue instance (e ∷ history) block.leader) (sym same)
        (subst (IsSearchDue instance (Take leader unit ∷ history)) its after_take))
    | inr other ↦ elim (present_or_due instance history block legal.1 there) [
      | inl (insns, present) ↦ inl (
        insns,
        unchanged (ap (is_take_of block.leader) same ∙ ne_eqb leader block.leader other) present,
      )
      | inr searched ↦ absurd (is.next.no_search block.leader searched)
    ]
  ]
]

-- no search is due where the end is
pub end_has_no_search : {instance : Instance} {history : History} {finish : Finish} → IsDue instance history (due.End finish)
    → HasNoSearchDue instance history
end_has_no_search (ends_empty none no_candidate) = none
end_has_no_search (ends_full next new full) = next.no_search

pub each_block_is_present : EachBlockIsPresent
each_block_is_present instance book block legal there = elim (present_or_due instance (reverse book.entries) block legal.entries there) [
  | inl present ↦ present
  | inr searched ↦ absurd (end_has_no_search legal.finish block.leader searched)
]
