-- A legal book has a search of each block that was entered: those are due before the first take.
use Rattle.std.proofs.Common.{◌≡◌, ℕ, ◌-◌, ◌<◌, ◌⊎◌, true, false, List, [], ◌∷◌, length, reverse, Some, refl, sym, ap, ◌∙◌, inl, inr, arith}
use Rattle.std.specs.Prelude.{slice_get}
use Rattle.std.specs.List.{Contains}
use Rattle.std.proofs.lemmas.Bool.{cases_eq, cases_lt}
use Rattle.std.proofs.lemmas.List.{get_or-reverse, length-reverse}
use Rattle.std.proofs.lemmas.List.Elements.{Contains-append_right}
use Rattle.std.proofs.lemmas.Option.{slice_get-get_or, slice_get_within}
use Rattle.ci_cut.specs.FlowGraph.{FlowGraph}
use Rattle.ci_log.specs.declared.book.Entry.{Entry}
use Rattle.ci_log.specs.declared.book.Entry.TheVariants.{Best, Without, Spent, Take}
use Rattle.ci_select.specs.declared.plan.Plan.{Plan}
use Rattle.ci_select.specs.Histories.{History, is_search_of, is_take, leader_of, round}
use Rattle.ci_select.specs.Instances.{Instance, entered}
use Rattle.ci_select.specs.PresentBlocks.{graph_at}
use Rattle.ci_select.specs.Dues.{HasNoSearchDue, IsSearchDue, at_first, after_take}
use Rattle.ci_select.specs.LegalBooks.{IsLegalHistory, IsSearched}
use Rattle.ci_select.specs.Laws.{EachEnteredBlockIsSearched}
use Rattle.ci_select.proofs.EachIsPresent.{end_has_no_search}
use Rattle.ci_select.proofs.HistoryLaws.{round_stays}
use Rattle.ci_select.proofs.PresentLaws.{own_search, right_cases}

-- some search of the block is among the entries
abbrev HasSearch : List Entry → ℕ → Type 0
HasSearch entries leader = (entry : Entry) × Contains entries entry × (is_search_of leader entry ≡ true)

search_behind : (entry : Entry) (history : History) (leader : ℕ) → HasSearch history leader → HasSearch (entry ∷ history) leader
search_behind entry history leader (search, there, its) = (search, Contains-append_right (entry ∷ []) history search there, its)

-- a block is the one at this place of those that were entered
abbrev IsEntered : Instance → ℕ → ℕ → Type 0
IsEntered instance k leader = slice_get (entered instance) k ≡ Some leader

-- the search at a place is over: that many entries are there, or a take is
abbrev IsOver : History → ℕ → Type 0
IsOver history k = (k < length history) ⊎ (0 < round history)

-- each is, where no search is due
over_by_now : (instance : Instance) (history : History) (k leader : ℕ) → HasNoSearchDue instance history → IsEntered instance k leader → IsOver history k
over_by_now instance history k leader none at = elim (cases_eq (round history) 0) [
  | inl first ↦ elim (cases_lt k (length history)) [
    | inl below ↦ inl below
    | inr past ↦
        let within : k < length (entered instance) = slice_get_within (entered instance) k leader at in
        absurd (none _ (at_first first (slice_get-get_or (entered instance) (length history) 0 (omega arith))))
  ]
  | inr later ↦ inr (omega arith)
]

-- a search is due in its turn, or behind a take
search_turn : {instance : Instance} {history : History} {leader : ℕ} → IsSearchDue instance history leader
    → ((round history ≡ 0) × IsEntered instance (length history) leader) ⊎ (0 < round history)
search_turn (at_first first at) = inl (first, at)
search_turn after_take = inr (omega arith)

-- a search is no take
no_take : (entry : Entry) (graph : FlowGraph) (plan : Plan) → IsSearched graph plan entry → is_take entry ≡ false
no_take (Best l cut log) graph plan is = refl
no_take (Without l log) graph plan is = refl
no_take (Spent l budget) graph plan is = refl
no_take (Take l unit) graph plan is = absurd is

searched_when_over :
    (instance : Instance) (history : History) (k leader : ℕ) → IsLegalHistory instance history → IsEntered instance k leader
    → IsOver history k → HasSearch history leader
searched_when_over instance [] k leader legal at (inl below) = absurd (omega arith)
searched_when_over instance [] k leader legal at (inr some) = absurd (omega arith)
searched_when_over instance (entry ∷ history) k leader legal at over = elim (right_cases legal.0) [
  | inl is ↦ elim (search_turn is.is_due) [
    | inl (first, turn) ↦ elim (cases_eq k (length history)) [
      | inl last ↦ (
        entry,
        (0, omega arith, refl),
        own_search entry (graph_at instance (leader_of entry) is.insns) instance.plan leader is.is_searched
            (same_block (leader_of entry) (sym turn ∙ ap (slice_get (entered instance)) (sym last) ∙ at)),
      )
      | inr other ↦
          search_behind entry history leader
          (searched_when_over instance history k leader legal.1 at (inl (before other first (round_stays entry history (no_take entry (graph_at instance (leader_of entry) is.insns) instance.plan is.is_searched)) over)))
    ]
    | inr some ↦ search_behind entry history leader (searched_when_over instance history k leader legal.1 at (inr some))
  ]
  | inr (l, unit, same, is) ↦
      search_behind entry history leader
      (searched_when_over instance history k leader legal.1 at (over_by_now instance history k leader is.next.no_search at))
]
  where
    same_block : (l : ℕ) → Some l ≡ Some leader → l ≡ leader
    same_block l same = cc

    before : (k ≡ length history → ⊥) → round history ≡ 0 → round (entry ∷ history) ≡ round history → IsOver (entry ∷ history) k → k < length history
    before other first stays (inl below) = elim (cases_lt k (length history)) [ inl under ↦ under | inr past ↦ absurd (other (omega arith)) ]
    before other first stays (inr some) = absurd (omega arith)

-- an entry of a list turned round is one of the list
in_order : (entries : List Entry) (entry : Entry) → Contains (reverse entries) entry → Contains entries entry
in_order entries entry (k, below, is) =
    let same : length (reverse entries) ≡ length entries = length-reverse entries in
    (length entries - 1 - k, omega arith, sym (get_or-reverse entries k entry (omega arith)) ∙ is)

pub each_entered_is_searched : EachEnteredBlockIsSearched
each_entered_is_searched instance book leader legal (k, below, is) =
    let at : IsEntered instance k leader = slice_get-get_or (entered instance) k leader below ∙ ap Some is in
    let over = over_by_now instance (reverse book.entries) k leader (end_has_no_search legal.finish) at in
    let (search, there, its) = searched_when_over instance (reverse book.entries) k leader legal.entries at over in
    (search, in_order book.entries search there, its)
