-- From what is found of an entry, or of the end of a book, to what is right and what is wrong of it.
use Rattle.std.proofs.Common.{◌≡◌, ℕ, ◌+◌, ◌<◌, ◌≤◌, false, List, [], ◌∷◌, ◌++◌, length, map, reverse, take, drop}
use Rattle.std.proofs.Common.{get_or, Option, Some, None, MatchOption, IfNone, refl, sym, ap, ◌∙◌, subst, inl, inr}
use Rattle.std.proofs.Common.{append_assoc}
use Rattle.std.specs.FinSet as finite
use Rattle.std.specs.Ordering.{nat_cmp}
use Rattle.std.proofs.lemmas.List.{drop_more, map-append, take-append-drop, take_all}
use Rattle.ci_isa.specs.declared.instruction.Insn.{Insn}
use Rattle.ci_cut.specs.FlowGraph.{FlowGraph}
use Rattle.ci_log.specs.declared.book.Entry.{Entry}
use Rattle.ci_log.specs.declared.book.Entry.TheVariants.{Best, Without}
use Rattle.ci_log.specs.declared.book.Finish.{Finish}
use Rattle.ci_log.specs.declared.log.Item.{Item}
use Rattle.ci_log.specs.Books.{Book}
use Rattle.ci_check.specs.Rules.{IsAccepted, IsFirstWrong}
use Rattle.ci_select.specs.declared.acceptance.Wrong.{Wrong}
use Rattle.ci_select.specs.declared.plan.Plan.{Plan}
use Rattle.ci_select.specs.declared.rounds.Due.{Due}
use Rattle.ci_select.specs.declared.rounds.Due.TheVariants as due
use Rattle.ci_select.specs.declared.rounds.Rounds.{Rounds}
use Rattle.ci_select.specs.Histories.{History, is_take, round}
use Rattle.ci_select.specs.Instances.{Instance}
use Rattle.ci_select.specs.PresentBlocks.{IsPresent, graph_at}
use Rattle.ci_select.specs.Dues.{IsDue}
use Rattle.ci_select.specs.LegalBooks.{IsLegal, IsLegalHistory, IsRight}
use Rattle.ci_select.specs.WrongPlaces.{IsFirstWrongPart, IsWrongPart, Place, entry as part_of, finish as finish_of}
use Rattle.ci_select.specs.WrongPlaces.{no_end, no_search, no_take, place, wrong_log}
use Rattle.ci_select.specs.private.Followed.{Follows, IsDueGraph, instance_in}
use Rattle.ci_select.specs.private.Judged.{IsEndJudged, IsJudged, IsSearchJudged, is_at}
use Rattle.ci_select.proofs.PresentLaws.{due_search}
use Rattle.ci_select.proofs.DueBlocks.{present_of_search, search_is_no_take, search_is_right}

-- ---- searches

-- the log of a search that found a cut is judged by its first wrong item,
pub judged_best : (graph : FlowGraph) (plan : Plan) (leader l : ℕ) (cut : finite.FinSet nat_cmp) (log : List Item)
    (found : Option Wrong) → l ≡ leader
    → MatchOption found (IsAccepted graph plan.limits (Some cut) log) (λ (wrong : Wrong). (wrong.leader ≡ leader)
    × IsFirstWrong graph plan.limits (Some cut) log (record { item = wrong.item; reason = wrong.reason }))
    → IsSearchJudged graph plan leader (Best l cut log) found
judged_best graph plan leader l cut log None same accepted = (same, accepted)
judged_best graph plan leader l cut log (Some wrong) same (is, first) = (is, inl (same, first))

-- and so is that of one that found none
pub judged_without : (graph : FlowGraph) (plan : Plan) (leader l : ℕ) (log : List Item) (found : Option Wrong)
    → l ≡ leader
    → MatchOption found (IsAccepted graph plan.limits None log) (λ (wrong : Wrong). (wrong.leader ≡ leader)
    × IsFirstWrong graph plan.limits None log (record { item = wrong.item; reason = wrong.reason }))
    → IsSearchJudged graph plan leader (Without l log) found
judged_without graph plan leader l log None same accepted = (same, accepted)
judged_without graph plan leader l log (Some wrong) same (is, first) = (is, inl (same, first))

module _ {instance : Instance} {history : History} {leader : ℕ} {insns : List Insn}
    (is_due : IsDue instance history (due.Search leader)) (present : IsPresent instance history leader insns)
    (entry : Entry) where
  -- a search that is judged wrong is wrong
  wrong_search : (wrong : Wrong)
      → IsSearchJudged (graph_at instance leader insns) instance.plan leader entry (Some wrong)
      → IsWrongPart instance history (part_of entry) (is_at wrong (round history))
  wrong_search wrong (same, inl log) =
      subst (λ l. IsWrongPart instance history (part_of entry) (place (round history) l wrong.item wrong.reason))
      (sym same) (wrong_log is_due present log)
  wrong_search wrong (same, inr (other, item, reason)) =
      rw (same, item, reason) (no_search is_due present other)

module _ {history : History} {rounds : Rounds} {leader : ℕ} {graph : FlowGraph} {plan : Plan} (entry : Entry)
    (follows : Follows history rounds) (is_due : IsDue (instance_in rounds) history (due.Search leader))
    (graph_is : IsDueGraph rounds graph) (plan_is : plan ≡ rounds.plan) where
  -- a search that is judged right is right,
  pub right_there : IsSearchJudged graph plan leader entry None
      → IsRight (instance_in rounds) history entry × (is_take entry ≡ false)
  right_there (same, is) = (
    search_is_right follows graph plan entry graph_is plan_is same is_due is,
    search_is_no_take graph plan entry is,
  )

  -- and one that is judged wrong is wrong
  pub wrong_there : (wrong : Wrong) → IsSearchJudged graph plan leader entry (Some wrong)
      → IsWrongPart (instance_in rounds) history (part_of entry) (is_at wrong (round history))
  wrong_there wrong judged =
      let (insns, present) = present_of_search follows (due_search is_due) in
      wrong_search is_due present entry wrong
      (subst (λ p. IsSearchJudged (graph_at (instance_in rounds) leader insns) p leader entry (Some wrong)) plan_is
      (subst (λ g. IsSearchJudged g plan leader entry (Some wrong))
      (graph_is history leader insns follows is_due present) judged))

-- ---- whole books

module _ (instance : Instance) (book : Book) where
  -- the entry at a place is wrong, where those before it are right
  pub wrong_entry : (k : ℕ) (here : Entry) → k < length book.entries → here ≡ get_or book.entries k here
      → (wrong : Place) → IsLegalHistory instance (reverse (take k book.entries))
      → IsWrongPart instance (reverse (take k book.entries)) (part_of here) wrong
      → IsFirstWrongPart instance book wrong
  wrong_entry k here within is wrong legal is_wrong = record {
    before = take k book.entries;
    part = part_of here;
    behind = map part_of (drop (k + 1) book.entries) ++ finish_of book.finish ∷ [];
    split = ap (λ entries. map part_of entries ++ finish_of book.finish ∷ []) split
        ∙ ap (λ parts. parts ++ finish_of book.finish ∷ [])
        (map-append part_of (take k book.entries) (here ∷ drop (k + 1) book.entries))
        ∙ append_assoc (map part_of (take k book.entries)) (part_of here ∷ map part_of (drop (k + 1) book.entries))
        (finish_of book.finish ∷ []);
    legal = legal;
    is_wrong = is_wrong;
  }
    where
      split : book.entries ≡ take k book.entries ++ here ∷ drop (k + 1) book.entries
      split =
          sym (take-append-drop k book.entries)
          ∙ ap (λ rest. take k book.entries ++ rest)
          (drop_more book.entries k here within ∙ ap (λ e. e ∷ drop (k + 1) book.entries) (sym is))

  -- the end is wrong, where all entries are right
  wrong_finish : (wrong : Place) → IsLegalHistory instance (reverse book.entries)
      → IsWrongPart instance (reverse book.entries) (finish_of book.finish) wrong → IsFirstWrongPart instance book wrong
  wrong_finish wrong legal is_wrong = record {
    before = book.entries;
    part = finish_of book.finish;
    behind = [];
    split = refl;
    legal = legal;
    is_wrong = is_wrong;
  }

-- what is found of an entry that isn't right is the first wrong part
pub wrong_followed : (book : Book) (before after : Rounds) (k : ℕ) (here : Entry) (wrong : Wrong)
    → k < length book.entries → here ≡ get_or book.entries k here → Follows (reverse (take k book.entries)) before
    → IsJudged before after here (Some wrong)
    → IsFirstWrongPart (instance_in before) book (is_at wrong after.round)
wrong_followed book before after k here wrong within is follows judged =
    let (is_wrong, follows_after) = judged (reverse (take k book.entries)) follows in
    wrong_entry (instance_in before) book k here within is (is_at wrong after.round) follows.legal
    (subst (λ r. IsWrongPart (instance_in before) (reverse (take k book.entries)) (part_of here) (is_at wrong r))
    (sym follows_after.round_is) is_wrong)

-- the end of a book is judged behind its entries
pub judged_end : (book : Book) (rounds : Rounds) (what : Due) (finish : Finish) (found : Option Wrong)
    → Follows (reverse book.entries) rounds → IsDue (instance_in rounds) (reverse book.entries) what
    → finish ≡ book.finish → IsEndJudged what finish found
    → MatchOption found (IsLegal (instance_in rounds) book)
    (λ (wrong : Wrong). IsFirstWrongPart (instance_in rounds) book (is_at wrong rounds.round))
judged_end book rounds what finish None follows is_due same is = record {
  entries = follows.legal;
  finish = subst (IsDue (instance_in rounds) (reverse book.entries)) (is ∙ ap (λ f. due.End f) same) is_due;
}
judged_end book rounds (due.Search leader) finish (Some wrong) follows is_due same is =
    rw (is, follows.round_is)
    (wrong_finish (instance_in rounds) book (place (round (reverse book.entries)) leader 0 8) follows.legal
    (no_search is_due (present_of_search follows (due_search is_due)).1 tt))
judged_end book rounds (due.Take leader unit) finish (Some wrong) follows is_due same is =
    rw (is, follows.round_is)
    (wrong_finish (instance_in rounds) book (place (round (reverse book.entries)) leader 0 9) follows.legal
    (no_take is_due (λ other. absurd (cc))))
judged_end book rounds (due.End other) finish (Some wrong) follows is_due same (differs, is) =
    rw (is, follows.round_is)
    (wrong_finish (instance_in rounds) book (place (round (reverse book.entries)) 0 0 10) follows.legal
    (no_end is_due (λ equal. differs (cc))))

-- all entries were followed
pub follows_all : (entries : List Entry) (k : ℕ) (rounds : Rounds) → Follows (reverse (take k entries)) rounds
    → length entries ≤ k → Follows (reverse entries) rounds
follows_all entries k rounds follows past =
    subst (λ es. Follows (reverse es) rounds) (take_all k entries past) follows

-- what holds in any case holds where there is none
pub if_none : {X : Type 0} {A : Type 0} (found : Option A) → X → IfNone found X
if_none None x = x
if_none (Some a) x = tt
