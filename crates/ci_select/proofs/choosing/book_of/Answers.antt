use Rattle.std.proofs.Common.{◌≡◌, ℕ, false, true≢false, List, [], ◌∷◌, ◌++◌, reverse, sym, ap, ◌∙◌, subst}
use Rattle.std.proofs.lemmas.List.{reverse-append}
use Rattle.std.specs.List.{AllByRecursion}
use Rattle.ci_region.specs.BoundedMap.{BoundedMap}
use Rattle.ci_log.specs.declared.book.Entry.{Entry}
use Rattle.ci_log.specs.declared.book.Entry.TheVariants.{Take}
use Rattle.ci_log.specs.declared.book.Finish.{Finish}
use Rattle.ci_log.specs.Books.{Book}
use Rattle.ci_log.specs.declared.flattening.LogNode.{LogNode}
use Rattle.ci_select.specs.declared.plan.Plan.{Plan}
use Rattle.ci_select.specs.declared.rounds.Due.TheVariants as due
use Rattle.ci_select.specs.declared.rounds.Rounds.{Rounds}
use Rattle.ci_select.specs.declared.taken.Taken.{Taken}
use Rattle.ci_select.specs.Histories.{History, is_take}
use Rattle.ci_select.specs.Instances.{Instance}
use Rattle.ci_select.specs.Dues.{IsDue}
use Rattle.ci_select.specs.LegalBooks.{HasShortLog, IsLegal}
use Rattle.ci_select.specs.GivenUp.{IsGivenUpByNeed, GivesUpByNeed}
use Rattle.ci_select.specs.Takes.{AreTaken, IsTaken, none, of_search, of_take}
use Rattle.ci_select.specs.private.Followed.{Follows, instance_in}
use Rattle.ci_select.proofs.BookLaws.{legal_books_are_books}
use Rattle.ci_select.proofs.EntryLists.{all_and_one}
use Rattle.ci_select.proofs.choosing.book_of.Goals as goal

-- ---- the loop

-- an entry that is put at the end is the newest one
newest :
    (entries longer : List Entry) (entry : Entry) → longer ≡ entries ++ entry ∷ [] → reverse longer ≡ entry ∷ reverse entries
newest entries longer entry pushed = ap reverse pushed ∙ reverse-append entries (entry ∷ [])

-- which the rounds follow,
followed :
    (entries longer : List Entry) (entry : Entry) (rounds : Rounds) → longer ≡ entries ++ entry ∷ []
    → Follows (entry ∷ reverse entries) rounds → Follows (reverse longer) rounds
followed entries longer entry rounds pushed follows =
    subst (λ (history : History). Follows history rounds) (sym (newest entries longer entry pushed)) follows

-- and each search is given up exactly by need then,
given_up_by_need :
    {instance : Instance} (entries longer : List Entry) (entry : Entry) → longer ≡ entries ++ entry ∷ []
    → GivesUpByNeed instance (reverse entries) → IsGivenUpByNeed instance (reverse entries) entry
    → GivesUpByNeed instance (reverse longer)
given_up_by_need {instance} entries longer entry pushed before one =
    subst (GivesUpByNeed instance) (sym (newest entries longer entry pushed)) (one, before)

-- and all logs are short
short_logs :
    (entries longer : List Entry) (entry : Entry) → longer ≡ entries ++ entry ∷ [] → AllByRecursion HasShortLog entries
    → HasShortLog entry → AllByRecursion HasShortLog longer
short_logs entries longer entry pushed short one =
    subst (AllByRecursion HasShortLog) (sym pushed) (all_and_one HasShortLog entries entry short one)

-- ---- takes

-- those of the entries and of one take more
taken_too :
    {instance other : Instance} {leader unit : ℕ} (entries longer : List Entry) (takes more : List Taken) (taken : Taken)
    → longer ≡ entries ++ Take leader unit ∷ [] → more ≡ takes ++ taken ∷ [] → other ≡ instance
    → AreTaken instance (reverse entries) (reverse takes) → IsTaken other (reverse entries) leader unit taken
    → AreTaken instance (reverse longer) (reverse more)
taken_too {instance} {leader = leader} {unit = unit} entries longer takes more taken pushed put same before is =
    let history = newest entries longer (Take leader unit) pushed in
    let first : reverse more ≡ taken ∷ reverse takes = ap reverse put ∙ reverse-append takes (taken ∷ []) in
    subst (λ (h : History). AreTaken instance h (reverse more)) (sym history)
    (subst (AreTaken instance (Take leader unit ∷ reverse entries)) (sym first)
    (of_take before (subst (λ (i : Instance). IsTaken i (reverse entries) leader unit taken) same is)))

-- those of the entries are those behind one search more
taken_as_before :
    {instance : Instance} (entries longer : List Entry) (entry : Entry) (takes : List Taken)
    → longer ≡ entries ++ entry ∷ [] → is_take entry ≡ false → AreTaken instance (reverse entries) takes
    → AreTaken instance (reverse longer) takes
taken_as_before {instance} entries longer entry takes pushed search before =
    subst (λ (h : History). AreTaken instance h takes) (sym (newest entries longer entry pushed)) (of_search search before)

pub loop-leader-init : goal.loop-leader-init
loop-leader-init c = record {
  taken = subst (λ (entries : List Entry). AreTaken (instance_in c.args.rounds.now) (reverse entries) (reverse c.new-takes.result.items))
      (sym c.new-entries.ensures.items)
      (subst (λ (takes : List Taken). AreTaken (instance_in c.args.rounds.now) [] (reverse takes)) (sym c.new-takes.ensures.items) none);
  follows = subst (λ (entries : List Entry). Follows (reverse entries) c.args.rounds.now) (sym c.new-entries.ensures.items) c.requires;
  same = λ _. instance_in c.args.rounds.now;
  budget = ap (λ (region : BoundedMap LogNode). region.capacity) c.in_ok-region.ensures ∙ ap (λ (plan : Plan). plan.budget) c.plan.ensures;
  short = subst (AllByRecursion HasShortLog) (sym c.new-entries.ensures.items) tt;
  given_up = subst (λ (entries : List Entry). GivesUpByNeed (instance_in c.args.rounds.now) (reverse entries))
      (sym c.new-entries.ensures.items) tt;
}

pub due-requires : goal.due-requires
due-requires c = (reverse c.loop-leader.entries.items, c.loop-leader.invariant.follows)

-- ---- a search

pub search_block-requires-clause-due : goal.search_block-requires-clause-due
search_block-requires-clause-due c =
    let history = reverse c.loop-leader.entries.items in
    let follows = c.loop-leader.invariant.follows in
    (history, follows, c.in-Search.ensures history follows)

pub search_block-requires-clause-budget : goal.search_block-requires-clause-budget
search_block-requires-clause-budget c =
    c.loop-leader.invariant.budget ∙ ap (λ (instance : Instance). instance.plan.budget) (sym c.loop-leader.invariant.same)

pub returns-in_err-search_block-in-Search-clause-instance : goal.returns-in_err-search_block-in-Search-clause-instance
returns-in_err-search_block-in-Search-clause-instance c = c.search_block.ensures.instance ∙ c.loop-leader.invariant.same

pub loop-leader-smaller-in_ok-push-in-Search : goal.loop-leader-smaller-in_ok-push-in-Search
loop-leader-smaller-in_ok-push-in-Search c = c.in_ok-search_block-in-Search.ensures.fewer

pub loop-leader-preserved-in_ok-push-in-Search : goal.loop-leader-preserved-in_ok-push-in-Search
loop-leader-preserved-in_ok-push-in-Search c =
    let was = c.loop-leader.invariant in
    let entries = c.loop-leader.entries.items in
    let done = c.in_ok-search_block-in-Search.ensures in
    let pushed = c.in_ok-push-in-Search.ensures.items in
    record {
      follows = followed entries c.push.new.self.items c.in_ok-search_block-in-Search.field-0 c.search_block.new.rounds pushed
          (done.followed (reverse entries) was.follows (c.in-Search.ensures (reverse entries) was.follows));
      same = c.search_block.ensures.instance ∙ was.same;
      budget = c.search_block.ensures.budget ∙ was.budget;
      taken = taken_as_before entries c.push.new.self.items c.in_ok-search_block-in-Search.field-0
          (reverse c.loop-leader.takes.items) pushed done.search was.taken;
      short = short_logs entries c.push.new.self.items c.in_ok-search_block-in-Search.field-0 pushed was.short done.short;
      given_up = given_up_by_need entries c.push.new.self.items c.in_ok-search_block-in-Search.field-0 pushed was.given_up
          (subst (λ (instance : Instance). IsGivenUpByNeed instance (reverse entries) c.in_ok-search_block-in-Search.field-0)
          was.same (done.given_up (reverse entries) was.follows (c.in-Search.ensures (reverse entries) was.follows)));
    }

pub returns-in_err-push-in-Search-clause-instance : goal.returns-in_err-push-in-Search-clause-instance
returns-in_err-push-in-Search-clause-instance c = c.search_block.ensures.instance ∙ c.loop-leader.invariant.same

-- ---- a take

pub taken-requires : goal.taken-requires
taken-requires c =
    let history = reverse c.loop-leader.entries.items in
    let follows = c.loop-leader.invariant.follows in
    (history, c.in-Take.leader, follows, c.in-Take.ensures history follows)

pub returns-in_err-push-in-Take-clause-instance : goal.returns-in_err-push-in-Take-clause-instance
returns-in_err-push-in-Take-clause-instance c = c.loop-leader.invariant.same

pub follow_take-requires : goal.follow_take-requires
follow_take-requires c =
    let history = reverse c.loop-leader.entries.items in
    let follows = c.loop-leader.invariant.follows in
    (history, c.in-Take.leader, follows, c.in-Take.ensures history follows)

pub returns-in_err-follow_take-in-Take-clause-instance : goal.returns-in_err-follow_take-in-Take-clause-instance
returns-in_err-follow_take-in-Take-clause-instance c = c.follow_take.ensures.instance ∙ c.loop-leader.invariant.same

pub loop-leader-smaller : goal.loop-leader-smaller
loop-leader-smaller c = c.in_ok-follow_take-in-Take.ensures.fewer

pub loop-leader-preserved : goal.loop-leader-preserved
loop-leader-preserved c =
    let was = c.loop-leader.invariant in
    let entries = c.loop-leader.entries.items in
    let pushed = c.in_ok-push-in-Take-2.ensures.items in
    let due = c.in-Take.ensures (reverse entries) was.follows in
    let entry : Entry = Take c.in-Take.leader c.in-Take.unit in
    record {
      follows = followed entries c.push-in-Take-2.new.self.items entry c.follow_take.new.self pushed
          (c.in_ok-follow_take-in-Take.ensures.followed (reverse entries) c.in-Take.leader was.follows due);
      same = c.follow_take.ensures.instance ∙ was.same;
      budget = was.budget;
      taken = taken_too entries c.push-in-Take-2.new.self.items c.loop-leader.takes.items c.push-in-Take.new.self.items
          c.taken.result pushed c.in_ok-push-in-Take.ensures.items was.same was.taken
          (c.taken.ensures (reverse entries) c.in-Take.leader was.follows due);
      short = short_logs entries c.push-in-Take-2.new.self.items entry pushed was.short tt;
      given_up = given_up_by_need entries c.push-in-Take-2.new.self.items entry pushed was.given_up
          (λ insns search present. absurd (true≢false search));
    }

pub returns-in_err-push-in-Take-2-clause-instance : goal.returns-in_err-push-in-Take-2-clause-instance
returns-in_err-push-in-Take-2-clause-instance c = c.follow_take.ensures.instance ∙ c.loop-leader.invariant.same

-- ---- the end

-- the book that the end makes is legal
legal_made :
    (entries : List Entry) (finish : Finish) (rounds : Rounds) → Follows (reverse entries) rounds
    → IsDue (instance_in rounds) (reverse entries) (due.End finish)
    → IsLegal (instance_in rounds) (record { entries = entries; finish = finish })
legal_made entries finish rounds follows what = record { entries = follows.legal; finish = what }

pub new-requires : goal.new-requires
new-requires c =
    let entries = c.loop-leader.entries.items in
    let was = c.loop-leader.invariant in
    legal_books_are_books (instance_in c.loop-leader.rounds) (record { entries = entries; finish = c.in-End.finish })
    was.follows.of_file was.short
    (legal_made entries c.in-End.finish c.loop-leader.rounds was.follows (c.in-End.ensures (reverse entries) was.follows))

pub returns-in-End-clause-legal : goal.returns-in-End-clause-legal
returns-in-End-clause-legal c =
    let entries = c.loop-leader.entries.items in
    let was = c.loop-leader.invariant in
    subst (λ (instance : Instance). IsLegal instance c.new.result) was.same
    (subst (IsLegal (instance_in c.loop-leader.rounds)) (sym c.new.ensures)
    (legal_made entries c.in-End.finish c.loop-leader.rounds was.follows (c.in-End.ensures (reverse entries) was.follows)))

pub returns-in-End-clause-followed : goal.returns-in-End-clause-followed
returns-in-End-clause-followed c =
    subst (λ (book : Book). Follows (reverse book.entries) c.loop-leader.rounds) (sym c.new.ensures) c.loop-leader.invariant.follows

pub returns-in-End-clause-given_up : goal.returns-in-End-clause-given_up
returns-in-End-clause-given_up c =
    subst (λ (book : Book). GivesUpByNeed (instance_in c.args.rounds.now) (reverse book.entries)) (sym c.new.ensures)
    c.loop-leader.invariant.given_up

pub returns-in-End-clause-instance : goal.returns-in-End-clause-instance
returns-in-End-clause-instance c = c.loop-leader.invariant.same
