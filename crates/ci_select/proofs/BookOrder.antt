-- In a legal book the first searches stand first, and then takes, each with the search that follows it.
use Rattle.std.proofs.Common.{◌≡◌, ℕ, List, [], ◌∷◌, ◌++◌, append_assoc, append-nil, reverse, refl, sym, ap, ◌∙◌, arith}
use Rattle.std.proofs.lemmas.List.{reverse-append, reverse-reverse}
use Rattle.std.specs.List.{AllByRecursion}
use Rattle.ci_log.specs.declared.book.Entry.{Entry}
use Rattle.ci_log.specs.declared.book.Entry.TheVariants.{Best, Without, Spent, Take}
use Rattle.ci_log.specs.declared.book.Finish.{Finish}
use Rattle.ci_log.specs.Books.{Book, IsSearch, AreRounds, AreInOrder}
use Rattle.ci_select.specs.declared.rounds.Due.TheVariants as due
use Rattle.ci_select.specs.Histories.{History, round}
use Rattle.ci_select.specs.Instances.{Instance}
use Rattle.ci_select.specs.Dues.{IsDue, IsSearchDue, HasNoSearchDue, at_first, after_take, ends_empty, ends_full}
use Rattle.ci_select.specs.LegalBooks.{IsLegal, IsLegalHistory, IsRight, searched, taken}
use Rattle.ci_select.proofs.EntryLists.{all_and_one}
use Rattle.ci_select.proofs.PresentLaws.{due_search, due_take}

-- ---- lists of entries

-- rounds, and one more
rounds_more :
    (rounds : List Entry) (leader unit : ℕ) (search : Entry) → IsSearch search → AreRounds rounds
    → AreRounds (rounds ++ Take leader unit ∷ search ∷ [])
rounds_more [] leader unit search is are = (is, tt)
rounds_more (Take l u ∷ []) leader unit search is are = absurd are
rounds_more (Take l u ∷ entry ∷ rounds) leader unit search is are =
    (are.0, rounds_more rounds leader unit search is are.1)
rounds_more (Best l cut log ∷ rounds) leader unit search is are = absurd are
rounds_more (Without l log ∷ rounds) leader unit search is are = absurd are
rounds_more (Spent l budget ∷ rounds) leader unit search is are = absurd are

-- behind a take the round isn't the first
not_first : (entry : Entry) (leader unit : ℕ) (history : History) → ¬ (round (entry ∷ Take leader unit ∷ history) ≡ 0)
not_first (Best l cut log) leader unit history first = omega arith
not_first (Without l log) leader unit history first = omega arith
not_first (Spent l budget) leader unit history first = omega arith
not_first (Take l u) leader unit history first = omega arith

-- ---- histories

-- The entries so far are in order, and before the first take they are searches alone.
record IsOrdered (history : History) : Type 0 where
  searches : List Entry
  rounds : List Entry
  is_split : reverse history ≡ searches ++ rounds
  are_searches : AllByRecursion IsSearch searches
  are_rounds : AreRounds rounds
  none_yet : round history ≡ 0 → rounds ≡ []

nothing : IsOrdered []
nothing = record {
  searches = [];
  rounds = [];
  is_split = refl;
  are_searches = tt;
  are_rounds = tt;
  none_yet = λ first. refl;
}

-- a search before the first take
searched_first :
    (history : History) (entry : Entry) → IsSearch entry → round history ≡ 0 → IsOrdered history
    → IsOrdered (entry ∷ history)
searched_first history entry is first ordered =
    let alone : reverse history ≡ ordered.searches =
    ordered.is_split ∙ ap (λ rounds. ordered.searches ++ rounds) (ordered.none_yet first) ∙ append-nil ordered.searches in
    record {
      searches = ordered.searches ++ entry ∷ [];
      rounds = [];
      is_split = reverse-append (entry ∷ []) history ∙ ap (λ entries. entries ++ entry ∷ []) alone
          ∙ sym (append-nil (ordered.searches ++ entry ∷ []));
      are_searches = all_and_one IsSearch ordered.searches entry ordered.are_searches is;
      are_rounds = tt;
      none_yet = λ still. refl;
    }

-- a take, and the search of its block
searched_again :
    (history : History) (leader unit : ℕ) (entry : Entry) → IsSearch entry → IsOrdered history
    → IsOrdered (entry ∷ Take leader unit ∷ history)
searched_again history leader unit entry is ordered = record {
  searches = ordered.searches;
  rounds = ordered.rounds ++ Take leader unit ∷ entry ∷ [];
  is_split = reverse-append (entry ∷ Take leader unit ∷ []) history
      ∙ ap (λ entries. entries ++ Take leader unit ∷ entry ∷ []) ordered.is_split
      ∙ append_assoc ordered.searches ordered.rounds (Take leader unit ∷ entry ∷ []);
  are_searches = ordered.are_searches;
  are_rounds = rounds_more ordered.rounds leader unit entry is ordered.are_rounds;
  none_yet = λ first. absurd (not_first entry leader unit history first);
}

-- what is in order behind an entry: all up to it, or up to a take what is before that
abbrev Ordered : History → Type 0
Ordered (Take leader unit ∷ history) = IsOrdered history
Ordered history = IsOrdered history

-- before the first take all is
whole_at_first : (history : History) → round history ≡ 0 → Ordered history → IsOrdered history
whole_at_first [] first ordered = ordered
whole_at_first (Take leader unit ∷ history) first ordered = absurd (omega arith)
whole_at_first (Best leader cut log ∷ history) first ordered = ordered
whole_at_first (Without leader log ∷ history) first ordered = ordered
whole_at_first (Spent leader budget ∷ history) first ordered = ordered

module _ {instance : Instance} where
  -- and where no search is due
  whole : (history : History) → HasNoSearchDue instance history → Ordered history → IsOrdered history
  whole [] none ordered = ordered
  whole (Take leader unit ∷ history) none ordered = absurd (none leader after_take)
  whole (Best leader cut log ∷ history) none ordered = ordered
  whole (Without leader log ∷ history) none ordered = ordered
  whole (Spent leader budget ∷ history) none ordered = ordered

  no_search_at_end : {history : History} {finish : Finish} → IsDue instance history (due.End finish) → HasNoSearchDue instance history
  no_search_at_end (ends_empty none no_candidate) = none
  no_search_at_end (ends_full next new full) = next.no_search

  -- a search that is due
  searched_more :
      {leader : ℕ} {history : History} (entry : Entry) → IsSearch entry → IsSearchDue instance history leader
      → Ordered history → IsOrdered (entry ∷ history)
  searched_more entry is (at_first {history = history} first there) ordered =
      searched_first history entry is first (whole_at_first history first ordered)
  searched_more entry is (after_take {history = history} {leader = leader} {unit = unit}) ordered =
      searched_again history leader unit entry is ordered

  -- an entry that is right
  one_more : (history : History) (entry : Entry) → IsRight instance history entry → Ordered history → Ordered (entry ∷ history)
  one_more history (Best leader cut log) (searched what present is) ordered =
      searched_more (Best leader cut log) tt (due_search what) ordered
  one_more history (Without leader log) (searched what present is) ordered =
      searched_more (Without leader log) tt (due_search what) ordered
  one_more history (Spent leader budget) (searched what present is) ordered =
      searched_more (Spent leader budget) tt (due_search what) ordered
  one_more history (Take leader unit) (searched what present is) ordered = absurd is
  one_more history (Take leader unit) (taken what) ordered = whole history (due_take what).next.no_search ordered

all_ordered : (instance : Instance) (history : History) → IsLegalHistory instance history → Ordered history
all_ordered instance [] legal = nothing
all_ordered instance (entry ∷ history) legal = one_more history entry legal.0 (all_ordered instance history legal.1)

pub entries_in_order : (instance : Instance) (book : Book) → IsLegal instance book → AreInOrder book.entries
entries_in_order instance book legal =
    let ordered = whole (reverse book.entries) (no_search_at_end legal.finish) (all_ordered instance (reverse book.entries) legal.entries) in
    record {
      searches = ordered.searches;
      rounds = ordered.rounds;
      is_split = sym (reverse-reverse book.entries) ∙ ordered.is_split;
      are_searches = ordered.are_searches;
      are_rounds = ordered.are_rounds;
    }
