use Rattle.std.proofs.Common.{◌≡◌, ◌-◌, length, Some, None, sym, subst, rules}
use Rattle.std.specs.Prelude.{slice_get}
use Rattle.ci_select.specs.Dues.{ends_empty, searches}
use Rattle.ci_select.proofs.DueLaws.{due_by_number}
use Rattle.ci_select.proofs.DuePlaces.{last_within, next_of_first, none_is_candidate, none_unsearched, search_at_last}
use Rattle.ci_select.proofs.rounds.Rounds.due.Goals as goal

pub bounds-self-place : goal.bounds-self-place
bounds-self-place c =
    let place = c.in-Some.place.now in
    last_within place c.requires.1
    (subst (λ xs. slice_get xs (length xs - 1) ≡ Some place) c.deref.ensures.value (sym c.in-Some.ensures.value))

pub offset_bounds-self-place : goal.offset_bounds-self-place
offset_bounds-self-place c =
    let place = c.in-Some.place.now in
    let within =
    last_within place c.requires.1
    (subst (λ xs. slice_get xs (length xs - 1) ≡ Some place) c.deref.ensures.value (sym c.in-Some.ensures.value)) in
    search rules

pub returns-in-Some : goal.returns-in-Some
returns-in-Some c = λ history follows.
    let place = c.in-Some.place.now in
    searches (search_at_last place follows
    (subst (λ xs. slice_get xs (length xs - 1) ≡ Some place) c.deref.ensures.value (sym c.in-Some.ensures.value))
    c.index-self-place.result)

pub returns-in_default-first_candidate : goal.returns-in_default-first_candidate
returns-in_default-first_candidate c = λ history follows.
    let no_search =
    none_unsearched follows
    (subst (λ xs. slice_get xs (length xs - 1) ≡ None) c.deref.ensures.value (sym c.in_default.ensures.value)) in
    ends_empty no_search (none_is_candidate follows c.in_default-first_candidate.ensures no_search)

pub returns-in-Some-number_for : goal.returns-in-Some-number_for
returns-in-Some-number_for c = λ history follows.
    let first = c.in-Some-first_candidate in
    let no_search =
    none_unsearched follows
    (subst (λ xs. slice_get xs (length xs - 1) ≡ None) c.deref.ensures.value (sym c.in_default.ensures.value)) in
    due_by_number (Some c.in-Some-number_for.unit)
    (next_of_first first.rank.now first.candidate.now follows no_search first.ensures) c.in-Some-number_for.ensures

pub returns-in-None : goal.returns-in-None
returns-in-None c = λ history follows.
    let first = c.in-Some-first_candidate in
    let no_search =
    none_unsearched follows
    (subst (λ xs. slice_get xs (length xs - 1) ≡ None) c.deref.ensures.value (sym c.in_default.ensures.value)) in
    due_by_number None (next_of_first first.rank.now first.candidate.now follows no_search first.ensures)
    c.in-None.ensures
