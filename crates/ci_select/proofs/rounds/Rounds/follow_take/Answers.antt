use Rattle.std.proofs.Common.{◌≡◌, ◌<◌, [], true≢false, ap, length, refl, sym, subst, inl, inr, arith}
use Rattle.std.specs.FinSet as finite
use Rattle.std.proofs.lemmas.List.{nil_from_length}
use Rattle.ci_rewrite.specs.Blocks.{AllFieldsFit}
use Rattle.ci_rewrite.specs.FoldedBlock.{IsFolded, IsGraphOf}
use Rattle.ci_select.proofs.DuePlaces.{some_candidate}
use Rattle.ci_select.proofs.TakeFollowed.{IsTakenOut, first_is_taken, follows_take, follows_take_of, number_is}
use Rattle.ci_select.proofs.TakeFollowed.{number_is_small, saved_fits, take_leaves_fewer, taken_can_be_taken}
use Rattle.ci_select.proofs.TakeFollowed.{taken_within}
use Rattle.ci_select.proofs.rounds.Rounds.follow_take.Goals as goal
use Rattle.ci_select.proofs.rounds.Rounds.follow_take.Goals.{In-Some}

pub unreachable-requires : goal.unreachable-requires
unreachable-requires c =
    let none : c.args.self.now.candidates.entries ≡ [] =
    nil_from_length c.args.self.now.candidates.entries
    (omega (
      arith,
      c.in_default.ensures.len,
      ap length c.in_default.ensures.unchanged,
      λ (some : 0 < length c.args.self.now.candidates.entries). true≢false (sym (c.in_default.ensures.variant.1 some)),
    )) in
    some_candidate c.requires.2 c.requires.3 none

-- the candidate that was taken out is the one that is due
taken :
    (c : In-Some)
    → IsTakenOut c.requires.0 c.args.self.now c.in-Some.rank c.in-Some.candidate c.pop_first.new.self.entries c.args.number
taken c =
    (first_is_taken c.in-Some.rank c.in-Some.candidate c.pop_first.new.self.entries c.requires.2
    c.in-Some.ensures.removal c.in-Some.ensures.all_above c.requires.3).0

pub index-requires : goal.index-requires
index-requires c =
    omega (arith, taken_within (taken (goal.at.index-requires c).In-Some), c.args.self.now.present.ok.0)

pub fold-requires-clause-graph : goal.fold-requires-clause-graph
fold-requires-clause-graph c =
    subst (λ i. IsGraphOf i c.in-Some.candidate.graph) (sym c.deref.ensures.value)
    (taken_can_be_taken (taken (goal.at.fold-requires-clause-graph c).In-Some) c.index.result.now c.index.ensures).of_block

pub fold-requires-clause-fit : goal.fold-requires-clause-fit
fold-requires-clause-fit c =
    subst (λ i. AllFieldsFit i) (sym c.deref.ensures.value)
    (taken_can_be_taken (taken (goal.at.fold-requires-clause-fit c).In-Some) c.index.result.now c.index.ensures).fields

pub fold-requires-clause-fits : goal.fold-requires-clause-fits
fold-requires-clause-fits c =
    (taken_can_be_taken (taken (goal.at.fold-requires-clause-fits c).In-Some) c.index.result.now c.index.ensures).fits

pub fold-requires-clause-number : goal.fold-requires-clause-number
fold-requires-clause-number c = number_is_small (taken (goal.at.fold-requires-clause-number c).In-Some)

pub index_mut-requires : goal.index_mut-requires
index_mut-requires c =
    omega (arith, taken_within (taken (goal.at.index_mut-requires c).In-Some), c.args.self.now.present.ok.0)

pub add_new-requires-clause-room : goal.add_new-requires-clause-room
add_new-requires-clause-room c = number_is_small (taken (goal.at.add_new-requires-clause-room c).In-Some)

pub add_new-requires-clause-absent : goal.add_new-requires-clause-absent
add_new-requires-clause-absent c = λ next there.
    elim (number_is (taken (goal.at.add_new-requires-clause-absent c).In-Some)) [
      | inl (known, less) ↦ omega (arith, less, next)
      | inr (apart, number) ↦ apart there
    ]

pub overflow_add-self-2 : goal.overflow_add-self-2
overflow_add-self-2 c = omega (arith, saved_fits (taken (goal.at.overflow_add-self-2 c).In-Some))

pub returns-clause-followed : goal.returns-clause-followed
returns-clause-followed c = λ history leader follows due.
    let is =
    first_is_taken c.in-Some.rank c.in-Some.candidate c.pop_first.new.self.entries follows c.in-Some.ensures.removal
    c.in-Some.ensures.all_above due in
    let is_folded =
    subst (λ i. IsFolded i c.in-Some.candidate.graph (finite.contains c.in-Some.candidate.cut) c.args.number c.in_ok-self.field-0.items)
    c.deref.ensures.value c.in_ok-self.ensures.folded in
    follows_take_of is.1
    (follows_take is.0 c.index.result.now c.in_ok-self.field-0 c.index.ensures is_folded c.push.new.self c.in_ok-push.ensures.items c.pop_first.new.self refl c.add_new.new.units
    c.in_ok-add_new.ensures.added c.in_ok-add_new.ensures.known)

pub returns-clause-fewer : goal.returns-clause-fewer
returns-clause-fewer c =
    let is_folded =
    subst (λ i. IsFolded i c.in-Some.candidate.graph (finite.contains c.in-Some.candidate.cut) c.args.number c.in_ok-self.field-0.items)
    c.deref.ensures.value c.in_ok-self.ensures.folded in
    take_leaves_fewer (taken (goal.at.returns-clause-fewer c).In-Some) c.index.result.now c.in_ok-self.field-0
    c.index.ensures is_folded c.push.new.self c.in_ok-push.ensures.items
    c.pop_first.new.self refl c.add_new.new.units c.in_ok-add_new.ensures.added c.in_ok-add_new.ensures.known
