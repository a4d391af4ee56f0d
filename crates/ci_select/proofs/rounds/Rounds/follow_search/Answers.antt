use Rattle.std.proofs.Common.{◌<◌, length, pos, ◌*ℤ◌, true≢false, refl, sym, ap, ◌∙◌, subst, arith}
use Rattle.std.specs.FinSet as finite
use Rattle.ci_cut.specs.Gain.{gain}
use Rattle.ci_log.specs.declared.book.Entry.TheVariants.{Best}
use Rattle.ci_unit.specs.Units.{unit_of}
use Rattle.ci_select.specs.declared.rounds.Candidate.{Candidate}
use Rattle.ci_select.specs.declared.rounds.Rank.{Rank}
use Rattle.ci_select.specs.private.Followed.{instance_in}
use Rattle.ci_select.specs.LegalBooks.{IsRight}
use Rattle.ci_select.proofs.SearchFollowed.{IsMade, cut_is_made, follows_entry, follows_search_best}
use Rattle.ci_select.proofs.SearchFollowed.{follows_search_without, new_is_ranked, place_is}
use Rattle.ci_select.proofs.SearchFollowed.{search_leaves_fewer, some_left}
use Rattle.ci_select.proofs.rounds.Rounds.follow_search.Goals as goal
use Rattle.ci_select.proofs.rounds.Rounds.follow_search.Goals.{After-as_slice-insns}

pub unreachable-requires : goal.unreachable-requires
unreachable-requires c =
    let left : 0 < length c.args.self.now.unsearched.items =
    some_left c.args.entry.now c.requires.right.1 c.requires.right.2 c.requires.right.3 in
    true≢false (sym (c.in_default.ensures.variant.1 (omega (arith, left, c.args.self.now.unsearched.ok.0))))

pub index-requires : goal.index-requires
index-requires c =
    let at =
    place_is c.args.entry.now c.requires.right.1 c.requires.right.2 c.requires.right.3 c.pop.new.self c.in-Some.place
    c.in-Some.ensures.items in
    omega (arith, at.within, c.requires.right.1.many, c.args.self.now.present.ok.0)

-- the cut that was found can be made a candidate
made : (c : After-as_slice-insns) → IsMade c.args.graph c.as_slice-insns.result.now c.in-Best.cut
made c =
    let rank : Rank = record { saved = record { 0 = 0 }; leader = c.in-Best.leader } in
    let right =
    subst (λ e. IsRight (instance_in c.args.self.now) c.requires.right.0 e) c.in-Best.is c.requires.right.2 in
    let at = place_is (Best c.in-Best.leader c.in-Best.cut c.in-Best.log) c.requires.right.1 right refl c.pop.new.self c.in-Some.place c.in-Some.ensures.items in
    subst (λ i. IsMade c.args.graph i c.in-Best.cut) (sym c.as_slice-insns.ensures.value)
    (cut_is_made rank c.in-Best.cut c.in-Best.log c.args.graph c.in-Some.place c.index.result.now
    c.requires.right.1 right c.requires.graph at.within at.leads c.index.ensures)

pub unit_of-requires-clause-operands : goal.unit_of-requires-clause-operands
unit_of-requires-clause-operands c = (made (goal.at.unit_of-requires-clause-operands c).After-as_slice-insns).operands

pub unit_of-requires-clause-fits : goal.unit_of-requires-clause-fits
unit_of-requires-clause-fits c = (made (goal.at.unit_of-requires-clause-fits c).After-as_slice-insns).fits

pub saved_in_run-saved-requires-clause-fits : goal.saved_in_run-saved-requires-clause-fits
saved_in_run-saved-requires-clause-fits c =
    (made (goal.at.saved_in_run-saved-requires-clause-fits c).After-as_slice-insns).fits

pub saved_in_run-saved-requires-clause-gains : goal.saved_in_run-saved-requires-clause-gains
saved_in_run-saved-requires-clause-gains c =
    (made (goal.at.saved_in_run-saved-requires-clause-gains c).After-as_slice-insns).gains

pub returns-in_ok-insert-in-Best-clause-followed : goal.returns-in_ok-insert-in-Best-clause-followed
returns-in_ok-insert-in-Best-clause-followed c = λ history follows is_right.
    let cut = finite.contains c.in-Best.cut in
    let graph = c.args.graph in
    let rank : Rank = record { saved = record { 0 = c.saved_in_run-saved.result }; leader = c.in-Best.leader } in
    let candidate : Candidate =
    record { place = c.in-Some.place; graph = graph; cut = c.in-Best.cut; unit = c.in_ok-unit-in-Best.unit } in
    let right = subst (λ e. IsRight (instance_in c.args.self.now) history e) c.in-Best.is is_right in
    let at = place_is (Best c.in-Best.leader c.in-Best.cut c.in-Best.log) follows right refl c.pop.new.self c.in-Some.place c.in-Some.ensures.items in
    let ranked =
    new_is_ranked rank c.in-Best.cut c.in-Best.log graph c.in-Some.place c.index.result.now follows right
    c.requires.graph at.within at.leads c.index.ensures
    c.in_ok-unit-in-Best.unit
    (c.in_ok-unit-in-Best.ensures ∙ ap (λ i. unit_of i graph cut) c.as_slice-insns.ensures.value)
    (c.saved_in_run-saved.ensures.product ∙ ap (λ n. gain graph cut *ℤ pos n) c.entries.ensures)
    c.saved_in_run-saved.ensures.small in
    follows_entry (sym c.in-Best.is)
    (follows_search_best (Best c.in-Best.leader c.in-Best.cut c.in-Best.log) follows right refl c.pop.new.self
    c.in-Some.place c.in-Some.ensures.items rank candidate ranked refl c.insert.new.self
    c.in_ok-insert-in-Best.ensures.entries)

pub returns-in_ok-insert-in-Best-clause-fewer : goal.returns-in_ok-insert-in-Best-clause-fewer
returns-in_ok-insert-in-Best-clause-fewer c =
    search_leaves_fewer c.args.entry.now c.requires.right.1 c.requires.right.2 c.requires.right.3 c.pop.new.self
    c.in-Some.place c.in-Some.ensures.items c.insert.new.self

pub returns-in_default-entry : goal.returns-in_default-entry
returns-in_default-entry c = record {
  followed = λ history follows right.
      follows_search_without c.args.entry.now follows right c.requires.right.3 c.pop.new.self c.in-Some.place
      c.in-Some.ensures.items (λ cut log leader same. c.in_default-entry.not-Best leader cut log same);
  fewer = search_leaves_fewer c.args.entry.now c.requires.right.1 c.requires.right.2 c.requires.right.3 c.pop.new.self
      c.in-Some.place c.in-Some.ensures.items c.args.self.now.candidates;
  instance = refl;
}
