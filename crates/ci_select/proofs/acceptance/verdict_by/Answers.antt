use Rattle.std.proofs.Common.{reverse, subst, sym}
use Rattle.std.proofs.lemmas.Bool.Decides.{not_from_Decides}
use Rattle.ci_select.specs.Instances.{AreBlocksOf}
use Rattle.ci_select.specs.LegalBooks.{IsLegal}
use Rattle.ci_select.specs.WrongPlaces.{IsAcceptable, IsFirstWrongPart, IsFirstWrongPlace, in_book, place}
use Rattle.ci_select.specs.private.Followed.{Follows, instance_in}
use Rattle.ci_select.specs.private.Judged.{is_at}
use Rattle.ci_select.proofs.VerdictLaws.{accepted_here, other_file_here, other_modules_here}
use Rattle.ci_select.proofs.acceptance.verdict_by.Goals as goal
use Rattle.ci_select.proofs.acceptance.verdict_by.Goals.{After-units}

-- a book without a wrong part is legal, and was followed
legal_there : (c : After-units) → IsLegal (instance_in c.first_wrong.new.rounds) c.args.book.now
legal_there c =
    let legal = rw c.in_default.is at c.in_ok-wrong.ensures.wrong in
    subst (λ i. IsLegal i c.args.book.now) (sym c.in_ok-wrong.ensures.instance) legal

followed : (c : After-units) → Follows (reverse c.args.book.now.entries) c.first_wrong.new.rounds
followed c = rw c.in_default.is at c.in_ok-wrong.ensures.followed

pub is_new_file-requires-clause-blocks : goal.is_new_file-requires-clause-blocks
is_new_file-requires-clause-blocks c =
    subst (λ i. AreBlocksOf c.args.image.now i.blocks i.live) (sym c.in_ok-wrong.ensures.instance) c.requires.blocks

pub returns-in-Some : goal.returns-in-Some
returns-in-Some c =
    let wrong = rw c.in-Some.is at c.in_ok-wrong.ensures.wrong in
    rw c.rejected.ensures (in_book wrong)

pub returns-then-not-branch : goal.returns-then-not-branch
returns-then-not-branch c =
    let here = (goal.at.returns-then-not-branch c).After-units in
    rw (c.rejected-then-not-branch.ensures, c.nowhere.ensures)
    (subst (λ i. IsFirstWrongPlace i c.args.image.now c.args.book.now c.args.modules.now c.args.new.now (place c.first_wrong.new.rounds.round 0 0 11))
    c.in_ok-wrong.ensures.instance
    (other_modules_here (legal_there here) (followed here) (c.units.ensures (reverse c.args.book.now.entries) (followed here))
    c.args.image.now c.args.modules.now c.args.new.now (not_from_Decides _ c.in_ok-are_modules.ensures c.if-not-branch.true)))

pub returns-then-not-branch-2 : goal.returns-then-not-branch-2
returns-then-not-branch-2 c =
    let here = (goal.at.returns-then-not-branch-2 c).After-units in
    let history = reverse c.args.book.now.entries in
    rw (c.rejected-then-not-branch-2.ensures, c.nowhere-then-not-branch-2.ensures)
    (subst (λ i. IsFirstWrongPlace i c.args.image.now c.args.book.now c.args.modules.now c.args.new.now (place c.first_wrong.new.rounds.round 0 0 12))
    c.in_ok-wrong.ensures.instance
    (other_file_here (legal_there here) (followed here) (c.units.ensures history (followed here))
    c.args.image.now c.args.modules.now c.args.new.now (c.in_ok-are_modules.ensures.0 c.if-not-branch.false)
    (not_from_Decides _ (c.in_ok-is_new_file.ensures history (followed here)) c.if-not-branch-2.true)))

pub returns : goal.returns
returns c =
    let here = (goal.at.returns c).After-units in
    let history = reverse c.args.book.now.entries in
    subst (λ i. IsAcceptable i c.args.image.now c.args.book.now c.args.modules.now c.args.new.now) c.in_ok-wrong.ensures.instance
    (accepted_here (legal_there here) (followed here) (c.units.ensures history (followed here))
    c.args.image.now c.args.modules.now c.args.new.now (c.in_ok-are_modules.ensures.0 c.if-not-branch.false)
    ((c.in_ok-is_new_file.ensures history (followed here)).0 c.if-not-branch-2.false))
