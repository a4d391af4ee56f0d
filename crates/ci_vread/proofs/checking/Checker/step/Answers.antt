use Rattle.std.proofs.Common.{◌≡◌, ◌∷◌, [], List, ℕ, Option, refl, subst}
use Rattle.ci_vread.specs.declared.checking.Due.{Due}
use Rattle.ci_vread.specs.declared.checking.Due.TheVariants as due
use Rattle.ci_vread.specs.Rules.{Rule}
use Rattle.ci_vread.specs.Grammar.{Placed}
use Rattle.ci_vread.specs.private.Scanned.{symbol_of, text_of, placed_of}
use Rattle.ci_vread.specs.private.Led.{IsAt, IsDue, Leads}
use Rattle.ci_vread.proofs.CheckerAnswers.{all_kept}
use Rattle.ci_vread.proofs.CheckerLaws.{pended, missed}
use Rattle.ci_vread.proofs.checking.Checker.step.Goals as goal
use Rattle.ci_vread.proofs.checking.Checker.step.Goals.{In_ok-due}

-- what is due before the token
due_then : (c : In_ok-due) (d : Due) → c.in_ok-due.due ≡ d → (rules : List Rule) (symbols : List Placed)
    → IsAt rules (placed_of c.args.text.now c.args.token ∷ symbols) c.args.self.now
    → IsDue rules (placed_of c.args.text.now c.args.token ∷ symbols) (symbol_of c.args.text.now c.args.token) d c.next_due.new.self
due_then c d is rules symbols there =
    subst (λ (x : Due). IsDue rules (placed_of c.args.text.now c.args.token ∷ symbols) (symbol_of c.args.text.now c.args.token) x c.next_due.new.self) is
    (c.in_ok-due.ensures.due rules symbols c.args.token.start (text_of c.args.text.now c.args.token) there)

pub returns-in-Some-clause-after : goal.returns-in-Some-clause-after
returns-in-Some-clause-after c = λ rules symbols back there.
    pended rules symbols (symbol_of c.args.text.now c.args.token) c.args.token.start c.in-Some.kind c.args.self.now c.next_due.new.self
    c.in_ok-due.due c.in-Some.is c.in_ok-due.ensures.last c.in_ok-due.ensures.fresh back
    (due_then (goal.at.returns-in-Some-clause-after c).In_ok-due c.in_ok-due.due refl rules symbols there)

pub returns-in_ok-take-in-Role-clause-after : goal.returns-in_ok-take-in-Role-clause-after
returns-in_ok-take-in-Role-clause-after c = λ rules symbols back there.
    c.in_ok-take-in-Role.ensures.after rules symbols back.0
    (due_then (goal.at.returns-in_ok-take-in-Role-clause-after c).In_ok-due (due.Role c.in-Role.role) c.in-Role.is rules symbols there)

pub returns-in-Nothing-clause-after : goal.returns-in-Nothing-clause-after
returns-in-Nothing-clause-after c = λ rules symbols back there.
    let o = due_then (goal.at.returns-in-Nothing-clause-after c).In_ok-due due.Nothing c.in-Nothing.is rules symbols there in
    all_kept (subst (λ (b : Option ℕ). Leads rules (placed_of c.args.text.now c.args.token ∷ symbols) c.next_due.new.self.last [] b o.0) c.in_default.is o.1)

pub returns-in-Missing-clause-after : goal.returns-in-Missing-clause-after
returns-in-Missing-clause-after c = λ rules symbols back there.
    missed rules symbols (symbol_of c.args.text.now c.args.token) c.args.token.start c.next_due.new.self c.in_default.is
    (due_then (goal.at.returns-in-Missing-clause-after c).In_ok-due due.Missing c.in-Missing.is rules symbols there)
