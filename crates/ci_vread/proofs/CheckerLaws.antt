-- The steps of the checker, by what its state stands for.
use Rattle.std.proofs.Common.{◌≡◌, ℕ, ◌+◌, ◌⊎◌, inl, inr, List, [], ◌∷◌, ◌++◌, length, map, Option, Some, None, true, false, refl, ap, sym, ◌∙◌, subst, arith}
use Rattle.std.proofs.lemmas.List.{reverse-append}
use Rattle.ci_reading.specs.Tokens.{token, stray_byte, text_end, at}
use Rattle.ci_vread.specs.declared.grammar.Part.{Part as PartValue}
use Rattle.ci_vread.specs.declared.grammar.Phrase.{Phrase as PhraseValue}
use Rattle.ci_vread.specs.declared.grammar.Phrase.TheVariants as phrase
use Rattle.ci_vread.specs.declared.seen.Seen.{Seen as SeenValue}
use Rattle.ci_vread.specs.declared.checking.Checker.{Checker}
use Rattle.ci_vread.specs.Grammar.{Placed, Part, Role, Event, NeedsNext, of_bits, of_others, Symbol, Fits, reads, made, bad_token, no_token, no_next}
use Rattle.ci_vread.specs.Lexicon.{Token}
use Rattle.ci_vread.specs.Rules.{Rule, Seen, behind, rules_of, IsFirst}
use Rattle.ci_vread.specs.private.Tables.{part_of, phrase_of, due_of, needs_next}
use Rattle.ci_vread.specs.private.Checked.{Shows, IsLeast, StepsOn}
use Rattle.ci_vread.specs.private.Led.{Leads, LeadsWith, IsAt, IsDue, IsFresh, IsBehind, AscendFrom}
use Rattle.ci_vread.specs.declared.checking.Due.{Due}
use Rattle.ci_vread.specs.declared.checking.Due.TheVariants as due
use Rattle.ci_vread.proofs.CheckerAnswers.{stopped, pending_role, pending_end, pending_missing}

pub needs : (p : PhraseValue) → needs_next p ≡ true → NeedsNext (phrase_of p)
needs phrase.Bits e = of_bits
needs phrase.Others e = of_others
needs p e = absurd (cc)

pub needs_not : (p : PhraseValue) → needs_next p ≡ false → ¬ NeedsNext (phrase_of p)
needs_not phrase.Bits e = absurd (cc)
needs_not phrase.Others e = absurd (cc)
needs_not p e = λ n. elim n [ ]

pub due_popped : (xs ys : List PartValue) (p : PartValue) → xs ≡ ys ++ p ∷ [] → due_of xs ≡ part_of p ∷ due_of ys
due_popped xs ys p e = ap (λ (l : List PartValue). due_of l) e ∙ ap (λ (l : List PartValue). map part_of l) (reverse-append ys (p ∷ []))

pub no_parts : (xs : List PartValue) → length xs ≡ 0 → xs ≡ []
no_parts [] e = refl
no_parts (x ∷ xs) e = absurd (omega (arith, e))

-- the last part of the stack is the first one that is due
pub popped : (rules : List Rule) (symbols : List Placed) (c : Checker) (ys : List PartValue) (p q : PartValue)
    → c.due.items ≡ ys ++ p ∷ [] → p ≡ q → IsAt rules symbols c
    → (seen : Seen) × Shows c.seen seen × Leads rules symbols c.last (part_of q ∷ due_of ys) c.broken seen
popped rules symbols c ys p q e is there = (
  there.0,
  there.1,
  subst (λ (d : List Part). Leads rules symbols c.last d c.broken there.0)
      (due_popped c.due.items ys p e ∙ ap (λ (r : PartValue). part_of r ∷ due_of ys) is) there.2,
)

pub steps_on : (old new : SeenValue) (broken : Option ℕ) (event : ℕ → Event) → StepsOn old new broken event → (s : Seen) (place : ℕ) → Shows old s
    → Shows new (behind s (event place)) × IsLeast broken place (rules_of s (event place))
steps_on old new broken event on s place shows =
    subst (λ (v : Seen). Shows new (behind v (event place)) × IsLeast broken place (rules_of v (event place))) shows.1 (on s.known place shows.0)

-- a token in a role that it can't have, or the text's end
pub refused : {rules : List Rule} {last : ℕ} {due : List Part} {seen : Seen} {symbols : List Placed} {r : Role} {place : ℕ} (x : Symbol)
    → ¬ (x ≡ stray_byte) → ((t : Token) → x ≡ token t → ¬ Fits r t)
    → Leads rules (at place x ∷ symbols) last (reads r ∷ due) None seen → IsFirst rules 2 place
refused stray_byte other unfit l = absurd (other refl)
refused text_end other unfit l = stopped no_token l
refused (token t) other unfit l = stopped (bad_token (unfit t refl)) l

pub with_kept : (rules : List Rule) (symbols : List Placed) (parts : List Part) (c : Checker) → c.broken ≡ None → LeadsWith rules symbols parts c
    → (seen : Seen) × Shows c.seen seen × Leads rules symbols c.last (parts ++ due_of c.due.items) None seen
with_kept rules symbols parts c kept l =
    (l.0, l.1, subst (λ (b : Option ℕ). Leads rules symbols c.last (parts ++ due_of c.due.items) b l.0) kept l.2)

with_broken : (rules : List Rule) (symbols : List Placed) (parts : List Part) (c : Checker) (k : ℕ) (seen : Seen) → c.broken ≡ Some k
    → Leads rules symbols c.last parts c.broken seen → Leads rules symbols c.last parts (Some k) seen
with_broken rules symbols parts c k seen broken l = subst (λ (b : Option ℕ). Leads rules symbols c.last parts b seen) broken l

-- a rule that is broken behind the last token is the first one
pub pended : (rules : List Rule) (symbols : List Placed) (x : Symbol) (place k : ℕ) (old new : Checker) (d : Due) → new.broken ≡ Some k
    → new.last ≡ old.last → (IsFresh old → new.broken ≡ None) → IsBehind old (at place x ∷ symbols) → IsDue rules (at place x ∷ symbols) x d new
    → IsFirst rules k new.last
pended rules symbols x place k old new d broken same fresh back is_due = by d (up back.1) is_due
  where
    up : IsFresh old ⊎ AscendFrom (old.last + 1) (at place x ∷ symbols) → AscendFrom (new.last + 1) (at place x ∷ symbols)
    up (inl h) = let none = fresh h in absurd (cc)
    up (inr h) = subst (λ (n : ℕ). AscendFrom (n + 1) (at place x ∷ symbols)) (sym same) h

    by : (d : Due) → AscendFrom (new.last + 1) (at place x ∷ symbols) → IsDue rules (at place x ∷ symbols) x d new → IsFirst rules k new.last
    by (due.Role r) more l = pending_role (at place x ∷ symbols) more (with_broken rules (at place x ∷ symbols) _ new k l.0 broken l.2)
    by due.Nothing more l = pending_end (at place x ∷ symbols) (with_broken rules (at place x ∷ symbols) [] new k l.0 broken l.1)
    by due.Missing more l =
        pending_missing place symbols l.3 (subst (λ (y : Symbol). AscendFrom (new.last + 1) (at place y ∷ symbols)) l.4 more)
        (subst (λ (y : Symbol). Leads rules (at place y ∷ symbols) new.last (made l.2 ∷ l.1) (Some k) l.0) l.4
        (with_broken rules (at place x ∷ symbols) (made l.2 ∷ l.1) new k l.0 broken l.5))

pub missed : (rules : List Rule) (symbols : List Placed) (x : Symbol) (place : ℕ) (c : Checker) → c.broken ≡ None
    → IsDue rules (at place x ∷ symbols) x due.Missing c → IsFirst rules 2 place
missed rules symbols x place c kept l =
    stopped (no_next l.3) (subst (λ (y : Symbol). Leads rules (at place y ∷ symbols) c.last (made l.2 ∷ l.1) None l.0) l.4
    (subst (λ (b : Option ℕ). Leads rules (at place x ∷ symbols) c.last (made l.2 ∷ l.1) b l.0) kept l.5))
