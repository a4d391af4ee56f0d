-- One step of the checker: a phrase, an end, a token.
use Rattle.std.proofs.Common.{◌≡◌, ℕ, List, ◌∷◌, ◌++◌, append_assoc, Option, None, refl, ap, sym, ◌∙◌}
use Rattle.ci_reading.specs.Tokens.{token, text_end, at}
use Rattle.ci_vread.specs.Lexicon.{Token}
use Rattle.ci_vread.specs.Grammar.{Placed, Role, End}
use Rattle.ci_vread.specs.Grammar.{Part, reads, ends, made, Phrase, parts_of, NeedsNext, Fits, Symbol}
use Rattle.ci_vread.specs.Grammar.{Event, read, ended, Finish, Goes, by_parts, by_end, by_token, bad_token, no_next}
use Rattle.ci_vread.specs.Rules.{Rule, Seen, behind, rules_of, rules_from, rules_at}
use Rattle.ci_vread.specs.private.Checked.{least, IsLeast}
use Rattle.ci_vread.specs.private.Led.{Leads}
use Rattle.ci_vread.proofs.LeastRules.{least_of_both, least_behind}

-- rules that are seen go to those before
seen_go : (before new more others : List Rule) → before ++ ((new ++ more) ++ others) ≡ (before ++ new) ++ (more ++ others)
seen_go before new more others = ap (λ l. before ++ l) (append_assoc new more others) ∙ sym (append_assoc before new (more ++ others))

module _ {rules : List Rule} {last : ℕ} {due : List Part} {broken : Option ℕ} {seen : Seen} where
  pub opened : {p : Phrase} {next : Symbol} {place : ℕ} {symbols : List Placed} → (next ≡ text_end → ¬ NeedsNext p)
      → Leads rules (at place next ∷ symbols) last (made p ∷ due) broken seen
      → Leads rules (at place next ∷ symbols) last (parts_of p next ++ due) broken seen
  opened {p} {next} {place} {symbols} there l = record {
    before = l.before;
    events = l.events;
    finish = l.finish;
    goes = by next place symbols l.events l.finish there l.goes;
    rules_are = l.rules_are;
    least = l.least;
  }
    where
      by : (x : Symbol) (n : ℕ) (more : List Placed) (events : List Event) (finish : Finish) → (x ≡ text_end → ¬ NeedsNext p)
          → Goes last (made p ∷ due) (at n x ∷ more) events finish → Goes last (parts_of p x ++ due) (at n x ∷ more) events finish
      by x n more events finish free (by_parts h goes) = goes
      by x n more events finish free (no_next need) = absurd (free refl need)

  pub closed : {what : End} {symbols : List Placed} (new : Option ℕ) → Leads rules symbols last (ends what ∷ due) broken seen
      → IsLeast new last (rules_of seen (ended what last))
      → Leads rules symbols last due (least broken new) (behind seen (ended what last))
  closed {what} {symbols} new l found = by l.events l.goes l.rules_are
    where
      by : (events : List Event) → Goes last (ends what ∷ due) symbols events l.finish
          → rules ≡ l.before ++ (rules_from seen events ++ rules_at l.finish)
          → Leads rules symbols last due (least broken new) (behind seen (ended what last))
      by _ (by_end {events = more} goes) are = record {
        before = l.before ++ rules_of seen (ended what last);
        events = more;
        finish = l.finish;
        goes = goes;
        rules_are = are ∙ seen_go l.before (rules_of seen (ended what last)) (rules_from (behind seen (ended what last)) more) (rules_at l.finish);
        least = least_of_both broken new last l.before (rules_of seen (ended what last)) l.least found;
      }

module _ {rules : List Rule} {last : ℕ} {due : List Part} {seen : Seen} where
  pub taken : {role : Role} {t : Token} {place : ℕ} {symbols : List Placed} (new : Option ℕ) → Fits role t
      → Leads rules (at place (token t) ∷ symbols) last (reads role ∷ due) None seen
      → IsLeast new place (rules_of seen (read role t place))
      → Leads rules symbols place due new (behind seen (read role t place))
  taken {role} {t} {place} {symbols} new fit l found = by l.events l.finish l.goes l.rules_are
    where
      by : (events : List Event) (finish : Finish) → Goes last (reads role ∷ due) (at place (token t) ∷ symbols) events finish
          → rules ≡ l.before ++ (rules_from seen events ++ rules_at finish)
          → Leads rules symbols place due new (behind seen (read role t place))
      by _ _ (bad_token misfit) are = absurd (misfit fit)
      by _ finish (by_token {events = more} h goes) are = record {
        before = l.before ++ rules_of seen (read role t place);
        events = more;
        finish = finish;
        goes = goes;
        rules_are = are ∙ seen_go l.before (rules_of seen (read role t place)) (rules_from (behind seen (read role t place)) more) (rules_at finish);
        least = least_behind new place l.before (rules_of seen (read role t place)) l.least found;
      }
