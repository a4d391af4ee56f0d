-- What is due at last: a rule that is broken at the last token, a token that doesn't fit, the end.
use Rattle.std.proofs.Common.{◌≡◌, ℕ, ◌+◌, ◌<◌, ◌≤◌, inl, List, [], ◌∷◌, ◌++◌, append_assoc, Option, Some, None, sym, ◌∙◌, arith}
use Rattle.std.proofs.Common.{subst}
use Rattle.std.specs.List.{AllByRecursion, Contains}
use Rattle.std.proofs.lemmas.List.Elements.{All-from_recursion, All-contains}
use Rattle.ci_reading.specs.Tokens.{text_end, at}
use Rattle.ci_vread.specs.Lexicon.{Token, name, number, constant}
use Rattle.ci_vread.specs.Grammar.{Placed, Role, its_module, its_high, its_name, its_target, its_use, its_index, its_low, its_count, its_constant, End}
use Rattle.ci_vread.specs.Grammar.{of_simple, of_side, of_condition, of_branch, of_operand, Part, reads, made, Phrase, NeedsNext}
use Rattle.ci_vread.specs.Grammar.{Event, read, ended, Finish, whole, stops, Goes, all_read, by_parts, by_end, by_token, bad_token, bad_byte, no_token, no_next}
use Rattle.ci_vread.specs.Rules.{Rule, Seen, behind, rules_of, rules_from, rules_at, IsFirst}
use Rattle.ci_vread.specs.private.Led.{Leads, AscendFrom}
use Rattle.ci_reading.proofs.BrokenLaws.{kept_append}
use Rattle.ci_vread.proofs.Annotations.{goes_once}
use Rattle.ci_vread.proofs.ReadSteps.{IsKept, AreKept}
use Rattle.ci_vread.proofs.LeastRules.{first_stays, only_last}

-- rules whose places are all at this one or behind it
abbrev pub AllFrom : ℕ → List Rule → Type 0
AllFrom n rules = AllByRecursion (λ r. n ≤ r.place) rules

all_from_less : (m n : ℕ) (rules : List Rule) → m ≤ n → AllFrom n rules → AllFrom m rules
all_from_less m n [] le all = tt
all_from_less m n (r ∷ rules) le all = (omega (arith, le, all.0), all_from_less m n rules le all.1)

-- the rules of an event are at its place
read_place : (s : Seen) (role : Role) (t : Token) (place : ℕ) → AllFrom place (rules_of s (read role t place))
read_place s its_module (name bytes) place = (omega arith, tt)
read_place s its_high (number n) place = (omega arith, tt)
read_place s its_name (name bytes) place = (omega arith, (omega arith, (omega arith, tt)))
read_place s its_target (name bytes) place = (omega arith, tt)
read_place s its_use t place = (omega arith, tt)
read_place s its_index (number n) place = (omega arith, tt)
read_place s its_low (number n) place = (omega arith, tt)
read_place s its_count (number n) place = (omega arith, tt)
read_place s its_constant (constant w v) place = (omega arith, (omega arith, tt))
read_place s role t place = tt

end_place : (s : Seen) (what : End) (place : ℕ) → AllFrom place (rules_of s (ended what place))
end_place s of_simple place = (omega arith, tt)
end_place s of_condition place = (omega arith, tt)
end_place s of_side place = (omega arith, tt)
end_place s of_operand place = (omega arith, tt)
end_place s of_branch place = (omega arith, tt)
end_place s what place = tt

-- one event more
all_from_more : (n : ℕ) (s : Seen) (e : Event) (events : List Event) (finish : Finish) → AllFrom n (rules_of s e)
    → AllFrom n (rules_from (behind s e) events ++ rules_at finish) → AllFrom n (rules_from s (e ∷ events) ++ rules_at finish)
all_from_more n s e events finish one others =
    let later = rules_from (behind s e) events in
    subst (AllFrom n) (sym (append_assoc (rules_of s e) later (rules_at finish)))
    (kept_append (λ r. n ≤ r.place) (rules_of s e) (later ++ rules_at finish) one others)

pub ascend_less : (m n : ℕ) (symbols : List Placed) → m ≤ n → AscendFrom n symbols → AscendFrom m symbols
ascend_less m n [] le up = tt
ascend_less m n (x ∷ symbols) le up = (omega (arith, le, up.0), up.1)

-- what follows a token stands at its place or behind it
pub rules_ascend : {last : ℕ} {due : List Part} {symbols : List Placed} {events : List Event} {finish : Finish} (n : ℕ) (s : Seen)
    → Goes last due symbols events finish → n ≤ last → AscendFrom last symbols → AllFrom n (rules_from s events ++ rules_at finish)
rules_ascend n s all_read le up = tt
rules_ascend n s (by_parts h goes) le up = rules_ascend n s goes le up
rules_ascend {last} {events = e ∷ events} {finish} n s (by_end {what = w} goes) le up =
    all_from_more n s (ended w last) events finish (all_from_less n last (rules_of s (ended w last)) le (end_place s w last))
    (rules_ascend n (behind s (ended w last)) goes le up)
rules_ascend {last} {finish = finish} n s (by_token {place = p} {role = role} {t = t} {events = events} fit goes) le up =
    all_from_more n s (read role t p) events finish (all_from_less n p (rules_of s (read role t p)) (omega (arith, le, up.0)) (read_place s role t p))
    (rules_ascend n (behind s (read role t p)) goes (omega (arith, le, up.0)) (ascend_less p (p + 1) _ (omega arith) up.1))
rules_ascend n s (bad_token misfit) le up = (omega (arith, le, up.0), tt)
rules_ascend n s bad_byte le up = (omega (arith, le, up.0), tt)
rules_ascend n s no_token le up = (omega (arith, le, up.0), tt)
rules_ascend n s (no_next need) le up = (omega (arith, le, up.0), tt)

-- The rest goes on in one way.
as_it_goes : {rules : List Rule} {symbols : List Placed} {last : ℕ} {due : List Part} {broken : Option ℕ} {seen : Seen} {events : List Event}
    {finish : Finish} (l : Leads rules symbols last due broken seen) → Goes last due symbols events finish
    → rules ≡ l.before ++ (rules_from seen events ++ rules_at finish)
as_it_goes {seen = seen} l goes =
    let o = goes_once l.goes goes in l.rules_are ∙ (λ i. l.before ++ (rules_from seen (o.events_are i) ++ rules_at (o.finish_is i)))

-- where it stops at once, the fault is there
pub stopped : {rules : List Rule} {symbols : List Placed} {last : ℕ} {due : List Part} {seen : Seen} {kind place : ℕ}
    → Goes last due symbols [] (stops kind place) → Leads rules symbols last due None seen → IsFirst rules kind place
stopped {kind = kind} {place = place} goes l = only_last kind place l.before l.least (as_it_goes l goes)

-- all rules are kept where nothing is due at the end
pub all_kept : {rules : List Rule} {last : ℕ} {symbols : List Placed} {seen : Seen} → Leads rules symbols last [] None seen → AreKept rules
all_kept {rules} {last} {symbols} {seen} l = by symbols l.events l.finish l.goes l.rules_are
  where
    by : (symbols : List Placed) (events : List Event) (finish : Finish) → Goes last [] symbols events finish
        → rules ≡ l.before ++ (rules_from seen events ++ rules_at finish) → AreKept rules
    by _ _ _ all_read are = subst AreKept (sym are) (kept_append IsKept l.before [] l.least tt)

-- what is left has no more symbols, which cannot be
pub none_left : {last : ℕ} {due : List Part} {events : List Event} {finish : Finish} → Goes last due [] events finish → ⊥
none_left (by_end goes) = none_left goes

-- where a token is due, all that is left stands at its place or behind it
behind_role : {last : ℕ} {role : Role} {due : List Part} {symbols : List Placed} {events : List Event} {finish : Finish} (n : ℕ) (s : Seen)
    → Goes last (reads role ∷ due) symbols events finish → AscendFrom n symbols → AllFrom n (rules_from s events ++ rules_at finish)
behind_role {finish = finish} n s (by_token {place = p} {role = role} {t = t} {events = events} fit goes) up =
    all_from_more n s (read role t p) events finish (all_from_less n p (rules_of s (read role t p)) up.0 (read_place s role t p))
    (rules_ascend n (behind s (read role t p)) goes up.0 (ascend_less p (p + 1) _ (omega arith) up.1))
behind_role n s (bad_token unfit) up = (up.0, tt)
behind_role n s bad_byte up = (up.0, tt)
behind_role n s no_token up = (up.0, tt)

-- A rule that is broken at the last token is the first one, where the rest stands behind it.
pub pending : {rules : List Rule} {last k n : ℕ} (seen : Seen) → last < n
    → (events : List Event) (finish : Finish) (before : List Rule) → IsFirst before k last
    → AllFrom n (rules_from seen events ++ rules_at finish) → rules ≡ before ++ (rules_from seen events ++ rules_at finish) → IsFirst rules k last
pending {rules} {last} {k} {n} seen less events finish before first later are =
    subst (λ rs. IsFirst rs k last) (sym are) (first_stays before (rules_from seen events ++ rules_at finish) k last first
    (λ r there broken. inl (omega (arith, less, from_all r there))))
  where
    from_all : (r : Rule) → Contains (rules_from seen events ++ rules_at finish) r → n ≤ r.place
    from_all r there = All-contains (λ (q : Rule). n ≤ q.place) (rules_from seen events ++ rules_at finish) r
        (All-from_recursion (λ (q : Rule). n ≤ q.place) (rules_from seen events ++ rules_at finish) later) there

module _ {rules : List Rule} {last k : ℕ} {seen : Seen} where
  pub pending_role : {role : Role} {due : List Part} (symbols : List Placed) → AscendFrom (last + 1) symbols
      → Leads rules symbols last (reads role ∷ due) (Some k) seen → IsFirst rules k last
  pending_role {role} {due} symbols up l =
      pending {n = last + 1} seen (omega arith) l.events l.finish l.before l.least (behind_role (last + 1) seen l.goes up) l.rules_are

  pub pending_end : (symbols : List Placed) → Leads rules symbols last [] (Some k) seen → IsFirst rules k last
  pending_end symbols l = by symbols l.events l.finish l.goes l.rules_are
    where
      by : (symbols : List Placed) (events : List Event) (finish : Finish) → Goes last [] symbols events finish
          → rules ≡ l.before ++ (rules_from seen events ++ rules_at finish) → IsFirst rules k last
      by _ _ _ (all_read {place = p}) are = pending {n = last + 1} seen (omega arith) [] whole l.before l.least tt are

  pub pending_missing : {p : Phrase} {due : List Part} (place : ℕ) (symbols : List Placed) → NeedsNext p → AscendFrom (last + 1) (at place text_end ∷ symbols)
      → Leads rules (at place text_end ∷ symbols) last (made p ∷ due) (Some k) seen → IsFirst rules k last
  pending_missing place symbols need up l =
      pending {n = last + 1} seen (omega arith) [] (stops 2 place) l.before l.least (up.0, tt) (as_it_goes l (no_next need))
