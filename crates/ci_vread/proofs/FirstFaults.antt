-- A list of rules is kept or has one first fault, and never both.
use Rattle.std.proofs.Common.{◌≡◌, ℕ, ◌⊎◌, inl, inr, List, [], ◌∷◌, refl, arith, Bool, true, false}
use Rattle.std.proofs.Common.{Option, Some, None}
use Rattle.std.specs.Prelude.{if◌then◌else◌, ◌==◌, ◌&&◌, ◌||◌, nat_lt, nat_le}
use Rattle.std.proofs.lemmas.Bool.Decides.{nat_tests}
use Rattle.std.specs.List.{All, Contains}
use Rattle.std.proofs.lemmas.List.Elements.{All-cons, All-weaker, All-contains, All-contains_itself, All-from_recursion}
use Rattle.std.proofs.lemmas.List.Elements.{Contains-append_right}
use Rattle.ci_vread.specs.Rules.{Rule, rule, IsBefore, IsFirst}
use Rattle.ci_vread.proofs.ReadSteps.{AreKept}

abbrev At : ℕ → ℕ → Rule
At kind place = rule kind place false

-- ---- places and kinds in their order

before_all : (k p l q : ℕ) (r : Rule) → IsBefore (At k p) (At l q) → IsBefore (At l q) r → IsBefore (At k p) r
before_all k p l q r h i = grind (arith, h, i)

-- the rule is kept, or not before that place and kind
abbrev IsBehind : ℕ → ℕ → Rule → Type 0
IsBehind k p r = r.is_kept ≡ false → IsBefore (At k p) r

-- ---- one fault, or none

module _ {rules : List Rule} {k p : ℕ} where
  first_of : Contains rules (At k p) → All (IsBehind k p) rules → IsFirst rules k p
  first_of is_rule all = record { is_rule = is_rule; is_first = λ r c. All-contains (IsBehind k p) rules r all c }

  all_behind : IsFirst rules k p → All (IsBehind k p) rules
  all_behind first = All-weaker (Contains rules) (IsBehind k p) first.is_first rules (All-contains_itself rules)

  pub fault_is_one : {l q : ℕ} → IsFirst rules k p → IsFirst rules l q → (k ≡ l) × (p ≡ q)
  fault_is_one {l} {q} one two = by (one.is_first (At l q) two.is_rule refl) (two.is_first (At k p) one.is_rule refl)
    where
      by : IsBefore (At k p) (At l q) → IsBefore (At l q) (At k p) → (k ≡ l) × (p ≡ q)
      by h i = grind (arith, h, i)

  pub kept_has_none : AreKept rules → IsFirst rules k p → ⊥
  kept_has_none kept one =
      let e = All-contains (λ r. r.is_kept ≡ true) rules (At k p) (All-from_recursion (λ r. r.is_kept ≡ true) rules kept) one.is_rule in
      absurd (cc)

-- the first fault behind one rule more
module _ (r : Rule) (rs : List Rule) where
  this_behind : r.is_kept ≡ false → All (IsBehind r.kind r.place) rs → IsFirst (r ∷ rs) r.kind r.place
  this_behind e all = first_of (0, omega arith, λ i. rule r.kind r.place (e i)) (All-cons (IsBehind r.kind r.place) r rs (λ _. inr (refl, omega arith)) all)

  pub only_first : r.is_kept ≡ false → AreKept rs → IsFirst (r ∷ rs) r.kind r.place
  only_first e kept =
      let all = All-from_recursion (λ q. q.is_kept ≡ true) rs kept in
      this_behind e (All-weaker (λ q. q.is_kept ≡ true) (IsBehind r.kind r.place) (λ q h f. absurd (cc)) rs all)

  pub this_first : r.is_kept ≡ false → (k p : ℕ) → IsFirst rs k p → IsBefore (At r.kind r.place) (At k p) → IsFirst (r ∷ rs) r.kind r.place
  this_first e k p first h =
      this_behind e (All-weaker (IsBehind k p) (IsBehind r.kind r.place) (λ q behind f. before_all r.kind r.place k p q h (behind f)) rs (all_behind first))

  pub later_first : (k p : ℕ) → IsFirst rs k p → IsBehind k p r → IsFirst (r ∷ rs) k p
  later_first k p first h = first_of (Contains-append_right (r ∷ []) rs (At k p) first.is_rule) (All-cons (IsBehind k p) r rs h (all_behind first))

-- ---- the first fault, computed

-- this one and the first of the others
abbrev pub earlier : ℕ → ℕ → Option (ℕ × ℕ) → ℕ × ℕ
earlier k p None = (k, p)
earlier k p (Some (l, q)) = if nat_lt p q || (p == q && nat_le k l) then (k, p) else (l, q)

unfoldable pub first : List Rule → Option (ℕ × ℕ)
first [] = None
first (r ∷ rules) = if r.is_kept then first rules else Some (earlier r.kind r.place (first rules))

-- what the first is said to be
abbrev pub IsFound : List Rule → Option (ℕ × ℕ) → Type 0
IsFound rules None = AreKept rules
IsFound rules (Some (k, p)) = IsFirst rules k p

pub first_is : (rules : List Rule) → IsFound rules (first rules)
unfolding first
first_is [] = tt
first_is (r ∷ rules) = by r.is_kept refl (first rules) (first_is rules)
  where
    chosen : (k p : ℕ) (b : Bool) → (nat_lt r.place p || (r.place == p && nat_le r.kind k)) ≡ b → r.is_kept ≡ false → IsFirst rules k p
        → IsFound (r ∷ rules) (Some (if b then (r.kind, r.place) else (k, p)))
    chosen k p true test e o = this_first r rules e k p o (grind (arith, nat_tests, test))
    chosen k p false test e o = later_first r rules k p o (λ _. grind (arith, nat_tests, test))

    by : (b : Bool) → r.is_kept ≡ b → (o : Option (ℕ × ℕ)) → IsFound rules o → IsFound (r ∷ rules) (if b then o else Some (earlier r.kind r.place o))
    by true e None kept = (e, kept)
    by true e (Some (k, p)) o = later_first r rules k p o (λ f. absurd (cc))
    by false e None kept = only_first r rules e kept
    by false e (Some (k, p)) o = chosen k p _ refl e o

-- all rules of a list are kept, or there is a first fault
pub kept_or_fault : (rules : List Rule) → AreKept rules ⊎ ((k p : ℕ) × IsFirst rules k p)
kept_or_fault rules = by (first rules) (first_is rules)
  where
    by : (o : Option (ℕ × ℕ)) → IsFound rules o → AreKept rules ⊎ ((k p : ℕ) × IsFirst rules k p)
    by None kept = inl kept
    by (Some (k, p)) first = inr (k, p, first)
