-- The least broken rule of two lists of rules.
use Rattle.std.proofs.Common.{◌≡◌, ℕ, ◌≤◌, inl, inr, List, [], ◌∷◌, ◌++◌, Option, Some, None, refl, sym, arith}
use Rattle.std.proofs.Common.{subst, true, false}
use Prim.Native.Nat.{min}
use Rattle.std.specs.List.{Contains}
use Rattle.std.proofs.lemmas.List.Elements.{Contains-append_left, Contains-append_right, Contains-append_cases, All-from_recursion, All-contains}
use Rattle.std.proofs.lemmas.Bool.{cases_lt}
use Rattle.ci_vread.specs.Rules.{Rule, rule, IsBefore, IsFirst}
use Rattle.ci_vread.specs.private.Checked.{least, IsLeast}
use Rattle.ci_reading.proofs.BrokenLaws.{kept_append}
use Rattle.ci_vread.proofs.ReadSteps.{IsKept, AreKept}
use Rattle.ci_vread.proofs.FirstFaults.{only_first}

kept_in : (rules : List Rule) → AreKept rules → (r : Rule) → Contains rules r → r.is_kept ≡ false → ⊥
kept_in rules kept r there broken =
    let e : r.is_kept ≡ true = All-contains (λ (q : Rule). q.is_kept ≡ true) rules r (All-from_recursion (λ (q : Rule). q.is_kept ≡ true) rules kept) there in
    absurd (cc)

-- the first of both lists, where the later list has none before it
pub first_stays : (xs ys : List Rule) (k p : ℕ) → IsFirst xs k p
    → ((r : Rule) → Contains ys r → r.is_kept ≡ false → IsBefore (rule k p false) r) → IsFirst (xs ++ ys) k p
first_stays xs ys k p first later = record {
  is_rule = Contains-append_left xs ys (rule k p false) first.is_rule;
  is_first = λ r there broken. elim (Contains-append_cases xs ys r there) [
    | inl h ↦ first.is_first r h broken
    | inr h ↦ later r h broken
  ];
}

pub first_behind : (xs ys : List Rule) (k p : ℕ) → AreKept xs → IsFirst ys k p → IsFirst (xs ++ ys) k p
first_behind xs ys k p kept first = record {
  is_rule = Contains-append_right xs ys (rule k p false) first.is_rule;
  is_first = λ r there broken. elim (Contains-append_cases xs ys r there) [
    | inl h ↦ absurd (kept_in xs kept r h broken)
    | inr h ↦ first.is_first r h broken
  ];
}

-- an earlier kind at the same place
lesser : (k l p : ℕ) (r : Rule) → k ≤ l → IsBefore (rule l p false) r → IsBefore (rule k p false) r
lesser k l p r le (inl h) = inl h
lesser k l p r le (inr h) = inr (h.0, omega (arith, le, h.1))

first_of_both : (xs ys : List Rule) (k l p : ℕ) → IsFirst xs k p → IsFirst ys l p → IsFirst (xs ++ ys) (min k l) p
first_of_both xs ys k l p one two = record {
  is_rule = elim (cases_lt k l) [
    | inl h ↦ let e : min k l ≡ k = omega (arith, h) in
        subst (λ n. Contains (xs ++ ys) (rule n p false)) (sym e) (Contains-append_left xs ys (rule k p false) one.is_rule)
    | inr h ↦ let e : min k l ≡ l = omega (arith, h) in
        subst (λ n. Contains (xs ++ ys) (rule n p false)) (sym e) (Contains-append_right xs ys (rule l p false) two.is_rule)
  ];
  is_first = λ r there broken. elim (Contains-append_cases xs ys r there) [
    | inl h ↦ lesser (min k l) k p r (omega arith) (one.is_first r h broken)
    | inr h ↦ lesser (min k l) l p r (omega arith) (two.is_first r h broken)
  ];
}

pub least_of_both : (a b : Option ℕ) (p : ℕ) (xs ys : List Rule) → IsLeast a p xs → IsLeast b p ys → IsLeast (least a b) p (xs ++ ys)
least_of_both None None p xs ys one two = kept_append IsKept xs ys one two
least_of_both None (Some l) p xs ys one two = first_behind xs ys l p one two
least_of_both (Some k) None p xs ys one two = first_stays xs ys k p one (λ r there broken. absurd (kept_in ys two r there broken))
least_of_both (Some k) (Some l) p xs ys one two = first_of_both xs ys k l p one two

-- where all before are kept, the place may be another
pub least_behind : (b : Option ℕ) (p : ℕ) (xs ys : List Rule) → AreKept xs → IsLeast b p ys → IsLeast b p (xs ++ ys)
least_behind None p xs ys one two = kept_append IsKept xs ys one two
least_behind (Some l) p xs ys one two = first_behind xs ys l p one two

-- the last rule is broken, and those before it are kept
pub only_last : {rules : List Rule} (k p : ℕ) (before : List Rule) → AreKept before → rules ≡ before ++ rule k p false ∷ [] → IsFirst rules k p
only_last k p before kept are =
    subst (λ rs. IsFirst rs k p) (sym are) (first_behind before (rule k p false ∷ []) k p kept (only_first (rule k p false) [] refl tt))
