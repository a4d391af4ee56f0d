-- Walks that leave a set of nodes and lead back to it, one node more.
use Rattle.std.proofs.Common.{◌≡◌, ℕ, not, ◌&&◌, IsTrue, sym, ap, ◌∙◌, true≢false}
use Rattle.std.specs.Cmp.{nat_cmp_total}
use Rattle.std.specs.Ordering.{nat_cmp}
use Rattle.std.specs.FinSet as set
use Rattle.std.proofs.lemmas.Bool.{and_parts, and_from, not-true, not_from_false, false_from_ne_true}

-- what is left of a row without another
module _ (row other left : set.FinSet nat_cmp) (is : left ≡ set.difference row other) (k : ℕ) where
  contains_left : set.contains left k ≡ (set.contains row k && not (set.contains other k))
  contains_left = ap (λ s. set.contains s k) is ∙ set.contains-difference nat_cmp_total row other k

  pub outside_parts : IsTrue (set.contains left k) → IsTrue (set.contains row k) × (¬ IsTrue (set.contains other k))
  outside_parts in_ =
      let parts = and_parts (set.contains row k) (not (set.contains other k)) (sym contains_left ∙ in_) in
      (parts.0, λ member. true≢false (sym member ∙ not-true (set.contains other k) parts.1))

  pub outside_from : IsTrue (set.contains row k) → ¬ IsTrue (set.contains other k) → IsTrue (set.contains left k)
  outside_from in_ out =
      contains_left ∙ and_from (set.contains row k) (not (set.contains other k)) in_
      (not_from_false (set.contains other k) (false_from_ne_true (set.contains other k) out))
