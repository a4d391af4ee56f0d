-- A search in a new region, and the line of what it found.
use Rattle.std.proofs.Common.{◌≡◌, ◌∙◌, ℕ, ◌-◌, List, Result, IfOk, ap, arith, sym, subst}
use Rattle.std.specs.FinMap as map
use Rattle.std.specs.FinMap.{len-empty}
use Rattle.std.specs.Ordering.{nat_cmp}
use Rattle.std.proofs.lemmas.Result.{IfOk-weaker}
use Rattle.ci_region.specs.BoundedMap.{BoundedMap, used}

-- a text is the line that is due
pub shown : (IsDue : List ℕ → Type 0) {T E : Type 0} (bytes : T → List ℕ) (result : Result T E) (line : List ℕ)
    → IfOk result (λ text. bytes text ≡ line) → IsDue line → IfOk result (λ text. IsDue (bytes text))
shown IsDue bytes result line is due =
    IfOk-weaker result (λ text. bytes text ≡ line) (λ text. IsDue (bytes text)) (λ text same. subst IsDue (sym same) due) is

-- all slots of a new region are free
pub all_free : {Node : Type 0} (budget : ℕ) (region : BoundedMap Node)
    → region ≡ record { values = map.empty; capacity = budget } → region.capacity - used region ≡ budget
all_free {Node} budget region new =
    ap (λ (r : BoundedMap Node). r.capacity - used r) new ∙ omega (arith, len-empty nat_cmp Node)
