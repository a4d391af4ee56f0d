-- One search is due at most.
use Rattle.std.proofs.Common.{◌≡◌, ℕ, Some, refl, sym, ◌∙◌, arith}
use Rattle.ci_select.specs.Histories.{History}
use Rattle.ci_select.specs.Instances.{Instance}
use Rattle.ci_select.specs.Dues.{IsSearchDue, at_first, after_take}

pub search_due_is_one :
    {instance : Instance} {history : History} {left right : ℕ}
    → IsSearchDue instance history left → IsSearchDue instance history right → left ≡ right
search_due_is_one {left = left} {right = right} (at_first none one) (at_first also two) = same (sym one ∙ two)
  where
    same : Some left ≡ Some right → left ≡ right
    same equal = cc
search_due_is_one (at_first none one) (after_take) = absurd (omega (arith, none))
search_due_is_one (after_take) (at_first none one) = absurd (omega (arith, none))
search_due_is_one (after_take) (after_take) = refl
