-- Sets that a loop fills.
use Rattle.std.specs.Prelude.{◌≡◌, ℕ, ◌+◌, Bool, true, false, if◌then◌else◌, [], ◌∷◌, ◌++◌}
use Rattle.std.specs.Ordering.{nat_cmp}
use Rattle.std.specs.Cmp.{nat_cmp_total}
use Rattle.std.specs.FinSet as set
use Rattle.std.proofs.Common.{ap, add-one, append-nil}
use Rattle.ci_word.specs.Numbers.{numbers_below, set_below}
use Rattle.ci_word.proofs.NumberLaws.{numbers_below-zero, numbers_below-suc}

-- no number is below 0
pub set_below_none : (p : ℕ → Bool) → set_below 0 p ≡ set.empty
set_below_none p = ap set.from_list (numbers_below-zero p)

-- one number more is put in where it passes the test
pub set_below_more : (n : ℕ) (p : ℕ → Bool) → set_below (n + 1) p ≡ (if p n then set.insert (set_below n p) n else set_below n p)
set_below_more n p = rw (add-one, numbers_below-suc) (by_test (p n))
  where
    by_test : (b : Bool) → set.from_list {R = nat_cmp} (numbers_below n p ++ (if b then n ∷ [] else []))
        ≡ (if b then set.insert (set_below n p) n else set_below n p)
    by_test true = set.from_list_push nat_cmp_total set.nat_cmp-IsAntisymmetric (numbers_below n p) n
    by_test false = ap set.from_list (append-nil (numbers_below n p))

pub ruleset arcs = (set_below_none, set_below_more)
