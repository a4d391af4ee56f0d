-- For private contracts: how `LiveSets` holds the sets of its model.
use Rattle.std.specs.Prelude.{◌≡◌, ℕ, ◌<◌, List, length, refl}
use Rattle.std.specs.Coded.{Coded, code_by, coded×, coded_ℕ, coded_list}
use Rattle.std.specs.FinSet as set
use Rattle.std.specs.List.{AllPairs}
use Rattle.std.specs.Ordering.{nat_cmp}
use Rattle.ci_live.specs.Sets.{Sets}

-- for each leader there is one set at it and one behind its block
pub record AreByLeader (leaders : List ℕ) (at after : List (set.FinSet nat_cmp)) : Type 0 where
  pub ascending : AllPairs (λ a b. a < b) leaders
  pub many_at : length at ≡ length leaders
  pub many_after : length after ≡ length leaders

-- how sets are stored, for proofs to tell them apart
abbrev pub coded_sets : Coded Sets
coded_sets =
    code_by (List ℕ × (List (set.FinSet nat_cmp) × List (set.FinSet nat_cmp)))
    (coded× (coded_list coded_ℕ) (coded× (coded_list (set.code coded_ℕ)) (coded_list (set.code coded_ℕ))))
    (λ s. (s.leaders, (s.live_in, s.live_out)))
    (λ p. record { leaders = p.0; live_in = p.1.0; live_out = p.1.1 }) (λ _. refl)
