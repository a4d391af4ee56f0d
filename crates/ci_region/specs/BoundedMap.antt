-- What contracts see of a region: a finite map from slots to values, with its capacity.
use Rattle.std.specs.Prelude.{ℕ, IsSome, refl}
use Rattle.std.specs.Ordering.{nat_cmp}
use Rattle.std.specs.Coded.{Coded, code_by, coded×, coded_ℕ}
use Rattle.std.specs.FinMap as map

-- the value of each live slot, by the slot's number, and how many slots there are
pub record BoundedMap (T : Type 0) : Type 0 where
  pub values : map.FinMap nat_cmp T
  pub capacity : ℕ

-- a bounded map is stored as the pair of its fields
abbrev pub bounded_map_code : {T : Type 0} → Coded T → Coded (BoundedMap T)
bounded_map_code {T} code =
    code_by
    (map.FinMap nat_cmp T × ℕ)
    (coded× (map.code coded_ℕ code) coded_ℕ)
    (λ m. (m.values, m.capacity))
    (λ p. record { values = p.0; capacity = p.1 })
    (λ _. refl)

module _ {T : Type 0} where
  -- the slot holds a value
  abbrev pub IsLive : BoundedMap T → ℕ → Type 0
  IsLive m slot = IsSome (map.get m.values slot)

  -- the number of live slots
  abbrev pub used : BoundedMap T → ℕ
  used m = map.len m.values

  -- the map after a write: this slot holds the value, and the others what they held
  abbrev pub with_value : BoundedMap T → ℕ → T → BoundedMap T
  with_value m slot value = record m { values = map.insert m.values slot value }

  -- the map without this slot
  abbrev pub without : BoundedMap T → ℕ → BoundedMap T
  without m slot = record m { values = map.remove m.values slot }
