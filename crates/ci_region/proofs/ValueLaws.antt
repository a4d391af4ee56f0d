-- The map of values that the cells of a region are, and how a change of one cell changes it.
use Rattle.std.proofs.Common.{◌≡◌, ℕ, zero, suc, ◌+◌, ◌<◌, List, [], ◌∷◌, ◌++◌, length, get_or, set, count_by, inl}
use Rattle.std.proofs.Common.{None, is_some, IsSome, true≢false, false, cond, refl, sym, ap, ◌∙◌}
use Rattle.std.proofs.Common.{inr, arith, add-zero, zero-add}
use Rattle.std.proofs.lemmas.Bool.{cases_lt}
use Rattle.std.proofs.lemmas.List.{get_or_append_left, get_or_push, get_or_past, length_push}
use Rattle.std.proofs.lemmas.List.{get_or-set_same, get_or-set_other}
use Rattle.std.proofs.lemmas.List.Sums.{sum_by-cons}
use Rattle.std.specs.Ordering.{nat_cmp}
use Rattle.std.specs.Cmp.{nat_cmp_total}
use Rattle.std.specs.FinMap as map
use Rattle.std.specs.FinMap.{get-empty, len-empty, len-insert}
use Rattle.ci_region.proofs.MapLaws.{get-insert_same, get-insert_other, is_insert, is_remove}
use Rattle.ci_region.specs.declared.cells.Cell.{Cell}
use Rattle.ci_region.specs.declared.cells.Cell.TheVariants.{Live, Free}
use Rattle.ci_region.specs.private.Cells.{values_from, values_in, value_of, is_live, AreFree}

module _ {T : Type 0} where
  -- ---- what a slot holds, and how many do

  nothing_before : (number : ℕ) (cells : List (Cell T)) (slot : ℕ) → slot < number
      → map.get (values_from number cells) slot ≡ None
  unfolding values_from
  nothing_before number [] slot before = get-empty nat_cmp slot
  nothing_before number (Free next ∷ cells) slot before = nothing_before (number + 1) cells slot (omega arith)
  nothing_before number (Live value ∷ cells) slot before =
      get-insert_other (values_from (number + 1) cells) number value slot (omega arith)
      ∙ nothing_before (number + 1) cells slot (omega arith)

  get_from : (number : ℕ) (cells : List (Cell T)) (place : ℕ)
      → map.get (values_from number cells) (number + place) ≡ value_of (get_or cells place (Free 0))
  unfolding values_from
  get_from number [] place = get-empty nat_cmp (number + place)
  get_from number (Free next ∷ cells) zero = nothing_before (number + 1) cells (number + 0) (omega arith)
  get_from number (Free next ∷ cells) (suc place) =
      let shift : number + suc place ≡ number + 1 + place = omega arith in
      ap (map.get (values_from (number + 1) cells)) shift ∙ get_from (number + 1) cells place
  get_from number (Live value ∷ cells) zero =
      rw add-zero (get-insert_same (values_from (number + 1) cells) number value)
  get_from number (Live value ∷ cells) (suc place) =
      let rest = values_from (number + 1) cells in
      let shift : number + suc place ≡ number + 1 + place = omega arith in
      get-insert_other rest number value (number + suc place) (omega arith)
      ∙ ap (map.get rest) shift ∙ get_from (number + 1) cells place

  -- a slot holds what its cell does
  pub get-values_in : (cells : List (Cell T)) (slot : ℕ)
      → map.get (values_in cells) slot ≡ value_of (get_or cells slot (Free 0))
  unfolding values_in
  get-values_in cells slot = ap (map.get (values_from 0 cells)) (sym (zero-add slot)) ∙ get_from 0 cells slot

  len_from : (number : ℕ) (cells : List (Cell T)) → map.len (values_from number cells) ≡ count_by is_live cells
  unfolding values_from
  len_from number [] = len-empty nat_cmp T
  len_from number (Free next ∷ cells) =
      omega (arith, len_from (number + 1) cells, sum_by-cons (λ (c : Cell T). cond (is_live c) 1 0) (Free next) cells)
  len_from number (Live value ∷ cells) =
      let rest = values_from (number + 1) cells in
      let absent : map.contains_key rest number ≡ false =
      ap is_some (nothing_before (number + 1) cells number (omega arith)) in
      let longer = rw absent at (len-insert nat_cmp_total rest number value) in
      omega (arith, longer, len_from (number + 1) cells, sum_by-cons (λ c. cond (is_live c) 1 0) (Live value) cells)

  -- as many slots are live as cells have a value
  pub len-values_in : (cells : List (Cell T)) → map.len (values_in cells) ≡ count_by is_live cells
  unfolding values_in
  len-values_in cells = len_from 0 cells

  -- a live slot is the number of a cell
  pub live_within : (cells : List (Cell T)) (slot : ℕ) → IsSome (map.get (values_in cells) slot) → slot < length cells
  live_within cells slot live = grind (arith, get_or_past, get-values_in)

  no_value_from : (number : ℕ) (cells : List (Cell T)) → AreFree cells → values_from number cells ≡ map.empty
  unfolding values_from
  no_value_from number [] are = refl
  no_value_from number (Free next ∷ cells) are =
      no_value_from (number + 1) cells (λ place below. are (suc place) (omega arith))
  no_value_from number (Live value ∷ cells) are = absurd (true≢false (ap is_some (are 0 (omega arith))))

  -- free cells have no values
  pub no_value : (cells : List (Cell T)) → AreFree cells → values_in cells ≡ map.empty
  unfolding values_in
  no_value cells are = no_value_from 0 cells are

  -- and are free where there are none
  pub free_where_empty : (cells : List (Cell T)) → values_in cells ≡ map.empty → AreFree cells
  free_where_empty cells empty number below =
      sym (get-values_in cells number) ∙ ap (λ (m : map.FinMap nat_cmp T). map.get m number) empty
      ∙ get-empty nat_cmp number

-- ---- changes

module _ {T : Type 0} (cells : List (Cell T)) (slot : ℕ) (behind : slot ≡ length cells) where
  -- a cell more, which has a value
  pub values-push : (value : T) → values_in (cells ++ Live value ∷ []) ≡ map.insert (values_in cells) slot value
  values-push value =
      let after = cells ++ Live value ∷ [] in
      let past : (other : ℕ) → length cells < other → get_or after other (Free 0) ≡ get_or cells other (Free 0) =
      λ other less. get_or_past after other (Free 0) (omega (arith, length_push cells (Live value)))
      ∙ sym (get_or_past cells other (Free 0) (omega arith)) in
      is_insert (values_in cells) slot (values_in after) value
      (get-values_in after slot ∙ ap value_of (get_or_push cells (Live value) (Free 0) slot (sym behind)))
      (λ other apart. get-values_in after other ∙ ap value_of (elim (cases_lt other (length cells)) [
        | inl before ↦ get_or_append_left cells (Live value ∷ []) (Free 0) other before
        | inr from ↦ past other (omega (arith, from, apart, behind))
      ]) ∙ sym (get-values_in cells other))

module _ {T : Type 0} (cells : List (Cell T)) (slot : ℕ) (within : slot < length cells) where
  pub values-live : (value : T) → values_in (set cells slot (Live value)) ≡ map.insert (values_in cells) slot value
  values-live value =
      let after = set cells slot (Live value) in
      is_insert (values_in cells) slot (values_in after) value
      (get-values_in after slot ∙ ap value_of (get_or-set_same cells slot (Live value) (Free 0) within))
      (λ other apart. get-values_in after other
      ∙ ap value_of (get_or-set_other cells slot other (Live value) (Free 0) apart)
      ∙ sym (get-values_in cells other))

  pub values-free : (next : ℕ) → values_in (set cells slot (Free next)) ≡ map.remove (values_in cells) slot
  values-free next =
      let after = set cells slot (Free next) in
      is_remove (values_in cells) slot (values_in after)
      (get-values_in after slot ∙ ap value_of (get_or-set_same cells slot (Free next) (Free 0) within))
      (λ other apart. get-values_in after other
      ∙ ap value_of (get_or-set_other cells slot other (Free next) (Free 0) apart)
      ∙ sym (get-values_in cells other))
