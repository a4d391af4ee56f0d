-- How each call of a region changes its cells and the chain of the free ones, and keeps what they are.
use Rattle.std.proofs.Common.{◌≡◌, ℕ, ◌+◌, ◌-◌, ◌<◌, ◌≤◌, max, List, [], ◌∷◌, ◌++◌, length, get_or, set}
use Rattle.std.proofs.Common.{count_by}
use Rattle.std.proofs.Common.{Option, None, IsSome, cond, true≢false, refl, sym, ap, subst, ◌∙◌, inl}
use Rattle.std.proofs.Common.{inr}
use Rattle.std.proofs.Common.{arith}
use Rattle.std.proofs.lemmas.Bool.{cases_lt}
use Rattle.std.proofs.lemmas.List.{get_or_past, length_push}
use Rattle.std.proofs.lemmas.List.{get_or-set_same, get_or-set_other, length-set, take_all}
use Rattle.std.proofs.lemmas.List.Sums.{sum_by-set, sum_by_push}
use Rattle.std.specs.FinMap as map
use Rattle.ci_region.specs.CellChanges.{with_cell, with_next, with_only}
use Rattle.ci_region.specs.declared.cells.Cells.{Cells}
use Rattle.ci_region.specs.BoundedMap.{BoundedMap, IsLive, used, with_value, without}
use Rattle.ci_region.specs.declared.cells.Cell.{Cell}
use Rattle.ci_region.specs.declared.cells.Cell.TheVariants.{Live, Free}
use Rattle.ci_region.specs.private.Cells.{values_in, value_of, is_live, Avoids, IsChain, chain_end}
use Rattle.ci_region.specs.private.Cells.{chain_link, AreCells}
use Rattle.ci_region.proofs.ValueLaws.{get-values_in, len-values_in, no_value, values-live, values-push, values-free}

module _ {T : Type 0} (cells : List (Cell T)) where
  -- the count of values after a write
  count_set : (number : ℕ) (new : Cell T) → number < length cells
      → count_by is_live (set cells number new) + cond (is_live (get_or cells number (Free 0))) 1 0
      ≡ count_by is_live cells + cond (is_live new) 1 0
  count_set number new within = sum_by-set (λ c. cond (is_live c) 1 0) cells number new (Free 0) within

  -- a cell with a value isn't in the chain
  chain_avoids : {first : ℕ} {free : List ℕ} → IsChain cells first free → (number : ℕ)
      → IsSome (value_of (get_or cells number (Free 0))) → Avoids number free
  chain_avoids (chain_end last) number live = tt
  chain_avoids (chain_link {number = first} within is apart rest) number live = (
    λ same. true≢false (sym live ∙ ap (λ k. is_live (get_or cells k (Free 0))) same ∙ ap is_live is),
    chain_avoids rest number live,
  )

  -- a write of a cell that isn't in the chain keeps it
  chain_set : {first : ℕ} {free : List ℕ} → IsChain cells first free → (number : ℕ) (new : Cell T)
      → Avoids number free → IsChain (set cells number new) first free
  chain_set (chain_end last) number new avoids = chain_end (last ∙ sym (length-set cells number new))
  chain_set (chain_link {number = first} within is apart rest) number new avoids =
      chain_link (omega (arith, length-set cells number new))
      (get_or-set_other cells number first new (Free 0) (λ same. avoids.0 (sym same)) ∙ is) apart
      (chain_set rest number new avoids.1)

  -- what the first of a chain of so many cells has
  record HasFirst (first count : ℕ) : Type 0 where
    next : ℕ
    others : List ℕ
    is : get_or cells first (Free 0) ≡ Free next
    apart : Avoids first others
    rest : IsChain cells next others
    shorter : length others + 1 ≡ count

  has_first : {first : ℕ} {free : List ℕ} → IsChain cells first free → first < length cells
      → HasFirst first (length free)
  has_first (chain_end last) within = absurd (omega (arith, last))
  has_first (chain_link {next = next} {others = others} inside is apart rest) within = record {
    next = next;
    others = others;
    is = is;
    apart = apart;
    rest = rest;
    shorter = omega arith;
  }

  -- a chain begins at one of the cells, or behind all of them
  first_at_most : {first : ℕ} {free : List ℕ} → IsChain cells first free → first ≤ length cells
  first_at_most (chain_end last) = omega (arith, last)
  first_at_most (chain_link within is apart rest) = omega (arith, within)

  -- a chain that begins behind all cells is empty
  no_links : {first : ℕ} {free : List ℕ} → IsChain cells first free → first ≡ length cells → length free ≡ 0
  no_links (chain_end last) behind = refl
  no_links (chain_link within is apart rest) behind = absurd (omega (arith, within, behind))

abbrev number_of : {T : Type 0} → Cell T → ℕ
number_of (Free next) = next
number_of (Live value) = 0

-- ---- the first free cell gets a value

module _ {T : Type 0} (cells : List (Cell T)) (first used reached : ℕ) (are : AreCells cells first used reached) where
  -- the first free cell is one of the cells, or the next one
  pub first_within : first ≤ reached
  first_within = omega (arith, first_at_most cells are.chained, are.all)

  -- it is the next one where all cells have values
  first_is_next : first ≡ reached → used ≡ reached
  first_is_next next =
      let none = no_links cells are.chained (omega (arith, next, are.all)) in
      omega (arith, none, are.rest_free, are.all)

  in_front : first < reached → HasFirst cells first (length are.free)
  in_front below = has_first cells are.chained (omega (arith, below, are.all))

  -- it has no value
  pub first_is_free : value_of (get_or cells first (Free 0)) ≡ None
  first_is_free = elim (cases_lt first reached) [
    | inl below ↦ ap value_of (in_front below).is
    | inr behind ↦ ap value_of (get_or_past cells first (Free 0) (omega (arith, behind, are.all)))
  ]

  -- where not all slots are live, there is memory for it
  pub first_has_room : (left capacity : ℕ) → reached + left ≡ capacity → ¬ (used ≡ capacity) → first < capacity
  first_has_room left capacity room some_free = elim (cases_lt first reached) [
    | inl below ↦ omega (arith, below, room)
    | inr behind ↦ let at : first ≡ reached = omega (arith, behind, first_within) in
        omega (arith, at, first_is_next at, room, some_free)
  ]

  module _ (below : first < reached) where
    AreCells-fill : (next : ℕ) → get_or cells first (Free 0) ≡ Free next → (value : T)
        → AreCells (set cells first (Live value)) next (used + 1) reached
    AreCells-fill next is value =
        let same : (in_front below).next ≡ next = ap number_of (sym (in_front below).is ∙ is) in
        let counted = count_set cells first (Live value) (omega (arith, below, are.all)) in
        let none : ◌≡◌ {A = ℕ} (cond (is_live (get_or cells first (Free 0))) 1 0) 0 =
        ap (λ c. cond (is_live c) 1 0) (in_front below).is in
        let long = length-set cells first (Live value) in
        record {
          free = (in_front below).others;
          chained =
              subst (λ (k : ℕ). IsChain (set cells first (Live value)) k (in_front below).others) same
              (chain_set cells (in_front below).rest first (Live value) (in_front below).apart);
          counted = omega (arith, counted, none, are.counted);
          rest_free = omega (arith, long, are.rest_free, (in_front below).shorter);
          all = long ∙ are.all;
        }

  -- the next cell is reached
  AreCells-push : first ≡ reached → (value : T)
      → AreCells (cells ++ Live value ∷ []) (first + 1) (used + 1) (reached + 1)
  AreCells-push next value =
      let all_used = first_is_next next in
      let long = length_push cells (Live value) in
      record {
        free = [];
        chained = chain_end (omega (arith, next, long, are.all));
        counted = omega (arith, sum_by_push (λ (c : Cell T). cond (is_live c) 1 0) cells (Live value), are.counted);
        rest_free = omega (arith, long, all_used, are.all);
        all = omega (arith, long, are.all);
      }

-- ---- a cell with a value is written, or gives its value away

module _ {T : Type 0} (cells : List (Cell T)) (first used reached number : ℕ)
    (live : IsSome (value_of (get_or cells number (Free 0)))) (within : number < length cells)
    (are : AreCells cells first used reached) where
  one : ◌≡◌ {A = ℕ} (cond (is_live (get_or cells number (Free 0))) 1 0) 1
  one = ap (λ b. cond b 1 0) live

  avoids : Avoids number are.free
  avoids = chain_avoids cells are.chained number live

  -- some cells have values
  pub some_used : 0 < used
  some_used = omega (arith, are.counted, count_set cells number (Free 0) within, one)

  pub AreCells-write : (value : T) → AreCells (set cells number (Live value)) first used reached
  AreCells-write value =
      let long = length-set cells number (Live value) in
      record {
        free = are.free;
        chained = chain_set cells are.chained number (Live value) avoids;
        counted = omega (arith, count_set cells number (Live value) within, one, are.counted);
        rest_free = omega (arith, long, are.rest_free);
        all = long ∙ are.all;
      }

  pub AreCells-vacate : AreCells (set cells number (Free first)) number (used - 1) reached
  AreCells-vacate =
      let long = length-set cells number (Free first) in
      let some = some_used in
      record {
        free = number ∷ are.free;
        chained =
            chain_link (omega (arith, long)) (get_or-set_same cells number (Free first) (Free 0) within) avoids
            (chain_set cells are.chained number (Free first) avoids);
        counted = omega (arith, count_set cells number (Free first) within, one, are.counted);
        rest_free = omega (arith, long, are.rest_free);
        all = long ∙ are.all;
      }

-- ---- no cell is reached

module _ {T : Type 0} (cells : List (Cell T)) (none : cells ≡ []) where
  long : length cells ≡ 0
  long = ap length none

  pub no_values : values_in cells ≡ map.empty
  no_values = no_value cells (λ number below. absurd (omega (arith, long, below)))

  pub AreCells-none : AreCells cells 0 0 0
  AreCells-none = record {
    free = [];
    chained = chain_end (sym long);
    counted = ap (count_by is_live) none;
    rest_free = sym long;
    all = long;
  }

-- ---- the first cells alone are reached, which may be all

module _ {T : Type 0} (b : Cells T) where
  pub only_all : (count : ℕ) → length b.cells ≡ count → with_only b count ≡ b
  only_all count all =
      let cells = take_all count b.cells (omega (arith, all)) in
      let none : b.left + (length b.cells - count) ≡ b.left = omega (arith, all) in
      λ i. record { start = b.start; cells = cells i; left = none i }

-- ---- what contracts see of the cells

abbrev pub region_of : {T : Type 0} → List (Cell T) → ℕ → BoundedMap T
region_of cells capacity = record { values = values_in cells; capacity = capacity }

-- a slot's number is that of a cell with a value
pub record IsLiveCell {T : Type 0} (cells : List (Cell T)) (number : ℕ) (held : Option T) : Type 0 where
  pub within : number < length cells
  pub live : IsSome (value_of (get_or cells number (Free 0)))
  pub read : held ≡ value_of (get_or cells number (Free 0))

module _ {T : Type 0} (cells : List (Cell T)) (first used_cells reached left capacity : ℕ) (region : BoundedMap T)
    (is : region_of cells capacity ≡ region) (are : AreCells cells first used_cells reached)
    (room : reached + left ≡ capacity) where
  pub used_is : used region ≡ used_cells
  used_is = sym (ap (λ (m : BoundedMap T). used m) is) ∙ len-values_in cells ∙ are.counted

  pub capacity_is : region.capacity ≡ capacity
  capacity_is = sym (ap (λ (m : BoundedMap T). m.capacity) is)

  pub used_at_most : used region ≤ region.capacity
  used_at_most = omega (arith, used_is, capacity_is, are.rest_free, are.all, room)

module _ {T : Type 0} (cells : List (Cell T)) (capacity number slot : ℕ) (region : BoundedMap T)
    (is : region_of cells capacity ≡ region) (same : number ≡ slot) where
  pub live_cell : IsLive region slot → IsLiveCell cells number (map.get region.values slot)
  live_cell live =
      let held : map.get region.values slot ≡ value_of (get_or cells number (Free 0)) =
      sym (ap (λ (m : BoundedMap T). map.get m.values slot) is) ∙ get-values_in cells slot
      ∙ ap (λ k. value_of (get_or cells k (Free 0))) (sym same) in
      let filled : IsSome (value_of (get_or cells number (Free 0))) = subst IsSome held live in
      record { within = grind (arith, get_or_past); live = filled; read = held }

  pub region-live : (value : T) → number < length cells
      → region_of (set cells number (Live value)) capacity ≡ with_value region slot value
  region-live value inside =
      let written : region_of (set cells number (Live value)) capacity
      ≡ with_value (region_of cells capacity) number value =
      λ i. record { values = values-live cells number inside value i; capacity = capacity } in
      written ∙ (λ i. with_value (is i) (same i) value)

  region-push : (value : T) → number ≡ length cells
      → region_of (cells ++ Live value ∷ []) capacity ≡ with_value region slot value
  region-push value behind =
      let written : region_of (cells ++ Live value ∷ []) capacity
      ≡ with_value (region_of cells capacity) number value =
      λ i. record { values = values-push cells number behind value i; capacity = capacity } in
      written ∙ (λ i. with_value (is i) (same i) value)

  pub region-free : (next : ℕ) → number < length cells
      → region_of (set cells number (Free next)) capacity ≡ without region slot
  region-free next inside =
      let removed : region_of (set cells number (Free next)) capacity ≡ without (region_of cells capacity) number =
      λ i. record { values = values-free cells number inside next i; capacity = capacity } in
      removed ∙ (λ i. without (is i) (same i))

-- ---- a value is put into the first free cell, whichever that is

module _ {T : Type 0} (block new : Cells T) (first used_cells reached next : ℕ) (value : T)
    (are : AreCells block.cells first used_cells reached)
    (free : first < reached → get_or block.cells first (Free 0) ≡ Free next)
    (in_place : first < reached → new ≡ with_cell block first (Live value))
    (behind : first ≡ reached → (next ≡ first + 1) × (new ≡ with_next block value)) where
  either : (P : Type 0) → (first < reached → P) → (first ≡ reached → P) → P
  either P below at = elim (cases_lt first reached) [
    | inl less ↦ below less
    | inr from ↦ at (omega (arith, from, first_within block.cells first used_cells reached are))
  ]

  pub same_start : new.start ≡ block.start
  same_start = either (new.start ≡ block.start) (λ less. ap (λ (b : Cells T). b.start) (in_place less))
      (λ at. ap (λ (b : Cells T). b.start) (behind at).1)

  pub same_room : (later : ℕ) → later ≡ max reached (first + 1) → first < reached + block.left
      → later + new.left ≡ reached + block.left
  same_room later greater room = either (later + new.left ≡ reached + block.left)
      (λ less. omega (arith, greater, less, ap (λ (b : Cells T). b.left) (in_place less)))
      (λ at. omega (arith, greater, at, room, ap (λ (b : Cells T). b.left) (behind at).1))

  pub AreCells-take : (later : ℕ) → later ≡ max reached (first + 1)
      → AreCells new.cells next (used_cells + 1) later
  AreCells-take later greater =
      let Is : Cells T → ℕ → ℕ → Type 0 = λ b n k. AreCells b.cells n (used_cells + 1) k in
      either (Is new next later)
      (λ less. let still : reached ≡ later = omega (arith, greater, less) in
      subst (λ (k : ℕ). Is new next k) still
      (subst (λ (b : Cells T). Is b next reached) (sym (in_place less))
      (AreCells-fill block.cells first used_cells reached are less next (free less) value)))
      (λ at. let more : reached + 1 ≡ later = omega (arith, greater, at) in
      subst (λ (k : ℕ). Is new next k) more
      (subst (λ (n : ℕ). Is new n (reached + 1)) (sym (behind at).0)
      (subst (λ (b : Cells T). Is b (first + 1) (reached + 1)) (sym (behind at).1)
      (AreCells-push block.cells first used_cells reached are at value))))

  pub region-take : (capacity : ℕ) (region : BoundedMap T) → region_of block.cells capacity ≡ region
      → region_of new.cells capacity ≡ with_value region first value
  region-take capacity region is = either (region_of new.cells capacity ≡ with_value region first value)
      (λ less. ap (λ (b : Cells T). region_of b.cells capacity) (in_place less)
      ∙ region-live block.cells capacity first first region is refl value (omega (arith, less, are.all)))
      (λ at. ap (λ (b : Cells T). region_of b.cells capacity) (behind at).1
      ∙ region-push block.cells capacity first first region is refl value (omega (arith, at, are.all)))
