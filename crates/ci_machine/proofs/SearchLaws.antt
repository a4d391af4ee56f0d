-- What a search by halving finds in the table of pages and in spans.
use Rattle.std.proofs.Common.{◌≡◌, ℕ, ◌<◌, ◌≤◌, List, length, get_or, Result, Ok, Err, IfOk, IfErr, sym, ap, arith}
use Rattle.std.specs.List.Sorted.{IsSearchInRange, IsBinarySearchResult, IsNonDecreasingBy}
use Rattle.std.specs.Ordering.{nat_cmp, ordering_index}
use Rattle.std.proofs.lemmas.Cmp.{ranked}
use Rattle.std.proofs.lemmas.List.Sorted.{IsNonDecreasingBy-from_default}
use Rattle.std.proofs.lemmas.Bool.Decides.{nat_tests}
use Rattle.ci_machine.specs.declared.pages.Entry.{Entry}
use Rattle.ci_machine.specs.declared.spans.Span.{Span}
use Rattle.ci_machine.specs.PageTables.{entry_at, IsPlace, IsGap}
use Rattle.ci_machine.specs.Spans.{span_at}

-- elements whose keys rise, and a key
module _ {X : Type 0} (key : X → ℕ) (none : X) (xs : List X)
    (rising : (i j : ℕ) → i < j → j < length xs → key (get_or xs i none) < key (get_or xs j none)) (k : ℕ) where
  -- the comparisons with the key rise, as a search by halving asks
  comparisons_rise : IsNonDecreasingBy (λ x. ordering_index (nat_cmp (key x) k)) xs
  comparisons_rise = IsNonDecreasingBy-from_default (λ x. ordering_index (nat_cmp (key x) k)) xs none (λ i j le lt.
      let keys_rise : key (get_or xs i none) ≤ key (get_or xs j none) =
      grind (arith, rising i j, λ (same : i ≡ j). ap (λ n. key (get_or xs n none)) same) in
      grind (arith, nat_tests))

  abbrev IsThere : ℕ → Type 0
  IsThere i = (i < length xs) × (key (get_or xs i none) ≡ k)

  -- where the key would go: lesser ones before it, greater ones from there on
  abbrev IsBetween : ℕ → Type 0
  IsBetween at = (at ≤ length xs) × (((i : ℕ) → i < at → key (get_or xs i none) < k)
      × ((i : ℕ) → at ≤ i → i < length xs → k < key (get_or xs i none)))

  pub searched : (r : Result ℕ ℕ) → IsSearchInRange r (length xs) → IsBinarySearchResult (λ x. nat_cmp (key x) k) xs r
      → IfOk r IsThere × IfErr r IsBetween
  searched (Ok at) in_range equal = ((in_range, ranked _ k _ (sym (equal none))), tt)
  searched (Err at) in_range parted = (
    tt,
    (
      in_range,
      (
        λ i lt. ranked _ k _ (sym ((parted comparisons_rise).0 i none (omega arith) lt)),
        λ i from lt. ranked _ k _ (sym ((parted comparisons_rise).1 i none from lt)),
      ),
    ),
  )

pub searched_table : (table : List Entry)
    → ((i j : ℕ) → i < j → j < length table → (entry_at table i).number < (entry_at table j).number)
    → (number : ℕ) (r : Result ℕ ℕ) → IsSearchInRange r (length table)
    → IsBinarySearchResult (λ entry. nat_cmp entry.number number) table r
    → IfOk r (IsPlace table number) × IfErr r (IsGap table number)
searched_table table rising number (Ok at) in_range found =
    let s = searched (λ entry. entry.number) _ table rising number (Ok at) in_range found in
    (record { below = s.0.0; here = s.0.1 }, tt)
searched_table table rising number (Err at) in_range found =
    let s = searched (λ entry. entry.number) _ table rising number (Err at) in_range found in
    (tt, record { within = s.1.0; smaller = s.1.1.0; greater = s.1.1.1 })

pub record IsSearched (spans : List Span) (address : ℕ) (r : Result ℕ ℕ) : Type 0 where
  pub found : IfOk r (λ i. (i < length spans) × ((span_at spans i).start ≡ address))
  pub smaller : IfErr r (λ at. (i : ℕ) → i < at → (span_at spans i).start < address)
  pub greater : IfErr r (λ at. (i : ℕ) → at ≤ i → i < length spans → address < (span_at spans i).start)

pub searched_spans : (spans : List Span)
    → ((i j : ℕ) → i < j → j < length spans → (span_at spans i).start < (span_at spans j).start)
    → (address : ℕ) (r : Result ℕ ℕ) → IsSearchInRange r (length spans)
    → IsBinarySearchResult (λ span. nat_cmp span.start address) spans r → IsSearched spans address r
searched_spans spans rising address (Ok at) in_range found =
    let s = searched (λ span. span.start) _ spans rising address (Ok at) in_range found in
    record { found = s.0; smaller = tt; greater = tt }
searched_spans spans rising address (Err at) in_range found =
    let s = searched (λ span. span.start) _ spans rising address (Err at) in_range found in
    record { found = tt; smaller = s.1.1.0; greater = s.1.1.1 }
