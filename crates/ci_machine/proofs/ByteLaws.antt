-- Bytes on pages, in runs: how they are read, and what they are after a write.
use Rattle.std.proofs.Common.{◌≡◌, ◌≢◌, ℕ, zero, suc, ◌+◌, ◌-◌, ◌*◌, ◌/◌, ◌%◌, ◌<◌, ◌≤◌, ◌⊎◌, inl, inr, Bool, true, false, cond, eqb, not, max}
use Rattle.std.proofs.Common.{List, [], ◌∷◌, ◌++◌, length, get_or, set, replicate, take, drop, Option, Some, None, is_some, refl, sym, ap, ◌∙◌, arith, ◌||◌, ◌&&◌}
use Rattle.std.proofs.lemmas.Bool.{cases_eq, cases_lt}
use Rattle.std.proofs.lemmas.Bool.Decides.{nat_tests}
use Rattle.std.proofs.lemmas.List.{get_or-set_same, get_or-set_other, length-set, length-take-le, length-drop}
use Rattle.std.proofs.lemmas.List.{get_or-take, get_or-drop, drop_more, get_or_append_left, get_or-append_right}
use borrow.Rule.Slice.PartMut.{mid_of, put_mid, post_of}
use Rattle.ci_machine.specs.declared.pages.Page.{Page}
use Rattle.std.specs.Int.{from_le_bytes, w16, w32}
use Rattle.ci_machine.specs.Accesses.{number_of_bytes}
use Rattle.ci_machine.specs.ByteLists.{bytes_from, overwritten}
use Rattle.ci_machine.specs.PageTables.{byte_on, run_of, written, zeroed, with_pages, without_pages}
use Rattle.ci_machine.specs.Programs.{lies_in}
use Rattle.ci_machine.proofs.TestLaws.{lies_in-bounds, bounds-lies_in, outside, taken, passed, by_test}

pub not_inside : (start end x : ℕ) → lies_in start end x ≡ false → (x < start) ⊎ (end ≤ x)
not_inside start end x h = elim (cases_lt x start) [
  | inl lt ↦ inl lt
  | inr from ↦ inr (grind (arith, nat_tests))
]

same_number : (m n : ℕ) → m ≡ n → eqb m n ≡ true
same_number m n same = grind (arith, nat_tests)

other_number : (m n : ℕ) → m ≢ n → eqb m n ≡ false
other_number m n apart = grind (arith, nat_tests)

-- ---- reads

-- bytes that stand in a list from an index on
pub run_is : (content : ℕ → ℕ) (bytes : List ℕ) (n a i : ℕ) → ((k : ℕ) → k < n → content (a + k) ≡ get_or bytes (i + k) 0)
    → bytes_from n bytes i ≡ run_of content n a
run_is content bytes zero a i each = refl
run_is content bytes (suc n) a i each =
    let first : get_or bytes i 0 ≡ content a =
    ap (λ j. get_or bytes j 0) (omega arith) ∙ sym (each 0 (omega arith)) ∙ ap content (omega arith) in
    let more : bytes_from n bytes (i + 1) ≡ run_of content n (a + 1) =
    run_is content bytes n (a + 1) (i + 1)
    (λ k lt. ap content (omega arith) ∙ each (k + 1) (omega arith) ∙ ap (λ j. get_or bytes j 0) (omega arith)) in
    λ k. first k ∷ more k

-- the bytes at addresses on one page
pub on_page : (pages : ℕ → Option Page) (page : Page) (a k : ℕ) → pages (a / 4096) ≡ Some page → a % 4096 + k < 4096
    → byte_on (pages ((a + k) / 4096)) ((a + k) % 4096) ≡ get_or page.bytes (a % 4096 + k) 0
on_page pages page a k there inside =
    let number : (a + k) / 4096 ≡ a / 4096 = omega arith in
    let offset : (a + k) % 4096 ≡ a % 4096 + k = omega arith in
    (λ i. byte_on (pages (number i)) (offset i)) ∙ ap (λ o. byte_on o (a % 4096 + k)) there

-- ---- writes

-- a byte of a list over which another was laid from an index on
abbrev pub overlaid : List ℕ → ℕ → List ℕ → ℕ → ℕ
overlaid bytes i row k = cond (lies_in i (i + length row) k) (get_or row (k - i) 0) (get_or bytes k 0)

pub overwritten_at : (bytes row : List ℕ) (i k : ℕ) → i + length row ≤ length bytes → get_or (overwritten bytes i row) k 0 ≡ overlaid bytes i row k
overwritten_at bytes [] i k fits = sym (passed _ _ _ (outside i (i + 0) k (elim (cases_lt k i) [ inl lt ↦ inl lt | inr from ↦ inr (omega arith) ])))
overwritten_at bytes (b ∷ row) i k fits =
    let rest = overwritten_at bytes row (i + 1) k (omega arith) in
    let long = length_overwritten bytes row (i + 1) in
    elim (cases_eq k i) [
      | inl same ↦
          ap (λ j. get_or (set (overwritten bytes (i + 1) row) i b) j 0) same
          ∙ get_or-set_same (overwritten bytes (i + 1) row) i b 0 (omega arith)
          ∙ ap (λ j. get_or (b ∷ row) j 0) {x = 0} {y = k - i} (omega arith)
          ∙ sym (taken _ _ _ (bounds-lies_in i (i + suc (length row)) k (omega arith) (omega arith)))
      | inr apart ↦ get_or-set_other (overwritten bytes (i + 1) row) i k b 0 apart ∙ rest ∙ by_test (lies_in (i + 1) (i + 1 + length row) k)
          (λ is. let bounds = lies_in-bounds (i + 1) (i + 1 + length row) k is in
          taken _ _ _ is
          ∙ ap (λ j. get_or (b ∷ row) j 0) {x = suc (k - (i + 1))} {y = k - i} (omega (arith, bounds.0))
          ∙ sym (taken _ _ _ (bounds-lies_in i (i + suc (length row)) k (omega (arith, bounds.0)) (omega (arith, bounds.1)))))
          (λ none. passed _ _ _ none
          ∙ sym (passed _ _ _ (outside i (i + suc (length row)) k (elim (not_inside (i + 1) (i + 1 + length row) k none) [
            | inl lt ↦ inl (omega arith)
            | inr past ↦ inr (omega arith)
          ]))))
    ]
  where
    length_overwritten : (bytes : List ℕ) (new : List ℕ) (i : ℕ) → length (overwritten bytes i new) ≡ length bytes
    length_overwritten bytes [] i = refl
    length_overwritten bytes (b ∷ new) i = length-set (overwritten bytes (i + 1) new) i b ∙ length_overwritten bytes new (i + 1)

-- the list with another in the place of so many bytes, as a slice shows it
pub put_at : (bytes row : List ℕ) (i n k : ℕ) → n ≡ length row → i + length row ≤ length bytes
    → get_or (put_mid i n bytes row) k 0 ≡ overlaid bytes i row k
put_at bytes row i n k same fits =
    let front = length-take-le i bytes (omega arith) in
    elim (cases_lt k i) [
      | inl lt ↦
          get_or_append_left (take i bytes) (row ++ post_of i n bytes) 0 k (omega arith)
          ∙ get_or-take i bytes k 0 lt
          ∙ sym (passed _ _ _ (outside i (i + length row) k (inl lt)))
      | inr from ↦
          get_or-append_right (take i bytes) (row ++ post_of i n bytes) i k 0 front from
          ∙ elim (cases_lt (k - i) (length row)) [
            | inl lt ↦ get_or_append_left row (post_of i n bytes) 0 (k - i) lt
                ∙ sym (taken _ _ _ (bounds-lies_in i (i + length row) k from (omega arith)))
            | inr past ↦ get_or-append_right row (post_of i n bytes) (length row) (k - i) 0 refl past
                ∙ get_or-drop n (drop i bytes) (k - i - length row) 0
                ∙ get_or-drop i bytes (n + (k - i - length row)) 0
                ∙ ap (λ j. get_or bytes j 0) {x = i + (n + (k - i - length row))} {y = k} (omega arith)
                ∙ sym (passed _ _ _ (outside i (i + length row) k (inr (omega arith))))
          ]
    ]

-- one page was written, from an address on
module _ (old new : ℕ → Option Page) (a : ℕ) (page page' : Page) (row : List ℕ) (there : old (a / 4096) ≡ Some page)
    (wrote : (n : ℕ) → new n ≡ cond (eqb n (a / 4096)) (Some page') (old n)) where
  pub written_on : a % 4096 + length row ≤ 4096
      → ((k : ℕ) → k < 4096 → get_or page'.bytes k 0 ≡ overlaid page.bytes (a % 4096) row k) → (x : ℕ)
      → byte_on (new (x / 4096)) (x % 4096) ≡ written (λ y. byte_on (old (y / 4096)) (y % 4096)) a row x
  written_on inside laid x = elim (cases_eq (x / 4096) (a / 4096)) [
    | inl same ↦
        let here : new (x / 4096) ≡ Some page' = wrote (x / 4096) ∙ taken _ _ _ (same_number _ _ same) in
        let was : old (x / 4096) ≡ Some page = ap old same ∙ there in
        ap (λ o. byte_on o (x % 4096)) here ∙ laid (x % 4096) (omega arith)
        ∙ by_test (lies_in a (a + length row) x)
        (λ is. let bounds = lies_in-bounds a (a + length row) x is in
        taken _ _ _ (bounds-lies_in (a % 4096) (a % 4096 + length row) (x % 4096) (omega (arith, bounds.0, same)) (omega (arith, bounds.0, bounds.1, same)))
        ∙ ap (λ j. get_or row j 0) (omega (arith, bounds.0, same)) ∙ sym (taken _ _ _ is))
        (λ none. passed _ _ _ (outside (a % 4096) (a % 4096 + length row) (x % 4096) (elim (not_inside a (a + length row) x none) [
          | inl lt ↦ inl (omega arith)
          | inr past ↦ inr (omega arith)
        ])) ∙ sym (ap (λ o. byte_on o (x % 4096)) was) ∙ sym (passed _ _ _ none))
    | inr apart ↦
        ap (λ o. byte_on o (x % 4096)) (wrote (x / 4096) ∙ passed _ _ _ (other_number _ _ apart))
        ∙ sym (passed _ _ _ (outside a (a + length row) x (elim (cases_lt x a) [
          | inl lt ↦ inl lt
          | inr from ↦ inr (elim (cases_lt x (a + length row)) [
            | inl below ↦ absurd (apart (omega arith))
            | inr past ↦ past
          ])
        ])))
  ]

  pub there_still : (n : ℕ) → is_some (new n) ≡ is_some (old n)
  there_still n = elim (cases_eq n (a / 4096)) [
    | inl same ↦ ap is_some (wrote n ∙ taken _ _ _ (same_number _ _ same)) ∙ sym (ap is_some (ap old same ∙ there))
    | inr apart ↦ ap is_some (wrote n ∙ passed _ _ _ (other_number _ _ apart))
  ]

-- a page of zeros was added
module _ (old new : ℕ → Option Page) (number : ℕ) (page : Page) (none : old number ≡ None)
    (added : (n : ℕ) → new n ≡ cond (eqb n number) (Some page) (old n)) where
  pub added_zeros : ((k : ℕ) → get_or page.bytes k 0 ≡ 0) → (x : ℕ) → byte_on (new (x / 4096)) (x % 4096) ≡ byte_on (old (x / 4096)) (x % 4096)
  added_zeros zeros x = elim (cases_eq (x / 4096) number) [
    | inl same ↦
        ap (λ o. byte_on o (x % 4096)) (added (x / 4096) ∙ taken _ _ _ (same_number _ _ same)) ∙ zeros (x % 4096)
        ∙ sym (ap (λ o. byte_on o (x % 4096)) (ap old same ∙ none))
    | inr apart ↦ ap (λ o. byte_on o (x % 4096)) (added (x / 4096) ∙ passed _ _ _ (other_number _ _ apart))
  ]

  pub added_there : (n : ℕ) → is_some (new n) ≡ with_pages (λ m. is_some (old m)) number (number + 1) n
  added_there n = elim (cases_eq n number) [
    | inl same ↦ ap is_some (added n ∙ taken _ _ _ (same_number _ _ same))
        ∙ sym (ap (λ b. b || is_some (old n)) (bounds-lies_in number (number + 1) n (omega arith) (omega arith)))
    | inr apart ↦ ap is_some (added n ∙ passed _ _ _ (other_number _ _ apart))
        ∙ sym (ap (λ b. b || is_some (old n)) (outside number (number + 1) n (elim (cases_lt n number) [
          | inl lt ↦ inl lt
          | inr from ↦ inr (omega arith)
        ])))
  ]

-- a page was taken away
module _ (old new : ℕ → Option Page) (number : ℕ) (gone : (n : ℕ) → new n ≡ cond (eqb n number) None (old n)) where
  pub taken_zeros : (x : ℕ) → byte_on (new (x / 4096)) (x % 4096)
      ≡ zeroed (λ y. byte_on (old (y / 4096)) (y % 4096)) (number * 4096) ((number + 1) * 4096) x
  taken_zeros x = elim (cases_eq (x / 4096) number) [
    | inl same ↦ ap (λ o. byte_on o (x % 4096)) (gone (x / 4096) ∙ taken _ _ _ (same_number _ _ same))
        ∙ sym (taken _ _ _ (bounds-lies_in (number * 4096) ((number + 1) * 4096) x (omega arith) (omega arith)))
    | inr apart ↦ ap (λ o. byte_on o (x % 4096)) (gone (x / 4096) ∙ passed _ _ _ (other_number _ _ apart))
        ∙ sym (passed _ _ _ (outside (number * 4096) ((number + 1) * 4096) x (elim (cases_lt x (number * 4096)) [
          | inl lt ↦ inl lt
          | inr from ↦ inr (elim (cases_lt x ((number + 1) * 4096)) [
            | inl below ↦ absurd (apart (omega arith))
            | inr past ↦ past
          ])
        ])))
  ]

  pub taken_there : (n : ℕ) → is_some (new n) ≡ without_pages (λ m. is_some (old m)) number (number + 1) n
  taken_there n = elim (cases_eq n number) [
    | inl same ↦ ap is_some (gone n ∙ taken _ _ _ (same_number _ _ same))
        ∙ sym (ap (λ b. not b && is_some (old n)) (bounds-lies_in number (number + 1) n (omega arith) (omega arith)))
    | inr apart ↦ ap is_some (gone n ∙ passed _ _ _ (other_number _ _ apart))
        ∙ sym (ap (λ b. not b && is_some (old n)) (outside number (number + 1) n (elim (cases_lt n number) [
          | inl lt ↦ inl lt
          | inr from ↦ inr (omega arith)
        ])))
  ]

-- ---- changes one after the other

pub pages_none : (numbers : ℕ → Bool) (from to n : ℕ) → to ≤ from → with_pages numbers from to n ≡ numbers n
pages_none numbers from to n empty = grind (arith, nat_tests)

-- where a loop over the numbers ended
pub pages_up_to : (numbers : ℕ → Bool) (from i to n : ℕ) → from ≤ i → i ≤ max from to → to ≤ i
    → with_pages numbers from i n ≡ with_pages numbers from to n
pages_up_to numbers from i to n low high past = elim (cases_lt from to) [
  | inl lt ↦ ap (λ j. with_pages numbers from j n) (omega arith)
  | inr empty ↦ pages_none numbers from i n (omega arith) ∙ sym (pages_none numbers from to n empty)
]

-- a page that is there already
pub pages_there : (numbers : ℕ → Bool) (number : ℕ) → numbers number ≡ true → (n : ℕ)
    → numbers n ≡ with_pages numbers number (number + 1) n
pages_there numbers number there n = elim (cases_eq n number) [
  | inl same ↦ ap numbers same ∙ there
      ∙ sym (ap (λ b. b || numbers n) (bounds-lies_in number (number + 1) n (omega arith) (omega arith)))
  | inr apart ↦ sym (ap (λ b. b || numbers n) (outside number (number + 1) n (elim (cases_lt n number) [
    | inl lt ↦ inl lt
    | inr from ↦ inr (omega arith)
  ])))
]

pub zeros_more : (bytes : ℕ → ℕ) (start middle end x : ℕ) → start ≤ middle → middle ≤ end
    → zeroed (zeroed bytes middle end) start middle x ≡ zeroed bytes start end x
zeros_more bytes start middle end x low high = by_test (lies_in start middle x)
    (λ is. let bounds = lies_in-bounds start middle x is in
    taken _ _ _ is ∙ sym (taken _ _ _ (bounds-lies_in start end x (omega (arith, bounds.0)) (omega (arith, bounds.1)))))
    (λ none. passed _ _ _ none ∙ by_test (lies_in middle end x)
    (λ is. let bounds = lies_in-bounds middle end x is in
    taken _ _ _ is ∙ sym (taken _ _ _ (bounds-lies_in start end x (omega (arith, bounds.0)) (omega (arith, bounds.1)))))
    (λ neither. passed _ _ _ neither ∙ sym (passed _ _ _ (outside start end x (elim (not_inside start middle x none) [
      | inl lt ↦ inl lt
      | inr past ↦ elim (not_inside middle end x neither) [ inl lt ↦ absurd (omega arith) | inr behind ↦ inr behind ]
    ])))))

-- what lies between two addresses is 0 either way
pub zeros_within : (bytes : ℕ → ℕ) (start end low high x : ℕ) → start ≤ low → high ≤ end
    → zeroed (zeroed bytes low high) start end x ≡ zeroed bytes start end x
zeros_within bytes start end low high x from to = by_test (lies_in start end x)
    (λ is. taken _ _ _ is ∙ sym (taken _ _ _ is))
    (λ none. passed _ _ _ none ∙ passed _ _ _ (outside low high x (elim (not_inside start end x none) [
      | inl lt ↦ inl (omega arith)
      | inr past ↦ inr (omega arith)
    ])) ∙ sym (passed _ _ _ none))

pub zeros_already : (bytes : ℕ → ℕ) (start end x : ℕ) → (lies_in start end x ≡ true → bytes x ≡ 0) → bytes x ≡ zeroed bytes start end x
zeros_already bytes start end x zeros = by_test (lies_in start end x)
    (λ is. zeros is ∙ sym (taken _ _ _ is))
    (λ none. sym (passed _ _ _ none))

pub pages_within : (numbers : ℕ → Bool) (from to number n : ℕ) → from ≤ number → number < to
    → without_pages (without_pages numbers number (number + 1)) from to n ≡ without_pages numbers from to n
pages_within numbers from to number n low high = by_test (lies_in from to n)
    (λ is. ap (λ b. not b && without_pages numbers number (number + 1) n) is ∙ sym (ap (λ b. not b && numbers n) is))
    (λ none. ap (λ b. not (lies_in from to n) && (not b && numbers n)) (outside number (number + 1) n (elim (not_inside from to n none) [
      | inl lt ↦ inl (omega arith)
      | inr past ↦ inr (omega arith)
    ])))

pub pages_already : (numbers : ℕ → Bool) (from to n : ℕ) → (lies_in from to n ≡ true → numbers n ≡ false)
    → numbers n ≡ without_pages numbers from to n
pages_already numbers from to n gone = by_test (lies_in from to n)
    (λ is. gone is ∙ sym (ap (λ b. not b && numbers n) is))
    (λ none. sym (ap (λ b. not b && numbers n) none))

-- a run of zeros
pub zeros_run : (bytes : ℕ → ℕ) (n a : ℕ) → ((k : ℕ) → k < n → bytes (a + k) ≡ 0) → replicate n 0 ≡ run_of bytes n a
zeros_run bytes zero a zeros = refl
zeros_run bytes (suc n) a zeros =
    let first : bytes a ≡ 0 = ap bytes (omega arith) ∙ zeros 0 (omega arith) in
    let more = zeros_run bytes n (a + 1) (λ k lt. ap bytes (omega arith) ∙ zeros (k + 1) (omega arith)) in
    λ k. sym first k ∷ more k

-- a run behind others
pub run_more : (bytes : ℕ → ℕ) (row : List ℕ) (a done count x : ℕ) → done + count ≤ length row
    → written (written bytes a (take done row)) (a + done) (take count (drop done row)) x ≡ written bytes a (take (done + count) row) x
run_more bytes row a done count x fits =
    let first = length-take-le done row (omega arith) in
    let all = length-take-le (done + count) row fits in
    let next : length (take count (drop done row)) ≡ count = length-take-le count (drop done row) (omega (arith, length-drop done row)) in
    by_test (lies_in (a + done) (a + done + length (take count (drop done row))) x)
    (λ is. let bounds = lies_in-bounds (a + done) (a + done + length (take count (drop done row))) x is in
    taken _ _ _ is
    ∙ get_or-take count (drop done row) (x - (a + done)) 0 (omega (arith, bounds.0, bounds.1, next))
    ∙ get_or-drop done row (x - (a + done)) 0
    ∙ ap (λ j. get_or row j 0) (omega (arith, bounds.0))
    ∙ sym (get_or-take (done + count) row (x - a) 0 (omega (arith, bounds.0, bounds.1, next)))
    ∙ sym (taken _ _ _ (bounds-lies_in a (a + length (take (done + count) row)) x (omega (arith, bounds.0)) (omega (arith, bounds.1, next, all)))))
    (λ none. passed _ _ _ none ∙ by_test (lies_in a (a + length (take done row)) x)
    (λ is. let bounds = lies_in-bounds a (a + length (take done row)) x is in
    taken _ _ _ is
    ∙ get_or-take done row (x - a) 0 (omega (arith, bounds.0, bounds.1, first))
    ∙ sym (get_or-take (done + count) row (x - a) 0 (omega (arith, bounds.0, bounds.1, first)))
    ∙ sym (taken _ _ _ (bounds-lies_in a (a + length (take (done + count) row)) x bounds.0 (omega (arith, bounds.1, first, all)))))
    (λ neither. passed _ _ _ neither
    ∙ sym (passed _ _ _ (outside a (a + length (take (done + count) row)) x (elim (not_inside _ _ x none) [
      | inl lt ↦ elim (not_inside _ _ x neither) [ inl before ↦ inl before | inr behind ↦ absurd (omega (arith, first)) ]
      | inr past ↦ inr (omega (arith, next, all))
    ])))))

-- bytes of a list from an index on, as a slice shows them
pub between_is : (bytes : List ℕ) (i k n : ℕ) → k ≡ n → i + n ≤ length bytes → mid_of i k bytes ≡ bytes_from n bytes i
between_is bytes i k n same fits = ap (λ m. take m (drop i bytes)) same ∙ taken_from n i fits
  where
    taken_from : (n i : ℕ) → i + n ≤ length bytes → take n (drop i bytes) ≡ bytes_from n bytes i
    taken_from zero i fits = refl
    taken_from (suc n) i fits =
        ap (take (suc n)) (drop_more bytes i 0 (omega arith)) ∙ ap (λ rest. get_or bytes i 0 ∷ rest) (taken_from n (i + 1) (omega arith))

-- ---- runs side by side

pub length-run_of : (bytes : ℕ → ℕ) (n a : ℕ) → length (run_of bytes n a) ≡ n
length-run_of bytes zero a = refl
length-run_of bytes (suc n) a = ap suc (length-run_of bytes n (a + 1))

pub run_joined : (bytes : ℕ → ℕ) (m n a : ℕ) → run_of bytes m a ++ run_of bytes n (a + m) ≡ run_of bytes (m + n) a
run_joined bytes zero n a = λ k. run_of bytes (zero_first k) (zero_last k)
  where
    zero_first : n ≡ 0 + n
    zero_first = omega arith

    zero_last : a + 0 ≡ a
    zero_last = omega arith
run_joined bytes (suc m) n a =
    let next : a + suc m ≡ a + 1 + m = omega arith in
    let more : suc (m + n) ≡ suc m + n = omega arith in
    (λ k. bytes a ∷ (run_of bytes m (a + 1) ++ run_of bytes n (next k)))
    ∙ ap (λ row. bytes a ∷ row) (run_joined bytes m n (a + 1))
    ∙ ap (λ j. run_of bytes j a) more

-- ---- numbers of bytes

pub half_number : (a b : ℕ) → from_le_bytes w16 (a ∷ b ∷ []) ≡ number_of_bytes (a ∷ b ∷ [])
half_number a b = omega arith

pub word_number : (a b c d : ℕ) → from_le_bytes w32 (a ∷ b ∷ c ∷ d ∷ []) ≡ number_of_bytes (a ∷ b ∷ c ∷ d ∷ [])
word_number a b c d = omega arith
