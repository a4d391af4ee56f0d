-- Memory whose bytes stand on pages: reads and writes of mapped bytes, and the heap's end when it moves.
use Rattle.std.proofs.Common.{◌≡◌, ℕ, zero, suc, ◌+◌, ◌-◌, ◌*◌, ◌/◌, ◌%◌, ◌^◌, ◌<◌, ◌≤◌, ◌⊎◌, inl, inr, Bool, true, false, cond, eqb, leb, ltb, not, ◌&&◌, ◌||◌}
use Rattle.std.proofs.Common.{List, [], ◌∷◌, length, get_or, Option, Some, None, refl, sym, ap, ◌∙◌, arith, true≢false}
use Rattle.std.proofs.lemmas.Bool.{cases_eq, cases_lt}
use Rattle.std.proofs.lemmas.Bool.Decides.{nat_tests}
use Rattle.ci_elf.specs.declared.segments.Segment.{Segment}
use Rattle.ci_elf.specs.MemoryMap.{memory_top, stack_start, stack_end, most_memory}
use Rattle.ci_machine.specs.declared.spans.Span.{Span}
use Rattle.ci_machine.specs.declared.pages.Pages.{Pages}
use Rattle.ci_machine.specs.Accesses.{addresses, bytes_at, joined, with_bytes}
use Rattle.ci_machine.specs.Programs.{lies_in}
use Rattle.ci_machine.specs.Spans.{in_spans}
use Rattle.ci_machine.specs.Pages.{content, has, room}
use Rattle.ci_machine.specs.PageTables.{missing, run_of, written, zeroed, with_pages, without_pages, pages_to}
use Rattle.ci_machine.specs.Layouts.{heap_limit, mapped_in, IsLaidOut, IsPaged}
use Rattle.ci_machine.specs.Memories.{with_heap_moved}
use Rattle.ci_machine.proofs.TestLaws.{by_test, taken, passed, lies_in-bounds, bounds-lies_in, outside, neither_first, neither_second, or_second}
use Rattle.ci_machine.proofs.ByteLaws.{not_inside}
use Rattle.ci_machine.proofs.AccessLaws.{mod_small}
use Rattle.ci_machine.proofs.MissingPages.{missing_fewer}

-- ---- bytes that are read

-- the memory that has these bytes where they are mapped
abbrev pub shown : (ℕ → Bool) → (ℕ → ℕ) → ℕ → Option ℕ
shown mapped bytes x = cond (mapped x) (Some (bytes x)) None

module _ (mapped : ℕ → Bool) (bytes : ℕ → ℕ) where
  pub run_read : (n a : ℕ) → a + n ≤ 2 ^ 32 → ((k : ℕ) → k < n → mapped (a + k) ≡ true)
      → bytes_at (shown mapped bytes) (addresses n a) ≡ Some (run_of bytes n a)
  run_read zero a fits each = refl
  run_read (suc n) a fits each =
      let here : mapped a ≡ true = ap mapped (omega arith) ∙ each 0 (omega arith) in
      let first : shown mapped bytes (a % 2 ^ 32) ≡ Some (bytes a) =
      ap (shown mapped bytes) (mod_small a (omega arith)) ∙ taken _ _ _ here in
      let more = run_read n (a + 1) (omega arith) (λ k lt. ap mapped (omega arith) ∙ each (k + 1) (omega arith)) in
      λ i. joined (first i) (more i)

-- ---- bytes that are written

-- the memory with bytes from an address on, at each address
with_row : (memory : ℕ → Option ℕ) (row : List ℕ) (a x : ℕ) → a + length row ≤ 2 ^ 32
    → with_bytes memory (addresses (length row) a) row x ≡ cond (lies_in a (a + length row) x) (Some (get_or row (x - a) 0)) (memory x)
with_row memory [] a x fits = sym (passed _ _ _ (outside a (a + 0) x (elim (cases_lt x a) [ inl lt ↦ inl lt | inr from ↦ inr (omega arith) ])))
with_row memory (b ∷ row) a x fits =
    let small = mod_small a (omega arith) in
    elim (cases_eq x a) [
      | inl same ↦
          taken (eqb x (a % 2 ^ 32)) _ _ (equal x (a % 2 ^ 32) (omega (arith, small)))
          ∙ ap (λ j. Some (get_or (b ∷ row) j 0)) {x = 0} {y = x - a} (omega arith)
          ∙ sym (taken _ _ _ (bounds-lies_in a (a + suc (length row)) x (omega arith) (omega arith)))
      | inr apart ↦
          passed (eqb x (a % 2 ^ 32)) _ _ (unequal x (a % 2 ^ 32) (λ e. apart (omega (arith, small))))
          ∙ with_row memory row (a + 1) x (omega arith)
          ∙ by_test (lies_in (a + 1) (a + 1 + length row) x)
          (λ is. let bounds = lies_in-bounds (a + 1) (a + 1 + length row) x is in
          taken _ _ _ is
          ∙ ap (λ j. Some (get_or (b ∷ row) j 0)) {x = suc (x - (a + 1))} {y = x - a} (omega (arith, bounds.0))
          ∙ sym (taken _ _ _ (bounds-lies_in a (a + suc (length row)) x (omega (arith, bounds.0)) (omega (arith, bounds.1)))))
          (λ none. passed _ _ _ none
          ∙ sym (passed _ _ _ (outside a (a + suc (length row)) x (elim (not_inside (a + 1) (a + 1 + length row) x none) [
            | inl lt ↦ inl (omega arith)
            | inr past ↦ inr (omega arith)
          ]))))
    ]
  where
    equal : (m n : ℕ) → m ≡ n → eqb m n ≡ true
    equal m n same = grind (arith, nat_tests)

    unequal : (m n : ℕ) → (m ≡ n → ⊥) → eqb m n ≡ false
    unequal m n apart = grind (arith, nat_tests)

module _ (mapped : ℕ → Bool) (bytes : ℕ → ℕ) (row : List ℕ) (a : ℕ) (fits : a + length row ≤ 2 ^ 32)
    (each : (k : ℕ) → k < length row → mapped (a + k) ≡ true) where
  inside_mapped : (x : ℕ) → lies_in a (a + length row) x ≡ true → mapped x ≡ true
  inside_mapped x is =
      let bounds = lies_in-bounds a (a + length row) x is in
      ap mapped {x = x} {y = a + (x - a)} (omega (arith, bounds.0)) ∙ each (x - a) (omega (arith, bounds.0, bounds.1))

  pub row_written : (x : ℕ) → shown mapped (written bytes a row) x ≡ with_bytes (shown mapped bytes) (addresses (length row) a) row x
  row_written x =
      by_test (lies_in a (a + length row) x)
      (λ is. taken _ _ _ (inside_mapped x is) ∙ ap Some (taken _ _ _ is) ∙ sym (taken _ _ _ is))
      (λ none. ap (λ n. cond (mapped x) (Some n) None) (passed _ _ _ none) ∙ sym (passed _ _ _ none))
      ∙ sym (with_row (shown mapped bytes) row a x fits)

  -- what is not mapped was not written
  pub row_clean : (x : ℕ) → mapped x ≡ false → bytes x ≡ 0 → written bytes a row x ≡ 0
  row_clean x none clean =
      by_test (lies_in a (a + length row) x)
      (λ is. absurd (true≢false (sym (inside_mapped x is) ∙ none)))
      (λ out. passed _ _ _ out ∙ clean)

pub or_true : (b c : Bool) → c ≡ true → (b || c) ≡ true
or_true true c is = refl
or_true false c is = is

-- ---- where the heap may end

-- a heap from the start may end there, where the segments and the stack take so many bytes
abbrev pub fits_there : ℕ → ℕ → ℕ → Bool
fits_there start loaded end =
    leb start end && leb end memory_top && (leb end stack_start || leb stack_end start) && leb (loaded + (end - start)) most_memory

both : (a b : Bool) → (a && b) ≡ true → (a ≡ true) × (b ≡ true)
both true b h = (refl, h)
both false b h = absurd (let e : false ≡ true = h in cc)

pub record IsRoom (start loaded end : ℕ) : Type 0 where
  pub ordered : start ≤ end
  pub top : end ≤ memory_top
  pub clear : (leb end stack_start || leb stack_end start) ≡ true
  pub small : loaded + (end - start) ≤ most_memory

pub room_tells : (start loaded end : ℕ) → fits_there start loaded end ≡ true → IsRoom start loaded end
room_tells start loaded end h =
    let a = both _ _ h in let b = both _ _ a.0 in let c = both _ _ b.0 in
    let first : leb start end ≡ true = c.0 in let second : leb end memory_top ≡ true = c.1 in
    let last : leb (loaded + (end - start)) most_memory ≡ true = a.1 in
    record { ordered = grind (arith, nat_tests); top = grind (arith, nat_tests); clear = b.1; small = grind (arith, nat_tests) }

-- the heap is below the stack or above it
beside : (start end : ℕ) → (leb end stack_start || leb stack_end start) ≡ true → (end ≤ stack_start) ⊎ (stack_end ≤ start)
beside start end h = elim (cases_lt stack_start end) [
  | inl lt ↦ inr (grind (arith, nat_tests))
  | inr le ↦ inl le
]

below_or_stack : (start x : ℕ) → (ltb x start || lies_in stack_start stack_end x) ≡ true → (x < start) ⊎ ((stack_start ≤ x) × (x < stack_end))
below_or_stack start x h = elim (cases_lt x start) [
  | inl lt ↦ inl lt
  | inr from ↦ inr (lies_in-bounds stack_start stack_end x (or_second (ltb x start) _ h (grind (arith, nat_tests))))
]

module _ (spans : List Span) (segments : List Segment) (start old loaded : ℕ) (laid : IsLaidOut spans segments start old loaded) where
  -- no span lies between the heap's start and the last page of a heap that may end there
  pub off_spans : (end x : ℕ) → (leb end stack_start || leb stack_end start) ≡ true → start ≤ x → x < pages_to end * 4096 → in_spans spans x ≡ false
  off_spans end x clear low high =
      by_test (in_spans spans x)
      (λ is. absurd (elim (beside start end clear) [
        | inl under ↦ elim (below_or_stack start x (laid.below x is)) [ inl lt ↦ omega arith | inr in_stack ↦ omega (arith, in_stack.0) ]
        | inr over ↦ elim (below_or_stack start x (laid.below x is)) [ inl lt ↦ omega arith | inr in_stack ↦ omega (arith, in_stack.1) ]
      ]))
      (λ none. none)

  module _ (pages : Pages) (paged : IsPaged pages spans start old loaded) where
    -- ---- a page of the heap is made

    -- it is one of those that the heap may come to meet
    may_meet : (x : ℕ) → lies_in start old x ≡ true → (start / 4096 ≤ x / 4096) × (x / 4096 < pages_to (heap_limit start loaded))
    may_meet x is =
        let bounds = lies_in-bounds start old x is in
        (omega (arith, bounds.0), omega (arith, bounds.1, laid.ordered, laid.top, laid.fits))

    pub room_to_make : (x : ℕ) → lies_in start old x ≡ true → has pages (x / 4096) ≡ false → 0 < room pages
    room_to_make x is none =
        let meets = may_meet x is in
        omega (arith, paged.room, missing_fewer (has pages) (x / 4096) (start / 4096) (pages_to (heap_limit start loaded)) none meets.0 meets.1)

    pub paged_made : (new : Pages) (x : ℕ) → lies_in start old x ≡ true → has pages (x / 4096) ≡ false → content new ≡ content pages
        → has new ≡ with_pages (has pages) (x / 4096) (x / 4096 + 1) → room pages ≡ room new + 1 → IsPaged new spans start old loaded
    paged_made new x is none same added rooms = record {
      covered = λ y there. ap (λ f. f (y / 4096)) added
          ∙ or_true (lies_in (x / 4096) (x / 4096 + 1) (y / 4096)) (has pages (y / 4096)) (paged.covered y there);
      clean = λ y out. ap (λ f. f y) same ∙ paged.clean y out;
      room =
          let meets = may_meet x is in
          omega (
            arith,
            paged.room,
            rooms,
            missing_fewer (has pages) (x / 4096) (start / 4096) (pages_to (heap_limit start loaded)) none meets.0 meets.1,
            ap (λ numbers. missing numbers (start / 4096) (pages_to (heap_limit start loaded))) added,
          );
    }

    -- ---- the end moves up

    module _ (end : ℕ) (may : IsRoom start loaded end) (up : old ≤ end) where
      heap_still : (x : ℕ) → lies_in old end x ≡ false → lies_in start end x ≡ lies_in start old x
      heap_still x none = elim (not_inside old end x none) [
        | inl lt ↦ by_test (lies_in start old x)
            (λ is. bounds-lies_in start end x (lies_in-bounds start old x is).0 (omega arith) ∙ sym is)
            (λ out. elim (not_inside start old x out) [
              | inl before ↦ outside start end x (inl before) ∙ sym out
              | inr past ↦ absurd (omega arith)
            ])
        | inr past ↦ outside start end x (inr past) ∙ sym (outside start old x (inr (omega arith)))
      ]

      -- the bytes that came were 0 all along
      pub moved_up : (x : ℕ) → shown (mapped_in spans start end) (content pages) x
          ≡ with_heap_moved old end (shown (mapped_in spans start old) (content pages)) x
      moved_up x =
          by_test (lies_in old end x)
          (λ is. let bounds = lies_in-bounds old end x is in
          let free : in_spans spans x ≡ false = off_spans end x may.clear (omega (arith, bounds.0, laid.ordered)) (omega (arith, bounds.1)) in
          let was : mapped_in spans start old x ≡ false =
          ap (λ b. b || lies_in start old x) free ∙ outside start old x (inr bounds.0) in
          taken _ _ _ (or_true (in_spans spans x) _ (bounds-lies_in start end x (omega (arith, bounds.0, laid.ordered)) bounds.1))
          ∙ ap Some (paged.clean x was) ∙ sym (taken _ _ _ is))
          (λ none. (λ k. cond (in_spans spans x || heap_still x none k) (Some (content pages x)) None)
          ∙ sym (passed _ _ _ (outside end old x (elim (cases_lt x end) [ inl lt ↦ inl lt | inr past ↦ inr (omega arith) ])))
          ∙ sym (passed _ _ _ none))

      pub laid_up : IsLaidOut spans segments start end loaded
      laid_up = record {
        begins = laid.begins;
        ordered = may.ordered;
        top = may.top;
        clear = λ some. may.clear;
        counted = laid.counted;
        fits = may.small;
        below = laid.below;
      }

      pub paged_up : IsPaged pages spans start end loaded
      paged_up = record {
        covered = paged.covered;
        clean = λ x none. paged.clean x
            (ap (λ b. b || lies_in start old x) (neither_first _ _ none)
            ∙ (elim (not_inside start end x (neither_second _ _ none)) [
              | inl lt ↦ outside start old x (inl lt)
              | inr past ↦ outside start old x (inr (omega arith))
            ]));
        room = paged.room;
      }

    -- ---- the end moves down

    module _ (end : ℕ) (ordered : start ≤ end) (down : end < old) where
      clear_old : (leb old stack_start || leb stack_end start) ≡ true
      clear_old = laid.clear (omega arith)

      module _ (new : Pages) (cleared : content new ≡ zeroed (content pages) end (pages_to old * 4096))
          (gone : has new ≡ without_pages (has pages) (pages_to end) (pages_to old)) where
        heap_less : (x : ℕ) → lies_in end old x ≡ false → lies_in start end x ≡ lies_in start old x
        heap_less x none = elim (not_inside end old x none) [
          | inl lt ↦ by_test (lies_in start end x)
              (λ is. is ∙ sym (bounds-lies_in start old x (lies_in-bounds start end x is).0 (omega arith)))
              (λ out. elim (not_inside start end x out) [
                | inl before ↦ out ∙ sym (outside start old x (inl before))
                | inr past ↦ absurd (omega arith)
              ])
          | inr past ↦ outside start end x (inr (omega arith)) ∙ sym (outside start old x (inr past))
        ]

        -- what is still mapped is not cleared
        still : (x : ℕ) → lies_in end old x ≡ false → mapped_in spans start old x ≡ true → lies_in end (pages_to old * 4096) x ≡ false
        still x none is =
            by_test (lies_in end (pages_to old * 4096) x)
            (λ inside. let bounds = lies_in-bounds end (pages_to old * 4096) x inside in
            elim (not_inside end old x none) [
              | inl lt ↦ absurd (omega (arith, bounds.0))
              | inr past ↦ absurd (true≢false (sym is
                  ∙ ap (λ b. b || lies_in start old x) (off_spans old x clear_old (omega arith) bounds.1)
                  ∙ outside start old x (inr past)))
            ])
            (λ out. out)

        pub moved_down : (x : ℕ) → shown (mapped_in spans start end) (content new) x
            ≡ with_heap_moved old end (shown (mapped_in spans start old) (content pages)) x
        moved_down x =
            by_test (lies_in end old x)
            (λ is. let bounds = lies_in-bounds end old x is in
            passed _ _ _ (ap (λ b. b || lies_in start end x) (off_spans old x clear_old (omega (arith, bounds.0)) (omega (arith, bounds.1)))
            ∙ outside start end x (inr bounds.0))
            ∙ sym (taken _ _ _ is) ∙ sym (passed _ _ _ (outside old end x (inr (omega (arith, bounds.0))))))
            (λ none. ap (λ b. cond (in_spans spans x || b) (Some (content new x)) None) (heap_less x none)
            ∙ by_test (mapped_in spans start old x)
            (λ is. taken _ _ _ is ∙ ap Some (ap (λ f. f x) cleared ∙ passed _ _ _ (still x none is)) ∙ sym (taken _ _ _ is))
            (λ out. passed _ _ _ out ∙ sym (passed _ _ _ out))
            ∙ sym (passed _ _ _ none)
            ∙ sym (passed _ _ _ (outside old end x (elim (cases_lt x old) [ inl lt ↦ inl lt | inr past ↦ inr (omega arith) ]))))

        pub laid_down : IsLaidOut spans segments start end loaded
        laid_down = record {
          begins = laid.begins;
          ordered = ordered;
          top = omega (arith, laid.top);
          clear = λ some. less_clear start end old (omega arith) clear_old;
          counted = laid.counted;
          fits = omega (arith, laid.fits);
          below = laid.below;
        }
          where
            less_clear : (start end old : ℕ) → end ≤ old → (leb old stack_start || leb stack_end start) ≡ true
                → (leb end stack_start || leb stack_end start) ≡ true
            less_clear start end old le clear = grind (arith, nat_tests)

        kept_page : (n : ℕ) → (n < pages_to end) ⊎ (pages_to old ≤ n) → has pages n ≡ true → has new n ≡ true
        kept_page n out was = ap (λ f. f n) gone ∙ (λ k. not (outside (pages_to end) (pages_to old) n out k) && was k)

        span_page : (x : ℕ) → in_spans spans x ≡ true → (x / 4096 < pages_to end) ⊎ (pages_to old ≤ x / 4096)
        span_page x is = elim (cases_lt (x / 4096) (pages_to end)) [
          | inl lt ↦ inl lt
          | inr from ↦ inr (elim (cases_lt (x / 4096) (pages_to old)) [
            | inl lt ↦ absurd (true≢false (sym is ∙ off_spans old x clear_old (omega arith) (omega arith)))
            | inr past ↦ past
          ])
        ]

        pub paged_down : ((low high : ℕ) → missing (has new) low high + room pages ≤ missing (has pages) low high + room new)
            → IsPaged new spans start end loaded
        paged_down rooms = record {
          covered = λ x is. kept_page (x / 4096) (span_page x is) (paged.covered x is);
          clean = λ x none. ap (λ f. f x) cleared
              ∙ by_test (lies_in end (pages_to old * 4096) x)
              (λ is. taken _ _ _ is)
              (λ out. passed _ _ _ out ∙ paged.clean x (was_none x none out));
          room = omega (arith, paged.room, rooms (start / 4096) (pages_to (heap_limit start loaded)));
        }
          where
            was_none : (x : ℕ) → mapped_in spans start end x ≡ false → lies_in end (pages_to old * 4096) x ≡ false → mapped_in spans start old x ≡ false
            was_none x none out =
                ap (λ b. b || lies_in start old x) (neither_first (in_spans spans x) (lies_in start end x) none)
                ∙ elim (not_inside start end x (neither_second (in_spans spans x) (lies_in start end x) none)) [
                  | inl lt ↦ outside start old x (inl lt)
                  | inr past ↦ outside start old x (inr (elim (not_inside end (pages_to old * 4096) x out) [
                    | inl lt ↦ absurd (omega arith)
                    | inr behind ↦ omega arith
                  ]))
                ]

pub or_first : (b c : Bool) → b ≡ true → (b || c) ≡ true
or_first true c is = refl
or_first false c is = absurd (true≢false (sym is))
