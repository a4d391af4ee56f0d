-- Where the segments of a file lie, how much they take, and what they load.
use Rattle.std.proofs.Common.{◌≡◌, ℕ, zero, suc, ◌+◌, ◌-◌, ◌*◌, ◌/◌, ◌<◌, ◌≤◌, ◌⊎◌, inl, inr, Bool, true, false, ◌||◌, cond, List, [], ◌∷◌, ◌++◌}
use Rattle.std.proofs.Common.{map, length, get_or, take, drop, refl, sym, ap, subst, ◌∙◌, arith, Some, None, true≢false}
use Rattle.std.specs.Prelude.{nat_lt, slice_index}
use Rattle.std.proofs.lemmas.Bool.{lt-ltb}
use Rattle.std.proofs.lemmas.Bool.Decides.{nat_tests}
use Rattle.std.proofs.lemmas.List.{drop_more, take_more}
use Rattle.std.proofs.lemmas.List.Sorted.{sum_by-IsPermutation}
use Rattle.std.proofs.lemmas.List.Sums.{sum_by-cons, sum_by_more_le}
use Rattle.std.specs.List.Sorted.{IsPermutation}
use Rattle.std.proofs.lemmas.List.Elements.{Contains-get_or}
use Rattle.std.specs.List.{AllPairs, Contains, sum_by}
use Rattle.ci_elf.specs.declared.segments.Segment.{Segment}
use Rattle.ci_elf.specs.Executables.{Executable, IsWellFormed, ShareNoMemory}
use Rattle.ci_elf.specs.MemoryMap.{memory_top, stack_start, stack_size, stack_end, most_memory}
use Rattle.ci_elf.proofs.ImageLaws.{contains_tail}
use Rattle.ci_machine.specs.private.Loading.{holders, in_segments, loaded_content}
use Rattle.ci_machine.specs.PageTables.{written}
use Rattle.ci_machine.specs.Programs.{extent_of, lies_in, maximum_end, loaded_memory, loaded_size}
use Rattle.ci_machine.proofs.MemoryLaws.{or_true}
use Rattle.ci_machine.proofs.TestLaws.{by_test, lies_in-bounds, taken, passed, neither_first, neither_second, or_second}

ends_below : (segments : List Segment) (top : ℕ)
    → ((s : Segment) → Contains segments s → s.address + s.memory_size ≤ top)
    → maximum_end (map extent_of segments) ≤ top
ends_below [] top each = omega arith
ends_below (s ∷ ss) top each =
    omega (arith, each s (0, omega arith, refl), ends_below ss top (λ t c. each t (contains_tail s ss t c)))

size_counted : (segments : List Segment)
    → loaded_size (map extent_of segments) ≡ sum_by (λ s. s.memory_size) segments + stack_size
size_counted [] = refl
size_counted (s ∷ ss) = omega (arith, size_counted ss, sum_by-cons (λ (t : Segment). t.memory_size) s ss)

module _ (file : Executable) (formed : IsWellFormed file) where
  pub segments_end : maximum_end (map extent_of file.segments) ≤ memory_top
  segments_end = ends_below file.segments memory_top formed.below_top

  pub segments_fit : loaded_size (map extent_of file.segments) ≤ most_memory
  segments_fit = omega (arith, size_counted file.segments, formed.bounded)

-- ---- which segments have an address

abbrev covers : Segment → ℕ → Bool
covers s x = lies_in s.address (s.address + s.memory_size) x

abbrev IsOffStack : Segment → Type 0
IsOffStack s = (s.address + s.memory_size ≤ stack_start) ⊎ (stack_end ≤ s.address)

missed : (s t : Segment) (x : ℕ) → ShareNoMemory s t → covers s x ≡ true → covers t x ≡ false
missed s t x (inl h) is = grind (arith, nat_tests)
missed s t x (inr h) is = grind (arith, nat_tests)

off_stack : (s : Segment) (x : ℕ) → IsOffStack s → covers s x ≡ true → lies_in stack_start stack_end x ≡ false
off_stack s x (inl h) is = grind (arith, nat_tests)
off_stack s x (inr h) is = grind (arith, nat_tests)

none_covers : (segments : List Segment) (x : ℕ) → ((i : ℕ) (d : Segment) → i < length segments → covers (get_or segments i d) x ≡ false)
    → in_segments segments x ≡ false
none_covers [] x none = refl
none_covers (s ∷ ss) x none =
    λ k. none 0 s (omega arith) k || none_covers ss x (λ i d lt. none (suc i) d (omega arith)) k

segment_behind : (segments : List Segment) (s : Segment) (x : ℕ) → in_segments (segments ++ s ∷ []) x ≡ (covers s x || in_segments segments x)
segment_behind [] s x = refl
segment_behind (t ∷ ts) s x =
    ap (λ b. covers t x || b) (segment_behind ts s x) ∙ exchanged (covers t x) (covers s x) (in_segments ts x)
  where
    exchanged : (a b c : Bool) → (a || (b || c)) ≡ (b || (a || c))
    exchanged true true c = refl
    exchanged true false c = refl
    exchanged false b c = refl

-- what one of them has, they have
pub held_at : (segments : List Segment) (i : ℕ) (d : Segment) → i < length segments → (x : ℕ) → covers (get_or segments i d) x ≡ true
    → in_segments segments x ≡ true
held_at [] i d lt x is = absurd (omega arith)
held_at (s ∷ ss) zero d lt x is = ap (λ b. b || in_segments ss x) is
held_at (s ∷ ss) (suc i) d lt x is = or_true (covers s x) (in_segments ss x) (held_at ss i d (omega arith) x is)

-- where one segment more is put in
pub segment_more : (segments : List Segment) (i : ℕ) (d : Segment) → i < length segments → (x : ℕ) (before rest : Bool)
    → before ≡ (in_segments (take i segments) x || rest)
    → (covers (get_or segments i d) x || before) ≡ (in_segments (take (i + 1) segments) x || rest)
segment_more segments i d lt x before rest is =
    ap (λ b. covers (get_or segments i d) x || b) is
    ∙ associated (covers (get_or segments i d) x) (in_segments (take i segments) x) rest
    ∙ ap (λ b. b || rest)
    (sym (segment_behind (take i segments) (get_or segments i d) x) ∙ ap (λ ss. in_segments ss x) (sym (take_more segments i d lt)))
  where
    associated : (a b c : Bool) → (a || (b || c)) ≡ ((a || b) || c)
    associated true b c = refl
    associated false b c = refl

-- ---- how many segments have an address

zero_of : (n : ℕ) → nat_lt 0 n ≡ false → n ≡ 0
zero_of n none = grind (arith, nat_tests)

of_zero : (n : ℕ) → n ≡ 0 → nat_lt 0 n ≡ false
of_zero n none = grind (arith, nat_tests)

module _ (x : ℕ) where
  abbrev counted : Segment → ℕ
  counted s = cond (covers s x) 1 0

  held_by : (segments : List Segment) → in_segments segments x ≡ nat_lt 0 (holders segments x)
  held_by [] = refl
  held_by (s ∷ ss) =
      let more = sum_by-cons counted s ss in
      let rest = held_by ss in
      by_test (covers s x)
      (λ is. rw (more, is) (grind (arith, nat_tests)))
      (λ none. rw (more, none) (grind (arith, nat_tests)))

  -- no address is two segments'
  at_most_one : (segments : List Segment) → AllPairs ShareNoMemory segments → holders segments x ≤ 1
  at_most_one [] apart = omega arith
  at_most_one (s ∷ ss) apart =
      let more = sum_by-cons counted s ss in
      by_test (covers s x)
      (λ is. let none = none_covers ss x (λ i d lt. missed s (get_or ss i d) x (apart 0 (suc i) d (omega arith) (omega arith)) is) in
      omega (arith, more, ap {B = ℕ} (λ (b : Bool). cond b 1 0) is, zero_of (holders ss x) (sym (held_by ss) ∙ none)))
      (λ none. omega (arith, more, ap {B = ℕ} (λ (b : Bool). cond b 1 0) none, at_most_one ss (λ i j d lt end. apart (suc i) (suc j) d (omega arith) (omega arith))))

  pub one_apart : (segments : List Segment) (i : ℕ) (d : Segment) → i < length segments → holders segments x ≤ 1
      → covers (get_or segments i d) x ≡ true → in_segments (take i segments) x ≡ false
  one_apart segments i d lt one is =
      held_by (take i segments)
      ∙ of_zero _ (omega (arith, one, sum_by_more_le counted segments i d lt, ap {B = ℕ} (λ (b : Bool). cond b 1 0) is))

  -- the order of the segments counts for nothing
  module _ (segments others : List Segment) (same : IsPermutation segments others) where
    pub same_holders : holders others x ≡ holders segments x
    same_holders = sum_by-IsPermutation counted segments others same

    pub same_held : in_segments others x ≡ in_segments segments x
    same_held = held_by others ∙ ap (nat_lt 0) same_holders ∙ sym (held_by segments)

module _ (file : Executable) (formed : IsWellFormed file) where
  pub one_holder : (x : ℕ) → holders file.segments x ≤ 1
  one_holder x = at_most_one x file.segments formed.apart

  held_off_stack : (segments : List Segment) (x : ℕ) → ((s : Segment) → Contains segments s → IsOffStack s)
      → in_segments segments x ≡ true → lies_in stack_start stack_end x ≡ false
  held_off_stack [] x off is = absurd (true≢false (sym is))
  held_off_stack (s ∷ ss) x off is =
      by_test (covers s x)
      (λ here. off_stack s x (off s (0, omega arith, refl)) here)
      (λ none. held_off_stack ss x (λ t c. off t (contains_tail s ss t c)) (or_second (covers s x) (in_segments ss x) is none))

  pub beside_stack : (x : ℕ) → in_segments file.segments x ≡ true → lies_in stack_start stack_end x ≡ false
  beside_stack x is = held_off_stack file.segments x formed.off_stack is

-- ---- the bytes that segments load

module _ (bytes : List ℕ) (x : ℕ) where
  loaded_none : (segments : List Segment) → ((s : Segment) → Contains segments s → s.file_size ≤ s.memory_size)
      → in_segments segments x ≡ false → loaded_content bytes segments x ≡ 0
  loaded_none [] filled none = refl
  loaded_none (s ∷ ss) filled none =
      passed _ _ _ (short s (filled s (0, omega arith, refl)) (neither_first (covers s x) (in_segments ss x) none))
      ∙ loaded_none ss (λ t c. filled t (contains_tail s ss t c)) (neither_second (covers s x) (in_segments ss x) none)
    where
      short : (s : Segment) → s.file_size ≤ s.memory_size → covers s x ≡ false → lies_in s.address (s.address + s.file_size) x ≡ false
      short s le none = grind (arith, nat_tests)

  -- the first segment that has an address gives its byte
  opening_at : (segments : List Segment) → ((s : Segment) → Contains segments s → s.file_size ≤ s.memory_size)
      → AllPairs ShareNoMemory segments
      → cond (in_segments segments x || lies_in stack_start stack_end x) (Some (loaded_content bytes segments x)) None
      ≡ loaded_memory bytes segments x
  opening_at [] filled apart = refl
  opening_at (s ∷ ss) filled apart =
      by_test (covers s x)
      (λ is. let bounds = lies_in-bounds s.address (s.address + s.memory_size) x is in
      ap (λ b. cond (b || in_segments ss x || lies_in stack_start stack_end x) (Some (loaded_content bytes (s ∷ ss) x)) None) is
      ∙ ap Some (by_test (lies_in s.address (s.address + s.file_size) x)
      (λ there. let within = lies_in-bounds s.address (s.address + s.file_size) x there in
      taken _ _ _ there ∙ sym (taken _ _ _ (lt-ltb (x - s.address) s.file_size (omega (arith, within.0, within.1)))))
      (λ behind. passed _ _ _ behind
      ∙ loaded_none ss (λ t c. filled t (contains_tail s ss t c))
      (none_covers ss x (λ i d lt. missed s (get_or ss i d) x (apart 0 (suc i) d (omega arith) (omega arith)) is))
      ∙ sym (passed _ _ _ (past s (bounds.0) behind))))
      ∙ sym (taken _ _ _ is))
      (λ none. (λ k. cond ((none k || in_segments ss x) || lies_in stack_start stack_end x)
      (Some (cond (short s (filled s (0, omega arith, refl)) none k) (slice_index bytes (s.offset + (x - s.address))) (loaded_content bytes ss x))) None)
      ∙ opening_at ss (λ t c. filled t (contains_tail s ss t c)) (λ i j d lt end. apart (suc i) (suc j) d (omega arith) (omega arith))
      ∙ sym (passed _ _ _ none))
    where
      short : (s : Segment) → s.file_size ≤ s.memory_size → covers s x ≡ false → lies_in s.address (s.address + s.file_size) x ≡ false
      short s le none = grind (arith, nat_tests)

      past : (s : Segment) → s.address ≤ x → lies_in s.address (s.address + s.file_size) x ≡ false → nat_lt (x - s.address) s.file_size ≡ false
      past s low none = grind (arith, nat_tests)

  -- the part of the file of one segment more was written
  pub loaded_step : (segments : List Segment) (i : ℕ) (d : Segment) (part : List ℕ) (before : ℕ → ℕ) → i < length segments
      → length part ≡ (get_or segments i d).file_size
      → ((k : ℕ) → k < (get_or segments i d).file_size → get_or part k 0 ≡ get_or bytes ((get_or segments i d).offset + k) 0)
      → before x ≡ loaded_content bytes (drop (i + 1) segments) x
      → written before (get_or segments i d).address part x ≡ loaded_content bytes (drop i segments) x
  loaded_step segments i d part before lt size each is =
      let s = get_or segments i d in
      ap (λ n. cond (lies_in s.address (s.address + n) x) (get_or part (x - s.address) 0) (before x)) size
      ∙ by_test (lies_in s.address (s.address + s.file_size) x)
      (λ there. let bounds = lies_in-bounds s.address (s.address + s.file_size) x there in
      taken _ _ _ there ∙ each (x - s.address) (omega (arith, bounds.0, bounds.1)) ∙ sym (taken _ _ _ there))
      (λ none. passed _ _ _ none ∙ is ∙ sym (passed _ _ _ none))
      ∙ ap (λ ss. loaded_content bytes ss x) (sym (drop_more segments i d lt))

-- ---- the memory in which a run opens

module _ (file : Executable) (formed : IsWellFormed file) where
  pub opening_is : (x : ℕ) → cond (in_segments file.segments x || lies_in stack_start stack_end x) (Some (loaded_content file.bytes file.segments x)) None
      ≡ loaded_memory file.bytes file.segments x
  opening_is x = opening_at file.bytes x file.segments formed.filled formed.apart

  pub opening_clean : (x : ℕ) → in_segments file.segments x ≡ false → loaded_content file.bytes file.segments x ≡ 0
  opening_clean x none = loaded_none file.bytes x file.segments formed.filled none

  covered_below : (segments : List Segment) (x : ℕ) → in_segments segments x ≡ true → x < maximum_end (map extent_of segments)
  covered_below [] x is = absurd (true≢false (sym is))
  covered_below (s ∷ ss) x is =
      by_test (covers s x)
      (λ here. omega (arith, (lies_in-bounds s.address (s.address + s.memory_size) x here).1))
      (λ none. omega (arith, covered_below ss x (or_second (covers s x) (in_segments ss x) is none)))

  pub opening_below : (start x : ℕ) → start ≡ (maximum_end (map extent_of file.segments) + 15) / 16 * 16
      → (in_segments file.segments x || lies_in stack_start stack_end x) ≡ true
      → (nat_lt x start || lies_in stack_start stack_end x) ≡ true
  opening_below start x begins is =
      by_test (in_segments file.segments x)
      (λ here. ap (λ b. b || lies_in stack_start stack_end x) (lt-ltb x start (omega (arith, covered_below file.segments x here, begins))))
      (λ none. or_true (nat_lt x start) (lies_in stack_start stack_end x) (or_second (in_segments file.segments x) (lies_in stack_start stack_end x) is none))

  -- what is known of a segment that was read from the list
  pub record IsSegment (s : Segment) : Type 0 where
    pub filled : s.file_size ≤ s.memory_size
    pub some : 0 < s.memory_size
    pub top : s.address + s.memory_size ≤ memory_top
    pub held : (x : ℕ) → covers s x ≡ true → in_segments file.segments x ≡ true

  pub segment_read : (items : List Segment) (i : ℕ) (d : Segment) → items ≡ file.segments → i < length items → IsSegment (get_or items i d)
  segment_read items i d same lt =
      let P : List Segment → Type 0 = λ ss. IsSegment (get_or ss i d) in
      let below : i < length file.segments = subst (λ ss. i < length ss) same lt in
      let among = Contains-get_or file.segments i d below in
      subst P (sym same) (record {
        filled = formed.filled _ among;
        some = formed.has_memory _ among;
        top = formed.below_top _ among;
        held = held_at file.segments i d below;
      })
