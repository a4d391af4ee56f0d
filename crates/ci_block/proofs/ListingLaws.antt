-- Leaders listed word after word: each further word is listed or not.
use Rattle.std.proofs.Common.{◌≡◌, ℕ, ◌+◌, ◌*◌, ◌%◌, ◌<◌, ◌≤◌, ◌⊎◌, inl, inr, List, [], ◌∷◌, ◌++◌, length, get_or, subst, arith}
use Rattle.std.specs.Prelude.{Option, Some, None, IfSome}
use Rattle.std.specs.List.{Contains}
use Rattle.std.proofs.lemmas.Bool.{cases_lt}
use Rattle.std.proofs.lemmas.List.Elements.{Contains-append_left, Contains-get_or, Contains-push, Contains-push_cases}
use Rattle.std.proofs.lemmas.List.Quantifiers.{all_pairs_push}
use Rattle.ci_elf.specs.declared.ranges.Range.{Range}
use Rattle.ci_elf.specs.Executables.{IsTextWord, end_of}
use Rattle.ci_elf.specs.MemoryMap.{memory_top}
use Rattle.ci_block.specs.private.Marking.{range_at, AreTextRanges}
use Rattle.ci_block.specs.private.Listing.{IsFull, IsFullBefore, IsLastFrom, IsListedBelow}
use Rattle.ci_block.proofs.RangeLaws.{apart, before_first, between, held_at, one_range, word_of_range}

module _ (ranges : List Range) (leaders : List ℕ) (limit : ℕ) where
  -- a further leader changes nothing up to its own address
  pub full_still : (a : ℕ) → a ≤ limit → IsFull ranges leaders a → IsFull ranges (leaders ++ limit ∷ []) a
  full_still a h f = record {
    leader = f.leader;
    listed = Contains-append_left leaders (limit ∷ []) f.leader f.listed;
    distance = f.distance;
    nearest = λ b l m c. elim (Contains-push_cases leaders limit b c) [ inl d ↦ f.nearest b l m d | inr e ↦ omega arith ];
    index = f.index;
    from = f.from;
    to = f.to;
  }

  pub full_before : (a : ℕ) → a ≤ limit → IsFull ranges (leaders ++ limit ∷ []) a → IsFull ranges leaders a
  full_before a h f = record {
    leader = f.leader;
    listed = elim (Contains-push_cases leaders limit f.leader f.listed) [ inl d ↦ d | inr e ↦ absurd (omega (arith, f.distance)) ];
    distance = f.distance;
    nearest = λ b l m c. f.nearest b l m (Contains-append_left leaders (limit ∷ []) b c);
    index = f.index;
    from = f.from;
    to = f.to;
  }

module _ (ranges : List Range) (P : ℕ → Type 0) (leaders : List ℕ) (limit : ℕ) (so_far : IsListedBelow ranges P limit leaders) where
  -- no leader lies from the limit to the next one
  pub skipped : (next : ℕ) → limit ≤ next
      → ((a : ℕ) → limit ≤ a → a < next → IsTextWord ranges a → ¬ (P a ⊎ IsFull ranges leaders a))
      → IsListedBelow ranges P next leaders
  skipped next h none = record {
    ascending = so_far.ascending;
    below = λ a c. omega (arith, so_far.below a c);
    text = so_far.text;
    ruled = so_far.ruled;
    complete = λ a l t r. elim (cases_lt a limit) [
      | inl m ↦ so_far.complete a m t r
      | inr m ↦ absurd (none a m l t r)
    ];
  }

  -- the word at the limit is none
  pub passed : limit % 4 ≡ 0 → ¬ P limit → ¬ IsFull ranges leaders limit → IsListedBelow ranges P (limit + 4) leaders
  passed aligned not_marked not_full = skipped (limit + 4) (omega arith) (λ a h l t r.
      let same : a ≡ limit = omega (arith, t.0) in
      elim r [ inl p ↦ not_marked (subst P same p) | inr f ↦ not_full (subst (IsFull ranges leaders) same f) ])

  -- the word at the limit is the next leader
  pub pushed : IsTextWord ranges limit → P limit ⊎ (¬ P limit × IsFull ranges leaders limit)
      → IsListedBelow ranges P (limit + 1) (leaders ++ limit ∷ [])
  pushed text rule = record {
    ascending = all_pairs_push (λ a b. a < b) leaders limit so_far.ascending
        (λ k d h. so_far.below (get_or leaders k d) (Contains-get_or leaders k d h));
    below = λ a c. elim (Contains-push_cases leaders limit a c) [ inl d ↦ omega (arith, so_far.below a d) | inr e ↦ omega arith ];
    text = λ a c. elim (Contains-push_cases leaders limit a c) [ inl d ↦ so_far.text a d | inr e ↦ subst (IsTextWord ranges) e text ];
    ruled = λ a c. elim (Contains-push_cases leaders limit a c) [
      | inl d ↦ elim (so_far.ruled a d) [
        | inl p ↦ inl p
        | inr f ↦ let low = so_far.below a d in inr (f.0, full_still ranges leaders limit a (omega arith) f.1)
      ]
      | inr e ↦ elim rule [
        | inl p ↦ inl (subst P e p)
        | inr f ↦ inr (subst (λ x. ¬ P x × IsFull ranges (leaders ++ limit ∷ []) x) e (f.0, full_still ranges leaders limit limit (omega arith) f.1))
      ]
    ];
    complete = λ a h t r. elim (cases_lt a limit) [
      | inl l ↦ Contains-append_left leaders (limit ∷ []) a (so_far.complete a l t (elim r [
        | inl p ↦ inl p
        | inr f ↦ inr (full_before ranges leaders limit a (omega arith) f)
      ]))
      | inr l ↦ let same : limit ≡ a = omega arith in subst (Contains (leaders ++ limit ∷ [])) same (Contains-push leaders limit)
    ];
  }

-- the word at the limit is the next leader, and no other word lies before the one behind it
pub added : (ranges : List Range) (P : ℕ → Type 0) (leaders : List ℕ) (limit : ℕ) → IsListedBelow ranges P limit leaders
    → IsTextWord ranges limit → P limit ⊎ (¬ P limit × IsFull ranges leaders limit)
    → IsListedBelow ranges P (limit + 4) (leaders ++ limit ∷ [])
added ranges P leaders limit so_far text rule =
    skipped ranges P (leaders ++ limit ∷ []) (limit + 1) (pushed ranges P leaders limit so_far text rule) (limit + 4) (omega arith)
    (λ a h l t r. absurd (omega (arith, t.0, text.0)))

-- ---- full blocks, by the last leader of the range

module _ (ranges : List Range) (text : AreTextRanges ranges) (P : ℕ → Type 0) (leaders : List ℕ) (i word : ℕ)
    (within : word < (range_at ranges i).words)
    (so_far : IsListedBelow ranges P ((range_at ranges i).start + 4 * word) leaders) where
  pub full_from : (last : Option ℕ) → IsLastFrom (range_at ranges i).start leaders last → IsFullBefore last word
      → IsFull ranges leaders ((range_at ranges i).start + 4 * word)
  full_from None is full = absurd full
  full_from (Some last) is full = record {
    leader = (range_at ranges i).start + 4 * last;
    listed = is.0;
    distance = omega arith;
    nearest = λ a h l c. omega (arith, is.1 a c);
    index = i;
    from = omega arith;
    to = omega arith;
  }

  pub from_full : (last : Option ℕ) → IsLastFrom (range_at ranges i).start leaders last
      → IsFull ranges leaders ((range_at ranges i).start + 4 * word) → IsFullBefore last word
  from_full last is f =
      let here = (range_at ranges i).start + 4 * word in
      let same : f.index ≡ i = one_range ranges text here f.index i (held_at ranges here f.index (omega (arith, f.from, f.distance)) f.to)
      (held_at ranges here i (omega arith) (omega arith)) in
      go last is (subst (λ k. (range_at ranges k).start ≤ f.leader) same f.from)
    where
      go : (last : Option ℕ) → IsLastFrom (range_at ranges i).start leaders last → (range_at ranges i).start ≤ f.leader → IsFullBefore last word
      go None is from = absurd (omega (arith, is f.leader f.listed))
      go (Some last) is from = elim (cases_lt f.leader ((range_at ranges i).start + 4 * last)) [
        | inl l ↦ absurd (f.nearest ((range_at ranges i).start + 4 * last) l (so_far.below ((range_at ranges i).start + 4 * last) is.0) is.0)
        | inr l ↦ omega (arith, is.1 f.leader f.listed, f.distance)
      ]

-- ---- word after word of a range

-- the leaders before this word of the range that begins here are listed, and this is the last of them in the range
pub record IsListedTo (ranges : List Range) (P : ℕ → Type 0) (start word : ℕ) (last : Option ℕ) (leaders : List ℕ) : Type 0 where
  pub so_far : IsListedBelow ranges P (start + 4 * word) leaders
  pub latest : IsLastFrom start leaders last
  pub earlier : IfSome last (λ w. w < word)

pub none_listed : (ranges : List Range) (P : ℕ → Type 0) (start : ℕ) (leaders : List ℕ) → IsListedBelow ranges P start leaders
    → IsListedTo ranges P start 0 None leaders
none_listed ranges P start leaders so_far = record {
  so_far = let same : start ≡ start + 4 * 0 = omega arith in subst (λ limit. IsListedBelow ranges P limit leaders) same so_far;
  latest = so_far.below;
  earlier = tt;
}

module _ (ranges : List Range) (text : AreTextRanges ranges) (P : ℕ → Type 0) (leaders : List ℕ) (i word : ℕ) (last : Option ℕ)
    (within : word < (range_at ranges i).words)
    (listed : IsListedTo ranges P (range_at ranges i).start word last leaders) where
  one_more : (range_at ranges i).start + 4 * word + 4 ≡ (range_at ranges i).start + 4 * (word + 1)
  one_more = omega arith

  pub word_added : P ((range_at ranges i).start + 4 * word) ⊎ (¬ P ((range_at ranges i).start + 4 * word) × IsFullBefore last word)
      → IsListedTo ranges P (range_at ranges i).start (word + 1) (Some word) (leaders ++ ((range_at ranges i).start + 4 * word) ∷ [])
  word_added rule = record {
    so_far = subst (λ limit. IsListedBelow ranges P limit (leaders ++ ((range_at ranges i).start + 4 * word) ∷ [])) one_more
        (added ranges P leaders ((range_at ranges i).start + 4 * word) listed.so_far (word_of_range ranges text i word within) (elim rule [
          | inl p ↦ inl p
          | inr f ↦ inr (f.0, full_from ranges text P leaders i word within listed.so_far last listed.latest f.1)
        ]));
    latest = (
      Contains-push leaders ((range_at ranges i).start + 4 * word),
      λ a c. elim (Contains-push_cases leaders ((range_at ranges i).start + 4 * word) a c) [
        | inl d ↦ omega (arith, listed.so_far.below a d)
        | inr e ↦ omega arith
      ],
    );
    earlier = omega arith;
  }

  pub word_passed : ¬ P ((range_at ranges i).start + 4 * word) → ¬ IsFullBefore last word
      → IsListedTo ranges P (range_at ranges i).start (word + 1) last leaders
  word_passed not_marked not_full = record {
    so_far = subst (λ limit. IsListedBelow ranges P limit leaders) one_more
        (passed ranges P leaders ((range_at ranges i).start + 4 * word) listed.so_far (word_of_range ranges text i word within).0 not_marked
        (λ f. not_full (from_full ranges text P leaders i word within listed.so_far last listed.latest f)));
    latest = listed.latest;
    earlier = still last listed.earlier;
  }
    where
      still : (last : Option ℕ) → IfSome last (λ w. w < word) → IfSome last (λ w. w < word + 1)
      still None h = tt
      still (Some w) h = omega arith

-- ---- range after range

-- the leaders of the ranges before this one are listed
pub record AreListedBefore (ranges : List Range) (P : ℕ → Type 0) (i : ℕ) (leaders : List ℕ) : Type 0 where
  pub more : i < length ranges → IsListedBelow ranges P (range_at ranges i).start leaders
  pub all : length ranges ≤ i → IsListedBelow ranges P memory_top leaders

module _ (ranges : List Range) (text : AreTextRanges ranges) (P : ℕ → Type 0) where
  nothing_listed : IsListedBelow ranges P 0 []
  nothing_listed = record {
    ascending = λ i j d h l. absurd (omega arith);
    below = λ a c. absurd (omega (arith, c.1));
    text = λ a c. absurd (omega (arith, c.1));
    ruled = λ a c. absurd (omega (arith, c.1));
    complete = λ a h t r. absurd (omega arith);
  }

  pub before_ranges : AreListedBefore ranges P 0 []
  before_ranges = record {
    more = λ h. skipped ranges P [] 0 nothing_listed (range_at ranges 0).start (omega arith)
        (λ a l m t r. before_first ranges text a (λ _. m) t.1);
    all = λ h. skipped ranges P [] 0 nothing_listed memory_top (omega arith)
        (λ a l m t r. before_first ranges text a (λ some. absurd (omega arith)) t.1);
  }

  pub range_listed : (i : ℕ) (leaders : List ℕ) → i < length ranges → IsListedBelow ranges P (end_of (range_at ranges i)) leaders
      → AreListedBefore ranges P (i + 1) leaders
  range_listed i leaders within so_far = record {
    more = λ h. skipped ranges P leaders (end_of (range_at ranges i)) so_far (range_at ranges (i + 1)).start
        (apart ranges text i (i + 1) (omega arith) h) (λ a l m t r. between ranges text i a within l (λ _. m) t.1);
    all = λ h. skipped ranges P leaders (end_of (range_at ranges i)) so_far memory_top
        (text.below_top i) (λ a l m t r. between ranges text i a within l (λ more. absurd (omega arith)) t.1);
  }
