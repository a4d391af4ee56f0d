-- Blocks as stretches from a leader to the next one.
use Rattle.std.proofs.Common.{◌≡◌, ℕ, ◌+◌, ◌-◌, ◌*◌, ◌/◌, ◌<◌, ◌≤◌, inl, inr, min, Bool, true, false, List, [], ◌∷◌}
use Rattle.std.proofs.Common.{◌++◌, length, map, get_or, refl, sym, ◌∙◌, ap, subst, arith, length-append}
use Rattle.std.specs.List.{AllPairs, Contains}
use Rattle.std.proofs.lemmas.Bool.{cases_lt}
use Rattle.std.proofs.lemmas.List.{get_or_append_left, get_or_default, get_or-map, length-map, map-append, take_all, take_more}
use Rattle.std.proofs.Math.Seq.{get_or-append_seam}
use Rattle.std.proofs.lemmas.List.Elements.{Contains-get_or, Contains-push_cases}
use Rattle.ci_isa.specs.declared.instruction.Insn.{Insn}
use Rattle.ci_elf.specs.Executables.{Executable, IsTextWord}
use Rattle.ci_block.specs.declared.blocks.Block.{Block}
use Rattle.ci_block.specs.Blocks.{IsBlockAt, at_end_of_range, at_leader, end_of_block, size_of, AreBlocks, AreInOrder}
use Rattle.ci_block.specs.Leaders.{AreLeaders, behind_terminator}
use Rattle.ci_block.specs.private.Marking.{range_at}
use Rattle.ci_block.specs.private.Stretches.{AreBlocksOf, AreInsns, EndsStretch, IsBlockOf, IsRangeEnd, IsStretch}
use Rattle.ci_block.specs.Text.{EndsAt, StandsAt}
use Rattle.ci_elf.proofs.WordPlaceLaws.{nowhere}
use Rattle.ci_block.proofs.RangeLaws.{held_below, range_there, text_at}

-- ---- where a stretch ends

module _ (leaders : List ℕ) (rises : AllPairs (λ a b. a < b) leaders) (index : ℕ) (within : index < length leaders) where
  -- the other leaders are below this one, or from the next one on
  others : (a : ℕ) → Contains leaders a → get_or leaders index 0 < a → index + 1 < length leaders × get_or leaders (index + 1) 0 ≤ a
  others a c above =
      let is : get_or leaders c.0 0 ≡ a = get_or_default leaders c.0 0 a c.1 ∙ c.2 in
      elim (cases_lt c.0 index) [
        | inl l ↦ absurd (omega (arith, is, rises c.0 index 0 l within))
        | inr l ↦ elim (cases_lt index c.0) [
          | inl m ↦ (
            omega (arith, c.1),
            elim (cases_lt (index + 1) c.0) [
              | inl n ↦ omega (arith, is, rises (index + 1) c.0 0 n c.1)
              | inr n ↦ let same : c.0 ≡ index + 1 = omega arith in omega (arith, is, ap (λ k. get_or leaders k 0) same)
            ],
          )
          | inr m ↦ let same : c.0 ≡ index = omega arith in absurd (omega (arith, is, ap (λ k. get_or leaders k 0) same))
        ]
      ]

module _ (image : Executable) (leaders : List ℕ) (are : AreLeaders image leaders)
    (index : ℕ) (within : index < length leaders) (last : ℕ) (range : IsRangeEnd image.ranges (get_or leaders index 0) last) where
  leader_of : (k : ℕ) → k < length leaders → Contains leaders (get_or leaders k 0)
  leader_of k h = Contains-get_or leaders k 0 h

  word_of : (k : ℕ) → k < length leaders → IsTextWord image.ranges (get_or leaders k 0)
  word_of k h = ((are.listing.listed (get_or leaders k 0)).0 (leader_of k h)).0

  pub ends_with_range : length leaders ≤ index + 1 → EndsStretch image leaders (get_or leaders index 0) last
  ends_with_range none = record {
    stretch = record {
      index = range.index;
      from = range.holds.from nowhere;
      to = omega (arith, range.is);
      some = omega (arith, range.is, range.holds.to nowhere);
      start_aligned = (word_of index within).0;
      end_aligned = omega (arith, range.is, range.text.aligned range.index);
      below_top = omega (arith, range.is, range.text.below_top range.index);
    };
    alone = λ a above before c. let next = others leaders are.listing.ascending index within a c above in omega (arith, next.0);
    stop = inr range.is;
  }

  pub ends_at_next : index + 1 < length leaders → EndsStretch image leaders (get_or leaders index 0) (min last (get_or leaders (index + 1) 0))
  ends_at_next more =
      let next = get_or leaders (index + 1) 0 in
      let rises = are.listing.ascending index (index + 1) 0 (omega arith) more in
      record {
        stretch = record {
          index = range.index;
          from = range.holds.from nowhere;
          to = omega (arith, range.is);
          some = omega (arith, range.is, range.holds.to nowhere, rises);
          start_aligned = (word_of index within).0;
          end_aligned = elim (cases_lt next last) [
            | inl l ↦ let same : min last next ≡ next = omega arith in rw same ((word_of (index + 1) more).0)
            | inr l ↦ let same : min last next ≡ last = omega arith in rw same (omega (arith, range.is, range.text.aligned range.index))
          ];
          below_top = omega (arith, range.is, range.text.below_top range.index);
        };
        alone = λ a above before c. let other = others leaders are.listing.ascending index within a c above in omega (arith, other.1);
        stop = elim (cases_lt next last) [
          | inl l ↦ let same : min last next ≡ next = omega arith in inl (subst (Contains leaders) (sym same) (leader_of (index + 1) more))
          | inr l ↦ let same : min last next ≡ last = omega arith in inr (same ∙ range.is)
        ];
      }

-- ---- the words of a stretch

pub stretch_word : (image : Executable) (start end word : ℕ) → IsStretch image start end → start + 4 * word < end → IsTextWord image.ranges (start + 4 * word)
stretch_word image start end word stretch before = (
  omega (arith, stretch.start_aligned),
  text_at image.ranges (start + 4 * word) stretch.index (omega (arith, stretch.from)) (omega (arith, stretch.to)),
)

-- a whole number of them
pub whole_words : (image : Executable) (start end : ℕ) → IsStretch image start end → start + 4 * ((end - start) / 4) ≡ end
whole_words image start end stretch = omega (arith, stretch.some, stretch.start_aligned, stretch.end_aligned)

-- the last one
pub last_word : (image : Executable) (start end : ℕ) → IsStretch image start end → IsTextWord image.ranges (end - 4)
last_word image start end stretch = (
  omega (arith, stretch.end_aligned),
  text_at image.ranges (end - 4) stretch.index (omega (arith, stretch.from, stretch.some, stretch.start_aligned, stretch.end_aligned))
      (omega (arith, stretch.to, stretch.some)),
)

pub no_insns : (image : Executable) (start : ℕ) → AreInsns image start 0 []
no_insns image start = record { many = refl; each = λ k d h. absurd (omega arith) }

pub one_more_insn : (image : Executable) (start count : ℕ) (insns : List Insn) (insn : Insn) → AreInsns image start count insns
    → StandsAt image (start + 4 * count) insn → AreInsns image start (count + 1) (insns ++ insn ∷ [])
one_more_insn image start count insns insn so_far stands = record {
  many = length-append insns (insn ∷ []) ∙ ap (λ n. n + 1) so_far.many;
  each = λ k d h. elim (cases_lt k count) [
    | inl l ↦ rw (get_or_append_left insns (insn ∷ []) d k (omega (arith, so_far.many))) (so_far.each k d l)
    | inr l ↦
        let same : k ≡ count = omega arith in
        let last : get_or (insns ++ insn ∷ []) k d ≡ insn =
        ap (λ m. get_or (insns ++ insn ∷ []) m d) (same ∙ sym so_far.many) ∙ get_or-append_seam insns insn [] d in
        rw last (subst (λ m. StandsAt image (start + 4 * m) insn) (sym same) stands)
  ];
}

-- ---- the block of a stretch

not_true : {b : Bool} → ¬ (b ≡ true) → b ≡ false
not_true {b = true} h = absurd (h refl)
not_true {b = false} h = refl

module _ (image : Executable) (leaders : List ℕ) (are : AreLeaders image leaders) (leader end : ℕ) (listed : Contains leaders leader)
    (ends : EndsStretch image leaders leader end) where
  abbrev here : IsStretch image leader end
  here = ends.stretch

  -- behind a terminator in the stretch a leader would stand
  no_terminator : (a : ℕ) → leader ≤ a → a + 4 < end → ¬ EndsAt image a
  no_terminator a from before terminator =
      let aligned = terminator.stands.text.0 in
      let word : IsTextWord image.ranges (a + 4) = (
        omega (arith, aligned),
        text_at image.ranges (a + 4) here.index (omega (arith, here.from)) (omega (arith, here.to)),
      ) in
      ends.alone (a + 4) (omega arith) before ((are.listing.listed (a + 4)).1 (word, inl (behind_terminator a terminator refl)))

  -- behind 256 words another leader would stand
  not_longer : end ≤ leader + 4 * 256
  not_longer = elim (cases_lt (leader + 4 * 256) end) [
    | inl l ↦
        let word : IsTextWord image.ranges (leader + 4 * 256) = (
          omega (arith, here.start_aligned),
          text_at image.ranges (leader + 4 * 256) here.index (omega (arith, here.from)) (omega (arith, here.to)),
        ) in
        let held = held_below image.ranges (leader + 4 * 256) here.index (omega (arith, here.to)) in
        absurd (ends.alone (leader + 4 * 256) (omega arith) l ((are.listing.listed (leader + 4 * 256)).1 (
          word,
          inr (record {
            leader = leader;
            listed = listed;
            distance = refl;
            nearest = λ a h m c. ends.alone a h (omega arith) c;
            range = range_at image.ranges here.index;
            there = range_there image.ranges here.index held;
            from = here.from;
            to = omega (arith, here.to);
            unbroken = λ a h m. no_terminator a h (omega (arith, here.end_aligned, here.start_aligned));
          }),
        )))
    | inr l ↦ l
  ]

  pub block_of_stretch : (block : Block) → IsBlockOf image leader end block → IsBlockAt image leaders block
  block_of_stretch block of =
      let behind : end_of_block block ≡ end = ap (λ s. s + 4 * size_of block) of.leads ∙ of.size in
      let insns = λ (k : ℕ) (d : Insn) (h : k < size_of block).
      subst (λ s. StandsAt image (s + 4 * k) (get_or block.insns.items k d)) (sym of.leads) (of.insns.each k d h) in
      record {
        range = range_at image.ranges here.index;
        there = range_there image.ranges here.index (held_below image.ranges leader here.index (omega (arith, here.some, here.to)));
        from = omega (arith, here.from, of.leads);
        within = omega (arith, behind, here.to);
        some = omega (arith, behind, here.some, of.leads);
        at_most = omega (arith, not_longer, of.size);
        insns = insns;
        one_leader = λ a h l. ends.alone a (omega (arith, of.leads)) (omega (arith, behind));
        one_terminator = λ k h d. not_true (λ is.
            no_terminator (block.leader + 4 * k) (omega (arith, of.leads)) (omega (arith, behind))
            (record { insn = get_or block.insns.items k d; stands = insns k d (omega arith); ends = is }));
        ends = elim ends.stop [
          | inl c ↦ at_leader (subst (Contains leaders) (sym behind) c)
          | inr e ↦ at_end_of_range (behind ∙ e)
        ];
        next = λ d.
            let last : block.leader + 4 * (size_of block - 1) ≡ end_of_block block - 4 = omega (arith, behind, here.some, of.leads) in
            of.next (end_of_block block - 4) (get_or block.insns.items (size_of block - 1) d) (omega (arith, behind, here.some, of.leads))
            (subst (λ a. StandsAt image a (get_or block.insns.items (size_of block - 1) d)) last
            (insns (size_of block - 1) d (omega (arith, behind, here.some, of.leads))));
      }

-- ---- block after block

pub no_blocks : (image : Executable) (leaders : List ℕ) → AreBlocksOf image leaders 0 []
no_blocks image leaders = record { by_leader = refl; each = λ block c. absurd (omega (arith, c.1)) }

module _ (image : Executable) (leaders : List ℕ) (count : ℕ) (blocks : List Block) (block : Block) (so_far : AreBlocksOf image leaders count blocks)
    (below : count < length leaders) (here : IsBlockAt image leaders block) (leads : block.leader ≡ get_or leaders count 0) where
  pub one_more_block : AreBlocksOf image leaders (count + 1) (blocks ++ block ∷ [])
  one_more_block = record {
    by_leader = map-append (λ (b : Block). b.leader) blocks (block ∷ [])
        ∙ (λ i. so_far.by_leader i ++ leads i ∷ [])
        ∙ sym (take_more leaders count 0 below);
    each = λ b c. elim (Contains-push_cases blocks block b c) [ inl d ↦ so_far.each b d | inr e ↦ subst (IsBlockAt image leaders) e here ];
  }

pub all_blocks : (image : Executable) (leaders : List ℕ) (count : ℕ) (blocks : List Block) → length leaders ≤ count → AreBlocksOf image leaders count blocks
    → AreBlocks image leaders blocks
all_blocks image leaders count blocks all so_far =
    record { by_leader = so_far.by_leader ∙ take_all count leaders all; each = so_far.each }

-- the blocks of leaders that ascend stand in order
pub blocks_in_order : (leaders : List ℕ) (blocks : List Block) → map (λ (block : Block). block.leader) blocks ≡ leaders
    → AllPairs (λ a b. a < b) leaders → AreInOrder blocks
blocks_in_order leaders blocks same ascending i j d before within =
    let f : Block → ℕ = λ block. block.leader in
    let many : length leaders ≡ length blocks = ap length (sym same) ∙ length-map blocks f in
    let at_i : get_or leaders i 0 ≡ f (get_or blocks i d) = ap (λ (xs : List ℕ). get_or xs i 0) (sym same) ∙ get_or-map f blocks i d 0 (omega arith) in
    let at_j : get_or leaders j 0 ≡ f (get_or blocks j d) = ap (λ (xs : List ℕ). get_or xs j 0) (sym same) ∙ get_or-map f blocks j d 0 within in
    omega (arith, ascending i j 0 before (omega arith))
