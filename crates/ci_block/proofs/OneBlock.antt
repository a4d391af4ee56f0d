-- The leaders of an image determine its blocks.
use Rattle.std.proofs.Common.{◌≡◌, ℕ, ◌+◌, ◌-◌, ◌*◌, ◌<◌, ◌≤◌, inl, inr, true≢false, List, [], ◌∷◌, map, get_or, refl, sym, ◌∙◌, ap, subst, arith}
use Rattle.std.specs.List.{Contains}
use Rattle.std.proofs.lemmas.List.{same_lists}
use Rattle.std.proofs.lemmas.List.Elements.{Contains-append_right}
use Rattle.ci_isa.specs.declared.instruction.Insn.{Insn}
use Rattle.ci_isa.specs.declared.instruction.Insn.TheVariants.{Jalr, Ebreak}
use Rattle.ci_isa.specs.Effects.{ends_block}
use Rattle.ci_elf.specs.declared.ranges.Range.{Range}
use Rattle.ci_elf.specs.Executables.{Executable, IsAscending, end_of}
use Rattle.ci_elf.proofs.ImageLaws.{ordered}
use Rattle.ci_block.specs.declared.blocks.Block.{Block}
use Rattle.ci_block.specs.declared.blocks.Next.{Next}
use Rattle.ci_block.specs.declared.blocks.Next.TheVariants.{Stop, One, Two, Any}
use Rattle.ci_block.specs.Blocks.{AreSuccessors, Counts, IsBlockAt, IsNext, at_end_of_range, at_leader, at_terminator, end_of_block, full, size_of, ways_on}
use Rattle.ci_block.specs.Laws.{BlockIsOne, BlocksAreOne, contents_of}
use Rattle.ci_block.specs.Text.{StandsAt}
use Rattle.ci_block.proofs.InsnLaws.{stands_alone}

-- ---- successors

module _ (image : Executable) (ways : List ℕ) where
  both_count : (a b : ℕ) → AreSuccessors image ways (Two a b) → Counts image ways a × Counts image ways b
  both_count a b two = (
    (subst (λ ws. Contains ws a) (sym two.0) (0, omega arith, refl), two.1),
    (subst (λ ws. Contains ws b) (sym two.0) (1, omega arith, refl), two.2),
  )

  one_count : (left right : Next) → AreSuccessors image ways left → AreSuccessors image ways right → left ≡ right
  one_count Stop Stop l r = refl
  one_count Stop (One a) l r = absurd (l a r.0)
  one_count Stop (Two a b) l r = absurd (l a (both_count a b r).0)
  one_count (One a) Stop l r = absurd (r a l.0)
  one_count (One a) (One b) l r = ap One (r.1 a l.0)
  one_count (One a) (Two b c) l r =
      let two = both_count b c r in absurd (r.3 (l.1 b two.0 ∙ sym (l.1 c two.1)))
  one_count (Two a b) Stop l r = absurd (r a (both_count a b l).0)
  one_count (Two a b) (One c) l r =
      let two = both_count a b l in absurd (l.3 (r.1 a two.0 ∙ sym (r.1 b two.1)))
  one_count (Two a b) (Two c d) l r = let same : a ∷ b ∷ [] ≡ c ∷ d ∷ [] = sym l.0 ∙ r.0 in cc
  one_count Any right l r = absurd l
  one_count left Any l r = absurd r

one_next :
    (image : Executable) (last : ℕ) (insn : Insn) (left right : Next) → IsNext image last insn left
    → IsNext image last insn right → left ≡ right
one_next image last (Jalr rd rs1 offset) left right l r = l ∙ sym r
one_next image last insn left right l r = one_count image (ways_on last insn) left right l r

-- ---- blocks

abbrev last_insn : Block → Insn
last_insn block = get_or block.insns.items (size_of block - 1) Ebreak

abbrev leaders_of : List Block → List ℕ
leaders_of blocks = map (λ (block : Block). block.leader) blocks

module _ (image : Executable) (leaders : List ℕ) (ascending : IsAscending image.ranges) where
  module _ (left right : Block) (l : IsBlockAt image leaders left) (r : IsBlockAt image leaders right)
      (same : left.leader ≡ right.leader) where
    same_insn :
        (k : ℕ) (d : Insn) → k < size_of left → k < size_of right
        → get_or left.insns.items k d ≡ get_or right.insns.items k d
    same_insn k d h m =
        stands_alone image (left.leader + 4 * k) (get_or left.insns.items k d) (get_or right.insns.items k d)
        (l.insns k d h)
        (subst (λ a. StandsAt image (a + 4 * k) (get_or right.insns.items k d)) (sym same) (r.insns k d m))

    -- both lie in one range
    same_end : end_of l.range ≡ end_of r.range
    same_end = elim (ordered (λ a b. end_of a ≤ b.start) image.ranges l.range r.range ascending l.there r.there) [
      | inl h ↦ absurd (omega (arith, h, r.from, l.within, l.some, same))
      | inr (inl h) ↦ absurd (omega (arith, h, l.from, r.within, r.some, same))
      | inr (inr e) ↦ ap (λ (range : Range). end_of range) e
    ]

    not_shorter : ¬ (size_of left < size_of right)
    not_shorter h = elim l.ends [
      | at_leader c ↦ r.one_leader (end_of_block left) (omega (arith, same, l.some)) (omega (arith, same)) c
      | at_terminator ends ↦
          let last = size_of left - 1 in
          true≢false (sym (ends Ebreak) ∙ ap ends_block (same_insn last Ebreak (omega (arith, l.some)) (omega arith))
          ∙ r.one_terminator last (omega (arith, l.some)) Ebreak)
      | full is ↦ omega (arith, is, r.at_most)
      | at_end_of_range is ↦ omega (arith, is, r.within, same_end, same)
    ]

  module _ (left right : Block) (l : IsBlockAt image leaders left) (r : IsBlockAt image leaders right)
      (same : left.leader ≡ right.leader) where
    same_size : size_of left ≡ size_of right
    same_size = omega (arith, not_shorter left right l r same, not_shorter right left r l (sym same))

    same_insns : left.insns.items ≡ right.insns.items
    same_insns =
        same_lists left.insns.items right.insns.items same_size
        (λ k d h. same_insn left right l r same k d h (omega (arith, same_size)))

    same_next : left.next ≡ right.next
    same_next =
        let last : end_of_block left - 4 ≡ end_of_block right - 4 = omega (arith, same, same_size) in
        let insn : last_insn left ≡ last_insn right = λ i. get_or (same_insns i) (same_size i - 1) Ebreak in
        let next : IsNext image (end_of_block left - 4) (last_insn left) right.next =
        subst (λ a. IsNext image a (last_insn left) right.next) (sym last)
        (subst (λ d. IsNext image (end_of_block right - 4) d right.next) (sym insn) (r.next Ebreak)) in
        one_next image (end_of_block left - 4) (last_insn left) left.next right.next (l.next Ebreak) next

    one_block : contents_of left ≡ contents_of right
    one_block = λ i. record { leader = same i; insns = same_insns i; next = same_next i }

  each_one :
      (left right : List Block) → leaders_of left ≡ leaders_of right
      → ((block : Block) → Contains left block → IsBlockAt image leaders block)
      → ((block : Block) → Contains right block → IsBlockAt image leaders block)
      → map contents_of left ≡ map contents_of right
  each_one [] [] same l r = refl
  each_one [] (y ∷ ys) same l r = cc
  each_one (x ∷ xs) [] same l r = cc
  each_one (x ∷ xs) (y ∷ ys) same l r =
      let first : x.leader ≡ y.leader = cc in
      let rest : leaders_of xs ≡ leaders_of ys = cc in
      let head = one_block x y (l x (0, omega arith, refl)) (r y (0, omega arith, refl)) first in
      let tail =
      each_one xs ys rest (λ b c. l b (Contains-append_right (x ∷ []) xs b c))
      (λ b c. r b (Contains-append_right (y ∷ []) ys b c)) in
      λ i. head i ∷ tail i

pub block_is_one : BlockIsOne
block_is_one image leaders left right ascending l r same = one_block image leaders ascending left right l r same

pub blocks_are_one : BlocksAreOne
blocks_are_one image leaders left right ascending l r =
    each_one image leaders ascending left right (l.by_leader ∙ sym r.by_leader) l.each r.each
