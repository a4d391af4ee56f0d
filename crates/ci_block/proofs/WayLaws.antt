-- Where a block leads stands a leader, if there is a word of the text.
use Rattle.std.proofs.Common.{◌≡◌, ℕ, zero, suc, ◌+◌, ◌-◌, ◌*◌, ◌/◌, ◌<◌, ◌≤◌, ◌⊎◌, [], ◌∷◌, inl, inr, Bool, true}
use Rattle.std.proofs.Common.{false, true≢false, List, Some, get_or, refl, sym, ◌∙◌, ap, subst, arith}
use Rattle.std.specs.List.{Contains}
use Rattle.std.proofs.lemmas.Bool.{cases_lt}
use Rattle.ci_isa.specs.declared.instruction.Insn.{Insn}
use Rattle.ci_isa.specs.declared.instruction.Insn.TheVariants.{Jal, Jalr, Branch, Ebreak, Illegal}
use Rattle.ci_isa.specs.Effects.{ends_block}
use Rattle.ci_elf.specs.declared.ranges.Range.{Range}
use Rattle.ci_elf.specs.Executables.{Executable, IsAscending, IsTextWord, end_of}
use Rattle.ci_elf.proofs.ImageLaws.{ordered}
use Rattle.ci_elf.proofs.RangeLaws.{range_holding}
use Rattle.ci_block.specs.declared.blocks.Block.{Block}
use Rattle.ci_block.specs.Blocks.{IsBlockAt, at_end_of_range, at_leader, at_terminator, end_of_block, full, size_of, ways_on}
use Rattle.ci_block.specs.Laws.{WaysAreLeaders, WordBehindIsLeader}
use Rattle.ci_block.specs.Leaders.{AreLeaders, IsMark, behind_terminator, target_of_jump, where_ranges_meet}
use Rattle.ci_block.specs.Text.{EndsAt, StandsAt, target_of}
use Rattle.ci_block.proofs.InsnLaws.{stands_alone}

-- ---- a way on is a target or the word behind

one_of_one : (x a : ℕ) → Contains (x ∷ []) a → x ≡ a
one_of_one x a (zero, within, is) = is
one_of_one x a (suc k, within, is) = absurd (omega (arith, within))

pub one_of_two : (x y a : ℕ) → Contains (x ∷ y ∷ []) a → (x ≡ a) ⊎ (y ≡ a)
one_of_two x y a (zero, within, is) = inl is
one_of_two x y a (suc zero, within, is) = inr is
one_of_two x y a (suc (suc k), within, is) = absurd (omega (arith, within))

one_of_none : (a : ℕ) → Contains [] a → ⊥
one_of_none a c = let h = c.1 in omega arith

way_is : (last : ℕ) (insn : Insn) (a : ℕ) → Contains (ways_on last insn) a → (target_of last insn ≡ Some a) ⊎ (last + 4 ≡ a)
way_is last (Branch cond rs1 rs2 offset) a c = elim (one_of_two _ _ a c) [ inl is ↦ inl (ap Some is) | inr is ↦ inr is ]
way_is last (Jal rd offset) a c = inl (ap Some (one_of_one _ a c))
way_is last (Jalr rd rs1 offset) a c = absurd (one_of_none a c)
way_is last Ebreak a c = absurd (one_of_none a c)
way_is last (Illegal word) a c = absurd (one_of_none a c)
way_is last insn a c = inr (one_of_one _ a c)

-- ---- both are leaders

module _ (image : Executable) (leaders : List ℕ) (block : Block) (ascending : IsAscending image.ranges)
    (are : AreLeaders image leaders) (listed : Contains leaders block.leader) (l : IsBlockAt image leaders block)
    (a : ℕ) (text : IsTextWord image.ranges a) where
  abbrev last : ℕ
  last = end_of_block block - 4

  abbrev last_insn : Insn
  last_insn = get_or block.insns.items (size_of block - 1) Ebreak

  marked : IsMark image are.targets are.named a → Contains leaders a
  marked mark = (are.listing.listed a).1 (text, inl mark)

  stands : (d : Insn) → StandsAt image last (get_or block.insns.items (size_of block - 1) d)
  stands d =
      let last_is : last ≡ block.leader + 4 * (size_of block - 1) = omega (arith, l.some) in
      subst (λ at. StandsAt image at (get_or block.insns.items (size_of block - 1) d)) (sym last_is)
      (l.insns (size_of block - 1) d (omega (arith, l.some)))

  -- a word of the text where a range ends is the first of another one
  behind_range : end_of l.range ≡ a → Contains leaders a
  behind_range is =
      let held = range_holding image.ranges a text.1 in
      let there : Contains image.ranges held.1 = (held.0, held.2, held.3) in
      elim (ordered (λ x y. end_of x ≤ y.start) image.ranges l.range held.1 ascending l.there there) [
        | inl before ↦
            marked (where_ranges_meet l.range held.1 l.there there (omega (arith, is, before, held.4.0)) (omega (arith, is, before, held.4.0)))
        | inr (inl behind) ↦ absurd (omega (arith, is, behind, held.4.1, l.from, l.within, l.some))
        | inr (inr same) ↦ absurd (omega (arith, is, held.4.1, ap (λ (r : Range). end_of r) same))
      ]

  -- no terminator stands in a block that doesn't end by one
  no_end : ends_block last_insn ≡ false → (at : ℕ) → block.leader ≤ at → at < end_of_block block → ¬ EndsAt image at
  no_end goes_on at from to ends =
      let first = (l.insns 0 Ebreak l.some).text.0 in
      let k = (at - block.leader) / 4 in
      let is : at ≡ block.leader + 4 * k = omega (arith, from, first, ends.stands.text.0) in
      let within : k < size_of block = omega (arith, is, to) in
      let insn = get_or block.insns.items k Ebreak in
      let there : StandsAt image at insn = subst (λ n. StandsAt image n insn) (sym is) (l.insns k Ebreak within) in
      let ends_there : ends_block insn ≡ true = ap ends_block (sym (stands_alone image at ends.insn insn ends.stands there)) ∙ ends.ends in
      elim (cases_lt (k + 1) (size_of block)) [
        | inl before ↦ true≢false (sym ends_there ∙ l.one_terminator k before Ebreak)
        | inr at_end ↦
            let place : k ≡ size_of block - 1 = omega (arith, within) in
            true≢false (sym ends_there ∙ ap (λ n. ends_block (get_or block.insns.items n Ebreak)) place ∙ goes_on)
      ]

  -- the word behind, by the block's last instruction
  word_behind : (b : Bool) → ends_block last_insn ≡ b → end_of_block block ≡ a → Contains leaders a
  word_behind true ends is =
      marked (behind_terminator last (record { insn = last_insn; stands = stands Ebreak; ends = ends }) (omega (arith, is, l.some)))
  word_behind false goes_on is =
      elim l.ends [
        | at_leader c ↦ subst (Contains leaders) is c
        | at_terminator ends ↦ absurd (true≢false (sym (ends Ebreak) ∙ goes_on))
        | full many ↦ elim (cases_lt a (end_of l.range)) [
          | inl within ↦ (are.listing.listed a).1 (
            text,
            inr (record {
              leader = block.leader;
              listed = listed;
              distance = omega (arith, is, many);
              nearest = λ n above below c. l.one_leader n above (omega (arith, is)) c;
              range = l.range;
              there = l.there;
              from = l.from;
              to = within;
              unbroken = λ n from below ends. no_end goes_on n from (omega (arith, is)) ends;
            }),
          )
          | inr past ↦ behind_range (omega (arith, is, l.within))
        ]
        | at_end_of_range end ↦ behind_range (sym end ∙ is)
      ]

  behind : end_of_block block ≡ a → Contains leaders a
  behind is = word_behind (ends_block last_insn) refl is

  way : (d : Insn) → Contains (ways_on last (get_or block.insns.items (size_of block - 1) d)) a → Contains leaders a
  way d on =
      let insn = get_or block.insns.items (size_of block - 1) d in
      elim (way_is last insn a on) [
        | inl target ↦ marked (target_of_jump last insn (stands d) target)
        | inr is ↦ behind (omega (arith, is, l.some))
      ]

pub ways_are_leaders : WaysAreLeaders
ways_are_leaders image leaders block d address ascending are listed l (on, text) = way image leaders block ascending are listed l address text d on

pub word_behind_is_leader : WordBehindIsLeader
word_behind_is_leader image leaders block ascending are listed l text = behind image leaders block ascending are listed l (end_of_block block) text refl
