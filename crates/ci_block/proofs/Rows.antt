-- What the laws on the ways of blocks say of a small text.
use Rattle.std.proofs.Common.{◌≡◌, ℕ, ◌+◌, ◌-◌, ◌*◌, ◌<◌, ◌≤◌, ◌⊎◌, zero, suc, List, [], ◌∷◌, pos, length, get_or, refl, sym, ap, subst, inl, inr, arith, lit<}
use Rattle.std.specs.List.{Contains}
use Rattle.std.proofs.lemmas.Bool.{cases_eq}
use Rattle.std.proofs.lemmas.Bool.Decides.{nat_tests}
use Rattle.ci_isa.specs.declared.instruction.Cond.TheVariants.{Eq}
use Rattle.ci_isa.specs.declared.instruction.Insn.{Insn}
use Rattle.ci_isa.specs.declared.instruction.Insn.TheVariants.{Branch}
use Rattle.ci_elf.specs.Executables.{Executable, IsAscending, IsTextWord, executable, place_of}
use Rattle.ci_elf.specs.Fields.{field}
use Rattle.ci_block.specs.declared.blocks.Block.{Block}
use Rattle.ci_block.specs.declared.blocks.Next.TheVariants.{Two}
use Rattle.ci_block.specs.Blocks.{IsBlockAt, at_terminator, end_of_block, ways_on}
use Rattle.ci_block.specs.Laws.{BlockContents, contents_of}
use Rattle.ci_block.specs.Leaders.{AreLeaders, IsBehindFullBlock, IsListing, IsMark, behind_terminator, entry, target_of_jump}
use Rattle.ci_block.specs.Text.{StandsAt}
use Rattle.ci_block.proofs.WayLaws.{word_behind_is_leader, ways_are_leaders}

-- beq x0, x0, 8 and two words that do nothing
abbrev sample : Executable
sample =
    executable (0x63 ∷ 0x04 ∷ 0 ∷ 0 ∷ 0x13 ∷ 0 ∷ 0 ∷ 0 ∷ 0x13 ∷ 0 ∷ 0 ∷ 0 ∷ []) 0x1000
    (record { address = 0x1000; memory_size = 12; offset = 0; file_size = 12 } ∷ [])
    (record { start = 0x1000; words = 3 } ∷ []) []

abbrev over : Insn
over = Branch Eq 0 0 (pos 8)

stands : StandsAt sample 0x1000 over
unfolding place_of field
stands = record { text = (refl, refl); reads = (lit< tt, (refl, refl, refl, refl, refl)) }

-- each word is a leader
abbrev all : List ℕ
all = 0x1000 ∷ 0x1004 ∷ 0x1008 ∷ []

all_listed : IsListing sample [] [] all
all_listed = record {
  ascending = ordered;
  listed = λ a. (why a, λ (text, _). word a text);
}
  where
    ordered : (i j d : ℕ) → i < j → j < 3 → get_or all i d < get_or all j d
    ordered zero (suc zero) d h l = lit< tt
    ordered zero (suc (suc zero)) d h l = lit< tt
    ordered (suc zero) (suc (suc zero)) d h l = lit< tt
    ordered i j d h l = absurd (omega (arith, h, l))

    why : (a : ℕ) → Contains all a → IsTextWord sample.ranges a × (IsMark sample [] [] a ⊎ IsBehindFullBlock sample all a)
    why a (zero, within, is) = rw (sym is) ((refl, refl), inl (entry refl))
    why a (suc zero, within, is) =
        rw (sym is) ((refl, refl), inl (behind_terminator 0x1000 (record { insn = over; stands = stands; ends = refl }) refl))
    why a (suc (suc zero), within, is) = rw (sym is) ((refl, refl), inl (target_of_jump 0x1000 over stands refl))
    why a (suc (suc (suc k)), within, is) = absurd (omega (arith, within))

    word : (a : ℕ) → IsTextWord sample.ranges a → Contains all a
    word a (aligned, held) =
        let from : 0x1000 ≤ a = grind (arith, nat_tests) in
        let to : a < 0x100c = grind (arith, nat_tests) in
        elim (cases_eq a 0x1000) [
          | inl is ↦ (0, lit< tt, sym is)
          | inr second ↦ elim (cases_eq a 0x1004) [
            | inl is ↦ (1, lit< tt, sym is)
            | inr third ↦ (2, lit< tt, omega (arith, aligned, from, to, second, third))
          ]
        ]

-- in any listing of it the branch is a block, and the laws give both its ways, one of which is the word behind it
module _ (block : Block) (says : contents_of block ≡ record { leader = 0x1000; insns = over ∷ []; next = Two 0x1008 0x1004 })
    (leaders : List ℕ) (are : AreLeaders sample leaders) where
  leader_is : block.leader ≡ 0x1000
  leader_is = ap (λ (c : BlockContents). c.leader) says

  insns_are : block.insns.items ≡ over ∷ []
  insns_are = ap (λ (c : BlockContents). c.insns) says

  one : length block.insns.items ≡ 1
  one = ap length insns_are

  is_block : IsBlockAt sample leaders block
  is_block = record {
    range = record { start = 0x1000; words = 3 };
    there = (0, lit< tt, refl);
    from = omega (arith, leader_is);
    within = omega (arith, leader_is, one);
    some = omega (arith, one);
    at_most = omega (arith, one);
    insns = λ k d h. let first : k ≡ 0 = omega (arith, one) in rw (insns_are, leader_is, first) stands;
    one_leader = λ a above below c. let aligned = (((are.listing.listed a).0 c).0).0 in absurd (omega (arith, leader_is, one));
    one_terminator = λ k h d. absurd (omega (arith, one));
    ends = at_terminator (λ d. rw insns_are refl);
    next = λ d. rw (insns_are, leader_is, ap (λ (c : BlockContents). c.next) says) (refl, (refl, refl), (refl, refl), λ e. omega (arith, e));
  }

  ascending : IsAscending sample.ranges
  ascending = λ i j d h l. absurd (omega arith)

  listed : Contains leaders block.leader
  listed = rw leader_is ((are.listing.listed 0x1000).1 ((refl, refl), inl (entry refl)))

  ways : ways_on (end_of_block block - 4) (get_or block.insns.items (length block.insns.items - 1) over) ≡ 0x1008 ∷ 0x1004 ∷ []
  ways = ap (λ (c : BlockContents). ways_on (c.leader + 4 * length c.insns - 4) (get_or c.insns (length c.insns - 1) over)) says

  both_ways : Contains leaders 0x1008 × Contains leaders 0x1004
  both_ways = (
    ways_are_leaders sample leaders block over 0x1008 ascending are listed is_block (rw ways (0, lit< tt, refl), (refl, refl)),
    ways_are_leaders sample leaders block over 0x1004 ascending are listed is_block (rw ways (1, lit< tt, refl), (refl, refl)),
  )

  end : end_of_block block ≡ 0x1004
  end = ap (λ (c : BlockContents). c.leader + 4 * length c.insns) says

  behind : Contains leaders 0x1004
  behind = subst (Contains leaders) end (word_behind_is_leader sample leaders block ascending are listed is_block (rw end (refl, refl)))
