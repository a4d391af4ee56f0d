-- Blocks of a file lie apart, so that their sizes sum to no more than the words of the text.
use Rattle.std.proofs.Common.{◌≡◌, ℕ, zero, suc, ◌+◌, ◌*◌, ◌^◌, ◌<◌, ◌≤◌, inl, inr, List, [], ◌∷◌, get_or, map}
use Rattle.std.proofs.Common.{refl, ap, subst, arith}
use Rattle.std.specs.List.{AllPairs, Contains, sum_by}
use Rattle.std.proofs.lemmas.Bool.{cases_lt}
use Rattle.std.proofs.lemmas.List.Elements.{Contains-get_or}
use Rattle.std.proofs.lemmas.List.Sums.{sum_by-cons}
use Rattle.ci_elf.specs.Executables.{Executable, IsTextWord, IsWellFormed}
use Rattle.ci_elf.specs.MemoryMap.{memory_top}
use Rattle.ci_isa.specs.declared.instruction.Insn.TheVariants.{Ebreak}
use Rattle.ci_block.specs.declared.blocks.Block.{Block}
use Rattle.ci_block.specs.Blocks.{AreBlocks, AreInOrder, IsBlockAt, end_of_block, size_of}
use Rattle.ci_block.proofs.BlockLaws.{blocks_in_order}

-- ---- a block

-- blocks of well-formed files end below the top of memory
block_below_top :
    {file : Executable} {leaders : List ℕ} {block : Block} → IsWellFormed file → IsBlockAt file leaders block
    → end_of_block block ≤ memory_top
block_below_top formed at =
    let loads = formed.loaded at.range at.there in
    omega (arith, at.within, loads.2.to, formed.filled loads.0 loads.1, formed.below_top loads.0 loads.1)

leader_there :
    (blocks : List Block) (block : Block) → Contains blocks block
    → Contains (map (λ (block : Block). block.leader) blocks) block.leader
leader_there [] block c = absurd (omega (arith, c.1))
leader_there (first ∷ blocks) block (zero, below, is) = (0, omega arith, ap (λ (block : Block). block.leader) is)
leader_there (first ∷ blocks) block (suc k, below, is) =
    let r = leader_there blocks block (k, omega arith, is) in (suc r.0, omega (arith, r.1), r.2)

-- ---- blocks apart

abbrev pub LieApart : Block → Block → Type 0
LieApart left right = end_of_block left ≤ right.leader

module _ {file : Executable} {leaders : List ℕ} {blocks : List Block} (are : AreBlocks file leaders blocks) where
  pub words_of_block :
      (block : Block) (k : ℕ) → Contains blocks block → k < size_of block → IsTextWord file.ranges (block.leader + 4 * k)
  words_of_block block k c within = ((are.each block c).insns k Ebreak within).text

  -- the earlier of two blocks ends before the later begins
  pub blocks_apart :
      (left right : Block) → Contains blocks left → Contains blocks right → left.leader < right.leader
      → LieApart left right
  blocks_apart left right c d before = elim (cases_lt right.leader (end_of_block left)) [
    | inl inside ↦
        absurd ((are.each left c).one_leader right.leader before inside
        (subst (λ leaders. Contains leaders right.leader) are.by_leader (leader_there blocks right d)))
    | inr behind ↦ behind
  ]

  pub all_apart : AllPairs (λ a b. a < b) leaders → AllPairs LieApart blocks
  all_apart ascending i j d before within =
      blocks_apart (get_or blocks i d) (get_or blocks j d) (Contains-get_or blocks i d (omega arith)) (Contains-get_or blocks j d within)
      (blocks_in_order leaders blocks are.by_leader ascending i j d before within)

-- ---- their sizes

-- blocks that lie apart between two addresses have no more instructions than there are words
sizes_between :
    (blocks : List Block) (from to : ℕ) → from ≤ to → AllPairs LieApart blocks
    → ((block : Block) → Contains blocks block → (from ≤ block.leader) × (end_of_block block ≤ to))
    → from + 4 * sum_by size_of blocks ≤ to
sizes_between [] from to room apart between = omega arith
sizes_between (block ∷ blocks) from to room apart between =
    let here = between block (0, omega arith, refl) in
    let behind = sizes_between blocks (end_of_block block) to here.1
    (λ i j d before within. apart (suc i) (suc j) d (omega arith) (omega arith))
    (λ other c. (
      subst (λ (b : Block). end_of_block block ≤ b.leader) c.2 (apart 0 (suc c.0) other (omega arith) (omega (arith, c.1))),
      (between other (suc c.0, omega (arith, c.1), c.2)).1,
    )) in
    omega (arith, here.0, behind, sum_by-cons size_of block blocks)

pub few_insns :
    (file : Executable) (leaders : List ℕ) (blocks : List Block) → IsWellFormed file → AreBlocks file leaders blocks
    → AllPairs (λ a b. a < b) leaders → sum_by size_of blocks ≤ 2 ^ 30
few_insns file leaders blocks formed are ascending =
    let few = sizes_between blocks 0 memory_top (omega arith) (all_apart are ascending)
    (λ block c. (omega arith, block_below_top formed (are.each block c))) in
    omega (arith, few)
