-- Blocks of a file are entered no more often than the run has steps.
use Rattle.std.proofs.Common.{◌≡◌, ℕ, zero, suc, ◌+◌, ◌*◌, ◌<◌, ◌≤◌, Bool, true, false, ◌&&◌, List, [], ◌∷◌, refl, ap, subst, inl, inr, arith}
use Rattle.std.specs.Prelude.{if◌then◌else◌, ◌==◌}
use Rattle.std.specs.List.{Contains, sum_by}
use Rattle.std.proofs.lemmas.Bool.{cases_eq, ne_eqb}
use Rattle.std.proofs.lemmas.List.Sums.{sum_by-cons}
use Rattle.ci_word.specs.Numbers.{count_below}
use Rattle.ci_word.proofs.NumberLaws.{count_below-suc, count_below-zero}
use Rattle.ci_block.specs.declared.blocks.Block.{Block}
use Rattle.ci_block.specs.Blocks.{AreInOrder}
use Rattle.ci_elf.specs.Executables.{IsTextWord}
use Rattle.ci_machine.specs.Programs.{loaded_program}
use Rattle.ci_machine.specs.Runs.{before_step, is_made}
use Rattle.ci_emu.specs.Profiles.{entries_in}
use Rattle.ci_select.specs.Laws.{EntriesAreSteps}
use Rattle.ci_select.proofs.BlockSums.{blocks_stand_in_order, words_in_text}
use Rattle.ci_select.proofs.SumLaws.{sum_by_both, sum_by_less, sum_by_none}

-- ---- one step

-- whether a step begins at the block's leader, as a number
abbrev begins : Bool → ℕ → Block → ℕ
begins made pc block = if made && (pc == block.leader) then 1 else 0

-- it begins at none that comes later,
begins_before :
    (made : Bool) (pc : ℕ) (blocks : List Block) → ((block : Block) → Contains blocks block → pc < block.leader)
    → sum_by (begins made pc) blocks ≡ 0
begins_before made pc [] before = refl
begins_before made pc (block ∷ blocks) before = omega (
  arith,
  sum_by-cons (begins made pc) block blocks,
  begins_before made pc blocks (λ other c. before other (suc c.0, omega (arith, c.1), c.2)),
  not_here made (ne_eqb pc block.leader (λ same. omega (arith, same, before block (0, omega arith, refl)))),
)
  where
    not_here : (m : Bool) → (pc == block.leader) ≡ false → begins m pc block ≡ 0
    not_here true other = ap (λ b. if b then 1 else 0) other
    not_here false other = refl

-- so it begins at one at most
begins_once : (made : Bool) (pc : ℕ) (blocks : List Block) → AreInOrder blocks → sum_by (begins made pc) blocks ≤ 1
begins_once made pc [] order = omega arith
begins_once made pc (block ∷ blocks) order = elim (cases_eq pc block.leader) [
  | inl its ↦
      omega (
        arith,
        sum_by-cons (begins made pc) block blocks,
        at_most_one (made && (pc == block.leader)),
        begins_before made pc blocks (λ other c. later other c its),
      )
  | inr other ↦
      omega (
        arith,
        sum_by-cons (begins made pc) block blocks,
        begins_once made pc blocks (λ i j d before within. order (suc i) (suc j) d (omega arith) (omega arith)),
        not_here made (ne_eqb pc block.leader other),
      )
]
  where
    at_most_one : (b : Bool) → (if b then 1 else 0) ≤ 1
    at_most_one true = omega arith
    at_most_one false = omega arith

    not_here : (m : Bool) → (pc == block.leader) ≡ false → begins m pc block ≡ 0
    not_here true other = ap (λ b. if b then 1 else 0) other
    not_here false other = refl

    later : (other : Block) → Contains blocks other → pc ≡ block.leader → pc < other.leader
    later other c its =
        let behind = subst (λ (b : Block). block.leader < b.leader) c.2 (order 0 (suc c.0) other (omega arith) (omega (arith, c.1))) in
        omega (arith, behind, its)

-- ---- all steps

-- steps that begin at blocks, of which each is made or not, and begins somewhere
begins_in_all :
    (blocks : List Block) (made : ℕ → Bool) (pc : ℕ → ℕ) (n : ℕ) → AreInOrder blocks
    → sum_by (λ block. count_below n (λ i. made i && (pc i == block.leader))) blocks ≤ n
begins_in_all blocks made pc zero order =
    omega (
      arith,
      sum_by_none (λ (block : Block). count_below 0 (λ i. made i && (pc i == block.leader))) blocks
          (λ block. count_below-zero (λ i. made i && (pc i == block.leader))),
    )
begins_in_all blocks made pc (suc n) order =
    let count : ℕ → Block → ℕ = λ m block. count_below m (λ i. made i && (pc i == block.leader)) in
    let step = sum_by_less (count (suc n)) (λ block. count n block + begins (made n) (pc n) block) blocks
    (λ block there. omega (arith, count_below-suc n (λ i. made i && (pc i == block.leader)))) in
    omega (
      arith,
      step,
      sum_by_both (count n) (begins (made n) (pc n)) blocks,
      begins_in_all blocks made pc n order,
      begins_once (made n) (pc n) blocks order,
    )

pub entries_are_steps : EntriesAreSteps
entries_are_steps file blocks live meaning n state latencies profile of is =
    let program = loaded_program file in
    let pc : ℕ → ℕ = λ i. (before_step meaning program state i).pc in
    let counted = sum_by_less (λ (block : Block). entries_in profile block.leader)
    (λ (block : Block). count_below n (λ i. is_made meaning program state i && (pc i == block.leader))) blocks
    (λ block there. omega (arith, is.entries block.leader (text block there))) in
    omega (
      arith,
      counted,
      begins_in_all blocks (is_made meaning program state) pc n (blocks_stand_in_order of),
    )
  where
    at_leader : (address : ℕ) → address + 4 * 0 ≡ address
    at_leader address = omega arith

    text : (block : Block) → Contains blocks block → IsTextWord file.ranges block.leader
    text block there =
        subst (IsTextWord file.ranges) (at_leader block.leader) (words_in_text of there 0 (of.2.blocks_are.each block there).some)
