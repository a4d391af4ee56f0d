-- Blocks that are written into a file, one after the other.
use Rattle.std.proofs.Common.{◌≡◌, ℕ, ◌+◌, ◌*◌, ◌<◌, inl, inr, List, length, get_or, refl, sym, ◌∙◌, ap, subst, arith}
use Rattle.std.specs.List.{Contains}
use Rattle.std.proofs.lemmas.Bool.{cases_lt}
use Rattle.std.proofs.lemmas.List.Elements.{Contains-get_or}
use Rattle.ci_isa.specs.declared.instruction.Insn.{Insn}
use Rattle.ci_isa.specs.Sequences.{nth_insn}
use Rattle.ci_isa.specs.Table.{IsWordOf}
use Rattle.ci_elf.specs.Executables.{Executable, IsTextWord, text_word}
use Rattle.ci_elf.specs.TextChanges.{ChangeText}
use Rattle.ci_elf.proofs.PatchLaws.{none_written}
use Rattle.ci_block.specs.declared.blocks.Block.{Block}
use Rattle.ci_block.specs.Blocks.{size_of}
use Rattle.ci_block.specs.Patches.{PatchesBlock}
use Rattle.ci_block.proofs.BlockSums.{blocks_apart, words_of_block}
use Rattle.ci_block.proofs.PatchLaws.{both_changes, earlier_word_stays}
use Rattle.ci_live.specs.Sets.{Sets}
use Rattle.ci_select.specs.Instances.{AreBlocksOf}
use Rattle.ci_select.specs.NewFiles.{LiesIn, with_bytes}
use Rattle.ci_select.proofs.BlockSums.{blocks_stand_in_order}

-- The first of the blocks stand in the file, each with these instructions, and nothing else is changed.
pub record PatchesBlocks (file new : Executable) (blocks : List Block) (insns_at : ℕ → Block → List Insn) (count : ℕ) : Type 0 where
  pub same_else : new ≡ with_bytes file new.bytes
  pub text_alone : ChangeText file new.bytes
  pub words :
      (i : ℕ) (block : Block) (k : ℕ) → i < count → k < length (insns_at i block)
      → IsWordOf (text_word new ((get_or blocks i block).leader + 4 * k)) (nth_insn (insns_at i block) k)
  pub between :
      (address : ℕ) → IsTextWord file.ranges address
      → ((i : ℕ) (block : Block) → i < count → ¬ LiesIn (get_or blocks i block) address)
      → text_word new address ≡ text_word file address

module _ (file : Executable) (blocks : List Block) (insns_at : ℕ → Block → List Insn) where
  pub no_blocks_patched : PatchesBlocks file file blocks insns_at 0
  no_blocks_patched = record {
    same_else = refl;
    text_alone = none_written file;
    words = λ i block k h. absurd (omega arith);
    between = λ address text out. refl;
  }

  module _
      {live : Sets} (of_file : AreBlocksOf file blocks live)
      (same_size : (i : ℕ) (block : Block) → i < length blocks → length (insns_at i block) ≡ size_of (get_or blocks i block))
      (mid new : Executable) (count : ℕ) (within : count < length blocks) (so_far : PatchesBlocks file mid blocks insns_at count)
      (here : (block : Block) → PatchesBlock mid new (get_or blocks count block).leader (insns_at count block)) where
    there : (i : ℕ) (d : Block) → i < length blocks → Contains blocks (get_or blocks i d)
    there i d h = Contains-get_or blocks i d h

    in_mid : (address : ℕ) → IsTextWord file.ranges address → IsTextWord mid.ranges address
    in_mid address text = subst (λ (f : Executable). IsTextWord f.ranges address) (sym so_far.same_else) text

    -- a word of an earlier block is none of this one
    earlier_word :
        (i k : ℕ) (d : Block) → i < count → k < length (insns_at i d)
        → text_word new ((get_or blocks i d).leader + 4 * k) ≡ text_word mid ((get_or blocks i d).leader + 4 * k)
    earlier_word i k d before below =
        let are = of_file.2.blocks_are in
        let earlier = get_or blocks i d in
        let later = get_or blocks count d in
        let within_it : k < size_of earlier = omega (arith, same_size i d (omega arith)) in
        let apart = blocks_apart are earlier later (there i d (omega arith)) (there count d within)
        (blocks_stand_in_order of_file i count d before within) in
        earlier_word_stays mid new earlier later (insns_at count d) k (here d) apart within_it
        (in_mid (earlier.leader + 4 * k) (words_of_block are earlier k (there i d (omega arith)) within_it))

    pub one_more_block_patched : Block → PatchesBlocks file new blocks insns_at (count + 1)
    one_more_block_patched block = record {
      same_else = (here block).same_else ∙ ap (λ f. with_bytes f new.bytes) so_far.same_else;
      text_alone = both_changes file mid new so_far.same_else so_far.text_alone (here block).text_alone;
      words = λ i d k h below. elim (cases_lt i count) [
        | inl l ↦
            subst (λ w. IsWordOf w (nth_insn (insns_at i d) k)) (sym (earlier_word i k d l below)) (so_far.words i d k l below)
        | inr l ↦
            let same : count ≡ i = omega arith in
            subst (λ j. k < length (insns_at j d) → IsWordOf (text_word new ((get_or blocks j d).leader + 4 * k)) (nth_insn (insns_at j d) k))
            same ((here d).words k) below
      ];
      between = λ address text out.
          (here block).others address (in_mid address text) (λ at.
          out count block (omega arith) (omega (arith, at.2), omega (arith, at.1, at.2, same_size count block within)))
          ∙ so_far.between address text (λ i d h. out i d (omega arith));
    }
