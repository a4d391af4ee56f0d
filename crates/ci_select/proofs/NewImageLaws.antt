-- The present blocks of the rounds, which stand in the new file.
use Rattle.std.proofs.Common.{◌≡◌, ℕ, ◌+◌, ◌*◌, ◌<◌, ◌≤◌, List, length, get_or, refl, sym, subst, arith}
use Rattle.std.proofs.lemmas.List.Elements.{Contains-get_or}
use Rattle.ci_isa.specs.declared.instruction.Insn.{Insn}
use Rattle.ci_isa.specs.Sequences.{nth_insn}
use Rattle.ci_isa.specs.Table.{IsWellFormed, IsWordOf}
use Rattle.ci_elf.specs.declared.ranges.Range.{Range}
use Rattle.ci_elf.specs.Executables.{Executable, IsTextWord, text_word}
use Rattle.ci_block.specs.declared.blocks.Block.{Block}
use Rattle.ci_block.specs.Blocks.{size_of}
use Rattle.ci_select.specs.declared.rounds.Rounds.{Rounds}
use Rattle.ci_select.specs.private.Followed.{Follows, FollowsSome, instance_in}
use Rattle.ci_select.specs.Histories.{History}
use Rattle.ci_select.specs.Instances.{AreBlocksOf}
use Rattle.ci_select.specs.NewFiles.{IsNewFile, with_bytes}
use Rattle.ci_select.specs.PresentBlocks.{IsPresent}
use Rattle.ci_select.proofs.BlockForms.{words_of}
use Rattle.ci_select.proofs.BlockSums.{words_in_text}
use Rattle.ci_select.proofs.PatchLaws.{PatchesBlocks}
use Rattle.ci_select.proofs.PresentLaws.{IsSound, blocks_in_order, present_is_one, present_is_sound}

-- the instructions of block i in the present program
abbrev pub insns_of : Rounds → ℕ → Block → List Insn
insns_of rounds i block = (get_or rounds.present.items i block.insns).items

-- the blocks of the file
abbrev pub blocks_of : Rounds → List Block
blocks_of rounds = rounds.blocks.now

-- What is asked of instructions that are written from a leader on.
pub record CanBePatched (ranges : List Range) (leader : ℕ) (insns : List Insn) : Type 0 where
  pub few : length insns ≤ 256
  pub text : (k : ℕ) → k < length insns → IsTextWord ranges (leader + 4 * k)
  pub formed : (k : ℕ) → k < length insns → IsWellFormed (nth_insn insns k)

module _ (rounds : Rounds) (file : Executable) (of_file : AreBlocksOf file (blocks_of rounds) rounds.live.now) where
  abbrev blocks : List Block
  blocks = blocks_of rounds

  module _ (history : History) (follows : Follows history rounds) where
    sound_at :
        (i : ℕ) (d : Block) → i < length blocks
        → IsSound (instance_in rounds) (get_or blocks i d).leader (insns_of rounds i d)
    sound_at i d below = present_is_sound follows.of_file follows.legal (follows.present i d below)

    same_size_at : (i : ℕ) (d : Block) → i < length blocks → length (insns_of rounds i d) ≡ size_of (get_or blocks i d)
    same_size_at i d below = (sound_at i d below).same_length (get_or blocks i d) (Contains-get_or blocks i d below) refl

    -- the file in which all of them stand is the new one
    pub new_file_of : (bytes : List ℕ) → PatchesBlocks file (with_bytes file bytes) blocks (insns_of rounds) (length blocks)
        → IsNewFile (instance_in rounds) file history bytes
    new_file_of bytes all = record {
      text_alone = all.text_alone;
      blocks = λ block insns k there present below.
          let i = there.0 in
          let at : get_or blocks i block ≡ block = there.2 in
          let here : IsPresent (instance_in rounds) history block.leader (insns_of rounds i block) =
          subst (λ (b : Block). IsPresent (instance_in rounds) history b.leader (insns_of rounds i block)) at
          (follows.present i block there.1) in
          let same = present_is_one (instance_in rounds) history block.leader (insns_of rounds i block) insns
          (blocks_in_order (instance_in rounds) follows.of_file) here present in
          let word : k < length insns → IsWordOf (text_word (with_bytes file bytes) ((get_or blocks i block).leader + 4 * k)) (nth_insn insns k) =
          subst (λ list. k < length list → IsWordOf (text_word (with_bytes file bytes) ((get_or blocks i block).leader + 4 * k)) (nth_insn list k))
          same (all.words i block k there.1) in
          subst (λ (b : Block). IsWordOf (text_word (with_bytes file bytes) (b.leader + 4 * k)) (nth_insn insns k)) at (word below);
      between = λ address text out.
          all.between address text (λ i d below. out (get_or blocks i d) (Contains-get_or blocks i d below));
    }

  -- the instructions of each block have the length of that of the file,
  pub same_size : FollowsSome rounds → (i : ℕ) (d : Block) → i < length blocks → length (insns_of rounds i d) ≡ size_of (get_or blocks i d)
  same_size follows = same_size_at follows.0 follows.1

  -- and can be written there
  pub can_be_patched :
      FollowsSome rounds → (i : ℕ) (block : Block) (insns : List Insn) → i < length blocks → block ≡ get_or blocks i block
      → insns ≡ insns_of rounds i block → CanBePatched file.ranges block.leader insns
  can_be_patched follows i block insns below at same =
      let sound = sound_at follows.0 follows.1 i block below in
      let size = same_size follows i block below in
      let all : CanBePatched file.ranges (get_or blocks i block).leader (insns_of rounds i block) = record {
        few = sound.can_be_folded.few;
        text = λ k h.
            words_in_text {block = get_or blocks i block} of_file (Contains-get_or blocks i block below) k (omega (arith, size, h));
        formed = words_of (insns_of rounds i block) sound.can_be_folded.fit;
      } in
      subst (λ (b : Block). CanBePatched file.ranges b.leader insns) (sym at)
      (subst (CanBePatched file.ranges (get_or blocks i block).leader) (sym same) all)
