-- Words of blocks that are written into a file.
use Rattle.std.proofs.Common.{◌≡◌, ℕ, ◌+◌, ◌*◌, ◌^◌, ◌<◌, ◌≤◌, inl, inr, List, length, Ok, refl, sym, ◌∙◌, subst, arith}
use Rattle.std.proofs.lemmas.Bool.{cases_lt}
use Rattle.ci_isa.specs.declared.instruction.Insn.{Insn}
use Rattle.ci_isa.specs.Sequences.{nth_insn}
use Rattle.ci_isa.specs.Table.{IsWordOf}
use Rattle.ci_elf.specs.Executables.{Executable, IsTextWord, IsWellFormed, place_of, text_word}
use Rattle.ci_elf.specs.Rules.{IsReadAs}
use Rattle.ci_elf.specs.TextChanges.{ChangeText, IsTextPlace, with_word}
use Rattle.ci_elf.specs.MemoryMap.{memory_top}
use Rattle.ci_elf.proofs.PatchLaws.{none_written, one_more_written, other_words_stay, word_is_read}
use Rattle.ci_elf.proofs.TextChangeLaws.{text_may_change}
use Rattle.ci_elf.proofs.TextPlaceLaws.{formed}
use Rattle.ci_block.specs.declared.blocks.Block.{Block}
use Rattle.ci_block.specs.Blocks.{end_of_block, size_of}
use Rattle.ci_block.specs.Patches.{PatchesBlock, PatchesWords}
use Rattle.ci_block.proofs.RangeLaws.{text_below_top, text_ranges}

-- the file with other bytes
abbrev with_bytes : Executable → List ℕ → Executable
with_bytes file bytes = record file { bytes = bytes }

-- a file of which text is written over is read
pub read_with : (file new : Executable) → IsReadAs file.bytes (Ok file) → new ≡ with_bytes file new.bytes → ChangeText file new.bytes
    → IsReadAs new.bytes (Ok new)
read_with file new read same change =
    subst (λ f. IsReadAs new.bytes (Ok f)) (sym same) (text_may_change file.bytes new.bytes file read change)

-- text lies below the top of memory
pub text_word_below_top :
    (file : Executable) → IsReadAs file.bytes (Ok file) → (address : ℕ) → IsTextWord file.ranges address
    → address < memory_top
text_word_below_top file read address text =
    text_below_top file.ranges (text_ranges file (formed file.bytes read.0 file read.1)) address text.1

-- changes of the text one after the other
pub both_changes :
    (file mid new : Executable) → mid ≡ with_bytes file mid.bytes → ChangeText file mid.bytes → ChangeText mid new.bytes
    → ChangeText file new.bytes
both_changes file mid new same first second = record {
  same_length = second.same_length ∙ first.same_length;
  same_else = λ place out.
      second.same_else place (λ at. out (subst (λ f. IsTextPlace f place) same at)) ∙ first.same_else place out;
}

-- ---- word after word

module _ (before : Executable) (read : IsReadAs before.bytes (Ok before)) (leader : ℕ) (insns : List Insn) where
  pub none_patched : PatchesWords before before leader insns 0
  none_patched = record {
    same_else = refl;
    text_alone = none_written before;
    words = λ k h. absurd (omega arith);
    others = λ address text other. refl;
  }

  whole : IsWellFormed before
  whole = formed before.bytes read.0 before read.1

  -- the file with one word more
  abbrev patched : Executable → ℕ → ℕ → Executable
  patched file address word = record file { bytes = with_word file.bytes (place_of file.segments address) word }

  module _
      (count word : ℕ) (text : (k : ℕ) → k < count + 1 → IsTextWord before.ranges (leader + 4 * k)) (small : word < 2 ^ 32)
      (spelt : IsWordOf word (nth_insn insns count)) where
    abbrev address : ℕ
    address = leader + 4 * count

    -- one word more stands in the file
    next_patched :
        (bytes : List ℕ) → PatchesWords before (with_bytes before bytes) leader insns count
        → PatchesWords before (patched (with_bytes before bytes) address word) leader insns (count + 1)
    next_patched bytes so_far =
        let change = so_far.text_alone in
        let here = text count (omega arith) in
        let stays : (other : ℕ) → IsTextWord before.ranges other → ¬ (other ≡ address)
        → text_word (patched (with_bytes before bytes) address word) other ≡ text_word (with_bytes before bytes) other =
        λ other of_text differ. other_words_stay before.bytes bytes before address other word read change here of_text differ in
        record {
          same_else = refl;
          text_alone = one_more_written before bytes address word whole change here;
          words = λ k h. elim (cases_lt k count) [
            | inl l ↦
                subst (λ w. IsWordOf w (nth_insn insns k))
                (sym (stays (leader + 4 * k) (text k h) (λ same. omega arith))) (so_far.words k l)
            | inr l ↦
                let same : count ≡ k = omega arith in
                subst (λ j. IsWordOf (text_word (patched (with_bytes before bytes) address word) (leader + 4 * j)) (nth_insn insns j)) same
                (subst (λ w. IsWordOf w (nth_insn insns count)) (sym (word_is_read before bytes address word whole change here small)) spelt)
          ];
          others = λ other of_text out.
              stays other of_text (λ same. out (count, omega arith, same))
              ∙ so_far.others other of_text (λ at. out (at.0, omega (arith, at.1), at.2));
        }

    -- so does the file
    pub one_more_patched :
        (after : Executable) → PatchesWords before after leader insns count
        → PatchesWords before (patched after address word) leader insns (count + 1)
    one_more_patched after so_far =
        subst (λ file. PatchesWords before file leader insns count → PatchesWords before (patched file address word) leader insns (count + 1))
        (sym so_far.same_else) (next_patched after.bytes) so_far

-- ---- block after block

-- a word of an earlier block is none of a later one
pub earlier_word_stays :
    (mid new : Executable) (earlier later : Block) (insns : List Insn) (k : ℕ) → PatchesBlock mid new later.leader insns
    → end_of_block earlier ≤ later.leader → k < size_of earlier → IsTextWord mid.ranges (earlier.leader + 4 * k)
    → text_word new (earlier.leader + 4 * k) ≡ text_word mid (earlier.leader + 4 * k)
earlier_word_stays mid new earlier later insns k patches apart below text =
    patches.others (earlier.leader + 4 * k) text (λ at. omega (arith, at.2))
