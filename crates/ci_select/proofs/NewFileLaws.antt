-- A file and a legal history have one new file.
use Rattle.std.proofs.Common.{◌≡◌, ℕ, suc, zero, ◌+◌, ◌-◌, ◌*◌, ◌/◌, ◌<◌, ◌≤◌, inl, inr, List, length, get_or, refl, sym, ◌∙◌}
use Rattle.std.proofs.Common.{subst, arith}
use Rattle.std.specs.List.{Contains}
use Rattle.std.proofs.lemmas.Bool.{cases_eq}
use Rattle.std.proofs.lemmas.Grind.{same_number_lists}
use Rattle.ci_isa.specs.declared.instruction.Insn.{Insn}
use Rattle.ci_isa.specs.Sequences.{nth_insn}
use Rattle.ci_elf.specs.Executables.{Executable, IsTextWord, IsWellFormed, place_of, text_word}
use Rattle.ci_elf.specs.Fields.{field}
use Rattle.ci_elf.specs.TextChanges.{IsTextPlace}
use Rattle.ci_machine.specs.Words.{AreBytes}
use Rattle.ci_block.specs.declared.blocks.Block.{Block}
use Rattle.ci_block.specs.Blocks.{size_of}
use Rattle.ci_select.specs.Histories.{History}
use Rattle.ci_select.specs.Instances.{AreBlocksOf, Instance}
use Rattle.ci_select.specs.Laws.{NewFileIsOne}
use Rattle.ci_select.specs.LegalBooks.{IsLegalHistory}
use Rattle.ci_select.specs.NewFiles.{IsNewFile, LiesIn, with_bytes}
use Rattle.ci_select.specs.PresentBlocks.{IsPresent}
use Rattle.ci_select.proofs.BlockSums.{words_in_text}
use Rattle.ci_select.proofs.PresentIsThere.{some_present}
use Rattle.ci_select.proofs.PresentLaws.{present_is_sound}
use Rattle.ci_select.proofs.WordIsOne.{word_is_one}

-- ---- bytes of a number

-- a number tells its lowest digit and the others
low_digit : (a b x y : ℕ) → a < 256 → b < 256 → a + 256 * x ≡ b + 256 * y → (a ≡ b) × (x ≡ y)
low_digit a b x y below under same = (omega arith, omega arith)

-- a number has one byte at each of its places
bytes_are_one :
    (first count : ℕ) (xs ys : List ℕ) → AreBytes xs → AreBytes ys → field count first xs ≡ field count first ys
    → (k : ℕ) → first ≤ k → k < first + count → get_or xs k 0 ≡ get_or ys k 0
unfolding field
bytes_are_one first zero xs ys of_xs of_ys same k from to = absurd (omega arith)
bytes_are_one first (suc count) xs ys of_xs of_ys same k from to =
    let digits = low_digit (get_or xs first 0) (get_or ys first 0) (field count (suc first) xs) (field count (suc first) ys)
    (of_xs first) (of_ys first) same in
    elim (cases_eq first k) [
      | inl here ↦ subst (λ j. get_or xs j 0 ≡ get_or ys j 0) here digits.0
      | inr other ↦ bytes_are_one (suc first) count xs ys of_xs of_ys digits.1 k (omega arith) (omega arith)
    ]

-- ---- words of the text

module _
    (instance : Instance) (file : Executable) (history : History) (left right : List ℕ) (formed : IsWellFormed file)
    (bytes : AreBytes file.bytes) (of_file : AreBlocksOf file instance.blocks instance.live)
    (legal : IsLegalHistory instance history) (first : IsNewFile instance file history left)
    (second : IsNewFile instance file history right) where
  -- the word at the address is the same in both
  abbrev SameWord : ℕ → Type 0
  SameWord address = text_word (with_bytes file left) address ≡ text_word (with_bytes file right) address

  -- a word of a block is one of its instructions
  word_place :
      (block : Block) (address : ℕ) → Contains instance.blocks block → IsTextWord file.ranges address → LiesIn block address
      → (k : ℕ) × (k < size_of block) × (block.leader + 4 * k ≡ address)
  word_place block address there (aligned, text) (from, to) =
      let start = words_in_text {block = block} of_file there 0 (omega arith) in
      ((address - block.leader) / 4, omega (arith, start.0), omega (arith, start.0))

  -- which stands in both files
  same_in_present :
      (block : Block) (address : ℕ) (insns : List Insn) → Contains instance.blocks block → IsTextWord file.ranges address
      → LiesIn block address → IsPresent instance history block.leader insns → SameWord address
  same_in_present block address insns there text lies present =
      let place = word_place block address there text lies in
      let sound = present_is_sound (file, of_file, formed, bytes) legal present in
      let within : place.0 < length insns = omega (arith, place.1, sound.same_length block there refl) in
      subst SameWord place.2
      (word_is_one (nth_insn insns place.0) (text_word (with_bytes file left) (block.leader + 4 * place.0))
      (text_word (with_bytes file right) (block.leader + 4 * place.0))
      (first.blocks block insns place.0 there present within) (second.blocks block insns place.0 there present within))

  -- so each word of the text is the same in both,
  same_word : (address : ℕ) → IsTextWord file.ranges address → SameWord address
  same_word address text =
      elim (cases_eq (text_word (with_bytes file left) address) (text_word (with_bytes file right) address)) [
        | inl same ↦ same
        | inr differ ↦
            let out : (block : Block) → Contains instance.blocks block → ¬ LiesIn block address =
            λ block there lies. some_present instance history block legal there (λ present.
            differ (same_in_present block address present.0 there text lies present.1)) in
            first.between address text out ∙ sym (second.between address text out)
      ]

  -- and each byte
  same_byte : AreBytes left → AreBytes right → (k : ℕ) → get_or left k 0 ≡ get_or right k 0
  same_byte of_left of_right k = elim (cases_eq (get_or left k 0) (get_or right k 0)) [
    | inl same ↦ same
    | inr differ ↦
        let out : ¬ IsTextPlace file k =
        λ at.
        differ (bytes_are_one (place_of file.segments at.0) 4 left right of_left of_right (same_word at.0 at.1) k at.2.0 at.2.1) in
        first.text_alone.same_else k out ∙ sym (second.text_alone.same_else k out)
  ]

pub new_file_is_one : NewFileIsOne
new_file_is_one instance file history left right formed bytes of_file legal first second of_left of_right =
    same_number_lists left right (first.text_alone.same_length ∙ sym second.text_alone.same_length)
    (λ k below. same_byte instance file history left right formed bytes of_file legal first second of_left of_right k)
