-- What reading the file of a program gives.
use Rattle.std.proofs.Common.{◌≡◌, ℕ, zero, suc, ◌+◌, ◌-◌, ◌*◌, ◌/◌, ◌^◌, ◌<◌, ◌≤◌, List, [], ◌∷◌, length, Ok, Err}
use Rattle.std.proofs.Common.{sym, ap, subst, ◌∙◌, arith, lit<, lit≤}
use Rattle.std.specs.Prelude.{slice_index}
use Rattle.std.proofs.lemmas.Bool.Decides.{nat_tests}
use Rattle.std.specs.List.{All}
use Rattle.std.proofs.lemmas.List.Elements.{All-head, All-tail}
use Rattle.std.proofs.lemmas.Slice.Zip.{AllZip-long}
use Rattle.ci_isa.specs.declared.instruction.Insn.{Insn}
use Rattle.ci_isa.specs.declared.instruction.Insn.TheVariants.{Illegal}
use Rattle.ci_isa.specs.Fields.{HasCustomOpcode}
use Rattle.ci_isa.specs.Table.{IsWordOf}
use Rattle.ci_elf.specs.declared.faults.ElfFault.{ElfFault}
use Rattle.ci_elf.specs.declared.faults.ElfFault.TheVariants.{NoMemory}
use Rattle.ci_elf.specs.declared.ranges.Range.{Range}
use Rattle.ci_elf.specs.Executables.{Executable, IsTextWord, text_word}
use Rattle.ci_elf.specs.FrameImages.{FitFrame, IsFramed, text_range}
use Rattle.ci_elf.specs.WordLists.{AreWords}
use Rattle.ci_elf.specs.Frames.{frame_of, text_address}
use Rattle.ci_elf.specs.Rules.{IsReadAs}
use Rattle.ci_elf.proofs.FrameHeaderLaws.{frame_headers}
use Rattle.ci_elf.proofs.FrameImageLaws.{frames_are_read, frames_keep_rules}
use Rattle.ci_gen.specs.Programs.{AreWordsOf, IsOnlyProgramOf, IsProgramOf}
use Rattle.ci_gen.specs.private.Pushed.{AreOnlyWordsOf}
use Rattle.ci_gen.specs.Texts.{text_of}
use Rattle.ci_gen.proofs.InstructionLaws.{IsPlain, plain_text}
use Rattle.ci_gen.proofs.OperationLaws.{length-text}
use Rattle.ci_gen.proofs.PushLaws.{only_words, words_of_pushed}

-- ---- its words

-- what stands for an instruction is a word
word_below : (word : ℕ) (insn : Insn) → IsWordOf word insn → word < 2 ^ 32
word_below word (Illegal w) is = is.0
word_below word insn is = is.0

-- so the words of instructions are words
are_words : (words : List ℕ) (insns : List Insn) → AreWordsOf words insns → AreWords words
are_words [] insns all k = lit< tt
are_words (w ∷ words) [] all k = absurd all
are_words (w ∷ words) (i ∷ insns) all zero = word_below w i all.0
are_words (w ∷ words) (i ∷ insns) all (suc k) = are_words words insns all.1 k

-- and 0 is one
one_word_is : AreWords (0 ∷ [])
one_word_is zero = lit< tt
one_word_is (suc k) = lit< tt

-- none has a custom opcode
plain_at : (words : List ℕ) (insns : List Insn) → AreWordsOf words insns → All IsPlain insns → (k : ℕ) → k < length words
    → ¬ HasCustomOpcode (slice_index words k)
plain_at [] insns all plain k below = absurd (omega arith)
plain_at (w ∷ words) [] all plain k below = absurd all
plain_at (w ∷ words) (i ∷ insns) all plain zero below = All-head IsPlain i insns plain w all.0
plain_at (w ∷ words) (i ∷ insns) all plain (suc k) below = plain_at words insns all.1 (All-tail IsPlain i insns plain) k (omega arith)

-- ---- its frame

-- the words of a text fit a frame with one value
module _ (seed : ℕ) (words : List ℕ) (are : AreWordsOf words (text_of seed)) where
  -- how many words there are
  pub length-words : length words ≡ 16210
  length-words = sym (AllZip-long IsWordOf words (text_of seed) are) ∙ length-text seed

  -- headers, text and value have room
  pub fits : FitFrame words [] (0 ∷ [])
  fits =
      let count = length-words in
      record {
        some_text = omega arith;
        text_fits = omega arith;
        values_fit = lit≤ tt;
        text_words = are_words words (text_of seed) are;
        constant_words = λ k. lit< tt;
        value_words = one_word_is;
      }

-- a word of its text has a place
text_place : (words : List ℕ) (address : ℕ) → IsTextWord (text_range words ∷ []) address
    → (k : ℕ) × (k < length words) × (address ≡ text_address + 4 * k)
text_place words address (whole, there) = ((address - text_address) / 4, omega (arith, within), omega (arith, within))
  where
    within : (text_address ≤ address) × (address < text_address + 4 * length words)
    within = grind (arith, nat_tests)

-- ---- the file

module _ (seed : ℕ) (bytes : List ℕ) (program : IsProgramOf seed bytes) where
  -- its words have room
  abbrev text_fits : FitFrame program.words [] (0 ∷ [])
  text_fits = fits seed program.words program.words_are

  -- reading it gives its words
  pub read_as_framed : (image : Executable) → IsReadAs bytes (Ok image) → IsFramed program.words [] (0 ∷ []) image
  read_as_framed image read =
      frames_are_read program.words [] (0 ∷ []) text_fits image
      (subst (λ (b : List ℕ). IsReadAs b (Ok image)) program.bytes_are read)

  -- it is refused only where memory runs out
  pub keeps_rules : (fault : ElfFault) → IsReadAs bytes (Err fault) → fault ≡ NoMemory
  keeps_rules fault read =
      frames_keep_rules program.words [] (0 ∷ []) text_fits fault
      (subst (λ (b : List ℕ). IsReadAs b (Err fault)) program.bytes_are read)

  -- a word of the text is one of the program's
  pub plain_words : (image : Executable) → IsReadAs bytes (Ok image) → (address : ℕ) → IsTextWord image.ranges address
      → ¬ HasCustomOpcode (text_word image address)
  plain_words image read address word =
      let framed = read_as_framed image read in
      let there = text_place program.words address (subst (λ (ranges : List Range). IsTextWord ranges address) framed.ranges word) in
      subst (λ (w : ℕ). ¬ HasCustomOpcode w)
      (sym (ap (text_word image) there.2 ∙ framed.text_words there.0 there.1))
      (plain_at program.words (text_of seed) program.words_are (plain_text seed) there.0 there.1)

-- the file of these words is that of the seed's program
pub framed_program : (seed : ℕ) (words bytes : List ℕ) → AreOnlyWordsOf words (text_of seed) → bytes ≡ frame_of words [] (0 ∷ [])
    → IsProgramOf seed bytes
framed_program seed words bytes all is =
    record { words = words; words_are = words_of_pushed words (text_of seed) all; bytes_are = is }

-- so many bytes
pub length-program : (seed : ℕ) (words bytes : List ℕ) → AreOnlyWordsOf words (text_of seed) → bytes ≡ frame_of words [] (0 ∷ [])
    → length bytes ≡ 65120
length-program seed words bytes all is =
    let are = words_of_pushed words (text_of seed) all in
    let headers = frame_headers words [] (0 ∷ []) (fits seed words are) in
    let count = length-words seed words are in
    let same = ap length is in
    omega (arith, headers.long)

-- and there is no other
pub only_program : (seed : ℕ) (words bytes : List ℕ) → AreOnlyWordsOf words (text_of seed) → bytes ≡ frame_of words [] (0 ∷ [])
    → IsOnlyProgramOf seed bytes
only_program seed words bytes all is = λ others program.
    program.bytes_are ∙ (ap (λ (ws : List ℕ). frame_of ws [] (0 ∷ [])) (only_words words program.words (text_of seed) all program.words_are) ∙ sym is)
