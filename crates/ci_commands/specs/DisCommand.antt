-- For every reader: the command `dis`, the listing of the words of a file.
use Rattle.std.specs.Prelude.{◌≡◌, ℕ, ◌⊎◌, List, [], ◌∷◌, ◌++◌, codes}
use Rattle.ci_isa.specs.declared.instruction.Insn.{Insn}
use Rattle.ci_isa.specs.declared.instruction.Insn.TheVariants.{Illegal}
use Rattle.ci_isa.specs.Table.{ReadsX}
use Rattle.ci_asm.specs.Shown.{shown}
use Rattle.ci_reading.specs.Bytes.{words_of_bytes}
use Rattle.ci_reading.specs.Hex.{eight_hex_digits}
use Rattle.ci_reading.specs.Lines.{line}
use Rattle.ci_calls.specs.declared.success.Success.{Success}
use Rattle.ci_calls.specs.Forms.{any_bytes}
use Rattle.ci_calls.specs.Inputs.{Input}

-- The text of a word: that of the instruction that it reads as in the extended table, or of the bare word where it
-- reads as none.
abbrev pub IsTextOf : ℕ → List ℕ → Type 0
IsTextOf word text =
    ((insn : Insn) × ReadsX word insn × (text ≡ shown insn))
    ⊎ (((insn : Insn) → ¬ (ReadsX word insn)) × (text ≡ shown (Illegal word)))

-- a line for a word: its digits and its text
abbrev pub listed : ℕ → List ℕ → List ℕ
listed word text = line (eight_hex_digits word ++ codes " " ++ text)

-- a line for each of the words, in their order
abbrev pub IsListing : List ℕ → List ℕ → Type 0
IsListing [] text = text ≡ []
IsListing (word ∷ words) text =
    (shown_text : List ℕ) × (rest : List ℕ) × IsTextOf word shown_text × IsListing words rest
    × (text ≡ listed word shown_text ++ rest)

-- the words
abbrev pub dis_inputs : List ℕ → List Input
dis_inputs file = record { name = file; limit = 1048576; form = any_bytes } ∷ []

-- it puts the listing of the whole words, and passes over bytes after the last of them
pub record IsDisMade (read : List (List ℕ)) (success : Success) : Type 0 where
  pub bytes : List ℕ
  pub read_is : read ≡ bytes ∷ []
  pub listing : IsListing (words_of_bytes bytes) success.text.items
  pub writes_none : success.writes.items ≡ []
