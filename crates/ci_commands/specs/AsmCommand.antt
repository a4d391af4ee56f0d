-- For every reader: the command `asm`, the words of an assembler text.
use Rattle.std.specs.Prelude.{◌≡◌, ℕ, List, [], ◌∷◌}
use Rattle.ci_reading.specs.Bytes.{bytes_of_words}
use Rattle.ci_calls.specs.declared.success.Success.{Success}
use Rattle.ci_calls.specs.declared.success.Written.{Written}
use Rattle.ci_calls.specs.Forms.{assembler_text, IsText}
use Rattle.ci_calls.specs.Inputs.{Input}

-- the file with the text
abbrev pub text_input : List ℕ → Input
text_input name = record { name = name; limit = 1048576; form = assembler_text }

abbrev pub asm_inputs : List ℕ → List Input
asm_inputs text = text_input text ∷ []

-- it writes the words that the text assembles to, and puts nothing
pub record IsAsmMade (out : List ℕ) (read : List (List ℕ)) (success : Success) : Type 0 where
  pub bytes : List ℕ
  pub words : List ℕ
  pub read_is : read ≡ bytes ∷ []
  pub text : IsText bytes words
  pub file : Written
  pub writes_one : success.writes.items ≡ file ∷ []
  pub name_is : file.name.now ≡ out
  pub words_are : file.bytes.items ≡ bytes_of_words words
  pub puts_nothing : success.text.items ≡ []
