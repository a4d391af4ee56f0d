-- Words of the text that have one of the custom opcodes.
use Rattle.std.specs.Prelude.{◌≡◌, ℕ, ◌<◌}
use Rattle.ci_isa.specs.Fields.{HasCustomOpcode}
use Rattle.ci_elf.specs.Executables.{Executable, IsTextWord, text_word}

-- no word of the text has one of the custom opcodes
abbrev pub HasNoCustomWord : Executable → Type 0
HasNoCustomWord image = (address : ℕ) → IsTextWord image.ranges address → ¬ HasCustomOpcode (text_word image address)

-- the first word of the text that has one, by its address
pub record IsFirstCustomWord (image : Executable) (address word : ℕ) : Type 0 where
  pub text : IsTextWord image.ranges address
  pub there : text_word image address ≡ word
  pub custom : HasCustomOpcode word
  pub first : (a : ℕ) → IsTextWord image.ranges a → a < address → ¬ HasCustomOpcode (text_word image a)
