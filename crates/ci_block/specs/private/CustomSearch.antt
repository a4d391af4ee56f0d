-- For private contracts: words of the custom opcodes, range by range.
use Rattle.std.specs.Prelude.{◌≡◌, ℕ, ◌+◌, ◌*◌, ◌<◌}
use Rattle.ci_isa.specs.Fields.{HasCustomOpcode}
use Rattle.ci_elf.specs.Executables.{Executable, text_word}
use Rattle.ci_block.specs.private.Marking.{range_at}

-- none of the first words of range i has one of the opcodes
abbrev pub HasNoCustomWordIn : Executable → ℕ → ℕ → Type 0
HasNoCustomWordIn image i count =
    (k : ℕ) → k < count → ¬ HasCustomOpcode (text_word image ((range_at image.ranges i).start + 4 * k))

-- no word of the ranges before range i has one
abbrev pub HasNoCustomWordBefore : Executable → ℕ → Type 0
HasNoCustomWordBefore image i = (j : ℕ) → j < i → HasNoCustomWordIn image j (range_at image.ranges j).words

-- the first word of range i that has one
pub record IsFirstCustomWordIn (image : Executable) (i address word : ℕ) : Type 0 where
  pub place : ℕ
  pub within : place < (range_at image.ranges i).words
  pub address_is : address ≡ (range_at image.ranges i).start + 4 * place
  pub there : text_word image address ≡ word
  pub custom : HasCustomOpcode word
  pub first : HasNoCustomWordIn image i place
