-- For private contracts: the file of a block once it is read.
use Rattle.std.specs.Prelude.{◌≡◌, ℕ, ◌≤◌, List, length, Option, Some, None}
use Rattle.ci_elf.specs.Executables.{IsImageOf}
use Rattle.ci_commands.specs.declared.best.file.BlockFile.{BlockFile}
use Rattle.ci_commands.specs.declared.best.file.BlockFile.TheVariants.{Words, Program}

-- what is kept of the file's bytes, where an address is given or not
abbrev pub IsFileOf : Option ℕ → List ℕ → BlockFile → Type 0
IsFileOf None bytes (Words words) = words.items ≡ bytes
IsFileOf None bytes (Program image address) = ⊥
IsFileOf (Some place) bytes (Words words) = ⊥
IsFileOf (Some place) bytes (Program image address) = IsImageOf bytes image × (address ≡ place)

-- the words of a block are few enough
abbrev pub IsWithinLimit : BlockFile → Type 0
IsWithinLimit (Words words) = length words.items ≤ 1024
IsWithinLimit (Program image address) = Unit {0}
