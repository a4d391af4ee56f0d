-- What the definition of an image says of all files: laws, which a function of `src/laws.rt` has as its contract.
use Rattle.std.specs.Prelude.{◌≡◌, ◌⊎◌, ℕ, List, Result, Ok, Err}
use Rattle.ci_elf.specs.declared.faults.ElfFault.{ElfFault}
use Rattle.ci_elf.specs.declared.faults.ElfFault.TheVariants.{NoMemory}
use Rattle.ci_elf.specs.Rules.{IsReadAs}
use Rattle.ci_elf.specs.Executables.{Executable, IsImageOf, IsWellFormed}

-- A file has one image.
abbrev pub ImageIsOne : Type 0
ImageIsOne = (bytes : List ℕ) (left right : Executable) → IsImageOf bytes left → IsImageOf bytes right → left ≡ right

-- Reading a file that has an image answers that image, unless memory runs out.
abbrev pub AnswerIsOne : Type 0
AnswerIsOne =
    (bytes : List ℕ) (file : Executable) (answer : Result Executable ElfFault) → IsReadAs bytes (Ok file)
    → IsReadAs bytes answer → (answer ≡ Ok file) ⊎ (answer ≡ Err NoMemory)

-- A file that is read has a well-formed image.
abbrev pub ImageIsWellFormed : Type 0
ImageIsWellFormed = (bytes : List ℕ) (file : Executable) → IsReadAs bytes (Ok file) → IsWellFormed file
