-- What holds of the file of the program of a seed.
use Rattle.std.specs.Prelude.{◌≡◌, ℕ, List, [], ◌∷◌, Ok, Err}
use Rattle.ci_isa.specs.Fields.{HasCustomOpcode}
use Rattle.ci_elf.specs.declared.faults.ElfFault.{ElfFault}
use Rattle.ci_elf.specs.declared.faults.ElfFault.TheVariants.{NoMemory}
use Rattle.ci_elf.specs.Executables.{Executable, IsTextWord, text_word}
use Rattle.ci_elf.specs.FrameImages.{IsFramed}
use Rattle.ci_elf.specs.Rules.{IsReadAs}
use Rattle.ci_gen.specs.Programs.{IsProgramOf}

-- Reading the file gives back its words, and its value.
abbrev pub ProgramsAreRead : Type 0
ProgramsAreRead =
    (seed : ℕ) (bytes : List ℕ) (program : IsProgramOf seed bytes) (image : Executable) → IsReadAs bytes (Ok image)
    → IsFramed program.words [] (0 ∷ []) image

-- The file breaks no rule, so that reading it fails only where memory runs out.
abbrev pub ProgramsKeepRules : Type 0
ProgramsKeepRules =
    (seed : ℕ) (bytes : List ℕ) → IsProgramOf seed bytes → (fault : ElfFault) → IsReadAs bytes (Err fault)
    → fault ≡ NoMemory

-- No word of its text has one of the custom opcodes.
abbrev pub ProgramsArePlain : Type 0
ProgramsArePlain =
    (seed : ℕ) (bytes : List ℕ) → IsProgramOf seed bytes → (image : Executable) → IsReadAs bytes (Ok image)
    → (address : ℕ) → IsTextWord image.ranges address → ¬ HasCustomOpcode (text_word image address)
