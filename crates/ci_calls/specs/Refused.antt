-- Refusals by the faults of files; and, for lemmas, why a command makes nothing over files that are told.
use Rattle.std.specs.Prelude.{◌≡◌, ℕ, ◌⊎◌, Bool, IsTrue, List, Option, Vec}
use Rattle.std.specs.Option.{option_map}
use Rattle.std.specs.declared.alloc.Global.{Global}
use Rattle.ci_io.specs.Outcomes.{Rises, ShelfState}
use Rattle.ci_asm.specs.declared.faults.AsmFault.{AsmFault}
use Rattle.ci_asm.specs.declared.faults.AsmFault.TheVariants as assembly
use Rattle.ci_elf.specs.declared.faults.ElfFault.{ElfFault}
use Rattle.ci_elf.specs.declared.faults.ElfFault.TheVariants as elf
use Rattle.ci_lat.specs.declared.faults.LatFault.{LatFault}
use Rattle.ci_lat.specs.declared.faults.LatFault.TheVariants as lat
use Rattle.ci_log.specs.declared.faults.LogFault.{LogFault}
use Rattle.ci_log.specs.declared.faults.LogFault.TheVariants as log
use Rattle.ci_netlist.specs.declared.faults.GateFault.{GateFault}
use Rattle.ci_netlist.specs.declared.faults.GateFault.TheVariants as net
use Rattle.ci_verilog.specs.Modules.{Module}
use Rattle.ci_vread.specs.declared.faults.VFault.{VFault}
use Rattle.ci_vread.specs.declared.faults.VFault.TheVariants as verilog
use Rattle.ci_calls.specs.declared.refusals.Refusal.{Refusal}
use Rattle.ci_calls.specs.declared.refusals.Refusal.TheVariants.{Read, BadElf, BadTable, BadUnits, BadLog, NoMemory}
use Rattle.ci_calls.specs.declared.refusals.Refusal.TheVariants.{BadAsm, BadNets}
use Rattle.ci_calls.specs.Inputs.{Input, AreRead, IsFileRefusal, IsDueName}
use Rattle.ci_calls.specs.Refusals.{Name}

-- the name, if there is one
abbrev pub name_in : Option Name → Option (List ℕ)
name_in name = option_map (λ name. name.now) name

-- the modules, if there are any
abbrev pub modules_in : Option (Vec Module Global) → Option (List Module)
modules_in modules = option_map (λ modules. modules.items) modules

-- the refusal of a file that is no executable, or for which memory ran out
abbrev pub elf_refusal : ElfFault → Refusal
elf_refusal elf.NoMemory = NoMemory
elf_refusal fault = BadElf fault

-- the refusal of a file that is no latency table, or for which memory ran out
abbrev pub table_refusal : LatFault → Refusal
table_refusal lat.NoMemory = NoMemory
table_refusal fault = BadTable fault

-- the refusal of a file that holds no modules, or for which memory ran out
abbrev pub units_refusal : VFault → Refusal
units_refusal (verilog.Bad kind offset) = BadUnits kind offset
units_refusal verilog.NoMemory = NoMemory

-- the refusal of a file that holds no log book, or for which memory ran out
abbrev pub log_refusal : LogFault → Refusal
log_refusal log.NoMemory = NoMemory
log_refusal fault = BadLog fault

-- the refusal of a file that holds no assembler text, or for which memory ran out
abbrev pub asm_refusal : AsmFault → Refusal
asm_refusal (assembly.Bad kind line column) = BadAsm kind line column
asm_refusal assembly.NoMemory = NoMemory

-- the refusal of a file that holds no netlists, or for which memory ran out
abbrev pub nets_refusal : GateFault → Refusal
nets_refusal (net.Bad offset) = BadNets offset
nets_refusal net.NoMemory = NoMemory

-- ---- files that are not read

-- of which names a read may fail, and what is known of the shelf before the reads and after them
module _ (may_fail : List ℕ → Bool) (before after : ShelfState) where
  -- reading one of the files failed, and nothing is wrong with those before it
  pub record IsReadFault (inputs : List Input) (refusal : Refusal) : Type 0 where
    pub name : Name
    pub due : IsDueName before.files inputs name.now
    pub fails : IsTrue (may_fail name.now)
    pub counted : Rises before.read_faults after.read_faults
    pub refusal_is : refusal ≡ Read name

  -- why the files of a command are not read: one of them is refused, or reading it failed, or memory ran out
  abbrev pub AreUnread : List Input → Refusal → Type 0
  AreUnread inputs refusal =
      IsFileRefusal before.files inputs refusal ⊎ IsReadFault inputs refusal ⊎ (refusal ≡ NoMemory)

  -- ---- commands

  -- what is refused of files that are all read
  pub record IsRefusedOnceRead
      (inputs : List Input) (IsRefused : List (List ℕ) → Refusal → Type 0) (refusal : Refusal) : Type 0 where
    pub read : List (List ℕ)
    pub files : AreRead before.files inputs read
    pub refused : IsRefused read refusal

  -- why a command that reads these files makes nothing: they are not read, or it refuses what they hold
  abbrev pub IsRefusedBy : List Input → (List (List ℕ) → Refusal → Type 0) → Refusal → Type 0
  IsRefusedBy inputs IsRefused refusal = AreUnread inputs refusal ⊎ IsRefusedOnceRead inputs IsRefused refusal
