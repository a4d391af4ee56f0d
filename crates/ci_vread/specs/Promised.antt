-- What reading a text promises, for everybody.
use Rattle.std.specs.Prelude.{ℕ, ⊤, List}
use Rattle.ci_vread.specs.declared.faults.VFault.{VFault}
use Rattle.ci_vread.specs.declared.faults.VFault.TheVariants.{Bad, NoMemory}
use Rattle.ci_vread.specs.Rules.{HasFault}

-- the fault of a text that spells no modules, or out of memory
abbrev pub IsFaultOf : List ℕ → VFault → Type 0
IsFaultOf bytes (Bad kind offset) = HasFault bytes kind offset
IsFaultOf bytes NoMemory = ⊤
