-- Where bytes that are no text of netlists are bad, for everybody.
use Rattle.std.specs.Prelude.{ℕ, List, length, ⊤}
use Rattle.ci_reading.specs.Fronts.{IsFirstBad, EndsEarly}
use Rattle.ci_netlist.specs.declared.faults.GateFault.{GateFault}
use Rattle.ci_netlist.specs.declared.faults.GateFault.TheVariants.{Bad, NoMemory}
use Rattle.ci_netlist.specs.Texts.{IsWhole}

-- so many bytes stand before the first one with which no text goes on, or are all and only the beginning of a text
pub data IsBad (bytes : List ℕ) : ℕ → Type 0 where
  at_byte : (front : List ℕ) (byte : ℕ) → IsFirstBad IsWhole bytes front byte → IsBad bytes (length front)
  at_end : EndsEarly IsWhole bytes → IsBad bytes (length bytes)

-- the fault is that of the bytes
abbrev pub IsFaultOf : List ℕ → GateFault → Type 0
IsFaultOf bytes (Bad offset) = IsBad bytes offset
IsFaultOf bytes NoMemory = ⊤
