-- A unit gives what its module has as its value.
use Rattle.std.proofs.Common.{◌≡◌, ℕ, List, [], ◌∷◌, length, refl, sym}
use Rattle.std.specs.Prelude.{true, nat_lt, slice_index_or}
use Rattle.std.proofs.lemmas.Bool.{ltb-true}
use Rattle.std.proofs.lemmas.Option.{slice_get_read}
use Rattle.ci_elf.specs.WordLists.{AreWords}
use Rattle.ci_verilog.specs.Modules.{Module, IsModule}
use Rattle.ci_verilog.specs.Values.{IsValueOf}
use Rattle.ci_verilog.proofs.ValueLaws.{value_is_one}
use Rattle.ci_machine.specs.Extended.{IsExtended}
use Rattle.ci_machine.specs.Steps.{Meaning}
use Rattle.ci_emu.specs.Machines.{Gives}

pub unit_gives : (modules : List Module) (meaning : Meaning) → IsExtended modules meaning → (number : ℕ) (m : Module)
    → (true ≡ nat_lt number (length modules)) × (m ≡ slice_index_or modules number m) → IsModule m
    → (a b c d e : ℕ) → AreWords (a ∷ b ∷ c ∷ d ∷ e ∷ []) → (given : ℕ × ℕ × ℕ)
    → IsValueOf m (a ∷ b ∷ c ∷ d ∷ e ∷ []) (given.0 ∷ given.1 ∷ given.2 ∷ [])
    → Gives meaning.units number (a ∷ b ∷ c ∷ d ∷ e ∷ []) given
unit_gives modules meaning is number m there kept a b c d e words given value =
    let found = slice_get_read modules (length modules) number m refl (ltb-true number (length modules) (sym there.0)) there.1 in
    record {
      further = is.further number;
      results = value_is_one m kept (a ∷ b ∷ c ∷ d ∷ e ∷ []) (meaning.units.results number (a ∷ b ∷ c ∷ d ∷ e ∷ []))
          (given.0 ∷ given.1 ∷ given.2 ∷ []) (is.computes number m found (a ∷ b ∷ c ∷ d ∷ e ∷ []) refl words) value;
    }
