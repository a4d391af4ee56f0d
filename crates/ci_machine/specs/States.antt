-- What the definitions see of a machine's state.
use Rattle.std.specs.Prelude.{ℕ, List, drop, slice_index, Option, Some, None}
use Rattle.ci_machine.specs.declared.state.State.{State as Machine}
use Rattle.ci_machine.specs.declared.state.Call.{Call}
use Rattle.ci_machine.specs.declared.state.Call.TheVariants.{Goes, Exit}
use Rattle.ci_machine.specs.declared.ends.End.{End}
use Rattle.ci_machine.specs.declared.ends.End.TheVariants as ends
use Rattle.ci_isa.specs.declared.instruction.Width.{Width}
use Rattle.ci_machine.specs.Cores.{Core}
use Rattle.ci_isa.specs.Effects.{width_bytes}
use Rattle.ci_machine.specs.Accesses.{addresses, bytes_at}
use Rattle.ci_machine.specs.Outcomes.{Reached, reached}
use Rattle.ci_machine.specs.Actions.{stored}
use Rattle.ci_machine.specs.Calls.{call}
use Rattle.ci_machine.specs.Programs.{Program, State}
use Rattle.ci_machine.specs.Memories.{memory_of, segments_of}

-- everything of it but the pc
unfoldable pub core_of : Machine → Core
core_of machine = record {
  registers = slice_index machine.registers;
  memory = memory_of machine.memory;
  heap_end = machine.memory.heap_end;
  input = drop machine.read machine.input.items;
  output = machine.output.items;
}

unfoldable pub state_of : Machine → State
state_of machine = record { pc = machine.pc; core = core_of machine }

-- the program that it runs
unfoldable pub program_of : Machine → Program
program_of machine = record { segments = segments_of machine.memory; text = machine.text }

-- the end that an environment call comes to, if any
abbrev pub end_of : Call → Option End
end_of Goes = None
end_of (Exit code) = Some (ends.Exit code)

-- how far the environment call that the registers ask for comes
abbrev pub called : Program → Core → Reached Core
called program core = reached core (call program core)

-- the bytes that an access of this width finds, where all are mapped
abbrev pub bytes_of : Core → ℕ → Width → Option (List ℕ)
bytes_of core address width = bytes_at core.memory (addresses (width_bytes width) address)

-- the core after a store, which changes nothing where a byte is not mapped
abbrev pub after_store : Core → ℕ → Width → ℕ → Core
after_store core address width value =
    (reached core (stored core width address value (bytes_of core address width))).state
