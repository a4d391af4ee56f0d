-- So many steps were made, none of them ended, and the tally is theirs. What is near is near in the text.
use Rattle.ci_machine.specs.States.{program_of, state_of}
use Rattle.ci_emu.specs.private.Fetched.{cycles_on}
use Rattle.ci_emu.specs.private.PlacedRanges.{ArePlaced}
use Rattle.ci_emu.specs.TableLatencies.{latencies_on}
use Rattle.ci_emu.proofs.RunsSoFar.{IsRunTo}
use Rattle.ci_emu.proofs.runs.run_on.Given as goal

abbrev pub invariant-loop-i : goal.invariant-loop-i
invariant-loop-i g l =
    IsRunTo (g.M.Machine.meanings l.machine)
    (cycles_on (g.M.Machine.has_unit l.machine) (g.M.Machine.has_hidden l.machine) (g.M.Machine.unit_cycles l.machine) l.table)
    (latencies_on l.table (g.M.Machine.unit_cycles l.machine)) (program_of l.fn.state) (state_of l.fn.state) l.i
    (program_of l.state) (state_of l.state) l.tally × ArePlaced (program_of l.fn.state).text l.nearby
