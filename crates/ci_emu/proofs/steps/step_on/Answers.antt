use Rattle.std.proofs.Common.{subst}
use Rattle.ci_elf.specs.Executables.{in_text as has_text}
use Rattle.ci_machine.specs.States.{program_of, state_of}
use Rattle.ci_emu.specs.private.Fetched.{IsTextBelow}
use Rattle.ci_emu.proofs.Fetching.{executed_is, fetched_as, index_fits}
use Rattle.ci_emu.proofs.steps.step_on.Goals as goal

pub returns-in-Some-clause-stepped : goal.returns-in-Some-clause-stepped
returns-in-Some-clause-stepped g c =
    executed_is (program_of c.args.state.now) (state_of c.args.state.now) (g.M.Machine.meanings c.args.machine.now) _ _
    (fetched_as (g.M.Machine.meanings c.args.machine.now) (g.M.Machine.has_unit c.args.machine.now) (g.M.Machine.has_hidden c.args.machine.now)
    (g.met.M.Machine.stands c.args.machine.now) (program_of c.args.state.now) (state_of c.args.state.now)
    c.in-Some.word c.reading.result c.reading.ensures (λ meaning means. c.in-Some.ensures meaning))
    _ c.execute.ensures.executed

pub execute-requires-clause-index : goal.execute-requires-clause-index
execute-requires-clause-index g c = index_fits c.in-Some.word c.reading.result c.reading.ensures

pub execute-requires-clause-behind : goal.execute-requires-clause-behind
execute-requires-clause-behind g c =
    subst (λ ranges. IsTextBelow (has_text ranges) c.new-touches.result.end) c.text.ensures.value c.new-touches.ensures.end
