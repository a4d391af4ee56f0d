-- The plain machine runs from the opening state.
use Rattle.std.proofs.lemmas.Result.{IfOk-weaker}
use Rattle.ci_machine.specs.States.{program_of, state_of}
use Rattle.ci_emu.specs.TableLatencies.{latencies_of}
use Rattle.ci_find.proofs.ProfiledRuns.{opened}
use Rattle.ci_find.proofs.profiling.profile_of.Goals as goal

pub returns : goal.returns
returns c =
    let start = c.in_ok-state.state in
    IfOk-weaker c.run.result _ _ (λ profile counted meaning plain.
    opened meaning c.args.image.now c.args.input.items c.args.steps (latencies_of c.args.table.now) (program_of start)
    (state_of start) profile c.in_ok-state.ensures.program c.in_ok-state.ensures.state (counted meaning plain))
    c.run.ensures.profile
