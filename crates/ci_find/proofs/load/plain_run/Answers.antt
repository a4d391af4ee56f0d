-- The plain machine runs from the opening state.
use Rattle.std.proofs.Common.{[]}
use Rattle.ci_machine.specs.States.{program_of, state_of}
use Rattle.ci_machine.proofs.PlainMeaning.{plain_exists}
use Rattle.ci_emu.specs.TableLatencies.{latencies_of}
use Rattle.ci_find.proofs.LoadLaws.{opened_output}
use Rattle.ci_find.proofs.ProfiledRuns.{opened}
use Rattle.ci_find.proofs.load.plain_run.Goals as goal

pub returns : goal.returns
returns c =
    let plain = plain_exists in
    let start = c.in_ok-state.state in
    record {
      meaning = plain.0;
      plain = plain.1;
      profile_is =
          opened plain.0 c.args.image.now [] c.args.steps (latencies_of c.args.table.now) (program_of start) (state_of start)
          c.in_ok-profile.profile c.in_ok-state.ensures.program c.in_ok-state.ensures.state
          (c.in_ok-profile.ensures.profile plain.0 plain.1);
      output_is =
          opened_output plain.0 c.args.image.now c.args.steps (program_of start) (state_of start)
          (state_of c.run.new.state) c.into_output-output.result.items c.in_ok-state.ensures.program c.in_ok-state.ensures.state
          (c.in_ok-profile.ensures.state plain.0 plain.1) c.into_output-output.ensures;
    }
