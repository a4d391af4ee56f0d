-- The output of the last state, and the end line of the profile.
use Rattle.std.proofs.Common.{◌≡◌, ◌∙◌, ◌++◌}
use Rattle.ci_machine.specs.States.{state_of, program_of}
use Rattle.ci_calls.specs.Refused.{modules_in}
use Rattle.ci_commands.specs.RunCommand.{latencies_by}
use Rattle.ci_commands.proofs.RunTexts.{machine_exists, run_text_is}
use Rattle.ci_commands.proofs.run.run_text.Goals as goal

pub returns : goal.returns
returns c =
    let start = c.in_ok-state.state in
    let last = c.run_by.new.state in
    let output = c.into_output-text.result.items in
    let line = c.as_bytes.result.now in
    let run = c.in_ok-profile.ensures in
    let modules = modules_in c.args.modules.now in
    let machine = machine_exists modules c.requires.modules in
    let whole : c.extend_from_slice.new.self.items ≡ output ++ line = c.in_ok-extend_from_slice.ensures.items in
    record {
      meaning = machine.0;
      machine = machine.1;
      text_is = whole ∙ run_text_is machine.0 (latencies_by modules c.args.table.now) c.args.image.now c.args.input.items c.args.steps
          (program_of start) (state_of start) (state_of last) c.in_ok-profile.profile output line
          c.in_ok-state.ensures.program c.in_ok-state.ensures.state
          (run.state machine.0 machine.1) (run.profile machine.0 machine.1)
          c.into_output-text.ensures (c.as_bytes.ensures.value ∙ c.in_ok-line.ensures);
    }
