-- The extended machine with the modules of the units runs from the opening state of the new file.
use Rattle.std.proofs.Common.{◌∙◌}
use Rattle.ci_machine.specs.States.{program_of, state_of}
use Rattle.ci_find.proofs.LoadLaws.{cost_of_new}
use Rattle.ci_find.proofs.load.cost_with_units.Goals as goal

pub returns : goal.returns
returns c =
    let units = c.args.chosen.now.units in
    let start = c.in_ok-state.state in
    cost_of_new c.args.chosen.now.image units c.args.table.now c.args.steps c.as_slice.result.now (program_of start) (state_of start)
    c.in_ok-profile.profile c.as_slice-units.ensures.kept (c.as_slice.ensures.value ∙ c.in_ok-modules.ensures)
    c.in_ok-state.ensures.program c.in_ok-state.ensures.state c.in_ok-profile.ensures.profile
