use Rattle.std.proofs.Common.{◌≡◌, OnOk, OnErr, IfOk, refl, subst, arith, ◌∙◌}
use Rattle.ci_machine.specs.Extended.{IsExtended, latencies_with}
use Rattle.ci_machine.specs.Runs.{after}
use Rattle.ci_machine.specs.States.{program_of, state_of}
use Rattle.ci_machine.specs.Steps.{Meaning}
use Rattle.ci_emu.proofs.RunSteps.{on_error}
use Rattle.ci_emu.specs.Profiles.{IsProfileOf}
use Rattle.ci_emu.specs.Steps.{IsReached}
use Rattle.ci_emu.specs.TableLatencies.{latencies_of}
use Rattle.ci_xemu.proofs.running.run_x.Goals as goal

pub returns-in_err-units-clause-refused : goal.returns-in_err-units-clause-refused
returns-in_err-units-clause-refused c =
    let before = state_of c.args.state.now in
    let reached : IsReached (IsExtended c.args.modules.now) (program_of c.args.state.now) before c.args.n before =
    record { steps = 0; within = omega arith; there = λ meaning means. refl } in
    on_error _ reached

pub returns-clause-state : goal.returns-clause-state
returns-clause-state c =
    subst (λ modules. OnOk c.run_on.result ((meaning : Meaning) → IsExtended modules meaning
    → state_of c.run_on.new.state ≡ (after meaning (program_of c.args.state.now) c.args.n (state_of c.args.state.now)).state))
    (c.deref.ensures.value ∙ c.in_ok-units.ensures) c.run_on.ensures.state

pub returns-clause-profile : goal.returns-clause-profile
returns-clause-profile c =
    subst (λ modules. IfOk c.run_on.result (λ profile. (meaning : Meaning) → IsExtended modules meaning
    → IsProfileOf meaning (program_of c.args.state.now) c.args.n (state_of c.args.state.now)
    (latencies_with (latencies_of c.args.table.now) modules) profile))
    (c.deref.ensures.value ∙ c.in_ok-units.ensures) c.run_on.ensures.profile

pub returns-clause-refused : goal.returns-clause-refused
returns-clause-refused c =
    subst (λ modules. OnErr c.run_on.result
    (IsReached (IsExtended modules) (program_of c.args.state.now) (state_of c.args.state.now) c.args.n (state_of c.run_on.new.state)))
    (c.deref.ensures.value ∙ c.in_ok-units.ensures) c.run_on.ensures.refused
