use Rattle.ci_machine.proofs.BlockSteps.{block_steps, control_step}
use Rattle.ci_machine.proofs.StepLists as laws
use Rattle.ci_machine.proofs.laws.block_steps.Goals as goal

pub returns-clause-run : goal.returns-clause-run
returns-clause-run c = block_steps

pub returns-clause-touches : goal.returns-clause-touches
returns-clause-touches c = laws.leaving_alike

pub returns-clause-cost : goal.returns-clause-cost
returns-clause-cost c = λ meaning program memory insns state through latencies.
    laws.block_costs meaning program memory latencies insns state through

pub returns-clause-control : goal.returns-clause-control
returns-clause-control c = control_step
