use Rattle.ci_machine.proofs.RelatedLists.{list_frame}
use Rattle.ci_machine.proofs.EndLaws.{lists_keep_streams}
use Rattle.ci_machine.proofs.LeavingLists.{leaves_alike}
use Rattle.ci_machine.proofs.laws.list_frame.Goals as goal

pub returns-clause-related : goal.returns-clause-related
returns-clause-related c = λ text set units. list_frame text units set

pub returns-clause-leaves : goal.returns-clause-leaves
returns-clause-leaves c = λ text set units. leaves_alike text units set

pub returns-clause-streams : goal.returns-clause-streams
returns-clause-streams c = lists_keep_streams
