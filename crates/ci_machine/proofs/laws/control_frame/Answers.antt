use Rattle.ci_machine.proofs.ControlFrame.{control_frame}
use Rattle.ci_machine.proofs.MovedBytes.{leaves_alike}
use Rattle.ci_machine.proofs.laws.control_frame.Goals as goal

pub returns : goal.returns
returns c = λ text set units old new layout left right mapped_left mapped_right outside agree insn pc ends covered clear. (
  control_frame text set units old new layout left right mapped_left mapped_right outside agree insn pc ends covered clear,
  leaves_alike text set units left right mapped_left mapped_right outside agree insn ends covered clear,
)
