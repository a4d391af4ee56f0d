use Rattle.ci_verilog.proofs.WidthLaws.{is_none_told}
use Rattle.std.specs.List.{Contains}
use Rattle.ci_verilog.specs.Modules.{known_by, vector}
use Rattle.ci_verilog.proofs.wires.Wires.is_new.Goals as goal

pub returns : goal.returns
returns c =
    is_none_told (λ w. Contains (known_by c.args.self.now) (vector c.args.name.now w)) c.width_of.result c.is_none.result
    c.is_none.ensures c.width_of.ensures
