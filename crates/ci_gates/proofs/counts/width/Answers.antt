use Rattle.std.proofs.Common.{arith}
use Rattle.ci_verilog.specs.Modules.{known_by, IsTerm}
use Rattle.ci_verilog.proofs.WireLaws.{narrow_names}
use Rattle.ci_verilog.proofs.WidthLaws.{narrow_term}
use Rattle.ci_gates.proofs.counts.width.Goals as goal

pub returns-in-Some-clause-narrow : goal.returns-in-Some-clause-narrow
returns-in-Some-clause-narrow c =
    let wires = c.args.wires.now in
    let is : IsTerm (known_by wires) c.args.term.now c.in-Some.width = (c.term_width.ensures c.in-Some.width).0 c.in-Some.is in
    let narrow = narrow_term (known_by wires) (narrow_names wires c.as_slice-wires.ensures.kept) c.args.term.now c.in-Some.width is in
    omega (arith, narrow, c.from.ensures)
