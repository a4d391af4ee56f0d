use Rattle.std.proofs.Common.{None, sym, subst}
use Rattle.ci_verilog.specs.Modules.{known_by, IsSimple}
use Rattle.ci_verilog.proofs.WidthLaws.{Tells, whole_tells, bits_tell, no_bits_tell, constant_tells}
use Rattle.ci_verilog.proofs.wires.Wires.simple_width.Goals as goal

pub returns-in-Whole : goal.returns-in-Whole
returns-in-Whole c =
    let known = known_by c.args.self.now in
    subst (λ simple. Tells (IsSimple known simple) c.width_of.result) (sym c.in-Whole.is)
    (whole_tells known c.in-Whole.name c.width_of.result c.width_of.ensures)

pub returns-in-Some : goal.returns-in-Some
returns-in-Some c =
    let known = known_by c.args.self.now in
    subst (λ simple. Tells (IsSimple known simple) c.part.result) (sym c.in-Bits.is)
    (bits_tell known c.in-Bits.name c.in-Bits.high c.in-Bits.low c.in-Some.width c.width_of-in-Bits.result c.part.result
    c.in-Some.is c.width_of-in-Bits.ensures c.part.ensures)

pub returns-in-None : goal.returns-in-None
returns-in-None c =
    let known = known_by c.args.self.now in
    subst (λ simple. Tells (IsSimple known simple) None) (sym c.in-Bits.is)
    (no_bits_tell known c.in-Bits.name c.in-Bits.high c.in-Bits.low c.width_of-in-Bits.result c.in-None.is
    c.width_of-in-Bits.ensures)

pub returns-in-Number : goal.returns-in-Number
returns-in-Number c =
    let known = known_by c.args.self.now in
    subst (λ simple. Tells (IsSimple known simple) c.constant.result) (sym c.in-Number.is)
    (constant_tells known c.in-Number.width c.in-Number.value c.constant.result c.constant.ensures)
