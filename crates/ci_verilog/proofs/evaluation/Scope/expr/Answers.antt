use Rattle.std.proofs.Common.{subst}
use Rattle.ci_verilog.specs.Modules.{wires_of}
use Rattle.ci_verilog.specs.private.Held.{ExprFits}
use Rattle.ci_verilog.proofs.ScopeLaws.{operands_found}
use Rattle.ci_verilog.proofs.evaluation.Scope.expr.Goals as goal

pub operate-requires : goal.operate-requires
operate-requires c =
    let self = c.args.self.now in
    let fits = subst (λ e. ExprFits (wires_of self.wide self.wires.now) e) c.in-Two.is c.requires.fits in
    let found =
    operands_found self.arguments (wires_of self.wide self.wires.now) self.values.now c.requires.held c.in-Two.operator c.in-Two.left
    c.in-Two.right fits.0 c.term-in-Two.result c.term-in-Two-2.result fits.1 c.term-in-Two.ensures
    c.term-in-Two-2.ensures in
    record {
      widths = found.widths;
      narrow = found.narrow;
      left_in_range = found.left_in_range;
      right_in_range = found.right_in_range;
    }
