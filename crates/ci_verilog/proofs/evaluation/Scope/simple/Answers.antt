use Rattle.std.proofs.Common.{◌+◌, ◌-◌, ◌/◌, ◌%◌, ◌^◌, sym, ap, subst, ◌∙◌}
use Rattle.ci_verilog.specs.Modules.{wires_of}
use Rattle.ci_verilog.specs.Values.{of_width, simple_bits}
use Rattle.ci_verilog.specs.private.Held.{SimpleFits}
use Rattle.ci_verilog.proofs.ScopeLaws.{part_is_narrow}
use Rattle.ci_verilog.proofs.evaluation.Scope.simple.Goals as goal

pub part-requires-clause-narrow : goal.part-requires-clause-narrow
part-requires-clause-narrow c =
    part_is_narrow c.args.self.now.arguments (wires_of c.args.self.now.wide c.args.self.now.wires.now) c.args.self.now.values.now c.requires.held c.in-Bits.name
    c.in-Bits.high c.in-Bits.low (subst (λ s. SimpleFits (wires_of c.args.self.now.wide c.args.self.now.wires.now) s) c.in-Bits.is c.requires.fits)

pub returns-in-Bits : goal.returns-in-Bits
returns-in-Bits c =
    λ names holds. c.part.ensures
    ∙ ap (λ v. of_width (c.in-Bits.high + 1 - c.in-Bits.low) (v.value / 2 ^ c.in-Bits.low % 2 ^ (c.in-Bits.high + 1 - c.in-Bits.low)))
    (c.name-in-Bits.ensures names holds)
    ∙ ap (simple_bits names) (sym c.in-Bits.is)
