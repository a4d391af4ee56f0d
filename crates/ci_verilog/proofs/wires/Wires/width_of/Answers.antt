use Rattle.std.proofs.Common.{sym, subst, ◌∙◌, rules}
use Rattle.ci_verilog.specs.Modules.{IsInput}
use Rattle.ci_verilog.proofs.WireLaws.{input_width, wire_width, no_width}
use Rattle.ci_verilog.proofs.wires.Wires.width_of.Goals as goal

pub returns-in-Some : goal.returns-in-Some
returns-in-Some c =
    input_width c.args.self.now c.as_slice-wires.result.now c.args.name.now c.as_bytes.result.now c.as_slice-wires.ensures.value
    c.as_bytes.ensures c.in-Some.field-0 c.as_slice-wires.ensures.kept
    (subst (λ b. IsInput b c.as_bytes.result.now c.in-Some.field-0) c.is_wide.ensures c.in-Some.ensures.some)

pub returns-in-Some-wire_named : goal.returns-in-Some-wire_named
returns-in-Some-wire_named c =
    wire_width c.args.self.now c.as_slice-wires.result.now c.args.name.now c.as_bytes.result.now c.as_slice-wires.ensures.value
    c.as_bytes.ensures c.in-Some-wire_named.place c.index-wires-place.result c.as_slice-wires.ensures.kept
    c.in-Some-wire_named.ensures.some (λ d. c.in-Some-wire_named.ensures.named d ∙ sym c.as_bytes.ensures)

pub returns-in-None-wire_named : goal.returns-in-None-wire_named
returns-in-None-wire_named c =
    no_width c.args.self.now c.as_slice-wires.result.now c.args.name.now c.as_bytes.result.now c.as_slice-wires.ensures.value
    c.as_bytes.ensures (λ k is. c.in-None.ensures.none (search rules) k (subst (λ b. IsInput b c.as_bytes.result.now k) (sym c.is_wide.ensures) is)) (c.in-None-wire_named.ensures.none (search rules))
