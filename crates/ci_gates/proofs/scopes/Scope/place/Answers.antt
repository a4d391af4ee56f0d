use Rattle.std.proofs.Common.{◌≡◌, None, Some, rules, refl}
use Rattle.ci_verilog.specs.Modules.{wires_of}
use Rattle.ci_verilog.proofs.WireLaws.{no_width}
use Rattle.ci_gates.proofs.ScopeLaws.{wire_is_narrow}
use Rattle.ci_gates.proofs.scopes.Scope.place.Goals as goal

pub returns-in-Some-wire_named-clause-width : goal.returns-in-Some-wire_named-clause-width
returns-in-Some-wire_named-clause-width c =
    wire_is_narrow (wires_of c.args.self.now.wide c.args.self.now.wires.now) c.args.self.now.words.now c.in-Some-wire_named.k
    c.index-self-k.result c.requires.scope (c.in-Some-wire_named.ensures.some)

pub returns-in-None-wire_named-clause-value : goal.returns-in-None-wire_named-clause-value
returns-in-None-wire_named-clause-value c =
    let wires = c.args.self.now.wires.now in
    let all = wires_of c.args.self.now.wide wires in
    let nothing : None ≡ Some c.requires.known.0 =
    (no_width all wires c.args.name.now c.as_bytes.result.now refl c.as_bytes.ensures (c.in-None.ensures.none (search rules))
    (c.in-None-wire_named.ensures.none (search rules)) c.requires.known.0).1 c.requires.known.1 in
    absurd cc
