use Rattle.std.proofs.Common.{◌≡◌, None, Some, rules, refl}
use Rattle.ci_verilog.specs.Modules.{wires_of}
use Rattle.ci_verilog.proofs.WireLaws.{no_width}
use Rattle.ci_verilog.proofs.evaluation.Scope.name.Goals as goal

pub returns-in-None-wire_named : goal.returns-in-None-wire_named
returns-in-None-wire_named c =
    let wires = c.args.self.now.wires.now in
    let all = wires_of c.args.self.now.wide wires in
    let nothing : None ≡ Some c.requires.known.0 =
    (no_width all wires c.args.name.now c.as_bytes.result.now refl c.as_bytes.ensures (c.in-None.ensures.none (search rules))
    (c.in-None-wire_named.ensures.none (search rules)) c.requires.known.0).1 c.requires.known.1 in
    absurd cc
