use Rattle.std.proofs.Common.{◌≡◌, ◌≤◌, ◌<◌, ◌∷◌, [], ◌++◌, List, length, sym, subst, arith, length-append, Bool}
use Rattle.ci_verilog.specs.declared.expressions.Wire.{Wire}
use Rattle.ci_verilog.specs.Modules.{WireList, IsWire, IsFree, AreWires, AreFree, known_by, wires_of, inputs}
use Rattle.ci_verilog.proofs.WireLaws.{pushed, one_more_free}
use Rattle.ci_verilog.proofs.wires.Wires.push.Goals as goal

kept : (wide : Bool) (old new : List Wire) (value : WireList) (wire : Wire) → new ≡ old ++ wire ∷ [] → wires_of wide old ≡ value
    → AreWires (inputs wide) old → AreFree wide old → length value.list < 2048 → IsWire (known_by value) wire
    → IsFree value.wide wire.name → AreWires (inputs wide) new × AreFree wide new × (length new ≤ 2048)
kept wide old new value wire made same are free room is is_free =
    subst (λ wires. AreWires (inputs wide) wires × AreFree wide wires × (length wires ≤ 2048)) (sym made) (
      pushed (inputs wide) old wire are (subst (λ wires. IsWire (known_by wires) wire) (sym same) is),
      one_more_free wide old wire free (subst (λ wires. IsFree wires.wide wire.name) (sym same) is_free),
      (let e : length old < 2048 = subst (λ wires. length wires.list < 2048) (sym same) room in omega (arith, length-append {A = Wire}, e)),
    )

pub invariant_of-self-2 : goal.invariant_of-self-2
invariant_of-self-2 c =
    kept _ _ _ _ c.args.wire c.in_ok-push.ensures.items c.self.view_is c.self.invariant.0 c.self.invariant.1 c.requires.room
    c.requires.is_wire c.requires.is_free
