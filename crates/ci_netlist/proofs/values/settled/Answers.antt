use Rattle.std.proofs.Common.{◌+◌, length, sym, subst, arith}
use Rattle.ci_netlist.specs.declared.bits.Bit.TheVariants.{Zero}
use Rattle.ci_netlist.specs.declared.bits.Gate.TheVariants.{And}
use Rattle.ci_netlist.specs.Netlists.{HasBits}
use Rattle.ci_netlist.specs.private.Settled.{Holds}
use Rattle.std.specs.List.{slice_index_or}
use Rattle.ci_netlist.proofs.SettledLaws.{SettlesFirst, settles_none, settles_more, settles_all, gate_has_bits}
use Rattle.ci_netlist.proofs.values.settled.Goals as goal

pub loop-gate-init : goal.loop-gate-init
loop-gate-init c =
    subst (λ given. SettlesFirst c.args.gates.now c.args.arguments given 0) (sym c.in_ok-given.ensures.items)
    (settles_none c.args.gates.now c.args.arguments)

pub gate_value-value-requires : goal.gate_value-value-requires
gate_value-value-requires c =
    subst (λ given. HasBits (length given) (slice_index_or c.args.gates.now c.loop-gate.gate-index (And Zero Zero)))
    (sym c.deref.ensures.value)
    (gate_has_bits c.args.gates.now c.args.arguments c.loop-gate.given.items c.loop-gate.gate-index
    (And Zero Zero) c.requires
    c.loop-gate-test.true c.loop-gate.invariant)

pub loop-gate-preserved : goal.loop-gate-preserved
loop-gate-preserved c =
    subst (λ given. SettlesFirst c.args.gates.now c.args.arguments given (c.loop-gate.gate-index + 1))
    (sym c.in_ok-push.ensures.items)
    (settles_more c.args.gates.now c.args.arguments c.loop-gate.given.items c.loop-gate.gate-index
    (And Zero Zero) c.gate_value-value.result
    c.loop-gate-test.true c.loop-gate.invariant
    (λ gives holds. c.gate_value-value.ensures gives (subst (Holds gives) (sym c.deref.ensures.value) holds)))

pub returns : goal.returns
returns c =
    settles_all c.args.gates.now c.args.arguments c.loop-gate.given.items c.loop-gate.gate-index
    (omega arith) c.loop-gate.invariant
