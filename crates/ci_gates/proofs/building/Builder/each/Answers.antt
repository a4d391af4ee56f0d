use Rattle.std.proofs.Common.{◌+◌, sym, subst, arith}
use Rattle.std.specs.List.{slice_index_or}
use Rattle.ci_netlist.specs.declared.bits.Bit.TheVariants.{Zero}
use Rattle.ci_gates.specs.private.Growing.{kind_value}
use Rattle.ci_gates.proofs.BitLaws.{grown_bit}
use Rattle.ci_gates.proofs.WordLaws.{IsPaired, paired_none, paired_more}
use Rattle.ci_gates.proofs.building.Builder.each.Goals as goal

pub loop-k-init : goal.loop-k-init
loop-k-init c =
    let gates = c.args.self.now in
    let f = kind_value c.args.kind in
    subst (λ bits. IsPaired gates gates f c.args.left.now c.args.right.now bits 0) (sym c.in_ok-bits.ensures.items)
    (paired_none gates f c.args.left.now c.args.right.now)

pub gate-requires-clause-room : goal.gate-requires-clause-room
gate-requires-clause-room c = omega (arith, c.loop-k.invariant.grows.count_is, c.requires.room)

pub gate-requires-clause-left_is : goal.gate-requires-clause-left_is
gate-requires-clause-left_is c =
    grown_bit c.args.self.now c.loop-k.self c.loop-k.k (slice_index_or c.args.left.now c.loop-k.k Zero) c.loop-k.invariant.grows
    (c.requires.left_are.each c.loop-k.k c.loop-k-test.true Zero)

pub gate-requires-clause-right_is : goal.gate-requires-clause-right_is
gate-requires-clause-right_is c =
    grown_bit c.args.self.now c.loop-k.self c.loop-k.k (slice_index_or c.args.right.now c.loop-k.k Zero) c.loop-k.invariant.grows
    (c.requires.right_are.each c.loop-k.k (omega arith) Zero)

pub loop-k-preserved : goal.loop-k-preserved
loop-k-preserved c =
    let left = c.args.left.now in
    let right = c.args.right.now in
    let f = kind_value c.args.kind in
    subst (λ bits. IsPaired c.args.self.now c.gate.new.self f left right bits (c.loop-k.k + 1)) (sym c.in_ok-push.ensures.items)
    (paired_more c.args.self.now c.loop-k.self c.gate.new.self f left right c.loop-k.bits.items c.in_ok-bit.bit c.loop-k.k
    c.loop-k.invariant c.loop-k-test.true (omega arith) c.in_ok-bit.ensures.grows c.in_ok-bit.ensures.is_bit
    c.in_ok-bit.ensures.value)
