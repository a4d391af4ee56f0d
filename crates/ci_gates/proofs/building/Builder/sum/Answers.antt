use Rattle.std.proofs.Common.{◌+◌, ◌*◌, refl, sym, subst, arith}
use Rattle.std.specs.List.{slice_index_or}
use Rattle.ci_netlist.specs.declared.bits.Bit.TheVariants.{Zero}
use Rattle.ci_gates.proofs.BitLaws.{grown_bit}
use Rattle.ci_gates.proofs.AdderLaws.{IsSummed, summed_none, summed_more}
use Rattle.ci_gates.proofs.building.Builder.sum.Goals as goal

pub loop-k-init : goal.loop-k-init
loop-k-init c =
    let gates = c.args.self.now in
    subst (λ bits. IsSummed gates gates c.args.left.now c.args.right.now bits c.args.carry c.args.carry 0) (sym c.in_ok-bits.ensures.items)
    (summed_none gates c.args.left.now c.args.right.now c.args.carry c.requires.carry_is)

pub full_adder-requires-clause-room : goal.full_adder-requires-clause-room
full_adder-requires-clause-room c = omega (arith, c.loop-k.invariant.grows.count_is, c.requires.room)

pub full_adder-requires-clause-left_is : goal.full_adder-requires-clause-left_is
full_adder-requires-clause-left_is c =
    grown_bit c.args.self.now c.loop-k.self (5 * c.loop-k.k) (slice_index_or c.args.left.now c.loop-k.k Zero) c.loop-k.invariant.grows
    (c.requires.left_are.each c.loop-k.k c.loop-k-test.true Zero)

pub full_adder-requires-clause-right_is : goal.full_adder-requires-clause-right_is
full_adder-requires-clause-right_is c =
    grown_bit c.args.self.now c.loop-k.self (5 * c.loop-k.k) (slice_index_or c.args.right.now c.loop-k.k Zero) c.loop-k.invariant.grows
    (c.requires.right_are.each c.loop-k.k (omega arith) Zero)

pub full_adder-requires-clause-carry_is : goal.full_adder-requires-clause-carry_is
full_adder-requires-clause-carry_is c = c.loop-k.invariant.next_is

pub loop-k-preserved : goal.loop-k-preserved
loop-k-preserved c =
    let left = c.args.left.now in
    let right = c.args.right.now in
    let digits = c.in_ok-digits.digits in
    subst (λ bits. IsSummed c.args.self.now c.full_adder.new.self left right bits c.args.carry digits.high (c.loop-k.k + 1))
    (sym c.in_ok-push.ensures.items)
    (summed_more c.args.self.now c.loop-k.self c.full_adder.new.self left right c.loop-k.bits.items c.args.carry c.loop-k.next
    digits.low digits.high (slice_index_or left c.loop-k.k Zero) (slice_index_or right c.loop-k.k Zero) c.loop-k.k
    c.loop-k.invariant c.loop-k-test.true (omega arith) refl refl c.in_ok-digits.ensures.grows c.in_ok-digits.ensures.low
    c.in_ok-digits.ensures.high c.in_ok-digits.ensures.value)
