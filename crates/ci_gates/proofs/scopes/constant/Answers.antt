use Rattle.std.proofs.Common.{◌+◌, sym, subst, arith}
use Rattle.ci_gates.proofs.LowBitLaws.{AreLowBits, low_none, low_more}
use Rattle.ci_gates.proofs.ScopeLaws.{constant_whole}
use Rattle.ci_gates.proofs.scopes.constant.Goals as goal

pub loop-k-init : goal.loop-k-init
loop-k-init c = subst (λ bits. AreLowBits (λ arguments. c.args.value) bits 0) (sym c.new-bits.ensures.items) (low_none (λ arguments. c.args.value))

pub loop-k-preserved : goal.loop-k-preserved
loop-k-preserved c =
    subst (λ bits. AreLowBits (λ arguments. c.args.value) bits (c.loop-k.k + 1)) (sym c.in_ok-push.ensures.items)
    (low_more (λ arguments. c.args.value) c.loop-k.bits.items c.constant_bit.result c.loop-k.k c.loop-k.invariant
    c.constant_bit.ensures.is_constant (λ arguments gives. c.constant_bit.ensures.value arguments gives))

pub returns : goal.returns
returns c =
    constant_whole c.args.value c.loop-k.bits.items c.loop-k.k c.args.width c.loop-k.invariant (omega arith) c.requires.fits
