use Rattle.std.proofs.Common.{◌≡◌, ◌+◌, ◌*◌, sym, subst, arith, refl, ap, ◌∙◌, ◌%◌, ◌^◌, slice_index}
use Rattle.ci_gates.proofs.LowBitLaws.{AreLowBits, low_none}
use Rattle.ci_gates.proofs.InputLaws.{input_more}
use Rattle.ci_gates.proofs.inputs.input_word.Goals as goal

pub loop-k-init : goal.loop-k-init
loop-k-init c =
    subst (λ bits. AreLowBits (λ arguments. slice_index arguments c.args.input) bits 0) (sym c.new-bits.ensures.items)
    (low_none (λ arguments. slice_index arguments c.args.input))

pub loop-k-preserved : goal.loop-k-preserved
loop-k-preserved c =
    subst (λ bits. AreLowBits (λ arguments. slice_index arguments c.args.input) bits (c.loop-k.k + 1)) (sym c.in_ok-push.ensures.items)
    (input_more c.args.input c.loop-k.bits.items c.loop-k.k (32 * c.args.input + c.loop-k.k) c.requires (omega arith) refl
    c.loop-k.invariant)

pub returns-clause-value : goal.returns-clause-value
returns-clause-value c arguments gives =
    let end : c.loop-k.k ≡ 32 = omega (arith, c.loop-k.auto.k-end, c.loop-k-test.false) in
    c.loop-k.invariant.spells arguments gives ∙ ap (λ n. slice_index arguments c.args.input % 2 ^ n) end
