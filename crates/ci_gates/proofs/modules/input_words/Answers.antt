use Rattle.std.proofs.Common.{◌+◌, ◌++◌, length, sym, subst, ◌∙◌, ap, arith}
use Rattle.ci_gates.specs.private.Wired.{AreInputs, slot_of}
use Rattle.ci_gates.proofs.WireLaws.{no_inputs, inputs_more}
use Rattle.ci_gates.proofs.modules.input_words.Goals as goal

pub loop-input-init : goal.loop-input-init
loop-input-init c = subst (λ ws. AreInputs ws 0) (sym c.new-words.ensures.items) no_inputs

pub push_word-requires : goal.push_word-requires
push_word-requires c = omega (arith, c.in_ok-word.ensures.width, ap length c.deref.ensures.value)

pub loop-input-preserved : goal.loop-input-preserved
loop-input-preserved c =
    subst (λ ws. AreInputs ws (c.loop-input.input + 1)) (sym (c.in_ok-push_word.ensures ∙ ap (λ w. c.loop-input.words.items ++ slot_of w) c.deref.ensures.value))
    (inputs_more c.loop-input.words.items c.in_ok-word.word.items c.loop-input.input c.loop-input.invariant c.in_ok-word.ensures.width
    c.in_ok-word.ensures.are_bits c.in_ok-word.ensures.value)

pub returns : goal.returns
returns c = subst (λ n. AreInputs c.loop-input.words.items n) (omega (arith, c.loop-input.auto.input-end, c.loop-input-test.false)) c.loop-input.invariant
