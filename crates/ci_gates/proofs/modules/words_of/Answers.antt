use Rattle.std.proofs.Common.{◌+◌, ◌++◌, sym, subst, ◌∙◌}
use Rattle.ci_gates.specs.private.Wired.{AreWords, slot_of}
use Rattle.ci_gates.proofs.WiredLaws.{words_first}
use Rattle.ci_gates.proofs.modules.words_of.Goals as goal

pub loop-k-init : goal.loop-k-init
loop-k-init c =
    subst (λ gates. AreWords c.args.module.now gates c.in_ok-words.words.items 0) (sym c.requires.start)
    (words_first c.args.module.now c.wires.ensures.kept c.in_ok-words.words.items c.in_ok-words.ensures)

pub loop-k-preserved : goal.loop-k-preserved
loop-k-preserved c =
    subst (λ ws. AreWords c.args.module.now c.wire_bits.new.builder ws (c.loop-k.k + 1))
    (sym (c.in_ok-push_word.ensures ∙ (λ i. sym c.deref.ensures.value i ++ slot_of (c.deref-in-loop-k.ensures.value i))))
    c.in_ok-bits.ensures.words
