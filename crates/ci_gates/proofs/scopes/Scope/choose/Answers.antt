use Rattle.std.specs.Prelude.{length, ◌*◌}
use Rattle.std.proofs.Common.{sym, subst, ◌∙◌}
use Rattle.std.proofs.lemmas.Result.{IfOk-weaker}
use Rattle.ci_verilog.specs.Values.{term_bits}
use Rattle.ci_verilog.specs.Modules.{wires_of, known_by}
use Rattle.ci_verilog.proofs.WidthLaws.{choose_parts}
use Rattle.ci_gates.proofs.ExpressionLaws.{term_wide, same_wide, chosen_gates, choice_makes, choice_value}
use Rattle.ci_gates.specs.private.Scopes.{Stands}
use Rattle.ci_gates.proofs.scopes.Scope.choose.Goals as goal

pub the_bit-test-requires : goal.the_bit-test-requires
the_bit-test-requires c =
    let wires = wires_of c.args.self.now.wide c.args.self.now.wires.now in
    let words = c.args.self.now.words.now in
    let stands_t = subst (λ l. Stands wires words l (λ names. term_bits names c.args.test.now)) (sym c.deref.ensures.value) c.in_ok-bits.ensures in
    term_wide wires words c.deref.result.now c.args.test.now 1 c.requires.held stands_t
    (choose_parts (known_by wires) c.args.test.now c.args.first.now c.args.second.now c.requires.fits.0 c.requires.fits.1).0

pub choice-requires-clause-same_width : goal.choice-requires-clause-same_width
choice-requires-clause-same_width c =
    let wires = wires_of c.args.self.now.wide c.args.self.now.wires.now in
    let words = c.args.self.now.words.now in
    let stands_t = subst (λ l. Stands wires words l (λ names. term_bits names c.args.test.now)) (sym c.deref.ensures.value) c.in_ok-bits.ensures in
    let stands_f = subst (λ l. Stands wires words l (λ names. term_bits names c.args.first.now)) (sym c.deref-2.ensures.value) c.in_ok-first.ensures in
    let stands_s = subst (λ l. Stands wires words l (λ names. term_bits names c.args.second.now)) (sym c.deref-3.ensures.value) c.in_ok-second.ensures in
    same_wide wires words c.deref.result.now c.deref-2.result.now c.deref-3.result.now c.the_bit-test.result c.args.test.now
    c.args.first.now c.args.second.now c.requires.held stands_t stands_f stands_s c.requires.fits.0 c.requires.fits.1

pub choice-requires-clause-room : goal.choice-requires-clause-room
choice-requires-clause-room c =
    let wires = wires_of c.args.self.now.wide c.args.self.now.wires.now in
    let words = c.args.self.now.words.now in
    let stands_t = subst (λ l. Stands wires words l (λ names. term_bits names c.args.test.now)) (sym c.deref.ensures.value) c.in_ok-bits.ensures in
    let stands_f = subst (λ l. Stands wires words l (λ names. term_bits names c.args.first.now)) (sym c.deref-2.ensures.value) c.in_ok-first.ensures in
    let stands_s = subst (λ l. Stands wires words l (λ names. term_bits names c.args.second.now)) (sym c.deref-3.ensures.value) c.in_ok-second.ensures in
    c.requires.room (3 * length c.deref-2.result.now) (chosen_gates wires words c.deref.result.now c.deref-2.result.now c.deref-3.result.now c.the_bit-test.result c.args.test.now
    c.args.first.now c.args.second.now c.requires.held stands_t stands_f stands_s c.requires.fits.0 c.requires.fits.1)

pub returns-clause-makes : goal.returns-clause-makes
returns-clause-makes c =
    let wires = wires_of c.args.self.now.wide c.args.self.now.wires.now in
    let words = c.args.self.now.words.now in
    let stands_t = subst (λ l. Stands wires words l (λ names. term_bits names c.args.test.now)) (sym c.deref.ensures.value) c.in_ok-bits.ensures in
    let stands_f = subst (λ l. Stands wires words l (λ names. term_bits names c.args.first.now)) (sym c.deref-2.ensures.value) c.in_ok-first.ensures in
    let stands_s = subst (λ l. Stands wires words l (λ names. term_bits names c.args.second.now)) (sym c.deref-3.ensures.value) c.in_ok-second.ensures in
    IfOk-weaker c.choice.result _ _
    (λ v makes n width has is. choice_makes wires words c.deref.result.now c.deref-2.result.now c.deref-3.result.now c.the_bit-test.result c.args.test.now
    c.args.first.now c.args.second.now c.requires.held stands_t stands_f stands_s c.args.builder.now c.choice.new.self v.items n width makes has is)
    c.choice.ensures.makes

pub returns-clause-value : goal.returns-clause-value
returns-clause-value c =
    let wires = wires_of c.args.self.now.wide c.args.self.now.wires.now in
    let words = c.args.self.now.words.now in
    let stands_t = subst (λ l. Stands wires words l (λ names. term_bits names c.args.test.now)) (sym c.deref.ensures.value) c.in_ok-bits.ensures in
    let stands_f = subst (λ l. Stands wires words l (λ names. term_bits names c.args.first.now)) (sym c.deref-2.ensures.value) c.in_ok-first.ensures in
    let stands_s = subst (λ l. Stands wires words l (λ names. term_bits names c.args.second.now)) (sym c.deref-3.ensures.value) c.in_ok-second.ensures in
    IfOk-weaker c.choice.result _ _
    (λ v value arguments gives names settled holds.
    value arguments gives settled ∙ choice_value wires words c.deref.result.now c.deref-2.result.now c.deref-3.result.now c.the_bit-test.result c.args.test.now
    c.args.first.now c.args.second.now c.requires.held stands_t stands_f stands_s arguments gives names c.the_bit-test.ensures holds)
    c.choice.ensures.value
