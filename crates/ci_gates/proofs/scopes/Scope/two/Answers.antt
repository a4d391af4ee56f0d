use Rattle.std.specs.Prelude.{length}
use Rattle.std.proofs.Common.{sym, subst, ◌∙◌}
use Rattle.std.proofs.lemmas.Result.{IfOk-weaker}
use Rattle.ci_verilog.specs.Values.{term_bits}
use Rattle.ci_gates.specs.Counts.{operator_gates}
use Rattle.ci_gates.specs.private.Scopes.{Stands}
use Rattle.ci_verilog.specs.Modules.{wires_of}
use Rattle.ci_gates.proofs.ExpressionLaws.{operands_wide, left_narrow, has_gates, two_makes, two_value}
use Rattle.ci_gates.proofs.scopes.Scope.two.Goals as goal
use Rattle.ci_gates.proofs.scopes.Scope.two.Goals.{After-deref-2}

-- what stands where the operator is called
left_stands : (c : After-deref-2) → Stands (wires_of c.args.self.now.wide c.args.self.now.wires.now) c.args.self.now.words.now c.deref.result.now (λ names. term_bits names c.args.left.now)
left_stands c =
    subst (λ l. Stands (wires_of c.args.self.now.wide c.args.self.now.wires.now) c.args.self.now.words.now l (λ names. term_bits names c.args.left.now))
    (sym c.deref.ensures.value) c.in_ok-left.ensures

right_stands : (c : After-deref-2) → Stands (wires_of c.args.self.now.wide c.args.self.now.wires.now) c.args.self.now.words.now c.deref-2.result.now (λ names. term_bits names c.args.right.now)
right_stands c =
    subst (λ l. Stands (wires_of c.args.self.now.wide c.args.self.now.wires.now) c.args.self.now.words.now l (λ names. term_bits names c.args.right.now))
    (sym c.deref-2.ensures.value) c.in_ok-right.ensures

pub operated-requires-clause-widths : goal.operated-requires-clause-widths
operated-requires-clause-widths c = (
  c.requires.fits.0,
  operands_wide (wires_of c.args.self.now.wide c.args.self.now.wires.now) c.args.self.now.words.now c.deref.result.now c.deref-2.result.now c.args.operator
      c.args.left.now c.args.right.now c.requires.held (left_stands c) (right_stands c) c.requires.fits.0 c.requires.fits.1,
)

pub operated-requires-clause-narrow : goal.operated-requires-clause-narrow
operated-requires-clause-narrow c =
    left_narrow (wires_of c.args.self.now.wide c.args.self.now.wires.now) c.args.self.now.words.now c.deref.result.now c.deref-2.result.now c.args.operator
    c.args.left.now c.args.right.now c.requires.held (left_stands c) (right_stands c) c.requires.fits.0 c.requires.scope c.requires.fits.1

pub operated-requires-clause-room : goal.operated-requires-clause-room
operated-requires-clause-room c =
    c.requires.room (operator_gates c.args.operator (length c.deref.result.now) (length c.deref-2.result.now))
    (has_gates (wires_of c.args.self.now.wide c.args.self.now.wires.now) c.args.self.now.words.now c.deref.result.now c.deref-2.result.now c.args.operator
    c.args.left.now c.args.right.now c.requires.held (left_stands c) (right_stands c) c.requires.fits.0 c.requires.fits.1)

pub returns-clause-makes : goal.returns-clause-makes
returns-clause-makes c =
    let wires = wires_of c.args.self.now.wide c.args.self.now.wires.now in
    let words = c.args.self.now.words.now in
    let stands_l = subst (λ l. Stands wires words l (λ names. term_bits names c.args.left.now)) (sym c.deref.ensures.value) c.in_ok-left.ensures in
    let stands_r = subst (λ l. Stands wires words l (λ names. term_bits names c.args.right.now)) (sym c.deref-2.ensures.value) c.in_ok-right.ensures in
    IfOk-weaker c.operated.result _ _
    (λ v makes n width has is.
    two_makes wires words c.deref.result.now c.deref-2.result.now c.args.operator c.args.left.now c.args.right.now c.requires.held
    stands_l stands_r c.args.builder.now c.operated.new.self v.items n width makes has is)
    c.operated.ensures.makes

pub returns-clause-value : goal.returns-clause-value
returns-clause-value c =
    let wires = wires_of c.args.self.now.wide c.args.self.now.wires.now in
    let words = c.args.self.now.words.now in
    let stands_l = subst (λ l. Stands wires words l (λ names. term_bits names c.args.left.now)) (sym c.deref.ensures.value) c.in_ok-left.ensures in
    let stands_r = subst (λ l. Stands wires words l (λ names. term_bits names c.args.right.now)) (sym c.deref-2.ensures.value) c.in_ok-right.ensures in
    IfOk-weaker c.operated.result _ _
    (λ v value arguments gives names settled holds.
    value arguments gives settled
    ∙ two_value wires words c.deref.result.now c.deref-2.result.now c.args.operator c.args.left.now c.args.right.now c.requires.held
    stands_l stands_r arguments gives names holds)
    c.operated.ensures.value
