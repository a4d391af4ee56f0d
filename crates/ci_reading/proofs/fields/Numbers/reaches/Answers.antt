use Rattle.std.proofs.Common.{arith, refl, sym, ◌∙◌, ap, ◌+◌, ◌-◌, ◌*◌, ◌≡◌, true, false}
use Rattle.ci_reading.specs.Fields.{meets}
use Rattle.ci_reading.proofs.NumberReading.{power_more, reaches_zero, reaches_some, reach_found, reach_more, reach_none}
use Rattle.ci_reading.proofs.fields.Numbers.reaches.Goals as goal

pub returns-then-value-eq0 : goal.returns-then-value-eq0
returns-then-value-eq0 c = reaches_zero c.args.self c.args.value c.if-value-eq0.true

pub loop-init : goal.loop-init
loop-init c = (refl, refl)

pub returns-then-meets : goal.returns-then-meets
returns-then-meets c =
    let numbers = c.args.self in
    let value = c.args.value in
    let scale = c.loop.scale in
    let found : meets numbers (value * scale) scale ≡ true =
    ap (λ v. meets numbers (v * scale) scale) (sym c.from.ensures) ∙ (sym c.meets.ensures ∙ c.if-meets.true) in
    sym (reach_found numbers value scale (7 - c.loop.counter) (7 - (c.loop.counter + 1)) (omega (arith, c.loop-test.true)) found)
    ∙ (c.loop.invariant.1 ∙ reaches_some numbers value c.if-value-eq0.false)

pub loop-preserved : goal.loop-preserved
loop-preserved c =
    let numbers = c.args.self in
    let value = c.args.value in
    let scale = c.loop.scale in
    let none : meets numbers (value * scale) scale ≡ false =
    ap (λ v. meets numbers (v * scale) scale) (sym c.from.ensures) ∙ (sym c.meets.ensures ∙ c.if-meets.false) in (
      power_more scale c.loop.counter c.loop.invariant.0,
      sym (reach_more numbers value scale (7 - c.loop.counter) (7 - (c.loop.counter + 1)) (omega (arith, c.loop-test.true)) none) ∙ c.loop.invariant.1,
    )

pub returns : goal.returns
returns c =
    sym (reach_none c.args.self c.args.value c.loop.scale (7 - c.loop.counter) (omega (arith, c.loop-test.false)))
    ∙ (c.loop.invariant.1 ∙ reaches_some c.args.self c.args.value c.if-value-eq0.false)
