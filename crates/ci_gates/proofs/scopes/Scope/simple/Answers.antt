use Rattle.std.proofs.Common.{◌+◌, ◌-◌, ◌^◌, ◌<◌, ◌∙◌, sym, ap, subst, arith}
use Rattle.std.proofs.lemmas.Result.{IfOk-weaker}
use Rattle.ci_verilog.specs.Modules.{wires_of, vector, known_by}
use Rattle.ci_verilog.specs.Values.{of_width, simple_bits}
use Rattle.ci_verilog.specs.private.Held.{SimpleFits}
use Rattle.ci_verilog.proofs.WidthLaws.{whole_parts, bits_parts}
use Rattle.ci_netlist.specs.Netlists.{bit_value, AreBits}
use Rattle.ci_gates.specs.private.Scopes.{vector_of}
use Rattle.ci_gates.proofs.ScopeLaws.{whole_stands, part_stands, stands_as}
use Rattle.ci_netlist.proofs.ValueLaws.{some_bits}
use Rattle.ci_gates.proofs.scopes.Scope.simple.Goals as goal

pub part-requires-in-Bits-clause-within : goal.part-requires-in-Bits-clause-within
part-requires-in-Bits-clause-within c =
    let wires = wires_of c.args.self.now.wide c.args.self.now.wires.now in
    let fits = subst (SimpleFits wires) c.in-Bits.is c.requires.fits in
    let parts = bits_parts (known_by wires) c.in-Bits.name c.in-Bits.high c.in-Bits.low fits.0 fits.1 in
    let narrow = c.requires.scope.narrow (vector c.in-Bits.name parts.0) parts.1 in
    omega (arith, parts.2, narrow, c.from-in-Bits-2.ensures, c.place-place-in-Bits.ensures.room)

pub returns-in-Number : goal.returns-in-Number
returns-in-Number c =
    IfOk-weaker c.constant.result _ _
    (λ v stands.
    stands_as (wires_of c.args.self.now.wide c.args.self.now.wires.now) c.args.self.now.words.now v.items
    (λ names. of_width c.in-Number.width c.in-Number.value) (λ names. simple_bits names c.args.simple.now)
    (λ names. ap (simple_bits names) (sym c.in-Number.is))
    (stands (wires_of c.args.self.now.wide c.args.self.now.wires.now) c.args.self.now.words.now))
    c.constant.ensures

pub returns-in-Whole : goal.returns-in-Whole
returns-in-Whole c =
    let wires = wires_of c.args.self.now.wide c.args.self.now.wires.now in
    let fits = subst (SimpleFits wires) c.in-Whole.is c.requires.fits in
    let place = c.place-place.result in
    IfOk-weaker c.part.result _ _
    (λ v items.
    record {
      value =
          λ arguments gives names stands.
          let holds = bit_value arguments gives in
          let value = c.place-place.ensures.value arguments gives names stands in
          let fit = stands.fit (vector c.in-Whole.name fits.0) (whole_parts (known_by wires) c.in-Whole.name fits.0 fits.1) in
          ap (vector_of holds) items
          ∙ whole_stands holds c.args.self.now.words.now place.start place.width (names c.in-Whole.name) c.place-place.ensures.room value
          (place.start + c.from.result) c.place-place.ensures.width (ap (λ n. place.start + n) c.from.ensures)
          (subst (λ w. (names c.in-Whole.name).value < 2 ^ w) (sym fit.width_is) fit.in_range)
          ∙ ap (simple_bits names) (sym c.in-Whole.is);
      are_bits =
          λ made are.
          subst (AreBits made) (sym items)
          (some_bits made (place.start + c.from.result - place.start) place.start c.args.self.now.words.now are);
    })
    c.part.ensures

pub returns-in-Bits : goal.returns-in-Bits
returns-in-Bits c =
    let wires = wires_of c.args.self.now.wide c.args.self.now.wires.now in
    let fits = subst (SimpleFits wires) c.in-Bits.is c.requires.fits in
    let high = c.in-Bits.high in
    let low = c.in-Bits.low in
    let parts = bits_parts (known_by wires) c.in-Bits.name high low fits.0 fits.1 in
    let place = c.place-place-in-Bits.result in
    let narrow = c.requires.scope.narrow (vector c.in-Bits.name parts.0) parts.1 in
    IfOk-weaker c.part-in-Bits.result _ _
    (λ v items.
    record {
      value =
          λ arguments gives names stands.
          let holds = bit_value arguments gives in
          let value = c.place-place-in-Bits.ensures.value arguments gives names stands in
          ap (vector_of holds) items
          ∙ part_stands holds c.args.self.now.words.now place.start place.width (names c.in-Bits.name) c.place-place-in-Bits.ensures.room value
          high low (place.start + c.from-in-Bits.result) (place.start + c.from-in-Bits-2.result + 1) parts.3 (omega (arith, parts.2, narrow))
          (ap (λ n. place.start + n) c.from-in-Bits.ensures) (ap (λ n. place.start + n + 1) c.from-in-Bits-2.ensures)
          ∙ ap (simple_bits names) (sym c.in-Bits.is);
      are_bits =
          λ made are.
          subst (AreBits made) (sym items)
          (some_bits made (place.start + c.from-in-Bits-2.result + 1 - (place.start + c.from-in-Bits.result))
          (place.start + c.from-in-Bits.result) c.args.self.now.words.now are);
    })
    c.part-in-Bits.ensures
