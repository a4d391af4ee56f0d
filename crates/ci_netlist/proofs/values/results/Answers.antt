use Rattle.std.proofs.Common.{◌-◌, length, arith, ap, ◌∙◌}
use Rattle.std.proofs.lemmas.List.{length-take, take_rest}
use Rattle.ci_netlist.specs.Netlists.{bit_value, spelt}
use Rattle.ci_netlist.proofs.ValueLaws.{some_bits}
use Rattle.ci_netlist.proofs.values.results.Goals as goal

pub slice_bounds-word-end : goal.slice_bounds-word-end
slice_bounds-word-end c = let e = length-take 32 c.args.outputs.now in omega (arith, e)

pub word-y-requires-clause-width : goal.word-y-requires-clause-width
word-y-requires-clause-width c = let e = length-take 32 c.args.outputs.now in omega (arith, e)

pub word-y-requires-clause-are_bits : goal.word-y-requires-clause-are_bits
word-y-requires-clause-are_bits c = some_bits (length c.args.given.now) 32 0 c.args.outputs.now c.requires.are_bits

pub word-z-requires-clause-are_bits : goal.word-z-requires-clause-are_bits
word-z-requires-clause-are_bits c = some_bits (length c.args.given.now) 32 32 c.args.outputs.now c.requires.are_bits

pub word-x-requires-clause-are_bits : goal.word-x-requires-clause-are_bits
word-x-requires-clause-are_bits c =
    some_bits (length c.args.given.now) (length c.args.outputs.now - 64) 64 c.args.outputs.now c.requires.are_bits

pub returns : goal.returns
returns c = λ gives holds.
    let y = c.word-y.ensures gives holds in
    let z = c.word-z.ensures gives holds in
    let x =
    c.word-x.ensures gives holds ∙ ap (spelt (bit_value c.args.arguments gives)) (take_rest c.args.outputs.now 64) in
    cc (y, z, x)
