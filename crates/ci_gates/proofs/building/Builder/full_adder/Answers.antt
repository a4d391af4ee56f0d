use Rattle.ci_netlist.specs.Netlists.{bit_value}
use Rattle.ci_netlist.proofs.SpellingLaws.{full_adder_sum}
use Rattle.ci_gates.proofs.building.Builder.full_adder.Goals as goal

pub returns-clause-value : goal.returns-clause-value
returns-clause-value c arguments gives settled =
    let holds = bit_value arguments gives in
    let fourth = c.in_ok-high.ensures.grows.kept arguments gives settled in
    let third = c.in_ok-through.ensures.grows.kept arguments gives fourth in
    let second = c.in_ok-both.ensures.grows.kept arguments gives third in
    let first = c.in_ok-low.ensures.grows.kept arguments gives second in
    full_adder_sum (holds c.args.left) (holds c.args.right) (holds c.args.carry) (holds c.in_ok-half.half)
    (holds c.in_ok-low.low) (holds c.in_ok-both.both) (holds c.in_ok-through.through) (holds c.in_ok-high.high)
    (c.in_ok-half.ensures.value arguments gives first) (c.in_ok-low.ensures.value arguments gives second)
    (c.in_ok-both.ensures.value arguments gives third) (c.in_ok-through.ensures.value arguments gives fourth)
    (c.in_ok-high.ensures.value arguments gives settled)
