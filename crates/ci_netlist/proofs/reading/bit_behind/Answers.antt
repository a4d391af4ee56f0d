use Rattle.std.proofs.Common.{◌≡◌, ◌+◌, ◌*◌, ◌≤◌, rules, subst, arith, lit≤, Ok}
use Rattle.ci_reading.specs.Fields.{number}
use Rattle.ci_netlist.specs.private.Reading.{Kinds, IsStart}
use Rattle.ci_netlist.proofs.ReadingLoops.{small_number}
use Rattle.ci_netlist.proofs.reading.bit_behind.Goals as goal
use Rattle.ci_netlist.proofs.reading.bit_behind.Goals.{In_ok-place-in-Input}

small_place : (c : In_ok-place-in-Input) → c.in_ok-place-in-Input.place ≤ 31
small_place c =
    let read = c.in_ok-place-in-Input in
    let bytes = c.args.bytes.now in
    small_number 31 c.args.end read.place read.field-0-1 bytes read.rest.now (lit≤ tt) c.requires.end
    (subst (λ ns. number {K = Kinds} ns bytes ≡ Ok ((read.place, read.field-0-1), read.rest.now)) c.numbers.ensures
    read.ensures)

pub overflow_cast-result : goal.overflow_cast-result
overflow_cast-result c =
    let small = small_place (goal.at.overflow_cast-result c).In_ok-place-in-Input in search (rules, small)

pub overflow_add-result : goal.overflow_add-result
overflow_add-result c =
    let place = c.in_ok-place-in-Input.place in
    let small : place ≤ 31 = small_place (goal.at.overflow_add-result c).In_ok-place-in-Input in
    let letter : c.in-Input.letter ≤ 4 = subst (λ s. IsStart c.args.made s) c.in-Input.is c.requires.start in
    let sum : 32 * c.in-Input.letter + place ≤ 255 = omega (arith, small, letter) in
    search (rules, sum)
