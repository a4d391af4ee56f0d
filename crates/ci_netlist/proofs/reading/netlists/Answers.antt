use Rattle.std.proofs.Common.{◌≡◌, ◌+◌, ◌-◌, ◌<◌, ◌≤◌, length, sym, subst, ap, ◌∙◌, arith}
use Rattle.std.proofs.lemmas.Bool.Decides.{nat_tests}
use Rattle.std.proofs.lemmas.Result.{err_from_is_err_and}
use Rattle.ci_netlist.specs.private.Reading.{Fails, netlists_read}
use Rattle.ci_netlist.proofs.ReadingLoops.{with_nets, next_net, net_fails, nets_end, nets_full}
use Rattle.ci_netlist.proofs.reading.netlists.Goals as goal
use Rattle.ci_netlist.proofs.reading.netlists.Goals.{then-loop-place-test+else-not-is_empty, else-loop-place-test}

pub returns-in_err-net : goal.returns-in_err-net
returns-in_err-net c =
    let p = err_from_is_err_and c.from_residual.result c.from_residual.ensures.1 in
    let e = c.in_err-net.field-0.0 in
    let before = c.loop-place in
    let some : 0 < length before.rest.now = grind (arith, nat_tests, c.is_empty.ensures, c.if-not-is_empty.true) in
    rw (p.1, p.2)
    (subst (Fails e) before.invariant.0
    (net_fails before.nets.items before.place before.rest.now e (omega arith) some c.in_err-net.ensures.value))

pub loop-place-preserved : goal.loop-place-preserved
loop-place-preserved c =
    let before = c.loop-place in
    let some : 0 < length before.rest.now = grind (arith, nat_tests, c.is_empty.ensures, c.if-not-is_empty.true) in
    let place = before.place in
    let after = c.in_ok-net.after.now in
    let left = c.in_ok-net.ensures.left in (
      ap (λ nets. with_nets nets (netlists_read (32 - (place + 1)) (place + 1) after)) c.in_ok-push.ensures.items
          ∙ next_net before.nets.items place before.rest.now c.in_ok-net.net after (omega arith) some
          c.in_ok-net.ensures.value
          ∙ before.invariant.0,
      omega (arith, left, before.invariant.1),
    )

pub returns-then-is_empty : goal.returns-then-is_empty
returns-then-is_empty c =
    let none : length c.loop-place.rest.now ≡ 0 = grind (arith, nat_tests, c.is_empty-2.ensures, c.if-is_empty.true) in
    sym c.loop-place.invariant.0 ∙ nets_end c.loop-place.nets.items c.loop-place.place c.loop-place.rest.now none

pub returns-else-is_empty : goal.returns-else-is_empty
returns-else-is_empty c =
    let before = c.loop-place in
    let some : 0 < length before.rest.now = grind (arith, nat_tests, c.is_empty-2.ensures, c.if-is_empty.false) in
    let full : 32 ≤ before.place =
    elim c.loop-place-test.branch [
      | then-loop-place-test+else-not-is_empty w ↦
          let test = w.if-not-is_empty.false in
          let none : length before.rest.now ≡ 0 = grind (arith, nat_tests, w.is_empty.ensures, test) in
          absurd (omega (arith, some, none))
      | else-loop-place-test w ↦ omega (arith, w.loop-place-test.false)
    ] in
    sym before.invariant.0 ∙ nets_full before.nets.items before.place before.rest.now full some
