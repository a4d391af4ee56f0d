use Rattle.std.specs.Prelude.{replicate, ◌+◌, ◌≡◌}
use Rattle.std.proofs.Common.{sym, subst, arith}
use Rattle.ci_verilog.specs.Values.{joined, of_width}
use Rattle.ci_gates.specs.private.Scopes.{Stands}
use Rattle.ci_gates.proofs.ScopeLaws.{nothing_stands, copies_more}
use Rattle.ci_gates.proofs.scopes.repeated.Goals as goal

pub loop-init : goal.loop-init
loop-init c wires words of stands =
    subst (λ bits. Stands wires words bits (λ names. of_width 0 0)) (sym c.new-copies.ensures.items) (nothing_stands wires words)

pub loop-preserved : goal.loop-preserved
loop-preserved c wires words of stands =
    subst (λ bits. Stands wires words bits (λ names. joined (replicate (c.loop.counter + 1) (of names))))
    (sym c.in_ok-extend_from_slice.ensures.items)
    (copies_more wires words c.loop.copies.items c.args.word.now of c.loop.counter stands (c.loop.invariant wires words of stands))

pub returns : goal.returns
returns c wires words of stands =
    let end : c.loop.counter ≡ c.args.count = omega (arith, c.loop.auto.counter-end, c.loop-test.false) in
    subst (λ n. Stands wires words c.loop.copies.items (λ names. joined (replicate n (of names)))) end
    (c.loop.invariant wires words of stands)
