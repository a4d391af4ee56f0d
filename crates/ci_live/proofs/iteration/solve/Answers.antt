use Rattle.std.proofs.Common.{◌≡◌, ℕ, List, length, subst, sym, ◌∙◌, arith}
use Rattle.std.proofs.lemmas.Bool.{eqb-true}
use Rattle.std.proofs.lemmas.Grind.{get_or_default_zero}
use Rattle.ci_live.specs.private.Found.{AreVisits, IsClosed}
use Rattle.ci_live.proofs.ReachLaws.{solved}
use Rattle.ci_live.proofs.iteration.solve.Goals as goal

pub returns-then-is_empty : goal.returns-then-is_empty
returns-then-is_empty c =
    let visited =
    subst (λ order. AreVisits c.args.flows.now c.loop-found.found c.visit.new.found order
    c.in_ok-changed.changed.items) c.deref.ensures.value c.in_ok-changed.ensures in
    let order : List ℕ = c.in_ok-order.order.items in
    let empty = eqb-true c.in_ok-changed.changed.len 0 (sym c.is_empty.ensures ∙ c.if-is_empty.true) in
    let nothing : length c.in_ok-changed.changed.items ≡ 0 = omega (arith, c.in_ok-changed.changed.ok.0) in
    solved c.args.flows.now c.visit.new.found visited.sound
    (λ k below.
    let (i, within, is) = c.in_ok-order.ensures.all k below in
    subst (λ n. IsClosed c.args.flows.now c.visit.new.found n) (sym (get_or_default_zero order i k within) ∙ is) (visited.closed nothing i within))
