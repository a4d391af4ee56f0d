use Rattle.std.proofs.Common.{ℕ, ◌<◌, List, length, subst, sym}
use Rattle.std.specs.List.{All}
use Rattle.std.proofs.lemmas.List.Elements.{All-push}
use Rattle.ci_live.specs.declared.predecessors.Arc.{Arc}
use Rattle.ci_live.proofs.predecessors.Predecessors.new.Goals as goal
use Rattle.ci_live.proofs.predecessors.Predecessors.new.Goals.{in-Named+in_ok-add_arc-in-Named+in_ok-add_arc-in-Named-2, in-Anywhere+in_ok-push-in-Anywhere}

pub loop-from-preserved : goal.loop-from-preserved
loop-from-preserved c =
    let n : ℕ = length c.args.flows.now in
    elim c.match-flow.branch [
      | in-Named+in_ok-add_arc-in-Named+in_ok-add_arc-in-Named-2 w ↦
          record {
            arcs =
                subst (λ v. All (λ (arc : Arc). arc.from < n) v.items) (sym w.arcs-is)
                (w.in_ok-add_arc-in-Named-2.ensures n c.loop-from-test.true
                (w.in_ok-add_arc-in-Named.ensures n c.loop-from-test.true c.loop-from.invariant.arcs));
            jumps = subst (λ v. All (λ from. from < n) v.items) (sym w.from_jumps-is) c.loop-from.invariant.jumps;
          }
      | in-Anywhere+in_ok-push-in-Anywhere w ↦
          record {
            arcs = subst (λ v. All (λ (arc : Arc). arc.from < n) v.items) (sym w.arcs-is) c.loop-from.invariant.arcs;
            jumps =
                subst (λ v. All (λ from. from < n) v.items) (sym w.from_jumps-is)
                (subst (λ (xs : List ℕ). All (λ from. from < n) xs) (sym w.in_ok-push-in-Anywhere.ensures.items)
                (All-push (λ from. from < n) c.loop-from.from_jumps.items _ c.loop-from.invariant.jumps c.loop-from-test.true));
          }
    ]

pub invariant_of-result : goal.invariant_of-result
invariant_of-result c = record { arcs_below = c.loop-from.invariant.arcs; jumps_below = c.loop-from.invariant.jumps }
