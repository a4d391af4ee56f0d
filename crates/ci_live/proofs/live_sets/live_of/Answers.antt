use Rattle.std.proofs.Common.{◌≡◌, ℕ, ◌<◌, List, length, subst, sym, ap, ◌∙◌}
use Rattle.ci_live.specs.declared.flow.Flow.{Flow}
use Rattle.ci_live.specs.private.Flows.{AreFlows, AreWithin, flow_at}
use Rattle.ci_live.specs.private.Found.{IsSolution, live_at, on_edges}
use Rattle.ci_live.proofs.LiveLaws.{are_live_sets, flows_within, leaders_ascend, leaders_many}
use Rattle.ci_live.proofs.SearchLaws.{Ascend}
use Rattle.ci_live.proofs.live_sets.live_of.Goals as goal

pub flows-requires : goal.flows-requires
flows-requires c =
    subst (λ (leaders : List ℕ). Ascend leaders) (sym c.deref.ensures.value)
    (leaders_ascend c.in_ok-leaders.leaders.items c.args.blocks.now c.in_ok-leaders.ensures c.requires)

pub solve-requires : goal.solve-requires
solve-requires c =
    subst (λ (flows : List Flow). AreWithin flows) (sym c.deref-2.ensures.value)
    (flows_within c.deref.result.now c.args.blocks.now c.in_ok-flows.flows.items (c.deref.ensures.value ∙ c.in_ok-leaders.ensures) c.in_ok-flows.ensures)

pub sets_after-requires-clause-flows : goal.sets_after-requires-clause-flows
sets_after-requires-clause-flows c =
    subst (λ (flows : List Flow). AreWithin flows) (sym c.deref-3.ensures.value)
    (flows_within c.deref.result.now c.args.blocks.now c.in_ok-flows.flows.items (c.deref.ensures.value ∙ c.in_ok-leaders.ensures) c.in_ok-flows.ensures)

pub invariant_of-result : goal.invariant_of-result
invariant_of-result c =
    let same = c.in_ok-leaders.ensures in
    let flows = ap (λ (xs : List Flow). length xs) c.deref-2.ensures.value ∙ c.in_ok-flows.ensures.many
    ∙ sym (leaders_many c.in_ok-leaders.leaders.items c.args.blocks.now same) in
    record {
      ascending = leaders_ascend c.in_ok-leaders.leaders.items c.args.blocks.now same c.requires;
      many_at = c.in_ok-found.ensures.many ∙ flows;
      many_after =
          c.in_ok-after.ensures.many
          ∙ (ap (λ (xs : List Flow). length xs) c.deref-3.ensures.value ∙ sym (ap (λ (xs : List Flow). length xs) c.deref-2.ensures.value))
          ∙ flows;
    }

pub returns : goal.returns
returns c =
    are_live_sets c.in_ok-leaders.leaders.items c.args.blocks.now c.in_ok-flows.flows.items c.in_ok-found.found c.in_ok-after.after.items
    c.in_ok-leaders.ensures c.requires
    (subst (λ (leaders : List ℕ). AreFlows leaders c.args.blocks.now
    (length c.args.blocks.now) c.in_ok-flows.flows.items) c.deref.ensures.value c.in_ok-flows.ensures)
    (subst (λ (flows : List Flow). IsSolution flows c.in_ok-found.found) c.deref-2.ensures.value c.in_ok-found.ensures)
    (subst
    (λ (flows : List Flow).
    (k : ℕ) → k < length flows
    → live_at c.in_ok-after.after.items k ≡ on_edges c.in_ok-found.found.live.items c.in_ok-found.found.any (flow_at flows k).successors)
    c.deref-3.ensures.value c.in_ok-after.ensures.each)
