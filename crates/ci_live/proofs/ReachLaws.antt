-- Where a register is live, by the numbers of blocks: what was found is right, and at the end nothing is missing.
use Rattle.std.proofs.Common.{ℕ, ◌<◌, inl, inr, List, length, nat_cmp, subst, sym}
use Rattle.std.specs.FinSet as set
use Rattle.ci_live.specs.declared.flow.Flow.{Flow}
use Rattle.ci_live.specs.declared.flow.Successors.{Successors}
use Rattle.ci_live.specs.declared.flow.Successors.TheVariants.{Named, Anywhere}
use Rattle.ci_live.specs.declared.iteration.Found.{Found as FoundSets}
use Rattle.ci_live.specs.private.Flows.{Has, IsReached, here, further, Leads, flow_at}
use Rattle.ci_live.specs.private.Found.{IsClosed, IsSound, IsSolution, live_at, needed_at, on_edge, on_edges, passed_at}
use Rattle.ci_live.proofs.SetLaws.{covered, has_difference, has_union}

-- what is live at one of the successors is live behind the block
pub on_edges_has :
    (live : List (set.FinSet nat_cmp)) (any : set.FinSet nat_cmp) (successors : Successors) (j r : ℕ)
    → ((k : ℕ) → Has (live_at live k) r → Has any r)
    → Leads successors j → Has (live_at live j) r → Has (on_edges live any successors) r
on_edges_has live any (Named first second) j r all (inl is) has =
    (has_union (on_edge live first) (on_edge live second) r).1 (inl (subst (λ way. Has (on_edge live way) r) (sym is) has))
on_edges_has live any (Named first second) j r all (inr is) has =
    (has_union (on_edge live first) (on_edge live second) r).1 (inr (subst (λ way. Has (on_edge live way) r) (sym is) has))
on_edges_has live any Anywhere j r all leads has = all j has

module _ (flows : List Flow) (found : FoundSets) (sound : IsSound flows found) (closed : (k : ℕ) → k < length flows → IsClosed flows found k) where
  -- what a block needs was found at it
  needed_there : (k r : ℕ) → k < length flows → Has (needed_at flows found k) r → Has (live_at found.live.items k) r
  needed_there k r within = covered (needed_at flows found k) (live_at found.live.items k) r (closed k within r)

  -- where nothing is missing at any block, each register was found wherever it is live
  pub nothing_is_missing : (r k : ℕ) → IsReached flows r k → Has (live_at found.live.items k) r
  nothing_is_missing r _ (here k within has) =
      needed_there k r within ((has_union (flow_at flows k).uses (passed_at flows found k) r).1 (inl has))
  nothing_is_missing r _ (further k j within leads unwritten reached) =
      needed_there k r within
      ((has_union (flow_at flows k).uses (passed_at flows found k) r).1
      (inr ((has_difference (on_edges found.live.items found.any (flow_at flows k).successors) (flow_at flows k).defs r).1
      (on_edges_has found.live.items found.any (flow_at flows k).successors j r (λ i. sound.all i r) leads (nothing_is_missing r j reached), unwritten))))

  pub solved : IsSolution flows found
  solved = record {
    many = sound.many;
    live = λ k r. (sound.live k r, nothing_is_missing r k);
    any = λ r. (sound.any r, λ (k, reached). sound.all k r (nothing_is_missing r k reached));
  }
