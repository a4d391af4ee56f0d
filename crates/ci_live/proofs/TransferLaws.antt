-- The transfer of one block: what it finds is right, and where it finds nothing nothing is missing.
use Rattle.std.proofs.Common.{◌≡◌, ℕ, ◌<◌, inl, inr, List, length, replicate, nat_cmp, Option, Some, None, get_or, refl, sym, ap, ◌∙◌, subst, arith}
use Rattle.std.specs.FinSet as set
use Rattle.std.proofs.Math.ListN.{set as list_set, length-set}
use Rattle.std.proofs.lemmas.Bool.{cases_eq, cases_lt}
use Rattle.std.proofs.lemmas.Grind.{get_or-set_at}
use Rattle.std.proofs.lemmas.List.{get_or_past, get_or-replicate, get_or-set_other, length-replicate}
use Rattle.ci_live.specs.declared.flow.Flow.{Flow}
use Rattle.ci_live.specs.declared.flow.Successors.{Successors}
use Rattle.ci_live.specs.declared.flow.Successors.TheVariants.{Named, Anywhere}
use Rattle.ci_live.specs.declared.iteration.Found.{Found as FoundSets}
use Rattle.ci_live.specs.private.Flows.{Has, IsReached, here, further, Leads, flow_at}
use Rattle.ci_live.specs.private.Found.{IsSound, live_at, missing_at, needed_at, on_edge, on_edges, passed_at}
use Rattle.ci_live.proofs.SetLaws.{has_difference, has_none, has_union}

-- empty sets are right
pub nothing_found :
    (flows : List Flow) (found : FoundSets) → found.live.items ≡ replicate (length flows) set.empty → found.any ≡ set.empty → IsSound flows found
nothing_found flows found live_is any_is = record {
  many = ap length live_is ∙ length-replicate (length flows) set.empty;
  live = λ k r has. absurd (none k r has);
  any = λ r has. absurd (has_none r (subst (λ s. Has s r) any_is has));
  all = λ k r has. absurd (none k r has);
}
  where
    each : (k : ℕ) → live_at (replicate (length flows) set.empty) k ≡ set.empty
    each k = elim (cases_lt k (length flows)) [
      | inl within ↦ get_or-replicate (length flows) k set.empty set.empty within
      | inr past ↦ get_or_past (replicate (length flows) set.empty) k set.empty (rw length-replicate past)
    ]

    none : (k r : ℕ) → ¬ Has (live_at found.live.items k) r
    none k r has = has_none r (subst (λ s. Has s r) (ap (λ (xs : List (set.FinSet nat_cmp)). get_or xs k set.empty) live_is ∙ each k) has)

module _ (flows : List Flow) (found : FoundSets) (sound : IsSound flows found) where
  -- what was found at one of the successors is live at the block of that number
  on_edge_reached : (r : ℕ) (way : Option ℕ) → Has (on_edge found.live.items way) r → (j : ℕ) × (way ≡ Some j) × IsReached flows r j
  on_edge_reached r None has = absurd (has_none r has)
  on_edge_reached r (Some j) has = (j, refl, sound.live j r has)

  pub on_edges_reached : (r : ℕ) (successors : Successors) → Has (on_edges found.live.items found.any successors) r
      → (j : ℕ) × Leads successors j × IsReached flows r j
  on_edges_reached r (Named first second) has =
      elim ((has_union (on_edge found.live.items first) (on_edge found.live.items second) r).0 has) [
        | inl h ↦ let at = on_edge_reached r first h in (at.0, inl at.1, at.2)
        | inr h ↦ let at = on_edge_reached r second h in (at.0, inr at.1, at.2)
      ]
  on_edges_reached r Anywhere has = let at = sound.any r has in (at.0, tt, at.1)

  module _ (n : ℕ) (within : n < length flows) where
    abbrev before : set.FinSet nat_cmp
    before = live_at found.live.items n

    abbrev missing : set.FinSet nat_cmp
    missing = missing_at flows found n

    missing_reached : (r : ℕ) → Has missing r → IsReached flows r n
    missing_reached r has =
        elim ((has_union (flow_at flows n).uses (passed_at flows found n) r).0 ((has_difference (needed_at flows found n) before r).0 has).0) [
          | inl h ↦ here n within h
          | inr h ↦
              let passed = (has_difference (on_edges found.live.items found.any (flow_at flows n).successors) (flow_at flows n).defs r).0 h in
              let at = on_edges_reached r (flow_at flows n).successors passed.0 in
              further n at.0 within at.1 passed.1 at.2
        ]

    -- what is missing was not found before
    pub missing_apart : (r : ℕ) → Has before r → ¬ Has missing r
    missing_apart r has more = ((has_difference (needed_at flows found n) before r).0 more).1 has

    -- what is found is right
    pub found_right :
        (after : FoundSets) → after.live.items ≡ list_set found.live.items n (set.union before missing) → after.any ≡ set.union found.any missing
        → IsSound flows after
    found_right after live_is any_is =
        let live = found.live.items in
        let in_list : n < length live = omega (arith, sound.many) in
        let at = λ (k r : ℕ) (has : Has (live_at after.live.items k) r).
        subst (λ (xs : List (set.FinSet nat_cmp)). Has (get_or xs k set.empty) r) live_is has in
        let changed = λ (k r : ℕ) (same : k ≡ n) (has : Has (live_at after.live.items k) r).
        (has_union before missing r).0
        (subst (λ s. Has s r) (get_or-set_at live n k (set.union before missing) set.empty same in_list) (at k r has)) in
        let stays = λ (k r : ℕ) (other : ¬ (k ≡ n)) (has : Has (live_at after.live.items k) r).
        subst (λ s. Has s r) (get_or-set_other live n k (set.union before missing) set.empty other) (at k r has) in
        record {
          many = ap length live_is ∙ length-set live n (set.union before missing) ∙ sound.many;
          live =
              λ k r has. elim (cases_eq k n) [
                | inl same ↦
                    subst (λ i. IsReached flows r i) (sym same)
                    (elim (changed k r same has) [ inl h ↦ sound.live n r h | inr h ↦ missing_reached r h ])
                | inr other ↦ sound.live k r (stays k r other has)
              ];
          any =
              λ r has. elim ((has_union found.any missing r).0 (subst (λ s. Has s r) any_is has)) [
                | inl h ↦ sound.any r h
                | inr h ↦ (n, missing_reached r h)
              ];
          all =
              λ k r has.
              subst (λ s. Has s r) (sym any_is)
              ((has_union found.any missing r).1 (elim (cases_eq k n) [
                | inl same ↦ elim (changed k r same has) [ inl h ↦ inl (sound.all n r h) | inr h ↦ inr h ]
                | inr other ↦ inl (sound.all k r (stays k r other has))
              ]));
        }
