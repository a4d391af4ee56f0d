-- Looks at several blocks, one after the other.
use Rattle.std.proofs.Common.{◌≡◌, ℕ, ◌+◌, ◌<◌, ◌≤◌, inl, inr, List, [], ◌∷◌, ◌++◌, length, take, get_or, true, false}
use Rattle.std.proofs.Common.{sym, ap, ◌∙◌, subst, arith, length-append, length-take}
use Rattle.std.proofs.lemmas.List.{get_or-take}
use Rattle.std.proofs.lemmas.Bool.{cases_lt}
use Rattle.ci_live.specs.declared.flow.Flow.{Flow}
use Rattle.ci_live.specs.declared.iteration.Found.{Found as FoundSets}
use Rattle.ci_live.specs.private.Found.{AreVisits, IsClosed, IsTransfer, IsSound, room}

module _ (flows : List Flow) (before middle after : FoundSets) (order changed : List ℕ) (i : ℕ)
    (within : i < length order) (so_far : AreVisits flows before middle (take i order) changed)
    (sound : IsSound flows after) where
  pub visit_changed : IsTransfer flows middle after (get_or order i 0) true → (x : ℕ) → AreVisits flows before after (take (i + 1) order) (changed ++ x ∷ [])
  visit_changed less x =
      let some = length-append changed (x ∷ []) in
      record {
        sound = sound;
        less = omega (arith, less, so_far.less);
        some = λ h. omega (arith, less, so_far.less);
        none = λ h. absurd (omega arith);
        closed = λ h. absurd (omega arith);
      }

  pub visit_unchanged : IsTransfer flows middle after (get_or order i 0) false → AreVisits flows before after (take (i + 1) order) changed
  visit_unchanged (same, closed) = record {
    sound = sound;
    less = subst (λ f. room f ≤ room before) same so_far.less;
    some = λ h. subst (λ f. room f < room before) same (so_far.some h);
    none = λ h. so_far.none h ∙ same;
    closed =
        λ h k k_within.
        let many = length-take (i + 1) order in
        let many_before = length-take i order in
        let at : get_or (take (i + 1) order) k 0 ≡ get_or order k 0 = get_or-take (i + 1) order k 0 (omega arith) in
        elim (cases_lt k i) [
          | inl earlier ↦
              let at_before : get_or (take i order) k 0 ≡ get_or order k 0 = get_or-take i order k 0 earlier in
              subst (λ f. IsClosed flows f (get_or (take (i + 1) order) k 0)) same
              (subst (λ n. IsClosed flows middle n) (at_before ∙ sym at) (so_far.closed h k (omega arith)))
          | inr later ↦
              let here : k ≡ i = omega arith in
              subst (λ n. IsClosed flows after n) (ap (λ j. get_or order j 0) (sym here) ∙ sym at) closed
        ];
  }
