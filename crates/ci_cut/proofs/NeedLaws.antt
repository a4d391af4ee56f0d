-- Open prefixes, and the gain that is reached before a prefix and behind it.
use Rattle.std.proofs.Common.{◌≡◌, ℕ, zero, suc, ◌≤◌, Bool, true, false, true≢false, not, ◌⊎◌, inl, inr, IsTrue, []}
use Rattle.std.proofs.Common.{◌∷◌, ◌++◌, length, refl, sym, ap, ◌∙◌, subst, arith, ℤ, pos, ◌≤ℤ◌, ◌<ℤ◌}
use Rattle.std.proofs.lemmas.Bool.{cases_Bool}
use Rattle.std.proofs.lemmas.Int.{ints}
use Rattle.ci_cut.specs.declared.graph.Limits.{Limits}
use Rattle.ci_cut.specs.FlowGraph.{FlowGraph}
use Rattle.ci_cut.specs.GraphRules.{IsFlowGraph}
use Rattle.ci_cut.specs.Gain.{Fits, gain}
use Rattle.ci_cut.specs.ListCounts.{AtLeast}
use Rattle.ci_cut.specs.Prefixes.{Prefix, eligible_nodes, is_next, taken, bound}
use Rattle.ci_cut.specs.Need.{IsOpen, continuations}
use Rattle.ci_cut.specs.private.Reached.{IsBounded, IsReached, IsReachedBefore, IsReachedBehind, IsReachedWith}
use Rattle.ci_cut.proofs.ListCountLaws.{AtLeast-nil, AtLeast-cases, AtLeast-split}
use Rattle.ci_cut.proofs.PrefixLaws.{is_decided-none, completes_more, completes_earlier, whole_choice, taken_completes}
use Rattle.ci_cut.proofs.BoundLaws.{completion_bound, completion_bounded, open_earlier, before_more, before_in, before_out, before_by_next}

-- ---- open prefixes

pub continuations-more : (undecided left : ℕ) (prefix : Prefix) → undecided ≡ suc left
    → continuations undecided prefix ≡ (prefix
    ∷ (continuations left (true ∷ prefix) ++ continuations left (false ∷ prefix)))
unfolding continuations
continuations-more undecided left prefix one_less = ap (λ (n : ℕ). continuations n prefix) one_less

module _ (graph : FlowGraph) (limits : Limits) where
  -- nothing is open below a prefix that isn't
  pub none_open : (flows : IsFlowGraph graph) (undecided n : ℕ) (prefix : Prefix) → ¬ IsOpen graph limits prefix
      → AtLeast (IsOpen graph limits) n (continuations undecided prefix) → n ≡ 0
  unfolding continuations
  none_open flows zero n prefix closed found = AtLeast-nil (IsOpen graph limits) found
  none_open flows (suc undecided) n prefix closed found = elim (AtLeast-cases (IsOpen graph limits) found) [
    | inl zero_ ↦ zero_
    | inr (inl (m, is_suc, is, rest)) ↦ absurd (closed is)
    | inr (inr rest) ↦
        let parts = AtLeast-split (IsOpen graph limits) (continuations undecided (true ∷ prefix)) (continuations undecided (false ∷ prefix)) rest in
        let first = none_open flows undecided parts.0 (true ∷ prefix) (λ is. closed (open_earlier graph flows prefix true limits is)) parts.2 in
        let second = none_open flows undecided parts.1 (false ∷ prefix) (λ is. closed (open_earlier graph flows prefix false limits is)) parts.3 in
        omega (arith, parts.4)
  ]

-- ---- what is reached

pub compare_gains : (a b : ℤ) → (a <ℤ b) ⊎ ((a ≡ b) ⊎ (b <ℤ a))
compare_gains a b = grind (arith, ints)

less_through : {a b c : ℤ} → a ≤ℤ b → b <ℤ c → a <ℤ c
less_through h k = omega (arith, ints)

module _ (graph : FlowGraph) (flows : IsFlowGraph graph) (limits : Limits) where
  -- the same sets in other words
  reached_as : (First Second : (ℕ → Bool) → Type 0) (reached : ℤ)
      → ((cut : ℕ → Bool) → Fits graph limits cut → Second cut → First cut)
      → ((cut : ℕ → Bool) → Fits graph limits cut → First cut → Second cut)
      → IsReached graph limits First reached → IsReached graph limits Second reached
  reached_as First Second reached back there is = record {
    least = is.least;
    most = λ cut fits among. is.most cut fits (back cut fits among);
    found = elim is.found [ inl zero_ ↦ inl zero_ | inr (cut, fits, among, gains) ↦ inr (cut, fits, there cut fits among, gains) ];
  }

  module _ (prefix : Prefix) (reached : ℤ) where
    pub open_by_bound : IsReachedBefore graph limits prefix reached → IsBounded graph limits prefix → reached <ℤ bound graph prefix → IsOpen graph limits prefix
    open_by_bound is bounded more = record {
      convex = bounded.convex;
      outputs_within = bounded.outputs_within;
      inputs_within = bounded.inputs_within;
      above_reached = record { above_none = less_through is.least more; above_each = λ cut fits before. less_through (is.most cut fits before) more };
    }

    pub bound_of_open : IsReachedBefore graph limits prefix reached → IsOpen graph limits prefix → reached <ℤ bound graph prefix
    bound_of_open is open_ = elim is.found [
      | inl zero_ ↦ subst (λ (z : ℤ). z <ℤ bound graph prefix) (sym zero_) open_.above_reached.above_none
      | inr (cut, fits, before, gains) ↦ subst (λ (z : ℤ). z <ℤ bound graph prefix) gains (open_.above_reached.above_each cut fits before)
    ]

    -- what goes on from a prefix that isn't open reaches no more
    pub reached_closed : IsReachedBefore graph limits prefix reached → ¬ IsOpen graph limits prefix → IsReachedBehind graph limits prefix reached
    reached_closed is closed = record {
      least = is.least;
      most = λ cut fits among. elim among [
        | inl before ↦ is.most cut fits before
        | inr goes ↦ elim (compare_gains reached (bound graph prefix)) [
          | inl more ↦ absurd (closed (open_by_bound is (completion_bounded graph flows prefix cut goes limits fits) more))
          | inr (inl same) ↦ let most = completion_bound graph flows prefix cut goes in omega (arith, ints)
          | inr (inr less) ↦ let most = completion_bound graph flows prefix cut goes in omega (arith, ints)
        ]
      ];
      found = elim is.found [ inl zero_ ↦ inl zero_ | inr (cut, fits, before, gains) ↦ inr (cut, fits, inl before, gains) ];
    }

    -- from a whole choice the one set goes on that it takes in
    pub reached_whole : eligible_nodes graph ≤ length prefix → (after : ℤ)
        → IsReachedBefore graph limits prefix reached
        → IsReachedWith graph limits (taken graph prefix) reached after → IsReachedBehind graph limits prefix after
    reached_whole whole after is one = record {
      least = let least = is.least in let kept = one.kept in omega (arith, ints);
      most = λ cut fits among. elim among [
        | inl before ↦ let most = is.most cut fits before in let kept = one.kept in omega (arith, ints)
        | inr goes ↦
            let same : cut ≡ taken graph prefix = λ i k. whole_choice graph prefix cut whole goes k i in
            subst (λ (s : ℕ → Bool). gain graph s ≤ℤ after) (sym same) (one.most (subst (Fits graph limits) same fits))
      ];
      found = elim one.found [
        | inl same ↦ elim is.found [
          | inl zero_ ↦ inl (same ∙ zero_)
          | inr (cut, fits, before, gains) ↦ inr (cut, fits, inl before, gains ∙ sym same)
        ]
        | inr (fits, gains) ↦ inr (taken graph prefix, fits, inr (taken_completes graph prefix), gains)
      ];
    }

    -- ---- along a branch

    pub reached_in : IsReachedBefore graph limits prefix reached → IsReachedBefore graph limits (true ∷ prefix) reached
    reached_in = reached_as _ _ reached (λ cut fits. before_in graph flows prefix cut) (λ cut fits. before_more graph flows prefix true cut)

    module _ (node : ℕ) (next : IsTrue (is_next graph prefix node)) where
      pub reached_between : IsReachedBehind graph limits (true ∷ prefix) reached → IsReachedBefore graph limits (false ∷ prefix) reached
      reached_between = reached_as _ _ reached
          (λ cut fits before. elim (before_out graph flows prefix cut fits.eligible before) [
            | inl earlier ↦ inl (before_more graph flows prefix true cut earlier)
            | inr goes ↦ inr goes
          ])
          (λ cut fits among. elim among [
            | inl before ↦ before_more graph flows prefix false cut (before_in graph flows prefix cut before)
            | inr goes ↦ before_by_next graph flows prefix cut node next goes
          ])

      pub reached_behind : IsReachedBehind graph limits (false ∷ prefix) reached → IsReachedBehind graph limits prefix reached
      reached_behind = reached_as _ _ reached
          (λ cut fits among. elim among [
            | inl before ↦ inl (before_more graph flows prefix false cut before)
            | inr goes ↦ elim (cases_Bool (cut node)) [
              | inl in_ ↦ inl (before_by_next graph flows prefix cut node next (completes_more graph prefix cut node true goes next in_))
              | inr out ↦ inr (completes_more graph prefix cut node false goes next out)
            ]
          ])
          (λ cut fits among. elim among [
            | inl before ↦ elim (before_out graph flows prefix cut fits.eligible before) [
              | inl earlier ↦ inl earlier
              | inr goes ↦ inr (completes_earlier graph prefix cut true goes)
            ]
            | inr goes ↦ inr (completes_earlier graph prefix cut false goes)
          ])

-- before the first choice nothing is reached
pub reached_none : (graph : FlowGraph) (limits : Limits) → IsReachedBefore graph limits [] (pos 0)
reached_none graph limits = record {
  least = omega (arith, ints);
  most = λ cut fits before. absurd (true≢false (sym before.out_of_prefix ∙ is_decided-none graph not before.node));
  found = inl refl;
}
