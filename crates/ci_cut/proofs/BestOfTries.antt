-- The best of the sets tried, over the choice of one node.
use Rattle.std.proofs.Common.{◌≡◌, ℕ, ◌+◌, ◌<◌, ◌≤◌, Bool, true, false, refl, sym, ap, ◌∙◌, subst, inl, inr, arith, ◌⊎◌, true≢false, length, List, get_or}
use Rattle.std.specs.Prelude.{ℤ, pos, ◌≤ℤ◌, ◌<ℤ◌, None, MatchOption, IsTrue}
use Rattle.std.specs.Ordering.{nat_cmp}
use Rattle.std.specs.FinSet as set
use Rattle.std.proofs.lemmas.Int.{ints}
use Rattle.std.proofs.lemmas.Bool.{cases_eq}
use Rattle.std.proofs.lemmas.Bool.Decides.{nat_tests}
use Rattle.ci_cut.specs.declared.incumbent.Incumbent.{Incumbent}
use Rattle.ci_cut.specs.declared.graph.Limits.{Limits}
use Rattle.ci_cut.specs.declared.graph.Node.{Node}
use Rattle.ci_cut.specs.FlowGraph.{FlowGraph, node_at}
use Rattle.ci_cut.specs.Gain.{Fits, gain}
use Rattle.ci_cut.specs.Best.{ComesBefore, IsBest, HasNoCut}
use Rattle.ci_cut.specs.Incumbents.{IsImproved}
use Rattle.ci_cut.specs.private.Tried.{Agrees, IsBetterFrom}
use Rattle.ci_cut.proofs.NodeLaws.{node_in-within, node_in-past}

-- sets that agree from 0 on are one
pub agree_all : (s t : ℕ → Bool) → Agrees 0 s t → s ≡ t
agree_all s t same = λ i k. same k (omega arith) i

-- sets that agree from k + 1 on and at k agree from k on
pub agree_at : (k : ℕ) (s t : ℕ → Bool) → Agrees (k + 1) s t → s k ≡ t k → Agrees k s t
agree_at k s t above here = λ j h. elim (cases_eq j k) [ inl same ↦ rw same here | inr other ↦ above j (omega arith) ]

-- either less, or as much
less_or_same : (a b : ℤ) → a ≤ℤ b → (a <ℤ b) ⊎ (a ≡ b)
less_or_same a b h = grind (arith, ints)

-- either in, or out
in_or_out : (b : Bool) → (b ≡ true) ⊎ (b ≡ false)
in_or_out true = inl refl
in_or_out false = inr refl

-- the set with node k more has it, and is the same above
pub insert_in : (s : set.FinSet nat_cmp) (k : ℕ) → set.contains (set.insert s k) k ≡ true
insert_in s k = grind (arith, nat_tests, set.members)

pub insert_above : (s : set.FinSet nat_cmp) (k : ℕ) → Agrees (k + 1) (set.contains (set.insert s k)) (set.contains s)
insert_above s k j above = grind (arith, nat_tests, set.members)

-- the members of the cut are nodes from n on: so is node k below n, once it is put in
pub decided_with : (n k count : ℕ) (cut : set.FinSet nat_cmp) → n ≡ k + 1 → n ≤ count
    → ((j : ℕ) → IsTrue (set.contains cut j) → (n ≤ j) × (j < count)) → (j : ℕ) → IsTrue (set.contains (set.insert cut k) j) → (k ≤ j) × (j < count)
decided_with n k count cut below within decided j here =
    elim (cases_eq j k) [
      | inl same ↦ (omega arith, omega arith)
      | inr other ↦ let bounds : (n ≤ j) × (j < count) = decided j (grind (arith, nat_tests, set.members)) in (omega arith, omega arith)
    ]

-- a node below n is no member
pub undecided_out : (n k count : ℕ) (cut : set.FinSet nat_cmp) → k < n
    → ((j : ℕ) → IsTrue (set.contains cut j) → (n ≤ j) × (j < count)) → set.contains cut k ≡ false
undecided_out n k count cut below decided =
    elim (in_or_out (set.contains cut k)) [ inl here ↦ let bounds : (n ≤ k) × (k < count) = decided k here in absurd (omega arith) | inr out ↦ out ]

-- the sets that agree with the cut from k + 1 on: those with node k, and those without it
module _ (k : ℕ) (cut with_node : ℕ → Bool) (node_out : cut k ≡ false) (node_in : with_node k ≡ true) (same_above : Agrees (k + 1) with_node cut) where
  pub agree_either : (other : ℕ → Bool) → Agrees (k + 1) other cut → Agrees k other with_node ⊎ Agrees k other cut
  agree_either other above =
      elim (in_or_out (other k)) [
        | inl here ↦ inl (agree_at k other with_node (λ j h. above j h ∙ sym (same_above j h)) (here ∙ sym node_in))
        | inr here ↦ inr (agree_at k other cut above (here ∙ sym node_out))
      ]

  -- those with the node come first
  pub with_node_first : (first second : ℕ → Bool) → Agrees k first with_node → Agrees k second cut → ComesBefore first second
  with_node_first first second one two = record {
    place = k;
    in_first = one k (omega arith) ∙ node_in;
    not_in_second = two k (omega arith) ∙ node_out;
    same_above = λ j h. one j (omega arith) ∙ (same_above j (omega arith) ∙ sym (two j (omega arith)));
  }

  module _ (Fits : (ℕ → Bool) → Type 0) (gain : (ℕ → Bool) → ℤ) where
    -- first the sets with the node, then those without it
    pub better_both : (reached between result : Incumbent) → IsBetterFrom Fits gain k with_node reached between → IsBetterFrom Fits gain k cut between result
        → IsBetterFrom Fits gain (k + 1) cut reached result
    better_both reached between result (inl (one_is, one_none)) (inl (two_is, two_none)) =
        inl (
          two_is ∙ one_is,
          λ other fits above. elim (agree_either other above) [
            | inl a ↦ one_none other fits a
            | inr a ↦ subst (λ r. gain other ≤ℤ r.gain) one_is (two_none other fits a)
          ],
        )
    better_both reached between result (inl (one_is, one_none)) (inr (best, two_is, two)) =
        let more : reached.gain <ℤ gain (set.contains best) = subst (λ r. r.gain <ℤ gain (set.contains best)) one_is two.more in
        inr (
          best,
          two_is,
          record {
            fits = two.fits;
            agrees = λ j h. two.agrees j (omega arith);
            more = more;
            first = λ other fits above. elim (agree_either other above) [
              | inl a ↦ let most : gain other ≤ℤ reached.gain = one_none other fits a in inl (omega (arith, ints))
              | inr a ↦ two.first other fits a
            ];
          },
        )
    better_both reached between result (inr (best, one_is, one)) (inl (two_is, two_none)) =
        inr (
          best,
          two_is ∙ one_is,
          record {
            fits = one.fits;
            agrees = λ j h. one.agrees j (omega arith) ∙ same_above j h;
            more = one.more;
            first = λ other fits above. elim (agree_either other above) [
              | inl a ↦ one.first other fits a
              | inr a ↦ elim (less_or_same _ _ (subst (λ r. gain other ≤ℤ r.gain) one_is (two_none other fits a))) [
                | inl less ↦ inl less
                | inr same ↦ inr (same, inr (with_node_first (set.contains best) other one.agrees a))
              ]
            ];
          },
        )
    better_both reached between result (inr (earlier, one_is, one)) (inr (best, two_is, two)) =
        let higher : gain (set.contains earlier) <ℤ gain (set.contains best) = subst (λ r. r.gain <ℤ gain (set.contains best)) one_is two.more in
        inr (
          best,
          two_is,
          record {
            fits = two.fits;
            agrees = λ j h. two.agrees j (omega arith);
            more = let least : reached.gain <ℤ gain (set.contains earlier) = one.more in omega (arith, ints);
            first = λ other fits above. elim (agree_either other above) [
              | inl a ↦ elim (one.first other fits a) [ inl less ↦ inl (omega (arith, ints)) | inr (same, _) ↦ inl (omega (arith, ints)) ]
              | inr a ↦ two.first other fits a
            ];
          },
        )

module _ (Fits : (ℕ → Bool) → Type 0) (gain : (ℕ → Bool) → ℤ) where
  -- the sets tried are the same from a later node on, where the nodes between are settled
  pub better_later : (k n : ℕ) (cut : ℕ → Bool) (reached result : Incumbent)
      → k ≤ n → ((other : ℕ → Bool) → Fits other → Agrees n other cut → Agrees k other cut)
      → IsBetterFrom Fits gain k cut reached result → IsBetterFrom Fits gain n cut reached result
  better_later k n cut reached result later settled (inl (is, none)) = inl (is, λ other fits same. none other fits (settled other fits same))
  better_later k n cut reached result later settled (inr (best, is, found)) =
      inr (
        best,
        is,
        record {
          fits = found.fits;
          agrees = λ j h. found.agrees j (omega arith);
          more = found.more;
          first = λ other fits same. found.first other fits (settled other fits same);
        },
      )

-- with no node left to choose, the cut alone is tried
pub improved_for_one : (graph : FlowGraph) (limits : Limits) (before after : Incumbent) (cut : set.FinSet nat_cmp)
    → IsImproved graph limits before cut after
    → IsBetterFrom (Fits graph limits) (gain graph) 0 (set.contains cut) before after
improved_for_one graph limits before after cut (inl (same, none)) =
    let P : (ℕ → Bool) → Type 0 = λ s. Fits graph limits s → gain graph s ≤ℤ before.gain in
    inl (same, λ other fits agrees. subst P (sym (agree_all other (set.contains cut) agrees)) none fits)
improved_for_one graph limits before after cut (inr found) =
    inr (
      cut,
      λ i. record { cut = found.0 i; gain = found.2 i },
      record {
        fits = found.1;
        agrees = λ _ _. refl;
        more = subst (λ g. before.gain <ℤ g) found.2 found.3;
        first = λ other _ same.
            inr (ap (gain graph) (agree_all other (set.contains cut) same), inl (λ k. sym (same k (omega arith))));
      },
    )

-- no set that fits has a node that is not eligible
pub not_in : (graph : FlowGraph) (limits : Limits) (k : ℕ) → (node_at graph k).eligible ≡ false → (other : ℕ → Bool) → Fits graph limits other → other k ≡ false
not_in graph limits k out other fits = elim (in_or_out (other k)) [ inl here ↦ absurd (true≢false (sym (fits.eligible k here) ∙ out)) | inr here ↦ here ]

-- the last undecided node is k, and the cut's members are nodes from n on
module _ (graph : FlowGraph) (limits : Limits) (n k count : ℕ) (cut : set.FinSet nat_cmp) (last : n ≡ k + 1)
    (decided : (j : ℕ) → IsTrue (set.contains cut j) → (n ≤ j) × (j < count)) where
  node_out : set.contains cut k ≡ false
  node_out = undecided_out n k count cut (omega arith) decided

  -- a node that is not eligible needs no choice
  pub better_without : (reached result : Incumbent) → (node_at graph k).eligible ≡ false
      → IsBetterFrom (Fits graph limits) (gain graph) k (set.contains cut) reached result
      → IsBetterFrom (Fits graph limits) (gain graph) n (set.contains cut) reached result
  better_without reached result ineligible tried =
      rw last (better_later (Fits graph limits) (gain graph) k (k + 1) (set.contains cut) reached result
      (omega arith)
      (λ other fits above. agree_at k other (set.contains cut) above (not_in graph limits k ineligible other fits ∙ sym node_out))
      tried)

  -- a node that is eligible is in, and then out
  pub better_with : (with_node : set.FinSet nat_cmp) (reached between result : Incumbent) → with_node ≡ set.insert cut k
      → IsBetterFrom (Fits graph limits) (gain graph) k (set.contains with_node) reached between
      → IsBetterFrom (Fits graph limits) (gain graph) k (set.contains cut) between result
      → IsBetterFrom (Fits graph limits) (gain graph) n (set.contains cut) reached result
  better_with with_node reached between result is one two =
      rw last (better_both k (set.contains cut) (set.contains (set.insert cut k)) node_out (insert_in cut k) (insert_above cut k)
      (Fits graph limits) (gain graph) reached between result (rw is at one) two)

-- what a read of a node gives
pub eligible_read : (graph : FlowGraph) (nodes : List Node) (k : ℕ) (d : Node) → nodes ≡ graph.nodes → k < length graph.nodes
    → (get_or nodes k d).eligible ≡ (node_at graph k).eligible
eligible_read graph nodes k d is below =
    ap (λ xs. (get_or xs k d).eligible) is ∙ ap (λ node. node.eligible) (sym (node_in-within graph.nodes k d below))

-- a set that fits has nodes alone
pub agree_past : (graph : FlowGraph) (limits : Limits) (other : ℕ → Bool) → Fits graph limits other
    → Agrees (length graph.nodes) other (set.contains (set.empty {R = nat_cmp}))
agree_past graph limits other fits j past =
    not_in graph limits j (ap (λ node. node.eligible) (node_in-past graph.nodes j past)) other fits ∙ sym (set.contains-empty nat_cmp j)

-- all sets of nodes have been tried, from nothing reached on
pub best_of_tries : (graph : FlowGraph) (limits : Limits) (result : Incumbent)
    → IsBetterFrom (Fits graph limits) (gain graph) (length graph.nodes) (set.contains (set.empty {R = nat_cmp})) (record { cut = None; gain = pos 0 }) result
    → MatchOption result.cut (HasNoCut graph limits) (λ cut. IsBest graph limits (set.contains cut))
best_of_tries graph limits result (inl (is, none)) =
    let P : Incumbent → Type 0 = λ r. MatchOption r.cut (HasNoCut graph limits) (λ cut. IsBest graph limits (set.contains cut)) in
    subst P (sym is) (λ other fits. none other fits (agree_past graph limits other fits))
best_of_tries graph limits result (inr (best, is, found)) =
    let P : Incumbent → Type 0 = λ r. MatchOption r.cut (HasNoCut graph limits) (λ cut. IsBest graph limits (set.contains cut)) in
    subst P (sym is) (record {
      fits = found.fits;
      positive = found.more;
      best = λ other fits. found.first other fits (agree_past graph limits other fits);
    })
