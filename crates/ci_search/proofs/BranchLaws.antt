-- Trees in a region, as they grow.
use Rattle.std.proofs.Common.{◌≡◌, ℕ, ◌+◌, ◌<◌, ◌≤◌, inl, inr, List, ◌∷◌, ◌++◌, None, ap, sym, ◌∙◌, subst, arith}
use Rattle.std.proofs.lemmas.Bool.{cases_eq}
use Rattle.std.specs.FinMap as map
use Rattle.ci_region.specs.BoundedMap.{BoundedMap, used, with_value}
use Rattle.ci_region.proofs.MapLaws.{given_back, get-insert_same, len-take}
use Rattle.ci_log.specs.declared.log.Item.{Item}
use Rattle.ci_log.specs.declared.log.Item.TheVariants.{B}
use Rattle.ci_log.specs.declared.flattening.Child.{Child}
use Rattle.ci_log.specs.declared.flattening.Child.TheVariants.{Inner}
use Rattle.ci_log.specs.declared.flattening.LogNode.{LogNode}
use Rattle.ci_log.specs.RegionTrees.{Slots, IsTreeIn}
use Rattle.ci_log.proofs.RegionTreeLaws.{at_inner}
use Rattle.ci_search.specs.private.Branches.{AreTreesOf}

-- two trees in a region
module _ (before after : BoundedMap LogNode) (taken left_out : Child) (in_items out_items : List Item) (rest : Slots)
    (trees : AreTreesOf before taken left_out in_items out_items rest) where
  -- a slot that was free holds the branch
  pub joined : (slot : ℕ) → after ≡ with_value before slot (record { taken = taken; left_out = left_out })
      → map.get before.values slot ≡ None → IsTreeIn after.values (Inner slot) (B ∷ (in_items ++ out_items)) rest
  joined slot holds was_free =
      let node : LogNode = record { taken = taken; left_out = left_out } in
      let bare = given_back before.values slot node was_free in
      subst (λ (m : BoundedMap LogNode). IsTreeIn m.values (Inner slot) (B ∷ (in_items ++ out_items)) rest) (sym holds)
      (at_inner {node = node} (get-insert_same before.values slot node)
      (subst (λ (m : Slots). IsTreeIn m left_out out_items trees.between) (sym bare) trees.out_tree) trees.in_tree)

pub one_more_used : (before after : BoundedMap LogNode) (slot : ℕ) (node : LogNode) → after ≡ with_value before slot node
    → map.get before.values slot ≡ None → used after ≡ used before + 1
one_more_used before after slot node holds was_free = ap used holds ∙ len-take before.values slot node was_free

pub below_unless : {m n : ℕ} → m ≤ n → ¬ (m ≡ n) → m < n
below_unless {m = m} {n = n} within differ = elim (cases_eq m n) [ inl same ↦ absurd (differ same) | inr apart ↦ omega arith ]
