use Rattle.std.proofs.Common.{[], ◌∷◌, sym, ap, ◌∙◌, subst}
use Rattle.std.specs.FinMap as map
use Rattle.ci_region.specs.BoundedMap.{BoundedMap}
use Rattle.ci_region.proofs.MapLaws.{given_back}
use Rattle.ci_log.specs.declared.log.Item.TheVariants.{B, C, F}
use Rattle.ci_log.specs.declared.flattening.Child.TheVariants.{Inner}
use Rattle.ci_log.specs.declared.flattening.LogNode.{LogNode}
use Rattle.ci_log.specs.RegionTrees.{Slots, IsTreeIn}
use Rattle.ci_log.proofs.RegionTreeLaws.{at_leaf, at_inner}
use Rattle.ci_text_tests.proofs.log.tree_in_a_region.Goals as goal

-- without the second slot the region is what it was before it was taken
pub flatten-requires-clause-tree : goal.flatten-requires-clause-tree
flatten-requires-clause-tree g c =
    let first = c.in_ok-below.ensures in
    let second = c.in_ok-root.ensures in
    let bare =
    ap (λ (m : BoundedMap LogNode). map.remove m.values c.in_ok-root.root) second.holds
    ∙ given_back _ c.in_ok-root.root _ second.was_free in (
      _,
      _,
      at_inner second.live (at_leaf tt)
          (subst (λ (m : Slots). IsTreeIn m (Inner c.in_ok-below.below) (B ∷ (C ∷ (F ∷ [])))
          (map.remove c.take.new.self.values c.in_ok-below.below)) (sym bare)
          (at_inner first.live (at_leaf tt) (at_leaf tt))),
    )
