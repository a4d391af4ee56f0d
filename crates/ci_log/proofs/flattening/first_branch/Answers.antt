use Rattle.std.proofs.Common.{◌≡◌, List, [], ◌∷◌, ◌++◌, length, length-append, refl, ap, subst, arith}
use Rattle.ci_region.specs.private.TreeReading.{IsReadUpTo}
use Rattle.ci_region.proofs.TreeLaws.{leaf_read, all_are_read}
use Rattle.ci_log.specs.declared.log.Item.{Item}
use Rattle.ci_log.specs.declared.flattening.Child.{Child}
use Rattle.ci_log.specs.RegionTrees.{place, log_tree}
use Rattle.ci_log.proofs.flattening.first_branch.Goals as goal

pub loop-child-init : goal.loop-child-init
loop-child-init c = record { listed = λ slots all read. read; longer = omega arith }

pub returns-in-Inner-clause-listed : goal.returns-in-Inner-clause-listed
returns-in-Inner-clause-listed c slots all read =
    subst (λ (child : Child).
    IsReadUpTo log_tree slots (c.loop-child.waiting.items ++ child ∷ []) c.loop-child.items.items all)
    c.in-Inner.is (c.loop-child.invariant.listed slots all read)

pub returns-in-Inner-clause-longer : goal.returns-in-Inner-clause-longer
returns-in-Inner-clause-longer c = c.loop-child.invariant.longer

pub returns-in_err-push-in-Leaf-clause-longer : goal.returns-in_err-push-in-Leaf-clause-longer
returns-in_err-push-in-Leaf-clause-longer c =
    omega (arith, c.loop-child.invariant.longer, ap (λ (xs : List Item). length xs) c.in_err-push-in-Leaf.ensures.items)

pub returns-in_default-clause-listed : goal.returns-in_default-clause-listed
returns-in_default-clause-listed c slots all read =
    let none : length c.loop-child.waiting.items ≡ 0 = omega (arith, c.loop-child.waiting.ok.0, c.in_default.ensures.cases.0) in
    all_are_read slots all _ _ none
    (leaf_read slots all _ c.loop-child.waiting.items c.loop-child.child _ refl
    (c.loop-child.invariant.listed slots all read) c.in-Leaf.item (ap place c.in-Leaf.is) _
    c.in_ok-push-in-Leaf.ensures.items)

pub returns-in_default-clause-longer : goal.returns-in_default-clause-longer
returns-in_default-clause-longer c =
    omega (
      arith,
      c.loop-child.invariant.longer,
      ap (λ (xs : List Item). length xs) c.in_ok-push-in-Leaf.ensures.items,
      length-append c.loop-child.items.items (c.in-Leaf.item ∷ []),
    )

pub loop-child-preserved : goal.loop-child-preserved
loop-child-preserved c = record {
  listed = λ slots all read.
      subst (λ (cs : List Child). IsReadUpTo log_tree slots cs c.push.new.self.items all) c.in-Some.ensures.items
      (leaf_read slots all _ c.loop-child.waiting.items c.loop-child.child _ refl
      (c.loop-child.invariant.listed slots all read) c.in-Leaf.item (ap place c.in-Leaf.is) _
      c.in_ok-push-in-Leaf.ensures.items);
  longer = omega (
    arith,
    c.loop-child.invariant.longer,
    ap (λ (xs : List Item). length xs) c.in_ok-push-in-Leaf.ensures.items,
    length-append c.loop-child.items.items (c.in-Leaf.item ∷ []),
  );
}
