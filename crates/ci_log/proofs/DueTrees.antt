-- So many trees, one after the other, by their items: what is due behind each item.
use Rattle.std.proofs.Common.{◌≡◌, ℕ, zero, suc, ◌-◌, ◌<◌, ◌≤◌, List, [], ◌∷◌, ◌++◌, length, replicate, refl, sym, ap}
use Rattle.std.proofs.Common.{◌∙◌, subst, arith, append_assoc, append-nil, zero-le}
use Rattle.ci_log.specs.declared.log.Item.{Item}
use Rattle.ci_log.specs.declared.log.Item.TheVariants.{B, O, C, I, G, F}
use Rattle.ci_log.specs.Trees.{IsLeaf, IsTree, leaf, branch}
use Rattle.ci_log.specs.private.Reading.{due_after}

-- ---- so many trees, one after the other

abbrev pub AreTrees : ℕ → List Item → Type 0
AreTrees zero items = items ≡ []
AreTrees (suc due) [] = ⊥
AreTrees (suc due) (i ∷ items) = AreTrees (due_after i due) items

pub leaf_due : (i : Item) (due : ℕ) → IsLeaf i → due_after i due ≡ due
leaf_due B due is = absurd is
leaf_due O due is = refl
leaf_due C due is = refl
leaf_due I due is = refl
leaf_due G due is = refl
leaf_due F due is = refl

tree_first : (items : List Item) → IsTree items → (due : ℕ) (rest : List Item) → AreTrees due rest → AreTrees (suc due) (items ++ rest)
tree_first _ (leaf {item = i} is) due rest others = subst (λ k. AreTrees k rest) (sym (leaf_due i due is)) others
tree_first _ (branch {taken = taken} {left_out = left_out} one two) due rest others =
    subst (AreTrees (suc (suc due))) (sym (append_assoc taken left_out rest))
    (tree_first taken one (suc due) (left_out ++ rest) (tree_first left_out two due rest others))

record IsFirstTree (due : ℕ) (items : List Item) : Type 0 where
  tree : List Item
  rest : List Item
  splits : items ≡ tree ++ rest
  is_tree : IsTree tree
  others : AreTrees due rest
  shorter : length rest < length items

first_tree : (fuel due : ℕ) (items : List Item) → length items ≤ fuel → AreTrees (suc due) items → IsFirstTree due items
first_tree fuel due [] small are = absurd are
first_tree zero due (i ∷ items) small are = absurd (omega (arith, small))
first_tree (suc fuel) due (i ∷ items) small are = by (first_tree fuel) i are
  where
    alone : (i : Item) → IsLeaf i → AreTrees (due_after i due) items → IsFirstTree due (i ∷ items)
    alone i is are = record {
      tree = i ∷ [];
      rest = items;
      splits = refl;
      is_tree = leaf is;
      others = subst (λ k. AreTrees k items) (leaf_due i due is) are;
      shorter = omega arith;
    }

    by : ((due : ℕ) (items : List Item) → length items ≤ fuel → AreTrees (suc due) items → IsFirstTree due items)
        → (i : Item) → AreTrees (due_after i due) items → IsFirstTree due (i ∷ items)
    by fewer B are =
        let one = fewer (suc due) items (omega (arith, small)) are in
        let two = fewer due one.rest (omega (arith, small, one.shorter)) one.others in
        record {
          tree = B ∷ (one.tree ++ two.tree);
          rest = two.rest;
          is_tree = branch one.is_tree two.is_tree;
          others = two.others;
          splits = ap (λ v. B ∷ v) (one.splits ∙ (ap (λ v. one.tree ++ v) two.splits ∙ sym (append_assoc one.tree two.tree two.rest)));
          shorter = omega (arith, one.shorter, two.shorter);
        }
    by fewer O are = alone O tt are
    by fewer C are = alone C tt are
    by fewer I are = alone I tt are
    by fewer G are = alone G tt are
    by fewer F are = alone F tt are

pub is_tree : (items : List Item) → AreTrees 1 items → IsTree items
is_tree items are =
    let o = first_tree (length items) 0 items (omega arith) are in
    subst IsTree (sym (o.splits ∙ (ap (λ v. o.tree ++ v) o.others ∙ append-nil o.tree))) o.is_tree

pub are_trees : (items : List Item) → IsTree items → AreTrees 1 items
are_trees items is = subst (AreTrees 1) (append-nil items) (tree_first items is 0 [] refl)

-- ---- one item, and one leaf more than once

pub item_first : (i : Item) (due : ℕ) (items : List Item) → 0 < due → AreTrees (due_after i (due - 1)) items → AreTrees due (i ∷ items)
item_first i zero items some are = absurd (omega (arith, some))
item_first i (suc due) items some are = subst (λ k. AreTrees (due_after i k) items) (let e : suc due - 1 ≡ due = omega arith in e) are

pub behind_item : (i : Item) (due : ℕ) (items : List Item) → AreTrees due (i ∷ items) → AreTrees (due_after i (due - 1)) items
behind_item i zero items are = absurd (cc)
behind_item i (suc due) items are = subst (λ k. AreTrees (due_after i k) items) (let e : due ≡ suc due - 1 = omega arith in e) are

pub none_due : (due : ℕ) (items : List Item) → due ≡ 0 → AreTrees due items → items ≡ []
none_due due items none are = subst (λ k. AreTrees k items) none are

pub some_item : (due : ℕ) → 0 < due → AreTrees due [] → ⊥
some_item zero some are = omega (arith, some)
some_item (suc due) some are = are

pub leaves_first : (count due : ℕ) (i : Item) (items : List Item) → IsLeaf i → count ≤ due → AreTrees (due - count) items
    → AreTrees due (replicate count i ++ items)
leaves_first zero due i items is few are = subst (λ k. AreTrees k items) (let e : due - 0 ≡ due = omega arith in e) are
leaves_first (suc count) zero i items is few are = absurd (omega (arith, few))
leaves_first (suc count) (suc due) i items is few are =
    subst (λ k. AreTrees k (replicate count i ++ items)) (sym (leaf_due i due is))
    (leaves_first count due i items is (omega (arith, few)) (subst (λ k. AreTrees k items) (let e : suc due - suc count ≡ due - count = omega arith in e) are))

pub behind_leaves : (count due : ℕ) (i : Item) (items : List Item) → IsLeaf i → AreTrees due (replicate count i ++ items)
    → (count ≤ due) × AreTrees (due - count) items
behind_leaves zero due i items is are = (zero-le, subst (λ k. AreTrees k items) (let e : due ≡ due - 0 = omega arith in e) are)
behind_leaves (suc count) zero i items is are = absurd (cc)
behind_leaves (suc count) (suc due) i items is are =
    let o = behind_leaves count due i items is (subst (λ k. AreTrees k (replicate count i ++ items)) (leaf_due i due is) are) in
    (omega (arith, o.0), subst (λ k. AreTrees k items) (let e : due - count ≡ suc due - suc count = omega arith in e) o.1)

-- a leaf for each tree
pub leaves_are : (i : Item) → IsLeaf i → (due : ℕ) → AreTrees due (replicate due i)
leaves_are i is zero = refl
leaves_are i is (suc due) = subst (λ k. AreTrees k (replicate due i)) (sym (leaf_due i due is)) (leaves_are i is due)

pub due_few : (i : Item) (due : ℕ) → due_after i due ≤ suc (suc due)
due_few B due = omega arith
due_few O due = omega arith
due_few C due = omega arith
due_few I due = omega arith
due_few G due = omega arith
due_few F due = omega arith
