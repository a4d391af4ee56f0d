-- Trees whose nodes stand in slots, of any kind.
use Rattle.std.proofs.Common.{◌≡◌, ℕ, ◌+◌, ◌-◌, ◌*◌, ◌<◌, ◌≤◌, List, [], ◌∷◌, ◌++◌, length, reverse}
use Rattle.std.proofs.Common.{length-append, append_assoc, append-nil}
use Rattle.std.proofs.Common.{Some, None, is_some, IsSome, refl, sym, ap, ◌∙◌, subst, arith}
use Rattle.std.proofs.lemmas.List.{nil_from_length, reverse-append, reverse-reverse}
use Rattle.std.specs.Ordering.{nat_cmp}
use Rattle.std.specs.FinMap as map
use Rattle.ci_region.specs.Trees.{Leaf, Inner, TreeKind, AreTreesIn, no_tree, leaf_tree, inner_tree, in_front}
use Rattle.ci_region.specs.private.TreeReading.{AreRead, read_all, read_leaf, read_inner, IsReadUpTo}
use Rattle.ci_region.proofs.MapLaws.{kept_without, fewer_without, given_back, get-insert_same}

module _ {Node Child Item : Type 0} {kind : TreeKind Node Child Item} where
  -- ---- what the slots hold besides

  -- what the slots hold besides trees, they hold
  pub rest_is_kept : {slots rest : map.FinMap nat_cmp Node} {children : List Child} {items : List Item}
      → AreTreesIn kind slots children items rest → (slot : ℕ) (node : Node) → map.get rest slot ≡ Some node
      → map.get slots slot ≡ Some node
  rest_is_kept no_tree slot node there = there
  rest_is_kept (leaf_tree is right) slot node there = there
  rest_is_kept (inner_tree {slots = slots} {slot = taken} is here below) slot node there =
      kept_without slots taken slot node (rest_is_kept below slot node there)
  rest_is_kept (in_front later first) slot node there = rest_is_kept later slot node (rest_is_kept first slot node there)

  -- and these are no more
  pub rest_is_fewer : {slots rest : map.FinMap nat_cmp Node} {children : List Child} {items : List Item}
      → AreTreesIn kind slots children items rest → map.len rest ≤ map.len slots
  rest_is_fewer no_tree = omega arith
  rest_is_fewer (leaf_tree is right) = omega arith
  rest_is_fewer (inner_tree {slots = slots} {slot = slot} {node = node} is here below) =
      omega (arith, rest_is_fewer below, fewer_without slots slot node here)
  rest_is_fewer (in_front later first) = omega (arith, rest_is_fewer later, rest_is_fewer first)

  -- where each node has so many children, each slot that trees reach stands for one item and as many children
  pub count_items : (arity : ℕ) → ((node : Node) → length (kind.children node) ≡ arity)
      → {slots rest : map.FinMap nat_cmp Node} {children : List Child} {items : List Item}
      → AreTreesIn kind slots children items rest
      → length items + arity * map.len rest ≡ length children + arity * map.len slots
  count_items arity each no_tree = omega arith
  count_items arity each (leaf_tree is right) = omega arith
  count_items arity each (inner_tree {slots = slots} {slot = slot} {node = node} is here below) =
      let one : arity * (map.len (map.remove slots slot) + 1) ≡ arity * map.len slots =
      ap (λ n. arity * n) (fewer_without slots slot node here) in
      omega (arith, count_items arity each below, each node, one)
  count_items arity each (in_front {items = items} {later = others} later first) =
      omega (arith, length-append items others, count_items arity each later, count_items arity each first)

  -- a node that is put into a free slot stands above the trees of its children
  pub joined : (slots rest : map.FinMap nat_cmp Node) (slot : ℕ) (node : Node) (child : Child) (items : List Item)
      → AreTreesIn kind slots (kind.children node) items rest → map.get slots slot ≡ None → kind.place child ≡ Inner slot
      → AreTreesIn kind (map.insert slots slot node) (child ∷ []) (kind.branch ∷ items) rest
  joined slots rest slot node child items below was_free is =
      inner_tree is (get-insert_same slots slot node)
      (subst (λ (m : map.FinMap nat_cmp Node). AreTreesIn kind m (kind.children node) items rest)
      (sym (given_back slots slot node was_free)) below)

  -- ---- reading

  -- the items of trees are read before those of others
  read_before : (whole : map.FinMap nat_cmp Node) {slots rest : map.FinMap nat_cmp Node} {children : List Child}
      {items : List Item} → AreTreesIn kind slots children items rest
      → ((slot : ℕ) (node : Node) → map.get slots slot ≡ Some node → map.get whole slot ≡ Some node)
      → (behind : List Child) (others : List Item) → AreRead kind whole behind others
      → AreRead kind whole (children ++ behind) (items ++ others)
  read_before whole no_tree part behind others read = read
  read_before whole (leaf_tree is right) part behind others read = read_leaf is read
  read_before whole (inner_tree {slots = slots} {slot = slot} {node = node} is here below) part behind others read =
      read_inner is (part slot node here)
      (read_before whole below (λ other there at. part other there (kept_without slots slot other there at)) behind others read)
  read_before whole (in_front {items = items} {later = after} later first) part behind others read =
      subst (AreRead kind whole _) (sym (append_assoc items after others))
      (read_before whole first (λ slot node at. part slot node (rest_is_kept later slot node at)) _ _
      (read_before whole later part behind others read))

  -- two readings are one
  one_reading : (slots : map.FinMap nat_cmp Node) {children : List Child} {items others : List Item}
      → AreRead kind slots children items → AreRead kind slots children others → items ≡ others
  one_reading slots read_all read_all = refl
  one_reading slots (read_leaf {item = item} is read) (read_leaf {item = again} other rest) =
      let same : item ≡ again = cc in λ i. same i ∷ one_reading slots read rest i
  one_reading slots (read_leaf is read) (read_inner other there rest) = absurd (cc)
  one_reading slots (read_inner is here read) (read_leaf other rest) = absurd (cc)
  one_reading slots (read_inner {others = others} {slot = slot} {node = node} is here read)
      (read_inner {slot = slot_again} {node = again} {items = items} other there rest) =
      let same_slot : slot_again ≡ slot = cc in
      let same : again ≡ node = cc in
      ap (λ xs. kind.branch ∷ xs)
      (one_reading slots read (subst (λ (n : Node). AreRead kind slots (kind.children n ++ others) items) same rest))

  -- trees of the same children in the same slots have the same items
  pub one_list : {slots rest others : map.FinMap nat_cmp Node} {children : List Child} {items again : List Item}
      → AreTreesIn kind slots children items rest → AreTreesIn kind slots children again others → items ≡ again
  one_list {slots = slots} {items = items} {again = again} trees other =
      sym (append-nil items)
      ∙ one_reading slots (read_before slots trees (λ slot node at. at) [] [] read_all)
      (read_before slots other (λ slot node at. at) [] [] read_all)
      ∙ append-nil again

  -- ---- a walk with a list of children that wait, over these slots

  module _ (slots : map.FinMap nat_cmp Node) (all : List Item) where
    -- at first the root waits
    pub at_first : (rest : map.FinMap nat_cmp Node) (root : Child) (waiting : List Child) (before : List Item)
        → AreTreesIn kind slots (root ∷ []) all rest → waiting ≡ root ∷ [] → before ≡ []
        → IsReadUpTo kind slots waiting before all
    at_first rest root waiting before tree one none = record {
      later = all ++ [];
      are_read = subst (λ (cs : List Child). AreRead kind slots (reverse cs) (all ++ [])) (sym one)
          (read_before slots tree (λ slot node at. at) [] [] read_all);
      splits = sym (append-nil all) ∙ ap (λ (xs : List Item). xs ++ (all ++ [])) (sym none);
    }

    -- a child that waits, and is taken from the end
    module _ (old waiting : List Child) (child : Child) (before : List Item) (popped : old ≡ waiting ++ child ∷ [])
        (read : IsReadUpTo kind slots old before all) where
      next : AreRead kind slots (child ∷ reverse waiting) read.later
      next = subst (λ (cs : List Child). AreRead kind slots cs read.later)
          (ap reverse popped ∙ reverse-append waiting (child ∷ [])) read.are_read

      by_some : (later : List Item) → AreRead kind slots (child ∷ reverse waiting) later → all ≡ before ++ later
          → length before < length all
      by_some _ (read_leaf {item = item} {items = items} is rest) splits =
          omega (arith, ap length splits, length-append before (item ∷ items))
      by_some _ (read_inner {items = items} is there rest) splits =
          omega (arith, ap length splits, length-append before (kind.branch ∷ items))

      -- not all was read then, so that fewer items are to be read where one more was
      pub fewer_left : (arity : ℕ) → ((node : Node) → length (kind.children node) ≡ arity)
          → (root : Child) (rest : map.FinMap nat_cmp Node) → AreTreesIn kind slots (root ∷ []) all rest
          → (item : Item) (after : List Item) → after ≡ before ++ item ∷ []
          → arity * map.len slots + 1 - length after < arity * map.len slots + 1 - length before
      fewer_left arity each root rest tree item after longer =
          omega (
            arith,
            by_some read.later next read.splits,
            count_items arity each tree,
            ap length longer,
            length-append before (item ∷ []),
          )

      module _ (item : Item) (is : kind.place child ≡ Leaf item) where
        by_leaf : (later : List Item) → AreRead kind slots (child ∷ reverse waiting) later → all ≡ before ++ later
            → IsReadUpTo kind slots waiting (before ++ item ∷ []) all
        by_leaf _ (read_leaf {item = there} {items = items} other rest) splits =
            let same : there ≡ item = cc in
            record {
              later = items;
              are_read = rest;
              splits = splits ∙ (λ i. before ++ same i ∷ items) ∙ sym (append_assoc before (item ∷ []) items);
            }
        by_leaf _ (read_inner other there rest) splits = absurd (cc)

        -- a leaf is read
        pub leaf_read : (after : List Item) → after ≡ before ++ item ∷ [] → IsReadUpTo kind slots waiting after all
        leaf_read after more =
            subst (λ xs. IsReadUpTo kind slots waiting xs all) (sym more) (by_leaf read.later next read.splits)

      module _ (slot : ℕ) (is : kind.place child ≡ Inner slot) where
        by_slot : (later : List Item) → AreRead kind slots (child ∷ reverse waiting) later
            → IsSome (map.get slots slot)
        by_slot _ (read_leaf other rest) = absurd (cc)
        by_slot _ (read_inner {slot = other_slot} other there rest) =
            let same : other_slot ≡ slot = cc in subst (λ k. IsSome (map.get slots k)) same (ap is_some there)

        -- its slot is live
        pub slot_is_live : IsSome (map.get slots slot)
        slot_is_live = by_slot read.later next

        module _ (node : Node) (here : map.get slots slot ≡ Some node) where
          back : reverse (waiting ++ reverse (kind.children node)) ≡ kind.children node ++ reverse waiting
          back =
              reverse-append waiting (reverse (kind.children node))
              ∙ ap (λ cs. cs ++ reverse waiting) (reverse-reverse (kind.children node))

          by_node : (later : List Item) → AreRead kind slots (child ∷ reverse waiting) later → all ≡ before ++ later
              → IsReadUpTo kind slots (waiting ++ reverse (kind.children node)) (before ++ kind.branch ∷ []) all
          by_node _ (read_leaf other rest) splits = absurd (cc)
          by_node _ (read_inner {slot = other_slot} {node = there} {items = items} other at rest) splits =
              let same_slot : other_slot ≡ slot = cc in
              let same : there ≡ node = cc in
              record {
                later = items;
                are_read = subst (λ (cs : List Child). AreRead kind slots cs items) (sym back)
                    (subst (λ (n : Node). AreRead kind slots (kind.children n ++ reverse waiting) items) same rest);
                splits = splits ∙ sym (append_assoc before (kind.branch ∷ []) items);
              }

          -- its node is read, and the node's children wait
          pub node_read : (behind : List Child) (after : List Item) → behind ≡ waiting ++ reverse (kind.children node)
              → after ≡ before ++ kind.branch ∷ [] → IsReadUpTo kind slots behind after all
          node_read behind after wait more =
              subst (λ (cs : List Child). IsReadUpTo kind slots cs after all) (sym wait)
              (subst (λ xs. IsReadUpTo kind slots (waiting ++ reverse (kind.children node)) xs all) (sym more)
              (by_node read.later next read.splits))

    by_end : (before later : List Item) → AreRead kind slots [] later → all ≡ before ++ later → before ≡ all
    by_end before _ read_all splits = sym (append-nil before) ∙ sym splits

    -- where none waits, all were read
    pub all_are_read : (waiting : List Child) (before : List Item) → length waiting ≡ 0
        → IsReadUpTo kind slots waiting before all → before ≡ all
    all_are_read waiting before none read =
        by_end before read.later
        (subst (λ (cs : List Child). AreRead kind slots cs read.later) (ap reverse (nil_from_length waiting none)) read.are_read)
        read.splits
