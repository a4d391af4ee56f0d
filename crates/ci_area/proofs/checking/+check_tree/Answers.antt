use Rattle.std.proofs.Common.{◌≡◌, ℕ, ◌+◌, true, false, List, ◌∷◌, ◌++◌, drop, get_or, Ok, arith, subst}
use Rattle.std.proofs.lemmas.Bool.Decides.{not_from_Decides}
use Rattle.std.proofs.lemmas.Result.{err_from_is_err_and}
use Rattle.std.specs.FinSet as set
use Rattle.ci_area.specs.declared.log.AreaItem.{AreaItem}
use Rattle.ci_area.specs.declared.log.AreaItem.TheVariants.{B}
use Rattle.ci_area.specs.AreaPrefixes.{Prefix}
use Rattle.ci_area.specs.AreaRules.{IsRight, stations}
use Rattle.ci_area.specs.AreaTrees.{IsTree}
use Rattle.ci_area.specs.Representation.{Represents}
use Rattle.ci_area.specs.private.Judged.{IsJudged}
use Rattle.ci_area.proofs.AreaWalk.{tree_within, first_item, wrong_here, right_alone, SubTrees, sub_trees, behind_first, judged_by_first, judged_by_second}
use Rattle.ci_area.proofs.checking.+check_tree.Goals as goal
use Rattle.ci_area.proofs.checking.+check_tree.Goals.{After-take_in-with_piece, In_ok-end}

pub bounds-items-place : goal.bounds-items-place
bounds-items-place t c = tree_within c.args.items.now c.args.place c.requires.tree

pub offset_bounds-items-place : goal.offset_bounds-items-place
offset_bounds-items-place t c = omega (arith, tree_within c.args.items.now c.args.place c.requires.tree, c.requires.few)

pub overflow_cast-result : goal.overflow_cast-result
overflow_cast-result t c = omega (arith, tree_within c.args.items.now c.args.place c.requires.tree, c.requires.few)

pub overflow_add-result : goal.overflow_add-result
overflow_add-result t c = omega (arith, tree_within c.args.items.now c.args.place c.requires.tree, c.requires.few)

pub overflow_add-place : goal.overflow_add-place
overflow_add-place t c = omega (arith, tree_within c.args.items.now c.args.place c.requires.tree, c.requires.few)

pub returns-then-not-is_right : goal.returns-then-not-is_right
returns-then-not-is_right t c prefix one rest tree represents splits =
    let items = c.args.items.now in
    let place = c.args.place in
    let wrong = not_from_Decides _ (c.is_right.ensures prefix represents) c.if-not-is_right.true in (
      0,
      rw c.reason_of.ensures (wrong_here c.args.pieces.now c.args.limit (set.contains c.args.best.now.set) tree prefix
          (get_or items place B) (drop (place + 1) items) rest (first_item items one rest place (tree_within items place c.requires.tree) splits) wrong),
      omega arith,
    )

pub returns-then-not-branches : goal.returns-then-not-branches
returns-then-not-branches t c prefix one rest tree represents splits =
    let items = c.args.items.now in
    let place = c.args.place in
    let judged = right_alone c.args.pieces.now c.args.limit (set.contains c.args.best.now.set) tree prefix
    (get_or items place B) (drop (place + 1) items) rest
    (first_item items one rest place (tree_within items place c.requires.tree) splits)
    ((c.is_right.ensures prefix represents).0 c.if-not-is_right.false)
    (not_from_Decides _ c.branches.ensures c.if-not-branches.true) in
    (judged.0, omega (arith, judged.1))

-- what is known at a branch: the trees below, and that the item is right
record Branch (t : ℕ) (c : After-take_in-with_piece t) (prefix : Prefix) {one : List AreaItem} (tree : IsTree one) (rest : List AreaItem) : Type 0 where
  parts : SubTrees tree prefix (drop (c.args.place + 1) c.args.items.now) rest
  right : IsRight c.args.pieces.now c.args.limit (set.contains c.args.best.now.set) prefix B

branch_at : (t : ℕ) (c : After-take_in-with_piece t) (prefix : Prefix) (one rest : List AreaItem) (tree : IsTree one)
    → Represents c.args.pieces.now prefix c.args.decided.now → drop c.args.place c.args.items.now ≡ one ++ rest
    → Branch t c prefix tree rest
branch_at t c prefix one rest tree represents splits =
    let branches = c.branches.ensures.0 c.if-not-branches.false in
    record {
      parts = sub_trees tree prefix (get_or c.args.items.now c.args.place B) (drop (c.args.place + 1) c.args.items.now) rest
          (first_item c.args.items.now one rest c.args.place (tree_within c.args.items.now c.args.place c.requires.tree) splits) branches;
      right = subst (λ (item : AreaItem). IsRight c.args.pieces.now c.args.limit (set.contains c.args.best.now.set) prefix item)
          branches ((c.is_right.ensures prefix represents).0 c.if-not-is_right.false);
    }

pub check_tree-requires : goal.check_tree-requires
check_tree-requires t c =
    let some = c.requires.represents in
    let at_place = c.requires.tree in
    let b = branch_at t (goal.at.check_tree-requires t c).After-take_in-with_piece some.0 at_place.one at_place.rest at_place.tree some.1 at_place.is_split in (
      omega (arith, c.take_in-with_piece.ensures.left),
      (
        c.requires.pieces,
        (
          (true ∷ some.0, c.take_in-with_piece.ensures.represents some.0 some.1),
          (
            c.requires.measured,
            (
              c.requires.few,
              record {
                one = b.parts.first;
                rest = b.parts.second ++ at_place.rest;
                is_split = b.parts.is_tail;
                tree = b.parts.first_tree;
              },
            ),
          ),
        ),
      ),
    )

pub returns-in_err-end : goal.returns-in_err-end
returns-in_err-end t c prefix one rest tree represents splits =
    let b = branch_at t (goal.at.returns-in_err-end t c).After-take_in-with_piece prefix one rest tree represents splits in
    let first = c.in_err-end.ensures (true ∷ prefix) b.parts.first (b.parts.second ++ rest) b.parts.first_tree
    (c.take_in-with_piece.ensures.represents prefix represents) b.parts.is_tail in
    let p = err_from_is_err_and c.from_residual.result c.from_residual.ensures.1 in
    rw (p.1, p.2) (judged_by_first c.args.pieces.now c.args.limit (set.contains c.args.best.now.set) tree prefix _ rest b.parts b.right
    c.args.place c.in_err-end.field-0.0 first)

-- ---- behind the first tree

record Later (t : ℕ) (c : In_ok-end t) (prefix : Prefix) {one : List AreaItem} (tree : IsTree one) (rest : List AreaItem) : Type 0 where
  parts : SubTrees tree prefix (drop (c.args.place + 1) c.args.items.now) rest
  right : IsRight c.args.pieces.now c.args.limit (set.contains c.args.best.now.set) prefix B
  judged : IsJudged c.args.pieces.now c.args.limit (set.contains c.args.best.now.set) (stations parts.first_tree (true ∷ prefix)) (c.args.place + 1) (Ok c.in_ok-end.end)
  is_split : drop c.in_ok-end.end c.args.items.now ≡ parts.second ++ rest

later_at : (t : ℕ) (c : In_ok-end t) (prefix : Prefix) (one rest : List AreaItem) (tree : IsTree one)
    → Represents c.args.pieces.now prefix c.args.decided.now → drop c.args.place c.args.items.now ≡ one ++ rest
    → Later t c prefix tree rest
later_at t c prefix one rest tree represents splits =
    let branches = c.branches.ensures.0 c.if-not-branches.false in
    let parts = sub_trees tree prefix (get_or c.args.items.now c.args.place B) (drop (c.args.place + 1) c.args.items.now) rest
    (first_item c.args.items.now one rest c.args.place (tree_within c.args.items.now c.args.place c.requires.tree) splits) branches in
    let judged = c.in_ok-end.ensures (true ∷ prefix) parts.first (parts.second ++ rest) parts.first_tree
    (c.take_in-with_piece.ensures.represents prefix represents) parts.is_tail in
    record {
      parts = parts;
      right = subst (λ (item : AreaItem). IsRight c.args.pieces.now c.args.limit (set.contains c.args.best.now.set) prefix item)
          branches ((c.is_right.ensures prefix represents).0 c.if-not-is_right.false);
      judged = judged;
      is_split = behind_first c.args.items.now rest (c.args.place + 1) c.in_ok-end.end parts judged.1;
    }

pub check_tree-requires-2 : goal.check_tree-requires-2
check_tree-requires-2 t c =
    let some = c.requires.represents in
    let at_place = c.requires.tree in
    let l = later_at t (goal.at.check_tree-requires-2 t c).In_ok-end some.0 at_place.one at_place.rest at_place.tree some.1 at_place.is_split in (
      omega (arith, c.leave_out-without.ensures.left),
      (
        c.requires.pieces,
        (
          (false ∷ some.0, c.leave_out-without.ensures.represents c.args.pieces.now some.0 some.1),
          (
            c.requires.measured,
            (
              c.requires.few,
              record {
                one = l.parts.second;
                rest = at_place.rest;
                is_split = l.is_split;
                tree = l.parts.second_tree;
              },
            ),
          ),
        ),
      ),
    )

pub returns : goal.returns
returns t c prefix one rest tree represents splits =
    let l = later_at t (goal.at.returns t c).In_ok-end prefix one rest tree represents splits in
    judged_by_second c.args.pieces.now c.args.limit (set.contains c.args.best.now.set) tree prefix _ rest l.parts l.right c.args.place
    c.in_ok-end.end c.check_tree-2.result l.judged
    (c.check_tree-2.ensures (false ∷ prefix) l.parts.second rest l.parts.second_tree
    (c.leave_out-without.ensures.represents c.args.pieces.now prefix represents) l.is_split)
