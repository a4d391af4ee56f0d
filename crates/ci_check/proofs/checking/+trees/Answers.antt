use Rattle.std.proofs.Common.{◌≡◌, ℕ, ◌+◌, List, ◌∷◌, ◌++◌, drop, length, get_or, true, false, inl, IsTrue, Ok, Err, refl, ◌∙◌, arith, subst}
use Rattle.std.proofs.lemmas.Bool.Decides.{not_from_Decides}
use Rattle.std.proofs.lemmas.Result.{err_from_is_err_and}
use Rattle.ci_log.specs.declared.log.Item.{Item}
use Rattle.ci_log.specs.declared.log.Item.TheVariants.{B}
use Rattle.ci_log.specs.Trees.{IsTree}
use Rattle.ci_cut.specs.Prefixes.{Prefix, is_next}
use Rattle.ci_check.specs.Rules.{IsRight, stations}
use Rattle.ci_check.specs.Representation.{IsTreeAt, IsJudged}
use Rattle.ci_cut.specs.Representation.{Represents, AreKeptFrom}
use Rattle.ci_cut.proofs.Represented.{next_from_below, all_decided, represents_kept}
use Rattle.ci_check.proofs.TreeWalk.{tree_within, first_item, wrong_here, right_alone, SubTrees, sub_trees, behind_first, judged_by_first, goes_left}
use Rattle.ci_check.proofs.checking.+trees.Goals as goal
use Rattle.ci_check.proofs.checking.+trees.Goals.{check_tree-In-Some, check_tree-Then-is_right_with, check_tree-In_ok-end}

pub check_tree-prefixes-init : goal.check_tree-prefixes-init
check_tree-prefixes-init t c = record {
  represents = c.requires.represents;
  tree = c.requires.tree;
  below = omega arith;
  kept = λ k from. refl;
  goes = λ prefix one rest tree represents splits. record {
    now = prefix;
    here = one;
    here_tree = tree;
    represents = represents;
    is_split = splits;
    judged = λ result is. is;
  };
}

pub check_tree-bounds-items-place : goal.check_tree-bounds-items-place
check_tree-bounds-items-place t c = tree_within c.args.items.now c.prefixes.place c.prefixes.invariant.tree

pub check_tree-overflow_cast-result : goal.check_tree-overflow_cast-result
check_tree-overflow_cast-result t c = omega (arith, tree_within c.args.items.now c.prefixes.place c.prefixes.invariant.tree)

pub check_tree-overflow_add-place : goal.check_tree-overflow_add-place
check_tree-overflow_add-place t c = omega (arith, tree_within c.args.items.now c.prefixes.place c.prefixes.invariant.tree)

pub check_tree-overflow_add-result : goal.check_tree-overflow_add-result
check_tree-overflow_add-result t c = omega (arith, tree_within c.args.items.now c.prefixes.place c.prefixes.invariant.tree)

pub check_tree-returns-then-not-is_right-clause-judged : goal.check_tree-returns-then-not-is_right-clause-judged
check_tree-returns-then-not-is_right-clause-judged t c prefix one rest tree represents splits =
    let goes = c.prefixes.invariant.goes prefix one rest tree represents splits in
    let items = c.args.items.now in
    let place = c.prefixes.place in
    let within = tree_within items place c.prefixes.invariant.tree in
    let wrong = not_from_Decides _ (c.is_right.ensures goes.now c.prefixes.delays goes.represents) c.if-not-is_right.true in
    goes.judged (Err (record { item = place; reason = c.reason_of.result })) (
      0,
      rw c.reason_of.ensures (wrong_here c.args.graph.now c.args.limits.now c.args.best.now.cut goes.here_tree goes.now
          (get_or items place B) (drop (place + 1) items) rest (first_item items goes.here rest place within goes.is_split) wrong),
      omega arith,
    )

pub check_tree-returns-in_default-clause-judged : goal.check_tree-returns-in_default-clause-judged
check_tree-returns-in_default-clause-judged t c prefix one rest tree represents splits =
    let goes = c.prefixes.invariant.goes prefix one rest tree represents splits in
    let items = c.args.items.now in
    let place = c.prefixes.place in
    let within = tree_within items place c.prefixes.invariant.tree in
    let right = (c.is_right.ensures goes.now c.prefixes.delays goes.represents).0 c.if-not-is_right.false in
    let judged = right_alone c.args.graph.now c.args.limits.now c.args.best.now.cut goes.here_tree goes.now
    (get_or items place B) (drop (place + 1) items) rest c.prefixes.terms.place
    (first_item items goes.here rest place within goes.is_split) right
    c.in_default.ensures (all_decided c.args.graph.now goes.now c.prefixes.terms c.prefixes.delays goes.represents) in
    goes.judged (Ok (place + 1)) (judged.0, omega (arith, judged.1))

-- what is known at a branch: the next node, the trees below, and that the item is right
record Branch (t : ℕ) (c : check_tree-In-Some t) (prefix : Prefix) {one : List Item} (tree : IsTree one) (rest : List Item) : Type 0 where
  next : IsTrue (is_next c.args.graph.now prefix c.in-Some.node)
  parts : SubTrees tree prefix (drop (c.prefixes.place + 1) c.args.items.now) rest
  right : IsRight c.args.graph.now c.args.limits.now c.args.best.now.cut prefix B

branch_at : (t : ℕ) (c : check_tree-In-Some t) (prefix : Prefix) (one rest : List Item) (tree : IsTree one)
    → Represents c.args.graph.now prefix c.prefixes.terms c.prefixes.delays → drop c.prefixes.place c.args.items.now ≡ one ++ rest
    → Branch t c prefix tree rest
branch_at t c prefix one rest tree represents splits = record {
  next = next_from_below c.args.graph.now prefix c.prefixes.terms c.prefixes.delays represents c.in-Some.node c.in-Some.ensures.1;
  parts = sub_trees tree prefix (get_or c.args.items.now c.prefixes.place B) (drop (c.prefixes.place + 1) c.args.items.now) rest
      (first_item c.args.items.now one rest c.prefixes.place (tree_within c.args.items.now c.prefixes.place c.prefixes.invariant.tree) splits)
      c.in-Some.ensures.0;
  right = subst (λ (item : Item). IsRight c.args.graph.now c.args.limits.now c.args.best.now.cut prefix item)
      c.in-Some.ensures.0 ((c.is_right.ensures prefix c.prefixes.delays represents).0 c.if-not-is_right.false);
}

-- the same at the prefix that is looked at
here_at : (t : ℕ) (c : check_tree-In-Some t) → Branch t c c.prefixes.invariant.represents.0 c.prefixes.invariant.tree.tree c.prefixes.invariant.tree.rest
here_at t c =
    let inv = c.prefixes.invariant in
    branch_at t c inv.represents.0 inv.tree.one inv.tree.rest inv.tree.tree inv.represents.1 inv.tree.is_split

-- the tree where the node is taken in
first_at : (t : ℕ) (c : check_tree-In-Some t) → IsTreeAt c.args.items.now (c.prefixes.place + 1)
first_at t c =
    let b = here_at t c in
    record { one = b.parts.first; rest = b.parts.second ++ c.prefixes.invariant.tree.rest; is_split = b.parts.is_tail; tree = b.parts.first_tree }

pub check_tree-bounds-items-place-in-prefixes : goal.check_tree-bounds-items-place-in-prefixes
check_tree-bounds-items-place-in-prefixes t c =
    tree_within c.args.items.now (c.prefixes.place + 1) (first_at t (goal.at.check_tree-bounds-items-place-in-prefixes t c).In-Some)

pub check_tree-overflow_add-place-in-prefixes : goal.check_tree-overflow_add-place-in-prefixes
check_tree-overflow_add-place-in-prefixes t c = omega (arith, tree_within c.args.items.now c.prefixes.place c.prefixes.invariant.tree)

pub check_tree-overflow_add-place-then-is_right_with : goal.check_tree-overflow_add-place-then-is_right_with
check_tree-overflow_add-place-then-is_right_with t c = omega (arith, tree_within c.args.items.now c.prefixes.place c.prefixes.invariant.tree)

pub check_tree-is_right_with-requires-clause-next : goal.check_tree-is_right_with-requires-clause-next
check_tree-is_right_with-requires-clause-next t c =
    let inv = c.prefixes.invariant in
    let b = here_at t (goal.at.check_tree-is_right_with-requires-clause-next t c).In-Some in
    (inv.represents.0, c.prefixes.delays, inv.represents.1, b.next)

pub check_tree-leave_out-requires : goal.check_tree-leave_out-requires
check_tree-leave_out-requires t c =
    let inv = c.prefixes.invariant in
    let b = here_at t (goal.at.check_tree-leave_out-requires t c).In-Some in
    record { next = (inv.represents.0, c.prefixes.delays, inv.represents.1, b.next) }

pub check_tree-leave_out-requires-in-prefixes : goal.check_tree-leave_out-requires-in-prefixes
check_tree-leave_out-requires-in-prefixes t c =
    let inv = c.prefixes.invariant in
    let b = here_at t (goal.at.check_tree-leave_out-requires-in-prefixes t c).In-Some in
    record { next = (inv.represents.0, c.prefixes.delays, inv.represents.1, b.next) }

pub check_tree-check_with-requires : goal.check_tree-check_with-requires
check_tree-check_with-requires t c =
    let inv = c.prefixes.invariant in
    let some = (goal.at.check_tree-check_with-requires t c).In-Some in
    let b = here_at t some in (
      omega (arith, c.in-Some.ensures.1.below, inv.below),
      (c.requires.rows, ((inv.represents.0, inv.represents.1, b.next), (c.requires.measured, (c.requires.few, first_at t some)))),
    )

pub check_tree-returns-in_err-end-clause-judged : goal.check_tree-returns-in_err-end-clause-judged
check_tree-returns-in_err-end-clause-judged t c prefix one rest tree represents splits =
    let goes = c.prefixes.invariant.goes prefix one rest tree represents splits in
    let b = branch_at t (goal.at.check_tree-returns-in_err-end-clause-judged t c).In-Some goes.now goes.here rest goes.here_tree goes.represents
    goes.is_split in
    let first = c.in_err-end.ensures.judged goes.now b.parts.first (b.parts.second ++ rest) b.parts.first_tree goes.represents b.next b.parts.is_tail in
    let p = err_from_is_err_and c.from_residual.result c.from_residual.ensures.1 in
    rw (p.1, p.2)
    (goes.judged (Err c.in_err-end.field-0.0)
    (judged_by_first c.args.graph.now c.args.limits.now c.args.best.now.cut goes.here_tree goes.now _ rest b.parts b.right
    c.prefixes.place c.in_err-end.field-0.0 first))

-- ---- an item that is right at once where the next node is taken in

-- the item is right, and is a tree by itself
judged_at : (t : ℕ) (c : check_tree-Then-is_right_with t) (prefix : Prefix) (one rest : List Item) (tree : IsTree one)
    → Represents c.args.graph.now prefix c.prefixes.terms c.prefixes.delays → IsTrue (is_next c.args.graph.now prefix c.in-Some.node)
    → drop (c.prefixes.place + 1) c.args.items.now ≡ one ++ rest
    → IsJudged c.args.graph.now c.args.limits.now c.args.best.now.cut (stations tree (true ∷ prefix)) (c.prefixes.place + 1) (Ok (c.prefixes.place + 2))
judged_at t c prefix one rest tree represents next splits =
    let graph = c.args.graph.now in
    let items = c.args.items.now in
    let place = c.prefixes.place + 1 in
    let best = c.args.best.now.cut in
    let right = c.is_right_with.ensures best prefix c.prefixes.delays represents next c.if-is_right_with.true in
    let within = tree_within items place (record { one = one; rest = rest; is_split = splits; tree = tree }) in
    let judged = right_alone graph c.args.limits.now best tree (true ∷ prefix)
    (get_or items place B) (drop (place + 1) items) rest (length graph.nodes)
    (first_item items one rest place within splits) right.1 (inl right.0) (λ none. omega (arith, none)) in
    (judged.0, omega (arith, judged.1))

pub check_tree-prefixes-preserved-then-is_right_with : goal.check_tree-prefixes-preserved-then-is_right_with
check_tree-prefixes-preserved-then-is_right_with t c =
    let inv = c.prefixes.invariant in
    let some = (goal.at.check_tree-prefixes-preserved-then-is_right_with t c).In-Some in
    let right = (goal.at.check_tree-prefixes-preserved-then-is_right_with t c).Then-is_right_with in
    let b = here_at t some in
    let first = judged_at t right inv.represents.0 b.parts.first (b.parts.second ++ inv.tree.rest) b.parts.first_tree inv.represents.1 b.next b.parts.is_tail in
    record {
      represents = (false ∷ inv.represents.0, c.leave_out.ensures.represents inv.represents.0 c.prefixes.delays inv.represents.1 b.next);
      tree = record {
        one = b.parts.second;
        rest = inv.tree.rest;
        is_split = behind_first c.args.items.now inv.tree.rest (c.prefixes.place + 1) (c.prefixes.place + 2) b.parts first.1;
        tree = b.parts.second_tree;
      };
      below = omega (arith, inv.below, c.in-Some.ensures.1.below, c.leave_out.ensures.place);
      kept = inv.kept;
      goes = λ prefix one rest tree represents splits.
          let goes = inv.goes prefix one rest tree represents splits in
          let b = branch_at t some goes.now goes.here rest goes.here_tree goes.represents goes.is_split in
          goes_left goes b.parts b.right (c.prefixes.place + 2)
          (judged_at t right goes.now b.parts.first (b.parts.second ++ rest) b.parts.first_tree goes.represents b.next b.parts.is_tail)
          c.leave_out.new.self c.prefixes.delays (c.leave_out.ensures.represents goes.now c.prefixes.delays goes.represents b.next);
    }

pub check_tree-prefixes-smaller-then-is_right_with : goal.check_tree-prefixes-smaller-then-is_right_with
check_tree-prefixes-smaller-then-is_right_with t c = omega (arith, c.in-Some.ensures.1.below, c.leave_out.ensures.place)

-- ---- behind the tree where it is taken in

-- the delays of the nodes taken in are the same
between : (t : ℕ) (c : check_tree-In_ok-end t) → AreKeptFrom c.prefixes.terms.place c.prefixes.delays c.check_with.new.delays
between t c k from = c.in_ok-end.ensures.kept k (omega (arith, from, c.in-Some.ensures.1.below))

pub check_tree-prefixes-preserved : goal.check_tree-prefixes-preserved
check_tree-prefixes-preserved t c =
    let inv = c.prefixes.invariant in
    let graph = c.args.graph.now in
    let some = (goal.at.check_tree-prefixes-preserved t c).In-Some in
    let later = λ (prefix : Prefix) (represents : Represents graph prefix c.prefixes.terms c.prefixes.delays).
    represents_kept graph prefix c.prefixes.terms c.prefixes.delays represents c.check_with.new.delays
    (between t (goal.at.check_tree-prefixes-preserved t c).In_ok-end) in
    let b = here_at t some in
    let first = c.in_ok-end.ensures.judged inv.represents.0 b.parts.first (b.parts.second ++ inv.tree.rest) b.parts.first_tree inv.represents.1 b.next
    b.parts.is_tail in
    record {
      represents = (
        false ∷ inv.represents.0,
        c.leave_out-in-prefixes.ensures.represents inv.represents.0 c.check_with.new.delays
            (later inv.represents.0 inv.represents.1) b.next,
      );
      tree = record {
        one = b.parts.second;
        rest = inv.tree.rest;
        is_split = behind_first c.args.items.now inv.tree.rest (c.prefixes.place + 1) c.in_ok-end.end b.parts first.1;
        tree = b.parts.second_tree;
      };
      below = omega (arith, inv.below, c.in-Some.ensures.1.below, c.leave_out-in-prefixes.ensures.place);
      kept = λ k from.
          c.in_ok-end.ensures.kept k (omega (arith, from, inv.below, c.in-Some.ensures.1.below)) ∙ inv.kept k from;
      goes = λ prefix one rest tree represents splits.
          let goes = inv.goes prefix one rest tree represents splits in
          let b = branch_at t some goes.now goes.here rest goes.here_tree goes.represents goes.is_split in
          goes_left goes b.parts b.right c.in_ok-end.end
          (c.in_ok-end.ensures.judged goes.now b.parts.first (b.parts.second ++ rest) b.parts.first_tree goes.represents b.next b.parts.is_tail)
          c.leave_out-in-prefixes.new.self c.check_with.new.delays
          (c.leave_out-in-prefixes.ensures.represents goes.now c.check_with.new.delays (later goes.now goes.represents) b.next);
    }

pub check_tree-prefixes-smaller : goal.check_tree-prefixes-smaller
check_tree-prefixes-smaller t c = omega (arith, c.in-Some.ensures.1.below, c.leave_out-in-prefixes.ensures.place)

-- ---- where the next node is taken in

pub check_with-take_in-with_node-requires-clause-next : goal.check_with-take_in-with_node-requires-clause-next
check_with-take_in-with_node-requires-clause-next t c = c.requires.next

pub check_with-check_tree-requires : goal.check_with-check_tree-requires
check_with-check_tree-requires t c =
    let next = c.requires.next in (
      omega (arith, c.take_in-with_node.ensures.place),
      (
        c.requires.rows,
        ((true ∷ next.0, c.take_in-with_node.ensures.represents next.0 next.1 next.2), (c.requires.measured, (c.requires.few, c.requires.tree))),
      ),
    )

pub check_with-returns-clause-judged : goal.check_with-returns-clause-judged
check_with-returns-clause-judged t c prefix one rest tree represents next =
    c.check_tree.ensures.judged (true ∷ prefix) one rest tree (c.take_in-with_node.ensures.represents prefix represents next)

pub check_with-returns-clause-kept : goal.check_with-returns-clause-kept
check_with-returns-clause-kept t c k from =
    c.check_tree.ensures.kept k (omega (arith, from, c.take_in-with_node.ensures.place)) ∙ c.take_in-with_node.ensures.kept k from
