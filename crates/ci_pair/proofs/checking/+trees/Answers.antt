use Rattle.std.proofs.Common.{◌≡◌, ℕ, suc, ◌+◌, List, ◌∷◌, ◌++◌, drop, length, get_or, inl, IsTrue, Ok, arith, subst}
use Rattle.std.proofs.lemmas.Bool.Decides.{not_from_Decides}
use Rattle.std.proofs.lemmas.Result.{err_from_is_err_and}
use Rattle.ci_cut.specs.Prefixes as cuts
use Rattle.ci_cut.proofs.Represented.{next_from_below, all_decided}
use Rattle.ci_pair.specs.declared.log.PairItem.{PairItem}
use Rattle.ci_pair.specs.declared.log.PairItem.TheVariants.{B}
use Rattle.ci_pair.specs.Pairs.{First, Second, Out}
use Rattle.ci_pair.specs.Prefixes.{PairPrefix, choices}
use Rattle.ci_pair.specs.Trees.{IsTree}
use Rattle.ci_pair.specs.PairSets.{given}
use Rattle.ci_pair.specs.private.States.{Represents, AreKeptFrom}
use Rattle.ci_pair.specs.private.Judged.{IsJudged}
use Rattle.ci_pair.specs.Rules.{IsRight, stations}
use Rattle.ci_pair.proofs.PrefixLaws.{length-choices}
use Rattle.ci_pair.proofs.TreeWalk.{kept_on, kept_above, pairs_kept, tree_within, first_item, wrong_here, right_alone, SubTrees, sub_trees, behind_tree}
use Rattle.ci_pair.proofs.TreeWalk.{judged_by_first, judged_by_second, judged_by_out}
use Rattle.ci_pair.proofs.checking.+trees.Goals as goal
use Rattle.ci_pair.proofs.checking.+trees.Goals.{check_tree-In-Some, check_tree-In_ok-second, check_tree-In_ok-out}

-- ---- the next node is in the first set

pub check_first-bounds-items-place : goal.check_first-bounds-items-place
check_first-bounds-items-place t c = tree_within c.args.items.now c.args.place c.requires.tree

pub check_first-overflow_add-result : goal.check_first-overflow_add-result
check_first-overflow_add-result t c = omega (arith, tree_within c.args.items.now c.args.place c.requires.tree, c.requires.few)

pub check_first-returns-then-is_right_first-clause-judged : goal.check_first-returns-then-is_right_first-clause-judged
check_first-returns-then-is_right_first-clause-judged t c prefix one rest tree represents next splits =
    let items = c.args.items.now in
    let best = given c.args.best.now.pair in
    let right = c.is_right_first.ensures prefix c.args.delays.now represents next c.if-is_right_first.true in
    let judged = right_alone c.args.graph.now c.args.limits.now best tree (First ∷ prefix)
    (get_or items c.args.place B) (drop (c.args.place + 1) items) rest (length c.args.graph.now.nodes)
    (first_item items one rest c.args.place (tree_within items c.args.place c.requires.tree) splits) right.1 (inl right.0) (λ none. omega (arith, none)) in
    (judged.0, omega (arith, judged.1))

pub check_first-check_tree-requires : goal.check_first-check_tree-requires
check_first-check_tree-requires t c =
    let next = c.requires.next in (
      omega (arith, c.put_in_first.ensures.place),
      (
        c.requires.rows,
        ((First ∷ next.0, c.put_in_first.ensures.represents next.0 next.1 next.2), (c.requires.measured, (c.requires.few, c.requires.tree))),
      ),
    )

pub check_first-returns-clause-judged : goal.check_first-returns-clause-judged
check_first-returns-clause-judged t c prefix one rest tree represents next =
    c.check_tree.ensures.judged (First ∷ prefix) one rest tree (c.put_in_first.ensures.represents prefix represents next)

-- ---- in the second

pub check_second-bounds-items-place : goal.check_second-bounds-items-place
check_second-bounds-items-place t c = tree_within c.args.items.now c.args.place c.requires.tree

pub check_second-overflow_add-result : goal.check_second-overflow_add-result
check_second-overflow_add-result t c = omega (arith, tree_within c.args.items.now c.args.place c.requires.tree, c.requires.few)

pub check_second-returns-then-is_right_second-clause-judged : goal.check_second-returns-then-is_right_second-clause-judged
check_second-returns-then-is_right_second-clause-judged t c prefix one rest tree represents next splits =
    let items = c.args.items.now in
    let best = given c.args.best.now.pair in
    let right = c.is_right_second.ensures prefix c.args.delays.now represents next c.if-is_right_second.true in
    let judged = right_alone c.args.graph.now c.args.limits.now best tree (Second ∷ prefix)
    (get_or items c.args.place B) (drop (c.args.place + 1) items) rest (length c.args.graph.now.nodes)
    (first_item items one rest c.args.place (tree_within items c.args.place c.requires.tree) splits) right.1 (inl right.0) (λ none. omega (arith, none)) in
    (judged.0, omega (arith, judged.1))

pub check_second-check_tree-requires : goal.check_second-check_tree-requires
check_second-check_tree-requires t c =
    let next = c.requires.next in (
      omega (arith, c.put_in_second.ensures.place),
      (
        c.requires.rows,
        ((Second ∷ next.0, c.put_in_second.ensures.represents next.0 next.1 next.2), (c.requires.measured, (c.requires.few, c.requires.tree))),
      ),
    )

pub check_second-returns-clause-judged : goal.check_second-returns-clause-judged
check_second-returns-clause-judged t c prefix one rest tree represents next =
    c.check_tree.ensures.judged (Second ∷ prefix) one rest tree (c.put_in_second.ensures.represents prefix represents next)

-- ---- an item

pub check_tree-bounds-items-place : goal.check_tree-bounds-items-place
check_tree-bounds-items-place t c = tree_within c.args.items.now c.args.place c.requires.tree

pub check_tree-overflow_cast-result : goal.check_tree-overflow_cast-result
check_tree-overflow_cast-result t c = omega (arith, tree_within c.args.items.now c.args.place c.requires.tree, c.requires.few)

pub check_tree-overflow_add-result : goal.check_tree-overflow_add-result
check_tree-overflow_add-result t c = omega (arith, tree_within c.args.items.now c.args.place c.requires.tree, c.requires.few)

pub check_tree-overflow_add-place : goal.check_tree-overflow_add-place
check_tree-overflow_add-place t c = omega (arith, tree_within c.args.items.now c.args.place c.requires.tree, c.requires.few)

pub check_tree-returns-then-not-is_right-clause-judged : goal.check_tree-returns-then-not-is_right-clause-judged
check_tree-returns-then-not-is_right-clause-judged t c prefix one rest tree represents splits =
    let items = c.args.items.now in
    let place = c.args.place in
    let wrong = not_from_Decides _ (c.is_right.ensures prefix c.args.delays.now represents) c.if-not-is_right.true in (
      0,
      rw c.reason_of.ensures (wrong_here c.args.graph.now c.args.limits.now (given c.args.best.now.pair) tree prefix
          (get_or items place B) (drop (place + 1) items) rest (first_item items one rest place (tree_within items place c.requires.tree) splits) wrong),
      omega arith,
    )

pub check_tree-returns-in_default-clause-judged : goal.check_tree-returns-in_default-clause-judged
check_tree-returns-in_default-clause-judged t c prefix one rest tree represents splits =
    let items = c.args.items.now in
    let place = c.args.place in
    let right = (c.is_right.ensures prefix c.args.delays.now represents).0 c.if-not-is_right.false in
    let judged = right_alone c.args.graph.now c.args.limits.now (given c.args.best.now.pair) tree prefix
    (get_or items place B) (drop (place + 1) items) rest c.args.terms.now.first.place
    (first_item items one rest place (tree_within items place c.requires.tree) splits) right c.in_default.ensures
    (λ none. omega (
      arith,
      length-choices First prefix,
      all_decided c.args.graph.now (choices First prefix) c.args.terms.now.first c.args.delays.now.first represents.first none,
    )) in
    (judged.0, omega (arith, judged.1))

-- what is known at a branch: the next node, the trees below, and that the item is right
record Branch (t : ℕ) (c : check_tree-In-Some t) (prefix : PairPrefix) {one : List PairItem} (tree : IsTree one) (rest : List PairItem) : Type 0 where
  next : IsTrue (cuts.is_next c.args.graph.now (choices First prefix) c.in-Some.node)
  parts : SubTrees tree prefix (drop (c.args.place + 1) c.args.items.now) rest
  right : IsRight c.args.graph.now c.args.limits.now (given c.args.best.now.pair) prefix B

branch_at : (t : ℕ) (c : check_tree-In-Some t) (prefix : PairPrefix) (one rest : List PairItem) (tree : IsTree one)
    → Represents c.args.graph.now prefix c.args.terms.now c.args.delays.now → drop c.args.place c.args.items.now ≡ one ++ rest
    → Branch t c prefix tree rest
branch_at t c prefix one rest tree represents splits = record {
  next = next_from_below c.args.graph.now (choices First prefix) c.args.terms.now.first c.args.delays.now.first represents.first c.in-Some.node c.in-Some.ensures.1;
  parts = sub_trees tree prefix (get_or c.args.items.now c.args.place B) (drop (c.args.place + 1) c.args.items.now) rest
      (first_item c.args.items.now one rest c.args.place (tree_within c.args.items.now c.args.place c.requires.tree) splits)
      c.in-Some.ensures.0;
  right = subst (λ (item : PairItem). IsRight c.args.graph.now c.args.limits.now (given c.args.best.now.pair) prefix item)
      c.in-Some.ensures.0 ((c.is_right.ensures prefix c.args.delays.now represents).0 c.if-not-is_right.false);
}

-- the same at the prefix that is there
here_at : (t : ℕ) (c : check_tree-In-Some t) → Branch t c c.requires.represents.0 c.requires.tree.tree c.requires.tree.rest
here_at t c = branch_at t c c.requires.represents.0 c.requires.tree.one c.requires.tree.rest c.requires.tree.tree c.requires.represents.1 c.requires.tree.is_split

pub check_tree-check_first-requires : goal.check_tree-check_first-requires
check_tree-check_first-requires t c =
    let b = here_at t (goal.at.check_tree-check_first-requires t c).In-Some in (
      omega (arith, c.in-Some.ensures.1.below),
      (
        c.requires.rows,
        (
          (c.requires.represents.0, c.requires.represents.1, b.next),
          (
            c.requires.measured,
            (
              c.requires.few,
              record {
                one = b.parts.first;
                rest = b.parts.second ++ (b.parts.out ++ c.requires.tree.rest);
                is_split = b.parts.is_tail;
                tree = b.parts.first_tree;
              },
            ),
          ),
        ),
      ),
    )

pub check_tree-returns-in_err-second-clause-judged : goal.check_tree-returns-in_err-second-clause-judged
check_tree-returns-in_err-second-clause-judged t c prefix one rest tree represents splits =
    let b = branch_at t (goal.at.check_tree-returns-in_err-second-clause-judged t c).In-Some prefix one rest tree represents splits in
    let first = c.in_err-second.ensures.judged prefix b.parts.first (b.parts.second ++ (b.parts.out ++ rest)) b.parts.first_tree
    represents b.next b.parts.is_tail in
    let p = err_from_is_err_and c.from_residual.result c.from_residual.ensures.1 in
    rw (p.1, p.2) (judged_by_first c.args.graph.now c.args.limits.now (given c.args.best.now.pair) tree prefix _ rest b.parts b.right c.args.place c.in_err-second.field-0.0 first)

-- ---- behind the first tree

kept_first : (t : ℕ) (c : check_tree-In_ok-second t) → AreKeptFrom c.args.terms.now.first.place c.args.delays.now c.check_first.new.delays
kept_first t c = kept_above c.args.terms.now.first.place (suc c.in-Some.node) _ _ (omega (arith, c.in-Some.ensures.1.below)) c.in_ok-second.ensures.kept

record Later (t : ℕ) (c : check_tree-In_ok-second t) (prefix : PairPrefix) {one : List PairItem} (tree : IsTree one) (rest : List PairItem) : Type 0 where
  next : IsTrue (cuts.is_next c.args.graph.now (choices First prefix) c.in-Some.node)
  parts : SubTrees tree prefix (drop (c.args.place + 1) c.args.items.now) rest
  right : IsRight c.args.graph.now c.args.limits.now (given c.args.best.now.pair) prefix B
  judged : IsJudged c.args.graph.now c.args.limits.now (given c.args.best.now.pair) (stations parts.first_tree (First ∷ prefix)) (c.args.place + 1) (Ok c.in_ok-second.second)
  represents : Represents c.args.graph.now prefix c.args.terms.now c.check_first.new.delays
  is_split : drop c.in_ok-second.second c.args.items.now ≡ parts.second ++ (parts.out ++ rest)

later_at : (t : ℕ) (c : check_tree-In_ok-second t) (prefix : PairPrefix) (one rest : List PairItem) (tree : IsTree one)
    → Represents c.args.graph.now prefix c.args.terms.now c.args.delays.now → drop c.args.place c.args.items.now ≡ one ++ rest
    → Later t c prefix tree rest
later_at t c prefix one rest tree represents splits =
    let next = next_from_below c.args.graph.now (choices First prefix) c.args.terms.now.first c.args.delays.now.first represents.first c.in-Some.node c.in-Some.ensures.1 in
    let parts = sub_trees tree prefix (get_or c.args.items.now c.args.place B) (drop (c.args.place + 1) c.args.items.now) rest
    (first_item c.args.items.now one rest c.args.place (tree_within c.args.items.now c.args.place c.requires.tree) splits) c.in-Some.ensures.0 in
    let judged = c.in_ok-second.ensures.judged prefix parts.first (parts.second ++ (parts.out ++ rest)) parts.first_tree represents next parts.is_tail in
    record {
      next = next;
      parts = parts;
      right = subst (λ (item : PairItem). IsRight c.args.graph.now c.args.limits.now (given c.args.best.now.pair) prefix item)
          c.in-Some.ensures.0 ((c.is_right.ensures prefix c.args.delays.now represents).0 c.if-not-is_right.false);
      judged = judged;
      represents = pairs_kept c.args.graph.now prefix c.args.terms.now c.args.delays.now c.check_first.new.delays represents (kept_first t c);
      is_split = behind_tree c.args.items.now parts.first (parts.second ++ (parts.out ++ rest)) (c.args.place + 1) c.in_ok-second.second
          parts.first_tree (First ∷ prefix) parts.is_tail judged.1;
    }

later_here : (t : ℕ) (c : check_tree-In_ok-second t) → Later t c c.requires.represents.0 c.requires.tree.tree c.requires.tree.rest
later_here t c = later_at t c c.requires.represents.0 c.requires.tree.one c.requires.tree.rest c.requires.tree.tree c.requires.represents.1 c.requires.tree.is_split

pub check_tree-check_second-requires : goal.check_tree-check_second-requires
check_tree-check_second-requires t c =
    let l = later_here t (goal.at.check_tree-check_second-requires t c).In_ok-second in (
      omega (arith, c.in-Some.ensures.1.below),
      (
        c.requires.rows,
        (
          (c.requires.represents.0, l.represents, l.next),
          (
            c.requires.measured,
            (
              c.requires.few,
              record {
                one = l.parts.second;
                rest = l.parts.out ++ c.requires.tree.rest;
                is_split = l.is_split;
                tree = l.parts.second_tree;
              },
            ),
          ),
        ),
      ),
    )

pub check_tree-returns-in_err-out-clause-judged : goal.check_tree-returns-in_err-out-clause-judged
check_tree-returns-in_err-out-clause-judged t c prefix one rest tree represents splits =
    let l = later_at t (goal.at.check_tree-returns-in_err-out-clause-judged t c).In_ok-second prefix one rest tree represents splits in
    let second = c.in_err-out.ensures.judged prefix l.parts.second (l.parts.out ++ rest) l.parts.second_tree l.represents l.next l.is_split in
    let p = err_from_is_err_and c.from_residual-in_err-out.result c.from_residual-in_err-out.ensures.1 in
    rw (p.1, p.2) (judged_by_second c.args.graph.now c.args.limits.now (given c.args.best.now.pair) tree prefix _ rest l.parts l.right c.args.place
    c.in_ok-second.second c.in_err-out.field-0.0 l.judged second)

-- ---- behind the second tree

kept_second : (t : ℕ) (c : check_tree-In_ok-out t) → AreKeptFrom c.args.terms.now.first.place c.args.delays.now c.check_second.new.delays
kept_second t c =
    kept_on c.args.terms.now.first.place (suc c.in-Some.node) (suc c.in-Some.node) _ _ _
    (omega (arith, c.in-Some.ensures.1.below)) (omega (arith, c.in-Some.ensures.1.below))
    c.in_ok-second.ensures.kept c.in_ok-out.ensures.kept

-- what is known of the third tree, with what is known behind the first
record Last (t : ℕ) (c : check_tree-In_ok-out t) (prefix : PairPrefix) {one : List PairItem} (tree : IsTree one) (rest : List PairItem)
    (parts : SubTrees tree prefix (drop (c.args.place + 1) c.args.items.now) rest) : Type 0 where
  judged : IsJudged c.args.graph.now c.args.limits.now (given c.args.best.now.pair) (stations parts.second_tree (Second ∷ prefix)) c.in_ok-second.second (Ok c.in_ok-out.out)
  represents : Represents c.args.graph.now prefix c.args.terms.now c.check_second.new.delays
  is_split : drop c.in_ok-out.out c.args.items.now ≡ parts.out ++ rest

last_at : (t : ℕ) (c : check_tree-In_ok-out t) (prefix : PairPrefix) (one rest : List PairItem) (tree : IsTree one)
    → Represents c.args.graph.now prefix c.args.terms.now c.args.delays.now
    → (parts : SubTrees tree prefix (drop (c.args.place + 1) c.args.items.now) rest)
    → IsTrue (cuts.is_next c.args.graph.now (choices First prefix) c.in-Some.node)
    → Represents c.args.graph.now prefix c.args.terms.now c.check_first.new.delays
    → drop c.in_ok-second.second c.args.items.now ≡ parts.second ++ (parts.out ++ rest)
    → Last t c prefix tree rest parts
last_at t c prefix one rest tree represents parts next later splits =
    let judged = c.in_ok-out.ensures.judged prefix parts.second (parts.out ++ rest) parts.second_tree later next splits in
    record {
      judged = judged;
      represents = pairs_kept c.args.graph.now prefix c.args.terms.now c.args.delays.now c.check_second.new.delays represents (kept_second t c);
      is_split = behind_tree c.args.items.now parts.second (parts.out ++ rest) c.in_ok-second.second c.in_ok-out.out
          parts.second_tree (Second ∷ prefix) splits judged.1;
    }

pub check_tree-leave_out-requires : goal.check_tree-leave_out-requires
check_tree-leave_out-requires t c =
    let l = later_here t (goal.at.check_tree-leave_out-requires t c).In_ok-second in
    record { next = (c.requires.represents.0, c.args.delays.now, c.requires.represents.1, l.next) }

pub check_tree-check_tree-requires : goal.check_tree-check_tree-requires
check_tree-check_tree-requires t c =
    let here = goal.at.check_tree-check_tree-requires t c in
    let l = later_here t here.In_ok-second in
    let w = last_at t here.In_ok-out c.requires.represents.0 c.requires.tree.one c.requires.tree.rest c.requires.tree.tree c.requires.represents.1
    l.parts l.next l.represents l.is_split in (
      omega (arith, c.in-Some.ensures.1.below, c.leave_out.ensures.place),
      (
        c.requires.rows,
        (
          (
            Out ∷ c.requires.represents.0,
            c.leave_out.ensures.represents c.requires.represents.0 c.check_second.new.delays w.represents l.next,
          ),
          (
            c.requires.measured,
            (
              c.requires.few,
              record { one = l.parts.out; rest = c.requires.tree.rest; is_split = w.is_split; tree = l.parts.out_tree },
            ),
          ),
        ),
      ),
    )

pub check_tree-returns-clause-kept : goal.check_tree-returns-clause-kept
check_tree-returns-clause-kept t c =
    kept_on c.args.terms.now.first.place c.args.terms.now.first.place c.leave_out.new.self.first.place _ _ _ (omega arith)
    (omega (arith, c.in-Some.ensures.1.below, c.leave_out.ensures.place))
    (kept_second t (goal.at.check_tree-returns-clause-kept t c).In_ok-out) c.check_tree.ensures.kept

pub check_tree-returns-clause-judged : goal.check_tree-returns-clause-judged
check_tree-returns-clause-judged t c prefix one rest tree represents splits =
    let here = goal.at.check_tree-returns-clause-judged t c in
    let l = later_at t here.In_ok-second prefix one rest tree represents splits in
    let w = last_at t here.In_ok-out prefix one rest tree represents l.parts l.next l.represents l.is_split in
    judged_by_out c.args.graph.now c.args.limits.now (given c.args.best.now.pair) tree prefix _ rest l.parts l.right c.args.place
    c.in_ok-second.second c.in_ok-out.out c.check_tree.result l.judged w.judged
    (c.check_tree.ensures.judged (Out ∷ prefix) l.parts.out rest l.parts.out_tree
    (c.leave_out.ensures.represents prefix c.check_second.new.delays w.represents l.next) w.is_split)
