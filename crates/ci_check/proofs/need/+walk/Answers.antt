use Rattle.std.proofs.Common.{◌≡◌, ℕ, suc, ◌+◌, ◌-◌, Bool, true, false, List, ◌∷◌, length, refl, sym, ◌∙◌, arith, rules, w64, SFits, ℤ, to_z, of_z, subst}
use Rattle.std.proofs.lemmas.Int.{to_z-of_z}
use Rattle.std.proofs.lemmas.Bool.Decides.{not_from_Decides}
use Rattle.ci_cut.specs.declared.graph.Limits.{Limits}
use Rattle.ci_cut.specs.declared.prefix.PrefixTerms.{PrefixTerms}
use Rattle.ci_cut.specs.FlowGraph.{FlowGraph}
use Rattle.ci_cut.specs.Prefixes.{Prefix, eligible_nodes}
use Rattle.ci_cut.specs.Representation.{Represents, IsNextBelow, AreKeptFrom}
use Rattle.ci_cut.specs.private.Reached.{IsReachedBefore, IsReachedBehind, IsReachedWith}
use Rattle.ci_check.specs.private.Walked.{IsWalked}
use Rattle.ci_cut.proofs.Represented.{same_taken, all_decided, next_from_below, some_undecided, represents_kept}
use Rattle.ci_cut.proofs.NeedLaws.{reached_whole, reached_in, reached_between}
use Rattle.ci_check.proofs.WalkedLaws.{walked_whole, walked_closed, walked_here, walked_first, walked_both}
use Rattle.ci_check.proofs.need.+walk.Goals as goal
use Rattle.ci_check.proofs.need.+walk.Goals.{After-walk-between}

-- what is reached, as it is passed on
passed_on : (graph : FlowGraph) (limits : Limits) (prefix : Prefix) (reached : ℤ) → SFits w64 reached
    → IsReachedBefore graph limits prefix reached
    → IsReachedBefore graph limits prefix (to_z w64 (of_z w64 reached))
passed_on graph limits prefix reached fits = subst (IsReachedBefore graph limits prefix) (sym (to_z-of_z w64 reached fits))

pub returns-in_default-clause-walked : goal.returns-in_default-clause-walked
returns-in_default-clause-walked t c prefix undecided represents left reached =
    let graph = c.args.graph.now in
    let limits = c.args.limits.now in
    let delays = c.args.delays.now in
    let gained : SFits w64 c.args.before.reached = search rules in
    let after : SFits w64 c.reached_with.result = search rules in
    let whole = all_decided graph prefix c.args.terms.now delays represents c.in_default.ensures in
    let before = to_z w64 (of_z w64 c.args.before.reached) in
    let one = subst (λ (cut : ℕ → Bool). IsReachedWith graph limits cut before c.reached_with.result)
    (same_taken graph prefix c.args.terms.now delays represents) c.reached_with.ensures in
    let behind = reached_whole graph represents.kept limits prefix before whole c.reached_with.result
    (passed_on graph limits prefix c.args.before.reached gained reached) one in
    walked_whole graph represents.kept limits c.args.budget prefix undecided
    (omega (arith, whole, left)) c.args.before _ (omega arith)
    (subst (IsReachedBehind graph limits prefix) (sym (to_z-of_z w64 _ after)) behind)

pub returns-then-not-is_open-clause-walked : goal.returns-then-not-is_open-clause-walked
returns-then-not-is_open-clause-walked t c prefix undecided represents left reached =
    walked_closed c.args.graph.now represents.kept c.args.limits.now c.args.budget prefix undecided c.args.before
    (not_from_Decides _ (c.is_open.ensures prefix c.args.delays.now represents
    (passed_on c.args.graph.now c.args.limits.now prefix c.args.before.reached (search rules) reached))
    c.if-not-is_open.true) reached

-- where a node is undecided, one fewer is behind its choice
one_less : (graph : FlowGraph) (prefix : Prefix) (terms : PrefixTerms) (delays : List ℕ) → Represents graph prefix terms delays → (node : ℕ)
    → IsNextBelow graph terms.place node → (undecided : ℕ) → undecided + length prefix ≡ eligible_nodes graph
    → undecided ≡ suc (undecided - 1)
one_less graph prefix terms delays represents node next undecided left = omega (arith, some_undecided graph prefix terms delays represents node next)

pub returns-then-here-budget-clause-walked : goal.returns-then-here-budget-clause-walked
returns-then-here-budget-clause-walked t c prefix undecided represents left reached =
    walked_here c.args.graph.now represents.kept c.args.limits.now c.args.budget prefix undecided (undecided - 1)
    (one_less c.args.graph.now prefix c.args.terms.now c.args.delays.now represents c.in-Some.node c.in-Some.ensures undecided left)
    ((c.is_open.ensures prefix c.args.delays.now represents (passed_on c.args.graph.now c.args.limits.now prefix c.args.before.reached
    (search rules) reached)).0 c.if-not-is_open.false) c.args.before _ refl c.if-here-budget.true

-- what the walk with the next node in has found
first_walked : (t : ℕ) (c : After-walk-between t) (prefix : Prefix) (undecided : ℕ)
    → Represents c.args.graph.now prefix c.args.terms.now c.args.delays.now
    → undecided + length prefix ≡ eligible_nodes c.args.graph.now
    → IsReachedBefore c.args.graph.now c.args.limits.now prefix c.args.before.reached
    → IsWalked c.args.graph.now c.args.limits.now c.args.budget (undecided - 1) (true ∷ prefix)
    (record {
      «open» = c.args.before.open + 1;
      reached = to_z w64 (of_z w64 c.args.before.reached);
    }) c.walk-between.result
first_walked t c prefix undecided represents left reached =
    let graph = c.args.graph.now in
    let gained : SFits w64 c.args.before.reached = search rules in
    let next = next_from_below graph prefix c.args.terms.now c.args.delays.now represents c.in-Some.node c.in-Some.ensures in
    let fewer = one_less graph prefix c.args.terms.now c.args.delays.now represents c.in-Some.node c.in-Some.ensures undecided left in
    c.walk-between.ensures.walked (true ∷ prefix) (undecided - 1) (c.take_in-with_node.ensures.represents prefix represents next) (omega (arith, fewer, left))
    (passed_on graph c.args.limits.now (true ∷ prefix) c.args.before.reached gained
    (reached_in graph represents.kept c.args.limits.now prefix c.args.before.reached reached))

-- the delays of the nodes taken in are the same behind it
between : (t : ℕ) (c : After-walk-between t) → AreKeptFrom c.args.terms.now.place c.args.delays.now c.walk-between.new.delays
between t c k from =
    c.walk-between.ensures.kept k (omega (arith, from, c.in-Some.ensures.below, c.take_in-with_node.ensures.place))
    ∙ c.take_in-with_node.ensures.kept k (omega (arith, from, c.in-Some.ensures.below))

pub returns-then-between-budget-clause-kept : goal.returns-then-between-budget-clause-kept
returns-then-between-budget-clause-kept t c k from = between t (goal.at.returns-then-between-budget-clause-kept t c).After-walk-between k from

pub returns-then-between-budget-clause-walked : goal.returns-then-between-budget-clause-walked
returns-then-between-budget-clause-walked t c prefix undecided represents left reached =
    walked_first c.args.graph.now represents.kept c.args.limits.now c.args.budget prefix undecided (undecided - 1)
    (one_less c.args.graph.now prefix c.args.terms.now c.args.delays.now represents c.in-Some.node c.in-Some.ensures undecided left)
    ((c.is_open.ensures prefix c.args.delays.now represents (passed_on c.args.graph.now c.args.limits.now prefix c.args.before.reached
    (search rules) reached)).0 c.if-not-is_open.false) c.args.before _ refl c.walk-between.result
    (first_walked t (goal.at.returns-then-between-budget-clause-walked t c).After-walk-between prefix undecided represents left reached)
    c.if-between-budget.true

pub walk-between-requires : goal.walk-between-requires
walk-between-requires t c =
    let prefix = c.requires.represents.0 in
    let represents = c.requires.represents.1 in
    let next = next_from_below c.args.graph.now prefix c.args.terms.now c.args.delays.now represents c.in-Some.node c.in-Some.ensures in (
      omega (arith, c.in-Some.ensures.below, c.take_in-with_node.ensures.place),
      (
        c.requires.rows,
        ((true ∷ prefix, c.take_in-with_node.ensures.represents prefix represents next), (c.requires.few, omega (arith, c.if-here-budget.false))),
      ),
    )

pub walk-requires : goal.walk-requires
walk-requires t c =
    let graph = c.args.graph.now in
    let prefix = c.requires.represents.0 in
    let represents = c.requires.represents.1 in
    let next = next_from_below graph prefix c.args.terms.now c.args.delays.now represents c.in-Some.node c.in-Some.ensures in
    let later = represents_kept graph prefix c.args.terms.now c.args.delays.now represents c.walk-between.new.delays
    (between t (goal.at.walk-requires t c).After-walk-between) in (
      omega (arith, c.in-Some.ensures.below, c.leave_out.ensures.place),
      (
        c.requires.rows,
        (
          (false ∷ prefix, c.leave_out.ensures.represents prefix c.walk-between.new.delays later next),
          (c.requires.few, omega (arith, c.if-between-budget.false)),
        ),
      ),
    )

pub returns-clause-walked : goal.returns-clause-walked
returns-clause-walked t c prefix undecided represents left reached =
    let graph = c.args.graph.now in
    let limits = c.args.limits.now in
    let next = next_from_below graph prefix c.args.terms.now c.args.delays.now represents c.in-Some.node c.in-Some.ensures in
    let fewer = one_less graph prefix c.args.terms.now c.args.delays.now represents c.in-Some.node c.in-Some.ensures undecided left in
    let here = (goal.at.returns-clause-walked t c).After-walk-between in
    let first = first_walked t here prefix undecided represents left reached in
    let later = represents_kept graph prefix c.args.terms.now c.args.delays.now represents c.walk-between.new.delays (between t here) in
    let second = c.walk.ensures.walked (false ∷ prefix) (undecided - 1)
    (c.leave_out.ensures.represents prefix c.walk-between.new.delays later next) (omega (arith, fewer, left))
    (reached_between graph represents.kept limits prefix c.walk-between.result.reached c.in-Some.node next (first.reached c.if-between-budget.false)) in
    walked_both graph represents.kept limits c.args.budget prefix undecided (undecided - 1) fewer
    ((c.is_open.ensures prefix c.args.delays.now represents (passed_on graph limits prefix c.args.before.reached
    (search rules) reached)).0 c.if-not-is_open.false) c.args.before _ refl c.walk-between.result first
    c.walk.result second c.in-Some.node next

pub returns-clause-kept : goal.returns-clause-kept
returns-clause-kept t c k from =
    c.walk.ensures.kept k (omega (arith, from, c.in-Some.ensures.below, c.leave_out.ensures.place))
    ∙ between t (goal.at.returns-clause-kept t c).After-walk-between k from
