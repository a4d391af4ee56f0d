use Rattle.std.proofs.Common.{ℕ, ◌<◌, true, false, ◌∷◌, length, IsTrue, refl, ◌∙◌, arith}
use Rattle.ci_cut.specs.Prefixes.{Prefix, eligible_nodes, is_next}
use Rattle.ci_search.specs.private.Searched.{IsReady}
use Rattle.ci_search.specs.private.Trees.{IsSearched}
use Rattle.ci_cut.specs.Representation.{Represents}
use Rattle.ci_cut.proofs.Represented.{all_decided, next_from_below, some_undecided, represents_kept, same_taken}
use Rattle.ci_cut.proofs.NeedLaws.{reached_in}
use Rattle.ci_search.proofs.LogLaws.{open_unless_pruned, after_in}
use Rattle.ci_search.proofs.SearchLaws.{searched_whole, searched_bar, ready_in, spent_in, ready_out}
use Rattle.ci_search.proofs.WaitingLaws.{goes_on, spent_waiting, written_at, written_above}
use Rattle.ci_search.proofs.searching.+search.Goals as goal
use Rattle.ci_search.proofs.searching.+search.Goals.{search_from-In-Some, search_from-In_ok-taken}

pub search_from-prefixes-init : goal.search_from-prefixes-init
search_from-prefixes-init t c = record {
  ready = c.requires.ready;
  measured = c.requires.measured;
  within = c.requires.within;
  below = omega arith;
  ordered = omega arith;
  room = c.requires.room;
  kept = λ k from. refl;
  kept_below = λ k below. refl;
  goes = λ prefix ready. record { now = prefix; ready = ready; count = 0; is_top = omega arith; waits = (refl, refl, refl) };
}

-- ---- search_from: leaves

pub search_from-improve-requires : goal.search_from-improve-requires
search_from-improve-requires t c =
    let ready = c.prefixes.invariant.ready in (
      ready.0,
      c.prefixes.delays,
      ready.1.represents,
      all_decided c.args.graph.now ready.0 c.prefixes.terms c.prefixes.delays ready.1.represents c.in_default.ensures,
    )

pub search_from-branches-requires : goal.search_from-branches-requires
search_from-branches-requires t c = omega (arith, c.prefixes.invariant.room)

pub search_from-branches-requires-in-Some-pruning_item : goal.search_from-branches-requires-in-Some-pruning_item
search_from-branches-requires-in-Some-pruning_item t c = omega (arith, c.prefixes.invariant.room)

pub search_from-returns-in_default-clause-searched : goal.search_from-returns-in_default-clause-searched
search_from-returns-in_default-clause-searched t c prefix ready =
    let graph = c.args.graph.now in
    let inv = c.prefixes.invariant in
    let goes = inv.goes prefix ready in
    c.branches.ensures graph c.args.limits.now prefix c.args.best.now c.improve.new.best c.args.region.now (record {
      count = goes.count;
      is_left = goes.is_top;
      prefix = goes.now;
      best = c.prefixes.best;
      held = c.prefixes.region;
      waits = goes.waits;
      searched = searched_whole graph goes.ready.represents.kept c.args.limits.now goes.now c.prefixes.best inv.measured
          goes.ready.after_best goes.ready.reached c.prefixes.region inv.within
          (all_decided graph goes.now c.prefixes.terms c.prefixes.delays goes.ready.represents c.in_default.ensures) c.prefixes.terms.taken
          (same_taken graph goes.now c.prefixes.terms c.prefixes.delays goes.ready.represents) c.improve.new.best c.improve.ensures;
    })

pub search_from-returns-in-Some-pruning_item-clause-searched : goal.search_from-returns-in-Some-pruning_item-clause-searched
search_from-returns-in-Some-pruning_item-clause-searched t c prefix ready =
    let graph = c.args.graph.now in
    let inv = c.prefixes.invariant in
    let goes = inv.goes prefix ready in
    let closing = c.in-Some-pruning_item.ensures goes.now c.prefixes.delays goes.ready.represents in
    c.branches-in-Some-pruning_item.ensures graph c.args.limits.now prefix c.args.best.now c.prefixes.best c.args.region.now (record {
      count = goes.count;
      is_left = goes.is_top;
      prefix = goes.now;
      best = c.prefixes.best;
      held = c.prefixes.region;
      waits = goes.waits;
      searched = searched_bar graph goes.ready.represents.kept c.args.limits.now goes.now c.prefixes.best inv.measured goes.ready.after_best goes.ready.reached
          c.prefixes.region inv.within c.in-Some-pruning_item.item closing.0 closing.1;
    })

-- ---- search_from: where a node is undecided

-- the node is the next one, and there is one
record IsAt (t : ℕ) (c : search_from-In-Some t) (prefix : Prefix) : Type 0 where
  next : IsTrue (is_next c.args.graph.now prefix c.in-Some.node)
  some : length prefix < eligible_nodes c.args.graph.now

at_node : (t : ℕ) (c : search_from-In-Some t) (prefix : Prefix)
    → Represents c.args.graph.now prefix c.prefixes.terms c.prefixes.delays → IsAt t c prefix
at_node t c prefix represents = record {
  next = next_from_below c.args.graph.now prefix c.prefixes.terms c.prefixes.delays represents c.in-Some.node c.in-Some.ensures;
  some = some_undecided c.args.graph.now prefix c.prefixes.terms c.prefixes.delays represents c.in-Some.node c.in-Some.ensures;
}

pub search_from-search_first-requires : goal.search_from-search_first-requires
search_from-search_first-requires t c =
    let inv = c.prefixes.invariant in
    let ready = inv.ready in
    let here = at_node t (goal.at.search_from-search_first-requires t c).In-Some ready.0 ready.1.represents in (
      omega (arith, c.in-Some.ensures.below, inv.below),
      (
        c.requires.rows,
        (inv.measured, ((ready.0, ready.1, here.next), (inv.within, omega (arith, c.in-Some.ensures.below, inv.room)))),
      ),
    )

pub search_from-returns-in_err-taken-clause-searched : goal.search_from-returns-in_err-taken-clause-searched
search_from-returns-in_err-taken-clause-searched t c prefix ready =
    let graph = c.args.graph.now in
    let limits = c.args.limits.now in
    let inv = c.prefixes.invariant in
    let goes = inv.goes prefix ready in
    let here = at_node t (goal.at.search_from-returns-in_err-taken-clause-searched t c).In-Some goes.now goes.ready.represents in
    rw c.from_residual.ensures
    (spent_waiting graph limits prefix c.args.best.now c.args.region.now c.args.bottom c.prefixes.pending goes.count goes.now c.prefixes.best
    c.prefixes.region goes.waits c.search_first.new.region
    (spent_in graph limits goes.now c.prefixes.terms c.prefixes.delays c.prefixes.best goes.ready inv.measured
    c.prefixes.region c.in-Some.node here.next here.some c.search_first.new.region
    (c.in_err-taken.ensures.searched goes.now goes.ready here.next)))

pub search_from-returns-in_err-taken-clause-kept : goal.search_from-returns-in_err-taken-clause-kept
search_from-returns-in_err-taken-clause-kept t c k from =
    c.in_err-taken.ensures.kept k (omega (arith, from, c.in-Some.ensures.below, c.prefixes.invariant.below)) ∙ c.prefixes.invariant.kept k from

pub search_from-returns-in_err-taken-clause-kept_below : goal.search_from-returns-in_err-taken-clause-kept_below
search_from-returns-in_err-taken-clause-kept_below t c k below =
    c.in_err-taken.ensures.kept_below k (omega (arith, below, c.prefixes.invariant.ordered)) ∙ c.prefixes.invariant.kept_below k below

-- ---- search_from: once the sets with the node were passed

pub search_from-bounds-pending-top : goal.search_from-bounds-pending-top
search_from-bounds-pending-top t c = omega (arith, c.in-Some.ensures.below, c.prefixes.invariant.room)

pub search_from-overflow_add-top : goal.search_from-overflow_add-top
search_from-overflow_add-top t c = omega (arith, c.in-Some.ensures.below, c.prefixes.invariant.room)

first_at : (t : ℕ) (c : search_from-In_ok-taken t) (prefix : Prefix)
    → IsReady c.args.graph.now c.args.limits.now c.prefixes.terms c.prefixes.delays c.prefixes.best prefix
    → IsTrue (is_next c.args.graph.now prefix c.in-Some.node)
    → IsSearched c.args.graph.now c.args.limits.now (true ∷ prefix) c.prefixes.best c.search_first.new.best
    c.prefixes.region c.search_first.new.region c.in_ok-taken.taken
first_at t c prefix ready next = c.in_ok-taken.ensures.searched prefix ready next

-- the delays of the nodes taken in are the same behind them
later : (t : ℕ) (c : search_from-In_ok-taken t) (prefix : Prefix) → Represents c.args.graph.now prefix c.prefixes.terms c.prefixes.delays
    → Represents c.args.graph.now prefix c.prefixes.terms c.search_first.new.delays
later t c prefix represents =
    represents_kept c.args.graph.now prefix c.prefixes.terms c.prefixes.delays represents c.search_first.new.delays
    (λ k from. c.in_ok-taken.ensures.kept k (omega (arith, from, c.in-Some.ensures.below)))

pub search_from-leave_out-requires : goal.search_from-leave_out-requires
search_from-leave_out-requires t c =
    let ready = c.prefixes.invariant.ready in
    let here = at_node t (goal.at.search_from-leave_out-requires t c).In-Some ready.0 ready.1.represents in
    record { next = (ready.0, c.prefixes.delays, ready.1.represents, here.next) }

pub search_from-prefixes-preserved : goal.search_from-prefixes-preserved
search_from-prefixes-preserved t c =
    let graph = c.args.graph.now in
    let limits = c.args.limits.now in
    let inv = c.prefixes.invariant in
    let some = (goal.at.search_from-prefixes-preserved t c).In-Some in
    let taken = (goal.at.search_from-prefixes-preserved t c).In_ok-taken in
    let children = c.search_first.new.pending in
    let ready_at = λ (prefix : Prefix) (ready : IsReady graph limits c.prefixes.terms c.prefixes.delays c.prefixes.best prefix).
    let here = at_node t some prefix ready.represents in
    ready_out graph limits prefix c.prefixes.terms c.prefixes.delays c.prefixes.best ready inv.measured
    c.prefixes.region c.in-Some.node here.next here.some
    c.search_first.new.region c.search_first.new.best c.in_ok-taken.taken (first_at t taken prefix ready here.next)
    c.leave_out.new.self c.search_first.new.delays
    (c.leave_out.ensures.represents prefix c.search_first.new.delays (later t taken prefix ready.represents) here.next) in
    let ready = inv.ready in
    let here = at_node t some ready.0 ready.1.represents in
    let first = first_at t taken ready.0 ready.1 here.next in
    record {
      ready = (false ∷ ready.0, ready_at ready.0 ready.1);
      measured = first.logged.measured;
      within = first.within;
      below = omega (arith, inv.below, c.in-Some.ensures.below, c.leave_out.ensures.place);
      ordered = omega (arith, inv.ordered);
      room = omega (arith, inv.room, c.in-Some.ensures.below, c.leave_out.ensures.place);
      kept = λ k from. c.in_ok-taken.ensures.kept k (omega (arith, from, inv.below, c.in-Some.ensures.below)) ∙ inv.kept k from;
      kept_below = λ k below.
          written_above children c.prefixes.top c.in_ok-taken.taken k (omega (arith, below, inv.ordered))
          ∙ c.in_ok-taken.ensures.kept_below k (omega (arith, below, inv.ordered)) ∙ inv.kept_below k below;
      goes = λ prefix start.
          let goes = inv.goes prefix start in
          let here = at_node t some goes.now goes.ready.represents in
          goes_on graph limits prefix c.args.best.now c.args.region.now c.args.bottom c.prefixes.pending c.prefixes.top c.prefixes.terms c.prefixes.delays
          c.prefixes.best c.prefixes.region goes _ c.in_ok-taken.taken
          (λ k below. written_above children c.prefixes.top c.in_ok-taken.taken k below ∙ c.in_ok-taken.ensures.kept_below k below)
          (written_at children c.prefixes.top c.in_ok-taken.taken (omega (arith, c.in-Some.ensures.below, inv.room)))
          c.search_first.new.best c.search_first.new.region
          (record {
            terms = c.prefixes.terms;
            delays = c.prefixes.delays;
            ready = goes.ready;
            measured = inv.measured;
            node = c.in-Some.node;
            next = here.next;
            some = here.some;
            is_open = open_unless_pruned graph goes.ready.represents.kept limits c.prefixes.best inv.measured goes.now
                goes.ready.reached goes.ready.after_best (c.in_default-pruning_item.ensures goes.now c.prefixes.delays goes.ready.represents);
            searched = first_at t taken goes.now goes.ready here.next;
          })
          c.leave_out.new.self c.search_first.new.delays (ready_at goes.now goes.ready);
    }

pub search_from-prefixes-smaller : goal.search_from-prefixes-smaller
search_from-prefixes-smaller t c = omega (arith, c.in-Some.ensures.below, c.leave_out.ensures.place)

-- ---- search_first

pub search_first-pruning_with-requires-clause-next : goal.search_first-pruning_with-requires-clause-next
search_first-pruning_with-requires-clause-next t c = let ready = c.requires.ready in (ready.0, c.args.delays.now, ready.1.represents, ready.2)

pub search_first-returns-in-Some-clause-searched : goal.search_first-returns-in-Some-clause-searched
search_first-returns-in-Some-clause-searched t c prefix ready next =
    let graph = c.args.graph.now in
    let limits = c.args.limits.now in
    let best = c.args.best.now in
    let flows = ready.represents.kept in
    let closing = c.in-Some.ensures best.cut prefix c.args.delays.now ready.represents next in
    searched_bar graph flows limits (true ∷ prefix) best c.requires.measured (after_in graph flows limits prefix c.args.node next best.cut ready.after_best)
    (reached_in graph flows limits prefix best.gain ready.reached) c.args.region.now c.requires.within c.in-Some.item closing.0 closing.1

-- ---- search_with

pub search_with-take_in-with_node-requires-clause-next : goal.search_with-take_in-with_node-requires-clause-next
search_with-take_in-with_node-requires-clause-next t c = let ready = c.requires.ready in (ready.0, ready.1.represents, ready.2)

pub search_with-search_from-requires : goal.search_with-search_from-requires
search_with-search_from-requires t c =
    let graph = c.args.graph.now in
    let ready = c.requires.ready in
    let represents = ready.1.represents in (
      omega (arith, c.take_in-with_node.ensures.place),
      (
        c.requires.rows,
        (
          c.requires.measured,
          (
            (
              true ∷ ready.0,
              ready_in graph c.args.limits.now ready.0 c.args.terms.now c.args.delays.now c.args.best.now ready.1 c.args.node ready.2
                  c.take_in-with_node.result c.take_in-with_node.new.delays (c.take_in-with_node.ensures.represents ready.0 represents ready.2),
            ),
            (c.requires.within, omega (arith, c.requires.room, c.take_in-with_node.ensures.place)),
          ),
        ),
      ),
    )

pub search_with-returns-clause-searched : goal.search_with-returns-clause-searched
search_with-returns-clause-searched t c prefix ready next =
    c.search_from.ensures.searched (true ∷ prefix)
    (ready_in c.args.graph.now c.args.limits.now prefix c.args.terms.now c.args.delays.now c.args.best.now ready c.args.node next
    c.take_in-with_node.result c.take_in-with_node.new.delays (c.take_in-with_node.ensures.represents prefix ready.represents next))

pub search_with-returns-clause-kept : goal.search_with-returns-clause-kept
search_with-returns-clause-kept t c k from =
    c.search_from.ensures.kept k (omega (arith, from, c.take_in-with_node.ensures.place)) ∙ c.take_in-with_node.ensures.kept k from
