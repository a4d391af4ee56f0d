use Rattle.std.proofs.Common.{ℕ, suc, ◌<◌, ◌∷◌, length, IsTrue, Option, MatchOption, None, refl, sym, ◌∙◌, subst, arith}
use Rattle.ci_region.specs.BoundedMap.{BoundedMap}
use Rattle.ci_cut.specs.Prefixes as cuts
use Rattle.ci_cut.proofs.Represented.{next_from_below, all_decided, some_undecided}
use Rattle.ci_pair.specs.declared.flattening.PairChild.{PairChild}
use Rattle.ci_pair.specs.declared.flattening.PairNode.{PairNode}
use Rattle.ci_pair.specs.Pairs.{First, Second, Out}
use Rattle.ci_pair.specs.Prefixes.{PairPrefix, choices, IsOpen}
use Rattle.ci_pair.specs.PairSets.{given}
use Rattle.ci_pair.specs.RegionTrees.{LiesIn}
use Rattle.ci_pair.specs.private.States.{Represents, AreKeptFrom}
use Rattle.ci_pair.specs.declared.log.PairItem.TheVariants.{O, C, X}
use Rattle.ci_pair.specs.private.Searched.{IsPruning, IsUnclosed}
use Rattle.ci_pair.specs.private.SearchTrees.{IsReady, IsReadyFor, IsSearched, IsSearchOf}
use Rattle.ci_pair.proofs.PrefixLaws.{length-choices}
use Rattle.ci_pair.proofs.TreeWalk.{kept_on, kept_above, pairs_kept}
use Rattle.ci_pair.proofs.ClosedLaws.{not_mirrored_by, unclosed_out}
use Rattle.ci_pair.proofs.LogLaws.{open_unless_pruned}
use Rattle.ci_pair.proofs.SearchLaws.{searched_whole, searched_bar, ready_first, ready_second, ready_out, spent_first, found_second, found_out, found_here, searched_branch, still_lies, given_back_before, if_none, if_some, match_as, match_both}
use Rattle.ci_pair.proofs.searching.+search.Goals as goal
use Rattle.ci_pair.proofs.searching.+search.Goals.{search_unpruned-In-Some, search_unpruned-In_ok-first, search_unpruned-In_ok-second, search_unpruned-In_ok-out, search_unpruned-After-search_out-last}

-- ---- a label for the next node

pub search_first-returns-in-Some-clause-searched : goal.search_first-returns-in-Some-clause-searched
search_first-returns-in-Some-clause-searched t c prefix ready =
    let found = c.in-Some.ensures prefix c.args.delays.now ready.represents ready.next ready.after_best in
    searched_bar c.args.graph.now ready.represents.first.kept c.args.limits.now (First ∷ prefix) c.args.best.now c.requires.measured
    ready.after_best ready.reached c.args.region.now c.requires.within c.in-Some.item found.0 found.1

pub search_with_first-search_from-requires : goal.search_with_first-search_from-requires
search_with_first-search_from-requires t c =
    let prefix = c.requires.ready.0 in
    let ready = c.requires.ready.1 in (
      omega (arith, c.put_in_first.ensures.place),
      (
        c.requires.rows,
        (
          c.requires.measured,
          (
            (
              First ∷ prefix,
              record {
                represents = c.put_in_first.ensures.represents prefix ready.represents ready.next;
                not_mirrored = not_mirrored_by c.args.graph.now prefix ready.not_mirrored First refl;
                after_best = ready.after_best;
                reached = ready.reached;
              },
            ),
            c.requires.within,
          ),
        ),
      ),
    )

pub search_with_first-returns-clause-searched : goal.search_with_first-returns-clause-searched
search_with_first-returns-clause-searched t c prefix ready =
    c.search_from.ensures.searched (First ∷ prefix) (record {
      represents = c.put_in_first.ensures.represents prefix ready.represents ready.next;
      not_mirrored = not_mirrored_by c.args.graph.now prefix ready.not_mirrored First refl;
      after_best = ready.after_best;
      reached = ready.reached;
    })

pub search_second-returns-in-Some-clause-searched : goal.search_second-returns-in-Some-clause-searched
search_second-returns-in-Some-clause-searched t c prefix ready =
    let found = c.in-Some.ensures prefix c.args.delays.now ready.represents ready.next ready.not_mirrored ready.after_best in
    searched_bar c.args.graph.now ready.represents.first.kept c.args.limits.now (Second ∷ prefix) c.args.best.now c.requires.measured
    ready.after_best ready.reached c.args.region.now c.requires.within c.in-Some.item found.0 found.1

pub search_second-search_with_second-requires : goal.search_second-search_with_second-requires
search_second-search_with_second-requires t c =
    let prefix = c.requires.ready.0 in
    let ready = c.requires.ready.1 in (
      omega arith,
      (
        c.requires.rows,
        (
          c.requires.measured,
          (
            (
              prefix,
              ready,
              c.in_default.ensures prefix c.args.delays.now ready.represents ready.next ready.not_mirrored ready.after_best,
            ),
            c.requires.within,
          ),
        ),
      ),
    )

pub search_second-returns-clause-searched : goal.search_second-returns-clause-searched
search_second-returns-clause-searched t c prefix ready =
    c.search_with_second.ensures.searched prefix ready
    (c.in_default.ensures prefix c.args.delays.now ready.represents ready.next ready.not_mirrored ready.after_best)

pub search_with_second-search_from-requires : goal.search_with_second-search_from-requires
search_with_second-search_from-requires t c =
    let prefix = c.requires.ready.0 in
    let ready = c.requires.ready.1 in (
      omega (arith, c.put_in_second.ensures.place),
      (
        c.requires.rows,
        (
          c.requires.measured,
          (
            (
              Second ∷ prefix,
              record {
                represents = c.put_in_second.ensures.represents prefix ready.represents ready.next;
                not_mirrored = c.requires.ready.2;
                after_best = ready.after_best;
                reached = ready.reached;
              },
            ),
            c.requires.within,
          ),
        ),
      ),
    )

pub search_with_second-returns-clause-searched : goal.search_with_second-returns-clause-searched
search_with_second-returns-clause-searched t c prefix ready not_mirrored =
    c.search_from.ensures.searched (Second ∷ prefix) (record {
      represents = c.put_in_second.ensures.represents prefix ready.represents ready.next;
      not_mirrored = not_mirrored;
      after_best = ready.after_best;
      reached = ready.reached;
    })

pub search_out-returns-in-Some-clause-searched : goal.search_out-returns-in-Some-clause-searched
search_out-returns-in-Some-clause-searched t c prefix ready unclosed =
    let found = c.in-Some.ensures prefix c.args.delays.now ready.represents ready.next ready.after_best in
    searched_bar c.args.graph.now ready.represents.first.kept c.args.limits.now (Out ∷ prefix) c.args.best.now c.requires.measured
    ready.after_best ready.reached c.args.region.now c.requires.within c.in-Some.item found.0 found.1

pub search_out-pruning_left-requires : goal.search_out-pruning_left-requires
search_out-pruning_left-requires t c =
    let prefix = c.requires.ready.0 in
    let ready = c.requires.ready.1 in
    record {
      rows = c.requires.rows;
      represents = (Out ∷ prefix, c.args.delays.now, c.leave_out.ensures.represents prefix c.args.delays.now ready.represents ready.next);
      measured = c.requires.measured;
    }

pub search_out-returns-in-Some-pruning_left-clause-searched : goal.search_out-returns-in-Some-pruning_left-clause-searched
search_out-returns-in-Some-pruning_left-clause-searched t c prefix ready unclosed =
    let found = c.in-Some-pruning_left.ensures (Out ∷ prefix) c.args.delays.now
    (c.leave_out.ensures.represents prefix c.args.delays.now ready.represents ready.next)
    (not_mirrored_by c.args.graph.now prefix ready.not_mirrored Out refl) ready.after_best
    (unclosed_out c.args.graph.now c.args.limits.now prefix c.args.node ready.next unclosed) in
    searched_bar c.args.graph.now ready.represents.first.kept c.args.limits.now (Out ∷ prefix) c.args.best.now c.requires.measured
    ready.after_best ready.reached c.args.region.now c.requires.within c.in-Some-pruning_left.item found.0 found.1

pub search_out-search_unpruned-requires : goal.search_out-search_unpruned-requires
search_out-search_unpruned-requires t c =
    let prefix = c.requires.ready.0 in
    let ready = c.requires.ready.1 in
    let represents = c.leave_out.ensures.represents prefix c.args.delays.now ready.represents ready.next in
    let not_mirrored = not_mirrored_by c.args.graph.now prefix ready.not_mirrored Out refl in (
      omega (arith, c.leave_out.ensures.place),
      (
        c.requires.rows,
        (
          c.requires.measured,
          (
            (
              Out ∷ prefix,
              record { represents = represents; not_mirrored = not_mirrored; after_best = ready.after_best; reached = ready.reached },
              c.in_default-pruning_left.ensures (Out ∷ prefix) c.args.delays.now represents not_mirrored ready.after_best
                  (unclosed_out c.args.graph.now c.args.limits.now prefix c.args.node ready.next c.requires.ready.2),
            ),
            c.requires.within,
          ),
        ),
      ),
    )

pub search_out-returns-clause-searched : goal.search_out-returns-clause-searched
search_out-returns-clause-searched t c prefix ready unclosed =
    let represents = c.leave_out.ensures.represents prefix c.args.delays.now ready.represents ready.next in
    let not_mirrored = not_mirrored_by c.args.graph.now prefix ready.not_mirrored Out refl in
    c.search_unpruned.ensures.searched (Out ∷ prefix)
    (record { represents = represents; not_mirrored = not_mirrored; after_best = ready.after_best; reached = ready.reached })
    (c.in_default-pruning_left.ensures (Out ∷ prefix) c.args.delays.now represents not_mirrored ready.after_best
    (unclosed_out c.args.graph.now c.args.limits.now prefix c.args.node ready.next unclosed))

-- ---- a prefix that may be pruned

pub search_from-returns-in-Some-clause-searched : goal.search_from-returns-in-Some-clause-searched
search_from-returns-in-Some-clause-searched t c prefix ready =
    let found = c.in-Some.ensures prefix c.args.delays.now ready.represents ready.not_mirrored ready.after_best in
    searched_bar c.args.graph.now ready.represents.first.kept c.args.limits.now prefix c.args.best.now c.requires.measured ready.after_best ready.reached c.args.region.now c.requires.within
    c.in-Some.item found.0 found.1

pub search_from-search_unpruned-requires : goal.search_from-search_unpruned-requires
search_from-search_unpruned-requires t c =
    let prefix = c.requires.ready.0 in
    let ready = c.requires.ready.1 in (
      omega arith,
      (
        c.requires.rows,
        (
          c.requires.measured,
          (
            (prefix, ready, c.in_default.ensures prefix c.args.delays.now ready.represents ready.not_mirrored ready.after_best),
            c.requires.within,
          ),
        ),
      ),
    )

pub search_from-returns-clause-searched : goal.search_from-returns-clause-searched
search_from-returns-clause-searched t c prefix ready =
    c.search_unpruned.ensures.searched prefix ready
    (c.in_default.ensures prefix c.args.delays.now ready.represents ready.not_mirrored ready.after_best)

-- ---- a prefix that nothing prunes

pub search_unpruned-returns-in_default-clause-searched : goal.search_unpruned-returns-in_default-clause-searched
search_unpruned-returns-in_default-clause-searched t c prefix ready unpruned =
    let whole = all_decided c.args.graph.now (choices First prefix) c.args.terms.now.first c.args.delays.now.first ready.represents.first c.in_default.ensures in
    let better = c.improved-better.ensures prefix c.args.delays.now ready.represents in
    searched_whole c.args.graph.now ready.represents.first.kept c.args.limits.now prefix c.args.best.now c.requires.measured ready.after_best ready.reached c.args.region.now c.requires.within
    (omega (arith, whole, length-choices First prefix)) better.0 better.1 c.improved-better.result better.2

-- ---- the next node is in the first set

abbrev At : (t : ℕ) → search_unpruned-In-Some t → PairPrefix → Type 0
At t c prefix = IsReady c.args.graph.now c.args.limits.now c.args.terms.now c.args.delays.now c.args.best.now prefix

next_at : (t : ℕ) (c : search_unpruned-In-Some t) (prefix : PairPrefix) → At t c prefix → IsTrue (cuts.is_next c.args.graph.now (choices First prefix) c.in-Some.node)
next_at t c prefix ready = next_from_below c.args.graph.now (choices First prefix) c.args.terms.now.first c.args.delays.now.first ready.represents.first c.in-Some.node c.in-Some.ensures

some_at : (t : ℕ) (c : search_unpruned-In-Some t) (prefix : PairPrefix) → At t c prefix → length prefix < cuts.eligible_nodes c.args.graph.now
some_at t c prefix ready =
    omega (arith, some_undecided c.args.graph.now (choices First prefix) c.args.terms.now.first c.args.delays.now.first ready.represents.first c.in-Some.node c.in-Some.ensures, length-choices First prefix)

for_first : (t : ℕ) (c : search_unpruned-In-Some t) (prefix : PairPrefix) → At t c prefix
    → IsReadyFor c.args.graph.now c.args.limits.now First c.args.terms.now c.args.delays.now c.args.best.now c.in-Some.node prefix
for_first t c prefix ready =
    ready_first c.args.graph.now c.args.limits.now prefix c.args.terms.now c.args.delays.now c.args.best.now ready c.requires.measured c.args.region.now
    c.in-Some.node (next_at t c prefix ready) (some_at t c prefix ready)

pub search_unpruned-search_first-requires : goal.search_unpruned-search_first-requires
search_unpruned-search_first-requires t c =
    let s = (goal.at.search_unpruned-search_first-requires t c).In-Some in (
      omega (arith, c.in-Some.ensures.below),
      (c.requires.rows, (c.requires.measured, ((c.requires.ready.0, for_first t s c.requires.ready.0 c.requires.ready.1), c.requires.within))),
    )

pub search_unpruned-returns-in_err-first-clause-searched : goal.search_unpruned-returns-in_err-first-clause-searched
search_unpruned-returns-in_err-first-clause-searched t c prefix ready unpruned =
    let s = (goal.at.search_unpruned-returns-in_err-first-clause-searched t c).In-Some in
    rw c.from_residual.ensures
    (spent_first c.args.graph.now c.args.limits.now prefix c.args.terms.now c.args.delays.now c.args.best.now ready c.requires.measured c.args.region.now
    c.in-Some.node (next_at t s prefix ready) (some_at t s prefix ready) c.search_first.new.region
    (c.in_err-first.ensures.searched prefix (for_first t s prefix ready)))

-- ---- behind the first set

kept_first : (t : ℕ) (c : search_unpruned-In_ok-first t) → AreKeptFrom c.args.terms.now.first.place c.args.delays.now c.search_first.new.delays
kept_first t c = kept_above c.args.terms.now.first.place (suc c.in-Some.node) _ _ (omega (arith, c.in-Some.ensures.below)) c.in_ok-first.ensures.kept

-- what is known there: the next node, the first tree, the same prefix with the delays of now, and that it is ready
record One (t : ℕ) (c : search_unpruned-In_ok-first t) (prefix : PairPrefix) (ready : IsReady c.args.graph.now c.args.limits.now c.args.terms.now c.args.delays.now c.args.best.now prefix) : Type 0 where
  next : IsTrue (cuts.is_next c.args.graph.now (choices First prefix) c.in-Some.node)
  some : length prefix < cuts.eligible_nodes c.args.graph.now
  opens : IsOpen c.args.graph.now c.args.limits.now prefix
  unclosed : IsUnclosed c.args.graph.now c.args.limits.now prefix
  first : IsSearched c.args.graph.now c.args.limits.now (First ∷ prefix) c.args.best.now c.search_first.new.best c.args.region.now c.search_first.new.region c.in_ok-first.first
  for_second : IsReadyFor c.args.graph.now c.args.limits.now Second c.args.terms.now c.search_first.new.delays c.search_first.new.best c.in-Some.node prefix

one_at : (t : ℕ) (c : search_unpruned-In_ok-first t) (prefix : PairPrefix) (ready : IsReady c.args.graph.now c.args.limits.now c.args.terms.now c.args.delays.now c.args.best.now prefix)
    → IsPruning c.args.graph.now c.args.limits.now (given c.args.best.now.pair) prefix None → One t c prefix ready
one_at t c prefix ready unpruned =
    let next = next_from_below c.args.graph.now (choices First prefix) c.args.terms.now.first c.args.delays.now.first ready.represents.first c.in-Some.node c.in-Some.ensures in
    let some : length prefix < cuts.eligible_nodes c.args.graph.now =
    omega (arith, some_undecided c.args.graph.now (choices First prefix) c.args.terms.now.first c.args.delays.now.first ready.represents.first c.in-Some.node c.in-Some.ensures, length-choices First prefix) in
    let first = c.in_ok-first.ensures.searched prefix
    (ready_first c.args.graph.now c.args.limits.now prefix c.args.terms.now c.args.delays.now c.args.best.now ready c.requires.measured c.args.region.now c.in-Some.node next some) in
    record {
      next = next;
      some = some;
      opens = open_unless_pruned c.args.graph.now ready.represents.first.kept c.args.limits.now c.args.best.now c.requires.measured prefix ready.reached ready.after_best
          unpruned;
      unclosed = record { outputs = unpruned O tt; convex = unpruned C tt; one_way = unpruned X tt };
      first = first;
      for_second = ready_second c.args.graph.now c.args.limits.now prefix c.args.terms.now c.args.delays.now c.args.best.now ready c.requires.measured c.args.region.now
          c.in-Some.node next some c.search_first.new.region c.search_first.new.best c.in_ok-first.first first c.search_first.new.delays
          (pairs_kept c.args.graph.now prefix c.args.terms.now c.args.delays.now c.search_first.new.delays ready.represents (kept_first t c));
    }

pub search_unpruned-search_second-later-requires : goal.search_unpruned-search_second-later-requires
search_unpruned-search_second-later-requires t c =
    let o = one_at t (goal.at.search_unpruned-search_second-later-requires t c).In_ok-first c.requires.ready.0 c.requires.ready.1 c.requires.ready.2 in (
      omega (arith, c.in-Some.ensures.below),
      (c.requires.rows, (o.first.logged.measured, ((c.requires.ready.0, o.for_second), o.first.within))),
    )

pub search_unpruned-beside-requires : goal.search_unpruned-beside-requires
search_unpruned-beside-requires t c =
    let o = one_at t (goal.at.search_unpruned-beside-requires t c).In_ok-first c.requires.ready.0 c.requires.ready.1 c.requires.ready.2 in
    match_as c.search_second-later.result (λ spent. still_lies o.first c.search_second-later.new.region spent.0) (λ _ _. tt)
    (c.search_second-later.ensures.searched c.requires.ready.0 o.for_second)

pub search_unpruned-returns-in_err-second-clause-searched : goal.search_unpruned-returns-in_err-second-clause-searched
search_unpruned-returns-in_err-second-clause-searched t c prefix ready unpruned =
    let o = one_at t (goal.at.search_unpruned-returns-in_err-second-clause-searched t c).In_ok-first prefix ready unpruned in
    let none = sym c.in_err-second.ensures.same in
    let spent = if_none c.search_second-later.result _ _ none (c.search_second-later.ensures.searched prefix o.for_second) in
    rw c.from_residual-in_err-second.ensures (
      given_back_before o.first c.search_second-later.new.region spent.0 c.beside.new.region
          (if_none c.search_second-later.result _ _ none c.in_err-second.ensures.region),
      found_second c.args.graph.now c.args.limits.now prefix c.args.terms.now c.args.delays.now c.args.best.now ready c.requires.measured c.args.region.now c.in-Some.node o.next o.some c.search_first.new.region
          c.search_first.new.best c.in_ok-first.first o.first spent.1,
    )

-- ---- behind the second set

kept_second : (t : ℕ) (c : search_unpruned-In_ok-second t) → AreKeptFrom c.args.terms.now.first.place c.args.delays.now c.search_second-later.new.delays
kept_second t c =
    kept_on c.args.terms.now.first.place (suc c.in-Some.node) (suc c.in-Some.node) _ _ _
    (omega (arith, c.in-Some.ensures.below)) (omega (arith, c.in-Some.ensures.below))
    c.in_ok-first.ensures.kept c.search_second-later.ensures.kept

record Two (t : ℕ) (c : search_unpruned-In_ok-second t) (prefix : PairPrefix) : Type 0 where
  second : IsSearched c.args.graph.now c.args.limits.now (Second ∷ prefix) c.search_first.new.best c.search_second-later.new.best c.search_first.new.region c.beside.new.region c.in_ok-second.second
  represents : Represents c.args.graph.now prefix c.args.terms.now c.search_second-later.new.delays

two_at : (t : ℕ) (c : search_unpruned-In_ok-second t) (prefix : PairPrefix)
    → Represents c.args.graph.now prefix c.args.terms.now c.args.delays.now
    → IsReadyFor c.args.graph.now c.args.limits.now Second c.args.terms.now c.search_first.new.delays c.search_first.new.best c.in-Some.node prefix
    → Two t c prefix
two_at t c prefix represents for_second =
    let some = sym c.in_ok-second.ensures.same in
    record {
      second = subst (λ (m : BoundedMap PairNode). IsSearched c.args.graph.now c.args.limits.now (Second ∷ prefix) c.search_first.new.best
          c.search_second-later.new.best c.search_first.new.region m c.in_ok-second.second)
          (sym (if_some c.search_second-later.result c.in_ok-second.second _ _ some c.in_ok-second.ensures.region))
          (if_some c.search_second-later.result c.in_ok-second.second _ _ some (c.search_second-later.ensures.searched prefix for_second));
      represents = pairs_kept c.args.graph.now prefix c.args.terms.now c.args.delays.now c.search_second-later.new.delays represents (kept_second t c);
    }

pub search_unpruned-search_out-last-requires : goal.search_unpruned-search_out-last-requires
search_unpruned-search_out-last-requires t c =
    let prefix = c.requires.ready.0 in
    let ready = c.requires.ready.1 in
    let o = one_at t (goal.at.search_unpruned-search_out-last-requires t c).In_ok-first prefix ready c.requires.ready.2 in
    let w = two_at t (goal.at.search_unpruned-search_out-last-requires t c).In_ok-second prefix ready.represents o.for_second in (
      omega (arith, c.in-Some.ensures.below),
      (
        c.requires.rows,
        (
          w.second.logged.measured,
          (
            (
              prefix,
              ready_out c.args.graph.now c.args.limits.now prefix c.args.terms.now c.args.delays.now c.args.best.now ready c.requires.measured c.args.region.now c.in-Some.node o.next o.some c.search_first.new.region
                  c.search_first.new.best c.in_ok-first.first o.first c.beside.new.region c.search_second-later.new.best c.in_ok-second.second w.second
                  c.search_second-later.new.delays w.represents,
              o.unclosed,
            ),
            w.second.within,
          ),
        ),
      ),
    )

-- ---- behind all labels

-- what is known of the last tree
abbrev Last : (t : ℕ) → search_unpruned-After-search_out-last t → PairPrefix → Type 0
Last t c prefix = IsSearchOf c.args.graph.now c.args.limits.now (Out ∷ prefix) c.search_second-later.new.best c.search_out-last.new.best
    c.beside.new.region c.search_out-last.new.region c.search_out-last.result

last_at : (t : ℕ) (c : search_unpruned-After-search_out-last t) (prefix : PairPrefix)
    (ready : IsReady c.args.graph.now c.args.limits.now c.args.terms.now c.args.delays.now c.args.best.now prefix)
    (next : IsTrue (cuts.is_next c.args.graph.now (choices First prefix) c.in-Some.node)) (some : length prefix < cuts.eligible_nodes c.args.graph.now)
    (unclosed : IsUnclosed c.args.graph.now c.args.limits.now prefix)
    (first : IsSearched c.args.graph.now c.args.limits.now (First ∷ prefix) c.args.best.now c.search_first.new.best c.args.region.now c.search_first.new.region c.in_ok-first.first)
    (second : IsSearched c.args.graph.now c.args.limits.now (Second ∷ prefix) c.search_first.new.best c.search_second-later.new.best c.search_first.new.region c.beside.new.region c.in_ok-second.second)
    → Represents c.args.graph.now prefix c.args.terms.now c.search_second-later.new.delays → Last t c prefix
last_at t c prefix ready next some unclosed first second represents =
    c.search_out-last.ensures.searched prefix
    (ready_out c.args.graph.now c.args.limits.now prefix c.args.terms.now c.args.delays.now c.args.best.now ready c.requires.measured c.args.region.now c.in-Some.node next some c.search_first.new.region
    c.search_first.new.best c.in_ok-first.first first c.beside.new.region c.search_second-later.new.best c.in_ok-second.second second
    c.search_second-later.new.delays represents) unclosed

pub search_unpruned-beside-behind-requires : goal.search_unpruned-beside-behind-requires
search_unpruned-beside-behind-requires t c =
    let here = goal.at.search_unpruned-beside-behind-requires t c in
    let prefix = c.requires.ready.0 in
    let ready = c.requires.ready.1 in
    let o = one_at t here.In_ok-first prefix ready c.requires.ready.2 in
    let w = two_at t here.In_ok-second prefix ready.represents o.for_second in
    match_as c.search_out-last.result (λ spent. still_lies w.second c.search_out-last.new.region spent.0) (λ _ _. tt)
    (last_at t here.After-search_out-last prefix ready o.next o.some o.unclosed o.first w.second w.represents)

pub search_unpruned-beside-requires-2 : goal.search_unpruned-beside-requires-2
search_unpruned-beside-requires-2 t c =
    let here = goal.at.search_unpruned-beside-requires-2 t c in
    let prefix = c.requires.ready.0 in
    let ready = c.requires.ready.1 in
    let o = one_at t here.In_ok-first prefix ready c.requires.ready.2 in
    let w = two_at t here.In_ok-second prefix ready.represents o.for_second in
    let last = last_at t here.After-search_out-last prefix ready o.next o.some o.unclosed o.first w.second w.represents in
    subst (λ (found : Option PairChild). MatchOption found (LiesIn c.beside-behind.new.region c.in_ok-first.first) (λ _. Unit {0})) (sym c.beside-behind.ensures.same)
    (match_as c.search_out-last.result
    (λ both. still_lies o.first c.beside-behind.new.region (given_back_before w.second c.search_out-last.new.region both.0.0 c.beside-behind.new.region both.1))
    (λ _ _. tt)
    (match_both c.search_out-last.result _ _ _ _ last c.beside-behind.ensures.region))

kept_last : (t : ℕ) (c : search_unpruned-After-search_out-last t) → AreKeptFrom c.args.terms.now.first.place c.args.delays.now c.search_second-later.new.delays
    → AreKeptFrom c.args.terms.now.first.place c.args.delays.now c.search_out-last.new.delays
kept_last t c second =
    kept_on c.args.terms.now.first.place c.args.terms.now.first.place (suc c.in-Some.node) _ _ _ (omega arith)
    (omega (arith, c.in-Some.ensures.below)) second c.search_out-last.ensures.kept

pub search_unpruned-returns-in_err-out-clause-kept : goal.search_unpruned-returns-in_err-out-clause-kept
search_unpruned-returns-in_err-out-clause-kept t c =
    let here = goal.at.search_unpruned-returns-in_err-out-clause-kept t c in
    kept_last t here.After-search_out-last (kept_second t here.In_ok-second)

pub search_unpruned-returns-in_err-out-clause-searched : goal.search_unpruned-returns-in_err-out-clause-searched
search_unpruned-returns-in_err-out-clause-searched t c prefix ready unpruned =
    let here = goal.at.search_unpruned-returns-in_err-out-clause-searched t c in
    let o = one_at t here.In_ok-first prefix ready unpruned in
    let w = two_at t here.In_ok-second prefix ready.represents o.for_second in
    let none = sym c.in_err-out.ensures.same in
    let none_last = sym c.beside-behind.ensures.same ∙ none in
    let spent = if_none c.search_out-last.result _ _ none_last (last_at t here.After-search_out-last prefix ready o.next o.some o.unclosed o.first w.second w.represents) in
    let again = given_back_before w.second c.search_out-last.new.region spent.0 c.beside-behind.new.region
    (if_none c.search_out-last.result _ _ none_last c.beside-behind.ensures.region) in
    rw c.from_residual-in_err-out.ensures (
      given_back_before o.first c.beside-behind.new.region again c.beside-2.new.region (if_none c.beside-behind.result _ _ none c.in_err-out.ensures.region),
      found_out c.args.graph.now c.args.limits.now prefix c.args.terms.now c.args.delays.now c.args.best.now ready c.requires.measured c.args.region.now c.in-Some.node o.next o.some c.search_first.new.region
          c.search_first.new.best c.in_ok-first.first o.first c.beside.new.region c.search_second-later.new.best c.in_ok-second.second w.second spent.1,
    )

-- the last tree, in the region as it is where its branch is made
record Three (t : ℕ) (c : search_unpruned-In_ok-out t) (prefix : PairPrefix) : Type 0 where
  out : IsSearched c.args.graph.now c.args.limits.now (Out ∷ prefix) c.search_second-later.new.best c.search_out-last.new.best c.beside.new.region c.beside-2.new.region c.in_ok-out.out

three_at : (t : ℕ) (c : search_unpruned-In_ok-out t) (prefix : PairPrefix)
    → IsSearchOf c.args.graph.now c.args.limits.now (Out ∷ prefix) c.search_second-later.new.best c.search_out-last.new.best
    c.beside.new.region c.search_out-last.new.region c.search_out-last.result → Three t c prefix
three_at t c prefix last =
    let some = sym c.in_ok-out.ensures.same in
    let some_last = sym c.beside-behind.ensures.same ∙ some in
    record {
      out = subst (λ (m : BoundedMap PairNode). IsSearched c.args.graph.now c.args.limits.now (Out ∷ prefix) c.search_second-later.new.best
          c.search_out-last.new.best c.beside.new.region m c.in_ok-out.out)
          (sym (if_some c.search_out-last.result c.in_ok-out.out _ _ some_last c.beside-behind.ensures.region)
          ∙ sym (if_some c.beside-behind.result c.in_ok-out.out _ _ some c.in_ok-out.ensures.region))
          (if_some c.search_out-last.result c.in_ok-out.out _ _ some_last last);
    }

pub search_unpruned-branch-region-requires : goal.search_unpruned-branch-region-requires
search_unpruned-branch-region-requires t c =
    let here = goal.at.search_unpruned-branch-region-requires t c in
    let prefix = c.requires.ready.0 in
    let ready = c.requires.ready.1 in
    let o = one_at t here.In_ok-first prefix ready c.requires.ready.2 in
    let w = two_at t here.In_ok-second prefix ready.represents o.for_second in
    let h = three_at t here.In_ok-out prefix (last_at t here.After-search_out-last prefix ready o.next o.some o.unclosed o.first w.second w.represents) in (
      o.first.items,
      w.second.items,
      h.out.items,
      c.args.region.now.values,
      record {
        behind = c.beside.new.region.values;
        between = c.search_first.new.region.values;
        out_tree = h.out.tree;
        second_tree = w.second.tree;
        first_tree = o.first.tree;
      },
    )

pub search_unpruned-returns-clause-kept : goal.search_unpruned-returns-clause-kept
search_unpruned-returns-clause-kept t c =
    let here = goal.at.search_unpruned-returns-clause-kept t c in
    kept_last t here.After-search_out-last (kept_second t here.In_ok-second)

pub search_unpruned-returns-clause-searched : goal.search_unpruned-returns-clause-searched
search_unpruned-returns-clause-searched t c prefix ready unpruned =
    let here = goal.at.search_unpruned-returns-clause-searched t c in
    let o = one_at t here.In_ok-first prefix ready unpruned in
    let w = two_at t here.In_ok-second prefix ready.represents o.for_second in
    let h = three_at t here.In_ok-out prefix (last_at t here.After-search_out-last prefix ready o.next o.some o.unclosed o.first w.second w.represents) in
    match_as c.branch-region.result
    (λ (full, back). (
      back o.first.items w.second.items h.out.items c.args.region.now.values (record {
        behind = c.beside.new.region.values;
        between = c.search_first.new.region.values;
        out_tree = h.out.tree;
        second_tree = w.second.tree;
        first_tree = o.first.tree;
      }) ∙ (λ i. record { values = c.args.region.now.values; capacity = (h.out.same_capacity ∙ w.second.same_capacity ∙ o.first.same_capacity) i }),
      found_here c.args.graph.now c.args.limits.now prefix c.args.terms.now c.args.delays.now c.args.best.now ready c.requires.measured c.args.region.now c.in-Some.node o.next o.some c.search_first.new.region
          c.search_first.new.best c.in_ok-first.first o.first c.beside.new.region c.search_second-later.new.best c.in_ok-second.second w.second
          c.beside-2.new.region c.search_out-last.new.best c.in_ok-out.out h.out o.opens full,
    ))
    (λ root joined. searched_branch c.args.graph.now c.args.limits.now prefix c.args.terms.now c.args.delays.now c.args.best.now ready c.requires.measured c.args.region.now c.in-Some.node o.next o.some c.search_first.new.region
    c.search_first.new.best c.in_ok-first.first o.first c.beside.new.region c.search_second-later.new.best c.in_ok-second.second w.second
    c.beside-2.new.region c.search_out-last.new.best c.in_ok-out.out h.out o.opens c.branch-region.new.region root joined)
    c.branch-region.ensures
