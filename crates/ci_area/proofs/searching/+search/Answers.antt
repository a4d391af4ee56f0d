use Rattle.std.proofs.Common.{ℕ, false, true, ◌∷◌, arith}
use Rattle.std.specs.FinSet as set
use Rattle.ci_area.proofs.AreaSearchLaws.{searched_whole, searched_bar, spent_first, reached_later, can_be_joined, joined_search, open_unless_pruned}
use Rattle.ci_area.proofs.DecidedLaws.{same_taken}
use Rattle.ci_area.specs.AreaPrefixes.{Prefix}
use Rattle.ci_area.specs.Representation.{Represents}
use Rattle.ci_area.specs.private.Searched.{IsSearched}
use Rattle.ci_area.proofs.searching.+search.Goals as goal
use Rattle.ci_area.proofs.searching.+search.Goals.{In_ok-first}

pub returns-then-decided-eq0 : goal.returns-then-decided-eq0
returns-then-decided-eq0 t c prefix represents =
    searched_whole c.args.pieces.now c.args.limit prefix c.args.best.now c.args.region.now c.requires.within
    (omega (arith, c.if-decided-eq0.true, represents.is_left)) (set.contains c.args.decided.now.taken)
    (same_taken c.args.pieces.now prefix c.args.decided.now represents) c.improved.result
    (c.improved.ensures c.args.pieces.now (prefix, represents) c.requires.measured)

pub returns-in-Some : goal.returns-in-Some
returns-in-Some t c prefix represents =
    let found = c.in-Some.ensures prefix represents in
    searched_bar c.args.pieces.now c.args.limit prefix c.args.best.now c.args.region.now c.requires.within c.requires.measured c.in-Some.item found.0 found.1

pub returns-in_err-first : goal.returns-in_err-first
returns-in_err-first t c prefix represents =
    rw c.from_residual.ensures (spent_first c.args.pieces.now c.args.limit prefix (omega (arith, c.if-decided-eq0.false, represents.is_left))
    c.args.region.now c.search.new.region
    (c.in_err-first.ensures (true ∷ prefix) (c.take_in-with_piece.ensures.represents prefix represents)))

-- what was found where the next piece is taken in
first_at : (t : ℕ) (c : In_ok-first t) (prefix : Prefix) → Represents c.args.pieces.now prefix c.args.decided.now
    → IsSearched c.args.pieces.now c.args.limit (true ∷ prefix) c.args.best.now c.search.new.best c.args.region.now c.search.new.region c.in_ok-first.first
first_at t c prefix represents =
    c.in_ok-first.ensures (true ∷ prefix) (c.take_in-with_piece.ensures.represents prefix represents)

pub search-second-requires : goal.search-second-requires
search-second-requires t c =
    let prefix = c.requires.represents.0 in
    let represents = c.requires.represents.1 in
    let first = first_at t (goal.at.search-second-requires t c).In_ok-first prefix represents in (
      omega (arith, c.leave_out-without.ensures.left),
      (
        c.requires.pieces,
        (
          c.requires.rates,
          (
            (false ∷ prefix, c.leave_out-without.ensures.represents c.args.pieces.now prefix represents),
            (
              first.logged.measured,
              (
                reached_later c.args.pieces.now c.args.limit c.args.best.now c.search.new.best c.requires.measured first.logged.measured first.logged.grows c.requires.greedy,
                first.within,
              ),
            ),
          ),
        ),
      ),
    )

pub join-requires : goal.join-requires
join-requires t c =
    let prefix = c.requires.represents.0 in
    let represents = c.requires.represents.1 in
    can_be_joined c.args.pieces.now c.args.limit prefix (omega (arith, c.if-decided-eq0.false, represents.is_left))
    c.args.best.now c.search.new.best c.args.region.now c.search.new.region c.in_ok-first.first
    (first_at t (goal.at.join-requires t c).In_ok-first prefix represents)
    c.search-second.new.best c.search-second.new.region c.search-second.result
    (c.search-second.ensures (false ∷ prefix) (c.leave_out-without.ensures.represents c.args.pieces.now prefix represents))

pub returns : goal.returns
returns t c prefix represents =
    joined_search c.args.pieces.now c.args.limit prefix (omega (arith, c.if-decided-eq0.false, represents.is_left))
    c.args.best.now c.search.new.best c.args.region.now c.search.new.region c.in_ok-first.first
    (first_at t (goal.at.returns t c).In_ok-first prefix represents)
    (open_unless_pruned c.args.pieces.now c.requires.pieces c.args.limit prefix c.args.best.now c.requires.measured c.requires.greedy
    (c.in_default.ensures prefix represents))
    c.search-second.new.best c.search-second.new.region c.join.new.region c.search-second.result c.join.result
    (c.search-second.ensures (false ∷ prefix) (c.leave_out-without.ensures.represents c.args.pieces.now prefix represents))
    c.join.ensures
