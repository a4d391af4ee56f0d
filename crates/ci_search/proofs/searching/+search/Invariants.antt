use Rattle.std.proofs.Common.{◌+◌, ◌*◌, ◌≤◌}
use Rattle.ci_region.specs.BoundedMap.{used}
use Rattle.ci_cut.specs.Prefixes.{Prefix}
use Rattle.ci_cut.specs.Representation.{AreKeptFrom}
use Rattle.ci_check.specs.Representation.{IsMeasured}
use Rattle.ci_search.specs.private.Searched.{IsReady}
use Rattle.ci_search.specs.private.Waiting.{AreKeptBelow}
use Rattle.ci_search.proofs.WaitingLaws.{Goes}
use Rattle.ci_search.proofs.searching.+search.Given as goal

abbrev pub decreases-search_from : goal.decreases-search_from
decreases-search_from l = 3 * l.terms.now.place

abbrev pub decreases-search_first : goal.decreases-search_first
decreases-search_first l = 3 * l.node + 2

abbrev pub decreases-search_with : goal.decreases-search_with
decreases-search_with l = 3 * l.node + 1

abbrev pub invariant-search_from-prefixes : goal.invariant-search_from-prefixes
invariant-search_from-prefixes l = record {
  ready : (prefix : Prefix) × IsReady l.graph l.limits l.terms l.delays l.best prefix;
  measured : IsMeasured l.graph l.limits l.best;
  within : used l.region ≤ l.region.capacity;
  below : l.terms.place ≤ l.initial.terms.place;
  ordered : l.bottom ≤ l.top;
  room : l.top + l.terms.place ≤ 256;
  kept : AreKeptFrom l.initial.terms.place l.initial.delays l.delays;
  kept_below : AreKeptBelow l.bottom l.initial.pending l.pending;
  goes : (prefix : Prefix) → IsReady l.graph l.limits l.initial.terms l.initial.delays l.initial.best prefix
      → Goes l.graph l.limits prefix l.initial.best l.initial.region l.bottom l.pending l.top l.terms l.delays l.best l.region;
}

abbrev pub decreases-search_from-prefixes : goal.decreases-search_from-prefixes
decreases-search_from-prefixes l = l.terms.place
