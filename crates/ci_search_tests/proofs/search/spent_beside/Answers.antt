use Rattle.std.proofs.Common.{ap, is_some}
use Rattle.ci_search_tests.proofs.search.spent_beside.Goals as goal

pub get-requires : goal.get-requires
get-requires g c = ap is_some (c.search-found.ensures.kept _ _ c.in_ok-slot.ensures.live)
