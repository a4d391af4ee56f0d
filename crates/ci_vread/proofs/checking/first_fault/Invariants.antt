use Rattle.std.proofs.Common.{◌∷◌, [], ◌++◌, List, drop, map}
use Rattle.ci_vread.specs.Grammar.{Goes, Event, Finish, made, units}
use Rattle.ci_vread.specs.Rules.{nothing, rules_from, rules_at}
use Rattle.ci_vread.specs.private.Scanned.{placed_of}
use Rattle.ci_vread.specs.private.Checked.{IsBounded}
use Rattle.ci_vread.specs.private.Led.{IsAt, IsBehind}
use Rattle.ci_vread.proofs.checking.first_fault.Given as goal

abbrev pub invariant-loop-token : goal.invariant-loop-token
invariant-loop-token l = record {
  there : (events : List Event) (finish : Finish) → Goes 0 (made units ∷ []) (map (placed_of l.text) l.tokens) events finish
      → IsAt (rules_from nothing events ++ rules_at finish) (map (placed_of l.text) (drop l.token-index l.tokens)) l.checker
      × IsBehind l.checker (map (placed_of l.text) (drop l.token-index l.tokens));
  bounded : IsBounded l.checker.seen l.checker.broken;
}
