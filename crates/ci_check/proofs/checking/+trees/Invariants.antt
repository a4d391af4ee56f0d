use Rattle.std.proofs.Common.{◌≡◌, ◌+◌, ◌*◌, ◌≤◌, List, ◌++◌, drop}
use Rattle.ci_log.specs.declared.log.Item.{Item}
use Rattle.ci_log.specs.Trees.{IsTree}
use Rattle.ci_cut.specs.Prefixes.{Prefix}
use Rattle.ci_cut.specs.Representation.{Represents, AreKeptFrom}
use Rattle.ci_check.specs.Representation.{IsTreeAt}
use Rattle.ci_check.proofs.TreeWalk.{Goes}
use Rattle.ci_check.proofs.checking.+trees.Given as goal

abbrev pub decreases-check_tree : goal.decreases-check_tree
decreases-check_tree l = 2 * l.terms.now.place

abbrev pub decreases-check_with : goal.decreases-check_with
decreases-check_with l = 2 * l.node + 1

abbrev pub invariant-check_tree-prefixes : goal.invariant-check_tree-prefixes
invariant-check_tree-prefixes l = record {
  represents : (prefix : Prefix) × Represents l.graph prefix l.terms l.delays;
  tree : IsTreeAt l.items l.place;
  below : l.terms.place ≤ l.initial.terms.place;
  kept : AreKeptFrom l.initial.terms.place l.initial.delays l.delays;
  goes : (prefix : Prefix) (one rest : List Item) (tree : IsTree one) → Represents l.graph prefix l.initial.terms l.initial.delays
      → drop l.initial.place l.items ≡ one ++ rest
      → Goes l.graph l.limits l.best.cut l.items l.terms l.delays prefix tree l.initial.place l.place rest;
}

abbrev pub decreases-check_tree-prefixes : goal.decreases-check_tree-prefixes
decreases-check_tree-prefixes l = l.terms.place
