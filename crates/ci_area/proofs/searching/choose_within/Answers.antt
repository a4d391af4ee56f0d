use Rattle.std.proofs.Common.{◌≡◌, ℕ, suc, [], length, Some, sym, ap, subst, arith}
use Rattle.std.specs.FinMap as map
use Rattle.ci_region.specs.BoundedMap.{BoundedMap}
use Rattle.ci_cut.specs.ListCounts.{AtLeast}
use Rattle.ci_area.specs.declared.flattening.AreaNode.{AreaNode}
use Rattle.ci_area.specs.AreaAnswered.{free}
use Rattle.ci_area.specs.AreaNeed.{IsOpen, NeedExceeds, continuations}
use Rattle.ci_area.specs.AreaPrefixes.{undecided}
use Rattle.ci_area.proofs.AreaNeedLaws.{enough}
use Rattle.std.specs.FinSet as set
use Rattle.ci_area.proofs.AreaLaws.{accepted_is_best}
use Rattle.ci_area.proofs.AreaSearchLaws.{log_of, kept_beside}
use Rattle.ci_area.proofs.searching.choose_within.Goals as goal

pub returns : goal.returns
returns c =
    let is = c.in-Some.ensures [] c.none-none.ensures in
    let log = log_of c.args.pieces.now c.args.limit _ c.search.new.best c.args.region.now c.search.new.region c.in-Some.root is in
    record {
      answer = (log, accepted_is_best c.args.pieces.now c.args.limit (set.contains c.search.new.best.set) log.items log.accepted);
      enough = λ fits spent. spent;
      kept = kept_beside c.args.region.now c.search.new.region c.in-Some.root log.items log.tree;
      capacity = is.same_capacity;
    }

pub returns-in_default : goal.returns-in_default
returns-in_default c =
    let pieces = c.args.pieces.now in
    let limit = c.args.limit in
    let before = c.args.region.now in
    let spent = c.in_default.ensures [] c.none-none.ensures in
    let all : undecided pieces [] ≡ length pieces = omega arith in
    let needed : NeedExceeds pieces limit (free before) =
    subst (λ (n : ℕ). AtLeast (IsOpen pieces limit) (suc (free before)) (continuations n [])) all spent.1 in
    record {
      answer = (omega (arith, c.capacity.ensures.value, c.used.ensures.value), spent.0, needed);
      enough = λ fits _. enough pieces limit (free before) fits needed;
      kept = λ slot node here. subst (λ (m : BoundedMap AreaNode). map.get m.values slot ≡ Some node) (sym spent.0) here;
      capacity = ap (λ (m : BoundedMap AreaNode). m.capacity) spent.0;
    }
