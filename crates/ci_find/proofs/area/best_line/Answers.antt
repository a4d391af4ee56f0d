-- What the search in a new region found, as a line.
use Rattle.std.proofs.Common.{◌≡◌, ◌∙◌, ◌-◌, ap, arith, sym, subst}
use Rattle.std.proofs.lemmas.Result.{IfOk-weaker}
use Rattle.std.specs.FinSet as set
use Rattle.std.specs.FinMap.{len-empty}
use Rattle.std.specs.Ordering.{nat_cmp}
use Rattle.std.specs.String.{string_bytes}
use Rattle.ci_region.specs.BoundedMap.{BoundedMap, used}
use Rattle.ci_area.specs.declared.flattening.AreaNode.{AreaNode}
use Rattle.ci_area.specs.AreaNeed.{NeedExceeds}
use Rattle.ci_commands.specs.BestCommand.{skipped_line}
use Rattle.ci_find.specs.AreaCommand.{area_line, set_is_best, skipped, IsAreaLine}
use Rattle.ci_find.proofs.area.best_line.Goals as goal

pub returns-in-Best : goal.returns-in-Best
returns-in-Best c =
    IfOk-weaker c.area_text.result (λ text. string_bytes text ≡ area_line c.args.pieces.now (set.contains c.in-Best.set))
    (λ text. IsAreaLine c.args.pieces.now c.args.limit c.args.budget (string_bytes text))
    (λ text same. subst (IsAreaLine c.args.pieces.now c.args.limit c.args.budget) (sym same)
    (set_is_best (set.contains c.in-Best.set) c.in_ok-check_log-in-Best.ensures)) c.area_text.ensures

pub returns : goal.returns
returns c =
    let all : c.in_ok-region.region.capacity - used c.in_ok-region.region ≡ c.args.budget =
    ap (λ (r : BoundedMap AreaNode). r.capacity - used r) c.in_ok-region.ensures
    ∙ omega (arith, len-empty nat_cmp AreaNode) in
    let exceeds = subst (NeedExceeds c.args.pieces.now c.args.limit) all c.in-Spent.ensures.answer.2 in
    IfOk-weaker c.skipped_text.result (λ text. string_bytes text ≡ skipped_line c.args.budget)
    (λ text. IsAreaLine c.args.pieces.now c.args.limit c.args.budget (string_bytes text))
    (λ text same. subst (IsAreaLine c.args.pieces.now c.args.limit c.args.budget) (sym same) (skipped exceeds))
    (rw (c.in-Spent.ensures.answer.0 ∙ all) at c.skipped_text.ensures)
