use Rattle.std.proofs.Common.{◌≡◌, ap, sym, subst, ◌∙◌, length, take}
use Rattle.ci_verilog.specs.Values.{expr_value}
use Rattle.ci_plan.specs.private.Drafts.{Stands}
use Rattle.ci_plan.specs.private.Names.{AreHeld}
use Rattle.ci_plan.proofs.DraftLaws.{grows_on, stands_later}
use Rattle.ci_plan.proofs.NameLaws.{held_later}
use Rattle.ci_plan.proofs.plans.Plan.within.Goals as goal

pub expr-requires : goal.expr-requires
expr-requires c =
    let m = c.args.module.now in
    let all : c.len.result ≡ length m.wires.list = c.len.ensures.value ∙ ap (λ w. length w.list) c.wires.ensures.value in
    subst (λ n. AreHeld m (take n c.add_wires.new.found) c.add_wires.new.draft) (sym all) c.in_ok-add_wires.ensures.held

pub expr-requires-2 : goal.expr-requires-2
expr-requires-2 c =
    let m = c.args.module.now in
    let all : c.len.result ≡ length m.wires.list = c.len.ensures.value ∙ ap (λ w. length w.list) c.wires.ensures.value in
    held_later m (take c.len.result c.add_wires.new.found) c.add_wires.new.draft c.expr.new.draft c.in_ok-y.ensures.grows
    (subst (λ n. AreHeld m (take n c.add_wires.new.found) c.add_wires.new.draft) (sym all) c.in_ok-add_wires.ensures.held)

pub expr-requires-3 : goal.expr-requires-3
expr-requires-3 c =
    let m = c.args.module.now in
    let d0 = c.add_wires.new.draft in
    let d1 = c.expr.new.draft in
    let d2 = c.expr-2.new.draft in
    let all : c.len.result ≡ length m.wires.list = c.len.ensures.value ∙ ap (λ w. length w.list) c.wires.ensures.value in
    held_later m (take c.len.result c.add_wires.new.found) d0 d2 (grows_on d0 d1 d2 c.in_ok-y.ensures.grows c.in_ok-z.ensures.grows)
    (subst (λ n. AreHeld m (take n c.add_wires.new.found) d0) (sym all) c.in_ok-add_wires.ensures.held)

pub returns : goal.returns
returns c =
    let m = c.args.module.now in
    let d1 = c.expr.new.draft in
    let d2 = c.expr-2.new.draft in
    let d3 = c.expr-3.new.draft in
    record {
      y =
          stands_later m d1 d3 c.in_ok-y.y (λ names. expr_value names m.y)
          (grows_on d1 d2 d3 c.in_ok-z.ensures.grows c.in_ok-x.ensures.grows)
          (subst (λ e. Stands m d1 c.in_ok-y.y (λ names. expr_value names e)) c.y.ensures c.in_ok-y.ensures.stands);
      z =
          stands_later m d2 d3 c.in_ok-z.z (λ names. expr_value names m.z) c.in_ok-x.ensures.grows
          (subst (λ e. Stands m d2 c.in_ok-z.z (λ names. expr_value names e)) c.z.ensures c.in_ok-z.ensures.stands);
      x = subst (λ e. Stands m d3 c.in_ok-x.x (λ names. expr_value names e)) c.x.ensures c.in_ok-x.ensures.stands;
      fits = c.size_of-size.ensures;
    }
