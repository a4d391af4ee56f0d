use Rattle.std.proofs.Common.{arith, rules, w64, SFits, ◌<ℤ◌, sym, ◌∙◌, true≢false, subst}
use Rattle.std.proofs.lemmas.Int.{ints}
use Rattle.ci_cut.proofs.NeedLaws.{open_by_bound, bound_of_open}
use Rattle.ci_check.proofs.need.is_open.Goals as goal

pub returns-then-is_bounded : goal.returns-then-is_bounded
returns-then-is_bounded c prefix delays represents reached =
    let graph = c.args.graph.now in
    let bounded : SFits w64 c.bound.result = search rules in
    let gained : SFits w64 c.args.reached = search rules in
    let is = c.bound.ensures prefix delays represents in (
      λ e.
          let more : c.args.reached <ℤ c.bound.result = grind (arith, ints) in
          open_by_bound graph represents.kept c.args.limits.now prefix c.args.reached reached
          ((c.is_bounded.ensures graph prefix delays represents).0 c.if-is_bounded.true)
          (subst (λ z. c.args.reached <ℤ z) is more),
      λ is_open.
          let more : c.args.reached <ℤ c.bound.result =
          subst (λ z. c.args.reached <ℤ z) (sym is)
          (bound_of_open graph represents.kept c.args.limits.now prefix c.args.reached reached is_open) in
          grind (arith, ints),
    )

pub returns-else-is_bounded : goal.returns-else-is_bounded
returns-else-is_bounded c prefix delays represents reached = (
  λ e. absurd (true≢false (sym e ∙ c.if-is_bounded.false)),
  λ is_open. (c.is_bounded.ensures c.args.graph.now prefix delays represents).1
      (record {
        convex = is_open.convex;
        outputs_within = is_open.outputs_within;
        inputs_within = is_open.inputs_within;
      }),
)
