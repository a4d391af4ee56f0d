use Rattle.std.proofs.Common.{◌≡◌, ◌<◌, ◌≤◌, length, sym, subst, ap, ◌∙◌, arith, rules, take}
use Rattle.std.specs.List.{slice_index_or}
use Rattle.ci_verilog.specs.Modules.{wires_of}
use Rattle.ci_verilog.specs.Values.{expr_value}
use Rattle.ci_verilog.specs.private.Held.{ExprFits, IsHeld, Holds}
use Rattle.ci_verilog.proofs.EvaluationLaws.{is_held, expr_fits_at, valued_more, all_held}
use Rattle.ci_verilog.proofs.evaluation.evaluate.Goals as goal

pub expr-requires-clause-held : goal.expr-requires-clause-held
expr-requires-clause-held c =
    let m = c.args.module.now in
    let slice = c.as_slice-wires.result.now in
    let same : slice ≡ m.wires.list = c.as_slice-wires.ensures.value ∙ ap (λ w. w.list) c.wires-all.ensures.value in
    let kind : c.is_wide-wide.result ≡ m.wires.wide = c.is_wide-wide.ensures ∙ ap (λ w. w.wide) c.wires-all.ensures.value in
    let within : c.loop-k.k ≤ length m.wires.list = subst (λ ws. c.loop-k.k ≤ length ws) same (omega arith) in
    subst (λ ws. IsHeld c.args.arguments ws c.loop-k.values) (λ i. wires_of (sym kind i) (take c.loop-k.k (sym same i)))
    (is_held m c.wires-all.ensures.kept c.args.arguments c.requires.words c.loop-k.values c.loop-k.k within
    c.loop-k.invariant.valued)

pub expr-requires-clause-fits : goal.expr-requires-clause-fits
expr-requires-clause-fits c =
    let m = c.args.module.now in
    let slice = c.as_slice-wires.result.now in
    let same : slice ≡ m.wires.list = c.as_slice-wires.ensures.value ∙ ap (λ w. w.list) c.wires-all.ensures.value in
    let kind : c.is_wide-wide.result ≡ m.wires.wide = c.is_wide-wide.ensures ∙ ap (λ w. w.wide) c.wires-all.ensures.value in
    let below : c.loop-k.k < length m.wires.list = subst (λ ws. c.loop-k.k < length ws) same (omega arith) in
    let wire = c.index-wires-k.result in
    let found : wire ≡ slice_index_or m.wires.list c.loop-k.k wire =
    c.index-wires-k.is ∙ ap (λ ws. slice_index_or ws c.loop-k.k wire) same in
    subst (λ w. ExprFits (wires_of c.is_wide-wide.result (take c.loop-k.k slice)) w.value) c.index-wires-k.is
    (subst (λ ws. ExprFits ws wire.value) (λ i. wires_of (sym kind i) (take c.loop-k.k (sym same i)))
    (expr_fits_at m c.loop-k.k wire c.wires-all.ensures.kept below found))

pub loop-k-preserved : goal.loop-k-preserved
loop-k-preserved c =
    let m = c.args.module.now in
    let slice = c.as_slice-wires.result.now in
    let same : slice ≡ m.wires.list = c.as_slice-wires.ensures.value ∙ ap (λ w. w.list) c.wires-all.ensures.value in
    let kind : c.is_wide-wide.result ≡ m.wires.wide = c.is_wide-wide.ensures ∙ ap (λ w. w.wide) c.wires-all.ensures.value in
    let below : c.loop-k.k < length m.wires.list = subst (λ ws. c.loop-k.k < length ws) same (omega arith) in
    let wire = c.index-wires-k.result in
    let found : wire ≡ slice_index_or m.wires.list c.loop-k.k wire =
    c.index-wires-k.is ∙ ap (λ ws. slice_index_or ws c.loop-k.k wire) same in
    record {
      room = search rules;
      valued =
          valued_more m c.wires-all.ensures.kept c.args.arguments c.requires.words c.loop-k.values c.loop-k.k c.expr.result wire below
          (omega arith) found c.loop-k.invariant.valued
          (λ names holds.
          c.expr.ensures names (subst (λ ws. Holds names c.args.arguments ws c.loop-k.values) (λ i. wires_of (sym kind i) (take c.loop-k.k (sym same i))) holds)
          ∙ ap (λ w. expr_value names w.value) (sym c.index-wires-k.is));
    }

pub returns : goal.returns
returns c =
    let m = c.args.module.now in
    let slice = c.as_slice-wires.result.now in
    let same : slice ≡ m.wires.list = c.as_slice-wires.ensures.value ∙ ap (λ w. w.list) c.wires-all.ensures.value in
    let kind : c.is_wide-wide.result ≡ m.wires.wide = c.is_wide-wide.ensures ∙ ap (λ w. w.wide) c.wires-all.ensures.value in
    let past : length m.wires.list ≤ c.loop-k.k = subst (λ ws. length ws ≤ c.loop-k.k) same (omega arith) in
    all_held m c.wires-all.ensures.kept c.args.arguments c.requires.words c.loop-k.values c.loop-k.k past c.loop-k.invariant.valued
