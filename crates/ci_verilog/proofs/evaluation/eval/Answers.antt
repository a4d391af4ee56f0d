use Rattle.std.proofs.Common.{◌<◌, ◌^◌, [], ◌∷◌, All, ap, ◌∙◌, rules}
use Rattle.ci_verilog.specs.Values.{expr_value}
use Rattle.ci_verilog.proofs.EvaluationLaws.{done, is_word}
use Rattle.ci_verilog.proofs.evaluation.eval.Goals as goal

pub expr-requires-clause-held : goal.expr-requires-clause-held
expr-requires-clause-held c =
    let d = done c.args.module.now (c.args.a ∷ c.args.b ∷ c.args.c ∷ c.args.d ∷ c.args.e ∷ []) c.is_wide.result c.as_slice.result.now c.evaluate.new.values
    c.wires-all.ensures.kept (c.is_wide.ensures ∙ ap (λ w. w.wide) c.wires-all.ensures.value)
    (c.as_slice.ensures.value ∙ ap (λ w. w.list) c.wires-all.ensures.value) c.evaluate.ensures in
    (d.names, d.holds)

pub expr-requires-2-clause-held : goal.expr-requires-2-clause-held
expr-requires-2-clause-held c =
    let d = done c.args.module.now (c.args.a ∷ c.args.b ∷ c.args.c ∷ c.args.d ∷ c.args.e ∷ []) c.is_wide.result c.as_slice.result.now c.evaluate.new.values
    c.wires-all.ensures.kept (c.is_wide.ensures ∙ ap (λ w. w.wide) c.wires-all.ensures.value)
    (c.as_slice.ensures.value ∙ ap (λ w. w.list) c.wires-all.ensures.value) c.evaluate.ensures in
    (d.names, d.holds)

pub expr-requires-3-clause-held : goal.expr-requires-3-clause-held
expr-requires-3-clause-held c =
    let d = done c.args.module.now (c.args.a ∷ c.args.b ∷ c.args.c ∷ c.args.d ∷ c.args.e ∷ []) c.is_wide.result c.as_slice.result.now c.evaluate.new.values
    c.wires-all.ensures.kept (c.is_wide.ensures ∙ ap (λ w. w.wide) c.wires-all.ensures.value)
    (c.as_slice.ensures.value ∙ ap (λ w. w.list) c.wires-all.ensures.value) c.evaluate.ensures in
    (d.names, d.holds)

pub overflow_cast-result : goal.overflow_cast-result
overflow_cast-result c =
    let m = c.args.module.now in
    let arguments = c.args.a ∷ c.args.b ∷ c.args.c ∷ c.args.d ∷ c.args.e ∷ [] in
    let d = done m arguments c.is_wide.result c.as_slice.result.now c.evaluate.new.values
    c.wires-all.ensures.kept (c.is_wide.ensures ∙ ap (λ w. w.wide) c.wires-all.ensures.value)
    (c.as_slice.ensures.value ∙ ap (λ w. w.list) c.wires-all.ensures.value) c.evaluate.ensures in
    let words : All (λ n. n < 2 ^ 32) arguments = search rules in
    let below : c.expr.result < 2 ^ 32 =
    is_word m arguments d.names m.y c.y.result.now c.expr.result c.wires-all.ensures.kept d.settled words
    c.wires-all.ensures.kept.y c.y.ensures (c.expr.ensures d.names d.holds) in
    search (rules, below)

pub overflow_cast-result-2 : goal.overflow_cast-result-2
overflow_cast-result-2 c =
    let m = c.args.module.now in
    let arguments = c.args.a ∷ c.args.b ∷ c.args.c ∷ c.args.d ∷ c.args.e ∷ [] in
    let d = done m arguments c.is_wide.result c.as_slice.result.now c.evaluate.new.values
    c.wires-all.ensures.kept (c.is_wide.ensures ∙ ap (λ w. w.wide) c.wires-all.ensures.value)
    (c.as_slice.ensures.value ∙ ap (λ w. w.list) c.wires-all.ensures.value) c.evaluate.ensures in
    let words : All (λ n. n < 2 ^ 32) arguments = search rules in
    let below : c.expr-2.result < 2 ^ 32 =
    is_word m arguments d.names m.z c.z.result.now c.expr-2.result c.wires-all.ensures.kept d.settled words
    c.wires-all.ensures.kept.z c.z.ensures (c.expr-2.ensures d.names d.holds) in
    search (rules, below)

pub overflow_cast-result-3 : goal.overflow_cast-result-3
overflow_cast-result-3 c =
    let m = c.args.module.now in
    let arguments = c.args.a ∷ c.args.b ∷ c.args.c ∷ c.args.d ∷ c.args.e ∷ [] in
    let d = done m arguments c.is_wide.result c.as_slice.result.now c.evaluate.new.values
    c.wires-all.ensures.kept (c.is_wide.ensures ∙ ap (λ w. w.wide) c.wires-all.ensures.value)
    (c.as_slice.ensures.value ∙ ap (λ w. w.list) c.wires-all.ensures.value) c.evaluate.ensures in
    let words : All (λ n. n < 2 ^ 32) arguments = search rules in
    let below : c.expr-3.result < 2 ^ 32 =
    is_word m arguments d.names m.x c.x.result.now c.expr-3.result c.wires-all.ensures.kept d.settled words
    c.wires-all.ensures.kept.x c.x.ensures (c.expr-3.ensures d.names d.holds) in
    search (rules, below)

pub returns : goal.returns
returns c =
    let d = done c.args.module.now (c.args.a ∷ c.args.b ∷ c.args.c ∷ c.args.d ∷ c.args.e ∷ []) c.is_wide.result c.as_slice.result.now c.evaluate.new.values
    c.wires-all.ensures.kept (c.is_wide.ensures ∙ ap (λ w. w.wide) c.wires-all.ensures.value)
    (c.as_slice.ensures.value ∙ ap (λ w. w.list) c.wires-all.ensures.value) c.evaluate.ensures in
    record {
      names = d.names;
      settled = d.settled;
      results_are =
          λ t. (c.expr.ensures d.names d.holds ∙ ap (expr_value d.names) c.y.ensures) t
          ∷ (c.expr-2.ensures d.names d.holds ∙ ap (expr_value d.names) c.z.ensures) t
          ∷ (c.expr-3.ensures d.names d.holds ∙ ap (expr_value d.names) c.x.ensures) t ∷ [];
    }
