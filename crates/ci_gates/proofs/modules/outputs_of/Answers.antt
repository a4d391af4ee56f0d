use Rattle.std.specs.Prelude.{◌++◌}
use Rattle.std.proofs.Common.{sym, subst, ◌∙◌}
use Rattle.std.proofs.lemmas.Result.{IfOk-weaker}
use Rattle.ci_gates.specs.private.Wired.{IsResult, AreOutputs}
use Rattle.ci_gates.proofs.ResultLaws.{has_second, has_third, behind_all, are_outputs}
use Rattle.ci_gates.proofs.modules.outputs_of.Goals as goal

pub result_bits-requires-2-clause-next : goal.result_bits-requires-2-clause-next
result_bits-requires-2-clause-next c =
    has_second c.args.module.now c.requires.words_are.is_module c.args.words.now c.args.builder.now c.result_bits.new.builder c.y.result.now
    c.y.ensures c.requires.words_are c.in_ok-y.ensures.behind c.z.result.now c.z.ensures

pub result_bits-requires-3-clause-next : goal.result_bits-requires-3-clause-next
result_bits-requires-3-clause-next c =
    has_third c.args.module.now c.requires.words_are.is_module c.args.words.now c.args.builder.now c.result_bits.new.builder c.y.result.now
    c.y.ensures c.requires.words_are c.in_ok-y.ensures.behind c.result_bits-2.new.builder c.z.result.now c.z.ensures c.in_ok-z.ensures.behind
    c.x.result.now c.x.ensures

pub returns : goal.returns
returns c =
    let m = c.args.module.now in
    let start = c.args.builder.now in
    let first = c.result_bits.new.builder in
    let second = c.result_bits-2.new.builder in
    let third = c.result_bits-3.new.builder in
    let y = c.in_ok-y.y.items in
    let z = c.in_ok-z.z.items in
    let x = c.in_ok-x.x.items in
    let are =
    behind_all m c.requires.words_are.is_module c.args.words.now start first c.y.result.now c.y.ensures c.requires.words_are
    c.in_ok-y.ensures.behind second c.z.result.now c.z.ensures c.in_ok-z.ensures.behind third c.x.result.now c.x.ensures
    c.in_ok-x.ensures.behind in
    IfOk-weaker c.joined.result _ _
    (λ bits same.
    subst (AreOutputs m third) (sym (same ∙ (λ i. y ++ (c.deref.ensures.value i ++ c.deref-2.ensures.value i))))
    (are_outputs m start first second third c.args.words.now y z x
    (subst (λ e. IsResult m start first e y) c.y.ensures c.in_ok-y.ensures.value)
    (subst (λ e. IsResult m first second e z) c.z.ensures c.in_ok-z.ensures.value)
    (subst (λ e. IsResult m second third e x) c.x.ensures c.in_ok-x.ensures.value) are))
    c.joined.ensures
