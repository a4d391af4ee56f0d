use Rattle.std.proofs.Common.{◌≤◌, ℕ, List, [], ◌∷◌, map, slice_index, ◌∙◌, length, arith}
use Rattle.std.proofs.lemmas.List.{length-map}
use Rattle.ci_unit.proofs.ValueLaws.{value_of_results, padded_three}
use Rattle.ci_unit.proofs.values.apply.Goals as goal

pub returns : goal.returns
returns c =
    let unit = c.args.unit.now in
    let results : List ℕ = c.results_of-results.result in
    let kept = c.outputs-outputs.ensures.kept in
    let same = c.outputs-outputs.ensures.value in
    let given : List ℕ = map (slice_index results) unit.outputs in
    let few : length given ≤ 3 = omega (arith, kept.few_outputs, length-map unit.outputs (slice_index results)) in
    record {
      outputs = given;
      value = value_of_results unit _ results kept (omega (arith, kept.few, c.results_of-results.ensures.size)) c.results_of-results.ensures.value;
      triple =
          (λ i. c.output-first.ensures i ∷ c.output-second.ensures i ∷ c.output-third.ensures i ∷ [])
          ∙ (λ i. let list = map (slice_index results) (same i) in slice_index list 0 ∷ slice_index list 1 ∷ slice_index list 2 ∷ [])
          ∙ padded_three given few;
    }
