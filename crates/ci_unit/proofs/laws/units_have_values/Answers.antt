use Rattle.std.proofs.Common.{◌<◌, ◌^◌, ◌∙◌, length, map, slice_index, sym, subst, arith, All}
use Rattle.ci_unit.proofs.ValueLaws.{some_results, value_of_results, results_of_value, same_outputs, outputs_words}
use Rattle.ci_unit.proofs.laws.units_have_values.Goals as goal

pub returns-clause-some : goal.returns-clause-some
returns-clause-some c unit is inputs three =
    let made = some_results unit inputs is (length unit.ops) (omega arith) in
    (map (slice_index made.0) unit.outputs, value_of_results unit inputs made.0 is (omega (arith, made.1, is.few)) made.2)

pub returns-clause-one : goal.returns-clause-one
returns-clause-one c unit is inputs left right of_left of_right =
    of_left.outputs_are
    ∙ same_outputs unit inputs of_left.results of_right.results is (results_of_value unit inputs left of_left) (results_of_value unit inputs right of_right)
    ∙ sym of_right.outputs_are

pub returns-clause-words : goal.returns-clause-words
returns-clause-words c unit is inputs outputs three words value =
    subst (All (λ n. n < 2 ^ 32)) (sym value.outputs_are)
    (outputs_words unit inputs value.results is three words (results_of_value unit inputs outputs value))
