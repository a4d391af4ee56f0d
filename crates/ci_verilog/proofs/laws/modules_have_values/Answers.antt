use Rattle.ci_verilog.proofs.ValueLaws.{value_exists, value_is_one, values_are_words, narrow_ignores}
use Rattle.ci_verilog.proofs.laws.modules_have_values.Goals as goal

pub returns-clause-some : goal.returns-clause-some
returns-clause-some c = value_exists

pub returns-clause-one : goal.returns-clause-one
returns-clause-one c = value_is_one

pub returns-clause-words : goal.returns-clause-words
returns-clause-words c = values_are_words

pub returns-clause-narrow : goal.returns-clause-narrow
returns-clause-narrow c = narrow_ignores
