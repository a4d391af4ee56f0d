-- The module of a unit has the unit's values.
use Rattle.std.proofs.Common.{◌≡◌, ℕ, zero, suc, ◌+◌, ◌^◌, ◌<◌, ◌≤◌, List, [], ◌∷◌, ◌++◌, map, length, All, Contains}
use Rattle.std.proofs.Common.{slice_index, Bool, true, false, refl, sym, ap, ◌∙◌, subst, arith, add-zero}
use Rattle.std.proofs.lemmas.List.Elements.{Contains-append_left, Contains-append_right}
use Rattle.ci_isa.specs.Effects.{padded}
use Rattle.ci_verilog.specs.declared.vectors.Vector.{Vector}
use Rattle.ci_verilog.specs.declared.expressions.Wire.{Wire}
use Rattle.ci_verilog.specs.declared.expressions.Expr.TheVariants.{One}
use Rattle.ci_verilog.specs.Modules.{vector, inputs, IsInput}
use Rattle.ci_verilog.specs.private.Held.{Fits}
use Rattle.ci_verilog.specs.Values as module_
use Rattle.ci_verilog.specs.Values.{of_width, term_bits, expr_value, Settles}
use Rattle.ci_verilog.proofs.ValueLaws.{AreSettled, settled_fit, value_exists, word_at}
use Rattle.ci_unit.specs.declared.operations.Arg.{Arg}
use Rattle.ci_unit.specs.declared.operations.Arg.TheVariants.{Input, Earlier, Constant}
use Rattle.ci_unit.specs.declared.operations.UnitOp.{UnitOp}
use Rattle.ci_unit.specs.Units.{Unit, IsUnit, IsArg, arg_value, op_value, IsTripleOf}
use Rattle.ci_vemit.specs.Templates.{wire, p, q, t, template, numbered, numbered_wire, input_name, operand, op_wires, wires_from, is_wide, output_at, module_of}
use Rattle.ci_vemit.specs.Laws.{ModulesComputeUnits}
use Rattle.ci_unit.proofs.ValueLaws.{same_outputs, results_of_value}
use Rattle.ci_vemit.proofs.NumberedParts.{of_letters, expr_kept}
use Rattle.ci_vemit.proofs.TemplateValues.{template_value}
use Rattle.ci_vemit.proofs.UnitModules.{map_contains, IsTaken, IsOpOf, AreOps, ops_of_unit, module_is, result_is_known}

settled_front : (xs ys : List Wire) (names : List ℕ → Vector) → AreSettled (xs ++ ys) names → AreSettled xs names
settled_front xs ys names settled x is = settled x (Contains-append_left xs ys x is)

settled_rest : (xs ys : List Wire) (names : List ℕ → Vector) → AreSettled (xs ++ ys) names → AreSettled ys names
settled_rest xs ys names settled x is = settled x (Contains-append_right xs ys x is)

-- each input stands for its value
inputs_at : (wide : Bool) (names : List ℕ → Vector) (arguments : List ℕ)
    → ((k : ℕ) (name : List ℕ) → IsInput wide name k → names name ≡ of_width 32 (slice_index arguments k))
    → (i : ℕ) → i < length (inputs wide) → names (input_name i) ≡ of_width 32 (slice_index arguments i)
inputs_at false names arguments are zero below = are 0 (input_name 0) refl
inputs_at false names arguments are (suc zero) below = are 1 (input_name 1) refl
inputs_at false names arguments are (suc (suc zero)) below = are 2 (input_name 2) refl
inputs_at false names arguments are (suc (suc (suc i))) below = absurd (omega arith)
inputs_at true names arguments are zero below = are 0 (input_name 0) refl
inputs_at true names arguments are (suc zero) below = are 1 (input_name 1) refl
inputs_at true names arguments are (suc (suc zero)) below = are 2 (input_name 2) refl
inputs_at true names arguments are (suc (suc (suc zero))) below = are 3 (input_name 3) refl
inputs_at true names arguments are (suc (suc (suc (suc zero)))) below = are 4 (input_name 4) refl
inputs_at true names arguments are (suc (suc (suc (suc (suc i))))) below = absurd (omega arith)

module _ (names : List ℕ → Vector) (arguments : List ℕ) where
  -- what the results of the operations stand for, from operation n on
  results_from : ℕ → List UnitOp → List ℕ
  results_from n [] = []
  results_from n (op ∷ ops) = (names (numbered n t)).value ∷ results_from (suc n) ops

  result_at : (n : ℕ) (ops : List UnitOp) (m : ℕ) → m < length ops
      → slice_index (results_from n ops) m ≡ (names (numbered (n + m) t)).value
  unfolding results_from
  result_at n [] m below = absurd (omega arith)
  result_at n (op ∷ ops) zero below = ap (λ m. (names (numbered m t)).value) (sym (add-zero n))
  result_at n (op ∷ ops) (suc m) below =
      result_at (suc n) ops m (omega arith) ∙ ap (λ k. (names (numbered k t)).value) (let e : suc n + m ≡ n + suc m = omega arith in e)

  -- inputs and the first results of a list of results stand for words
  record StandFor (wide : Bool) (count : ℕ) (results : List ℕ) : Type 0 where
    inputs_are : (i : ℕ) → i < length (inputs wide) → names (input_name i) ≡ of_width 32 (slice_index arguments i)
    inputs_fit : (i : ℕ) → slice_index arguments i < 2 ^ 32
    results_are : (m : ℕ) → m < count → names (numbered m t) ≡ of_width 32 (slice_index results m)
    results_fit : (m : ℕ) → m < count → slice_index results m < 2 ^ 32

  module _ (wide : Bool) (count : ℕ) (results : List ℕ) (stand : StandFor wide count results) where
    operand_bits : (n : ℕ) (arg : Arg) → IsArg n arg → IsTaken wide arg → n ≤ count
        → term_bits names (operand arg) ≡ of_width 32 (arg_value arguments results arg)
    operand_bits n (Input i) is taken within = stand.inputs_are i taken
    operand_bits n (Earlier m) is taken within = stand.results_are m (omega arith)
    operand_bits n (Constant word) is taken within = refl

    operand_fits : (n : ℕ) (arg : Arg) → IsArg n arg → n ≤ count → arg_value arguments results arg < 2 ^ 32
    operand_fits n (Input i) is within = stand.inputs_fit i
    operand_fits n (Earlier m) is within = stand.results_fit m (omega arith)
    operand_fits n (Constant word) is within = is

    -- the result of operation n
    op_result : (n : ℕ) (op : UnitOp) → IsOpOf wide n op → n < count → AreSettled (op_wires n op) names
        → names (numbered n t) ≡ of_width 32 (op_value arguments results op)
    op_result n op of within settled =
        template_value (of_letters n names) op.op (arg_value arguments results op.left) (arg_value arguments results op.right)
        of.is.no_division (operand_fits n op.left of.is.left (omega arith)) (operand_fits n op.right of.is.right (omega arith))
        (settled (wire (numbered n p) 32 (One (operand op.left))) (0, omega arith, refl)
        ∙ ap (λ b. of_width 32 b.value) (operand_bits n op.left of.is.left of.left (omega arith)))
        (settled (wire (numbered n q) 32 (One (operand op.right))) (1, omega arith, refl)
        ∙ ap (λ b. of_width 32 b.value) (operand_bits n op.right of.is.right of.right (omega arith)))
        (λ line has.
        let there = map_contains (numbered_wire n) (template op.op) line has in
        settled (numbered_wire n line) (suc (suc there.0), omega (arith, there.1), there.2)
        ∙ ap (of_width line.width) (expr_kept n names line.value))

    results_are : (n : ℕ) (ops : List UnitOp) → AreOps wide n ops → n + length ops ≤ count → AreSettled (wires_from n ops) names
        → results_from n ops ≡ map (op_value arguments results) ops
    unfolding results_from
    results_are n [] are within settled = refl
    results_are n (op ∷ ops) are within settled =
        let first = op_result n op are.0 (omega arith) (settled_front (op_wires n op) (wires_from (suc n) ops) names settled) in
        let rest = results_are (suc n) ops are.1 (omega arith) (settled_rest (op_wires n op) (wires_from (suc n) ops) names settled) in
        λ i. (first i).value ∷ rest i

    -- the expressions of the results have the values of the outputs, and then 0
    outputs_are : (outputs : List ℕ) → ((m : ℕ) → Contains outputs m → m < count) → length outputs ≤ 3
        → expr_value names (output_at outputs 0) ∷ expr_value names (output_at outputs 1) ∷ expr_value names (output_at outputs 2) ∷ []
        ≡ padded 3 (map (slice_index results) outputs)
    outputs_are [] are few = refl
    outputs_are (m ∷ []) are few = λ i. (stand.results_are m (are m (0, omega arith, refl)) i).value ∷ 0 ∷ 0 ∷ []
    outputs_are (m ∷ n ∷ []) are few =
        λ i. (stand.results_are m (are m (0, omega arith, refl)) i).value
        ∷ (stand.results_are n (are n (1, omega arith, refl)) i).value ∷ 0 ∷ []
    outputs_are (m ∷ n ∷ k ∷ []) are few =
        λ i. (stand.results_are m (are m (0, omega arith, refl)) i).value
        ∷ (stand.results_are n (are n (1, omega arith, refl)) i).value
        ∷ (stand.results_are k (are k (2, omega arith, refl)) i).value ∷ []
    outputs_are (m ∷ n ∷ k ∷ l ∷ more) are few = absurd (omega arith)

module _ (k : ℕ) (unit : Unit) (is : IsUnit unit) (arguments : List ℕ) (words : All (λ n. n < 2 ^ 32) arguments) where
  -- what the names stand for, where they settle the module
  stand_for : (names : List ℕ → Vector) → Settles (module_of k unit) arguments names
      → StandFor names arguments (is_wide unit) (length unit.ops) (results_from names arguments 0 unit.ops)
  stand_for names settled = record {
    inputs_are = inputs_at (is_wide unit) names arguments settled.inputs_are;
    inputs_fit = word_at arguments words;
    results_are = λ m below.
        let f = fits m below in
        (λ i. of_width (f.width_is i) (names (numbered m t)).value) ∙ ap (of_width 32) (sym (result m below));
    results_fit = λ m below.
        subst (λ n. n < 2 ^ 32) (sym (result m below)) (fits m below).in_range;
  }
    where
      result : (m : ℕ) → m < length unit.ops → slice_index (results_from names arguments 0 unit.ops) m ≡ (names (numbered m t)).value
      result m below =
          result_at names arguments 0 unit.ops m below ∙ ap (λ n. (names (numbered n t)).value) (let e : 0 + m ≡ m = omega arith in e)

      fits : (m : ℕ) → m < length unit.ops → Fits (names (numbered m t)) 32
      fits m below =
          settled_fit (module_of k unit) arguments names (module_is k unit is) settled words (vector (numbered m t) 32)
          (result_is_known unit is m below)

  pub module_computes_unit : (given : List ℕ) → module_.IsValueOf (module_of k unit) arguments given → IsTripleOf unit arguments given
  module_computes_unit given value =
      let names = value.names in
      let results = results_from names arguments 0 unit.ops in
      let stand = stand_for names value.settled in
      record {
        outputs = map (slice_index results) unit.outputs;
        value = record {
          results = results;
          results_are =
              results_are names arguments (is_wide unit) (length unit.ops) results stand 0 unit.ops (ops_of_unit unit is) (omega arith)
              value.settled.wires_are;
          outputs_are = refl;
        };
        triple =
            value.results_are
            ∙ outputs_are names arguments (is_wide unit) (length unit.ops) results stand unit.outputs is.outputs is.few_outputs;
      }

-- a unit has one triple of results
one_triple : (unit : Unit) (arguments given others : List ℕ) → IsUnit unit → IsTripleOf unit arguments given → IsTripleOf unit arguments others
    → given ≡ others
one_triple unit arguments given others is left right =
    left.triple
    ∙ ap (padded 3) (left.value.outputs_are
    ∙ same_outputs unit arguments left.value.results right.value.results is
    (results_of_value unit arguments left.outputs left.value) (results_of_value unit arguments right.outputs right.value)
    ∙ sym right.value.outputs_are)
    ∙ sym right.triple

pub modules_compute : ModulesComputeUnits
modules_compute k unit is a b c d e word_a word_b word_c word_d word_e given =
    (module_computes_unit k unit is (a ∷ b ∷ c ∷ d ∷ e ∷ []) words given, back)
  where
    words : All (λ n. n < 2 ^ 32) (a ∷ b ∷ c ∷ d ∷ e ∷ [])
    words zero default below = word_a
    words (suc zero) default below = word_b
    words (suc (suc zero)) default below = word_c
    words (suc (suc (suc zero))) default below = word_d
    words (suc (suc (suc (suc zero)))) default below = word_e
    words (suc (suc (suc (suc (suc n))))) default below = absurd (omega arith)

    back : IsTripleOf unit (a ∷ b ∷ c ∷ d ∷ e ∷ []) given → module_.IsValueOf (module_of k unit) (a ∷ b ∷ c ∷ d ∷ e ∷ []) given
    back triple =
        let some = value_exists (module_of k unit) (module_is k unit is) (a ∷ b ∷ c ∷ d ∷ e ∷ []) in
        subst (module_.IsValueOf (module_of k unit) (a ∷ b ∷ c ∷ d ∷ e ∷ []))
        (one_triple unit (a ∷ b ∷ c ∷ d ∷ e ∷ []) some.0 given is
        (module_computes_unit k unit is (a ∷ b ∷ c ∷ d ∷ e ∷ []) words some.0 some.1) triple) some.1
