-- The results of a unit's operations, one after the other.
use Rattle.std.proofs.Common.{◌≡◌, ℕ, zero, suc, ◌+◌, ◌^◌, ◌<◌, ◌≤◌, List, length, map, get_or, set, take, slice_index}
use Rattle.std.proofs.Common.{refl, sym, ap, ◌∙◌, subst, inl, inr, arith, replicate, All}
use Rattle.std.proofs.Common.{◌%◌, Bool, true, false, if◌then◌else◌, nat_lt, [], ◌∷◌, lit<, true≢false, ℤ, pos, negsuc}
use Rattle.std.specs.Prelude.{int_lt}
use Rattle.std.specs.List.{Contains}
use Rattle.std.proofs.lemmas.Bool.{cases_eq, ltb-true, ltb-false}
use Rattle.std.proofs.lemmas.List.{get_or-set_same, get_or-set_other, get_or-take, get_or-map, length-set, length-map}
use Rattle.std.proofs.lemmas.List.{length-replicate, length-take-le, same_lists, get_or_default, get_or_past}
use Rattle.std.proofs.lemmas.List.Elements.{Contains-get_or}
use Rattle.std.proofs.Math.Nat.{mod-lt, div-le_self, div-lt_iff_lt-mul}
use Rattle.std.proofs.lemmas.Nat.{xor_lt, or_lt, and_le_l, mul-lt}
use Rattle.ci_word.specs.declared.arithmetic.Op.{Op}
use Rattle.ci_word.specs.declared.arithmetic.Op.TheVariants.{Add, Sub, Sll, Slt, Sltu, Xor, Srl, Sra, Or, And, Mul}
use Rattle.ci_word.specs.declared.arithmetic.Op.TheVariants.{Mulh, Mulhsu, Mulhu, Div, Divu, Rem, Remu}
use Rattle.ci_word.specs.Arithmetic.{operation, word_of, signed}
use Rattle.ci_isa.specs.Effects.{is_division, padded}
use Rattle.ci_unit.specs.declared.operations.Arg.{Arg}
use Rattle.ci_unit.specs.declared.operations.Arg.TheVariants.{Input, Earlier, Constant}
use Rattle.ci_unit.specs.declared.operations.UnitOp.{UnitOp}
use Rattle.ci_unit.specs.Units.{IsUnit, IsOp, IsArg, IsValueOf, arg_value, op_value, op_at, no_op}
use Rattle.ci_unit.specs.Units as units

-- ---- an operation depends on earlier results alone

module _ (inputs left right : List ℕ) (n : ℕ) (same : (m : ℕ) → m < n → slice_index left m ≡ slice_index right m) where
  arg_value-same : (arg : Arg) → IsArg n arg → arg_value inputs left arg ≡ arg_value inputs right arg
  arg_value-same (Input i) is = refl
  arg_value-same (Earlier m) is = same m is
  arg_value-same (Constant word) is = refl

  pub op_value-same : (op : UnitOp) → IsOp n op → op_value inputs left op ≡ op_value inputs right op
  op_value-same op is = λ i. operation op.op (arg_value-same op.left is.left i) (arg_value-same op.right is.right i)

-- ---- the results of the first operations

-- each of the first n results is what its operation gives
abbrev pub AreResults : units.Unit → List ℕ → List ℕ → ℕ → Type 0
AreResults unit inputs results n = (k : ℕ) → k < n → slice_index results k ≡ op_value inputs results (op_at unit k)

-- one result more
pub results_more : (unit : units.Unit) (inputs results : List ℕ) (n value : ℕ) → IsUnit unit → n < length unit.ops
    → n < length results → value ≡ op_value inputs results (op_at unit n) → AreResults unit inputs results n
    → AreResults unit inputs (set results n value) (n + 1)
results_more unit inputs results n value is within room value_is before k below =
    let after : List ℕ = set results n value in
    let same : (m : ℕ) → m < n → slice_index results m ≡ slice_index after m =
    λ m earlier. sym (get_or-set_other results n m value 0 (λ e. absurd (omega arith))) in
    elim (cases_eq k n) [
      | inl e ↦
          subst (λ j. slice_index after j ≡ op_value inputs after (op_at unit j)) (sym e)
          (get_or-set_same results n value 0 room ∙ value_is
          ∙ op_value-same inputs results after n same (op_at unit n) (is.ops n within))
      | inr differs ↦
          let earlier : k < n = omega arith in
          sym (same k earlier) ∙ before k earlier
          ∙ op_value-same inputs results after k (λ m h. same m (omega arith)) (op_at unit k) (is.ops k (omega arith))
    ]

-- there are such results
pub some_results : (unit : units.Unit) (inputs : List ℕ) → IsUnit unit → (n : ℕ) → n ≤ length unit.ops
    → (results : List ℕ) × (length results ≡ 256) × AreResults unit inputs results n
some_results unit inputs is zero within = (replicate 256 0, length-replicate {A = ℕ} 256 0, λ k below. absurd (omega arith))
some_results unit inputs is (suc n) within =
    let before = some_results unit inputs is n (omega arith) in
    let value : ℕ = op_value inputs before.0 (op_at unit n) in
    let more = results_more unit inputs before.0 n value is (omega arith) (omega (arith, before.1, is.few)) refl before.2 in
    (set before.0 n value, length-set before.0 n value ∙ before.1, λ k below. more k (omega arith))

-- ---- all results

map_same : (f g : ℕ → ℕ) (xs : List ℕ) → ((x : ℕ) → Contains xs x → f x ≡ g x) → map f xs ≡ map g xs
map_same f g xs same =
    same_lists (map f xs) (map g xs) (length-map xs f ∙ sym (length-map xs g))
    (λ k d below.
    let within : k < length xs = omega (arith, length-map xs f) in
    get_or-map f xs k 0 d within ∙ same (get_or xs k 0) (Contains-get_or xs k 0 within)
    ∙ sym (get_or-map g xs k 0 d within))

-- where each result is what its operation gives, the outputs among them are the unit's
pub value_of_results : (unit : units.Unit) (inputs results : List ℕ) → IsUnit unit → length unit.ops ≤ length results
    → AreResults unit inputs results (length unit.ops) → IsValueOf unit inputs (map (slice_index results) unit.outputs)
value_of_results unit inputs results is room are =
    let count : ℕ = length unit.ops in
    let first : List ℕ = take count results in
    let taken : (k : ℕ) → k < count → slice_index first k ≡ slice_index results k =
    λ k below. get_or-take count results k 0 below in
    let long : length first ≡ count = length-take-le count results room in
    record {
      results = first;
      results_are =
          same_lists first (map (op_value inputs first) unit.ops) (long ∙ sym (length-map unit.ops (op_value inputs first)))
          (λ k d below.
          let within : k < count = omega (arith, long) in
          get_or_default first k d 0 below ∙ taken k within ∙ are k within
          ∙ op_value-same inputs results first k (λ m earlier. sym (taken m (omega arith))) (op_at unit k) (is.ops k within)
          ∙ sym (get_or-map (op_value inputs first) unit.ops k no_op d within));
      outputs_are = map_same (slice_index results) (slice_index first) unit.outputs (λ n there. sym (taken n (is.outputs n there)));
    }

-- what a value of the unit says of each result
pub results_of_value : (unit : units.Unit) (inputs outputs : List ℕ) (value : IsValueOf unit inputs outputs)
    → AreResults unit inputs value.results (length unit.ops)
results_of_value unit inputs outputs value k below =
    ap (λ results. slice_index results k) value.results_are
    ∙ get_or-map (op_value inputs value.results) unit.ops k no_op 0 below

-- ---- one value, of words

module _ (unit : units.Unit) (inputs left right : List ℕ) (is : IsUnit unit)
    (left_are : AreResults unit inputs left (length unit.ops)) (right_are : AreResults unit inputs right (length unit.ops)) where
  same_results : (n k : ℕ) → k < n → k < length unit.ops → slice_index left k ≡ slice_index right k
  same_results zero k below within = absurd (omega arith)
  same_results (suc n) k below within =
      left_are k within
      ∙ op_value-same inputs left right k (λ m earlier. same_results n m (omega arith) (omega arith)) (op_at unit k) (is.ops k within)
      ∙ sym (right_are k within)

  pub same_outputs : map (slice_index left) unit.outputs ≡ map (slice_index right) unit.outputs
  same_outputs =
      map_same (slice_index left) (slice_index right) unit.outputs
      (λ n there. same_results (length unit.ops) n (is.outputs n there) (is.outputs n there))

word_of_word : (z : ℤ) → word_of z < 2 ^ 32
word_of_word (pos n) = omega arith
word_of_word (negsuc n) = omega arith

bit_word : (b : Bool) → (if b then 1 else 0) < 2 ^ 32
bit_word true = lit< tt
bit_word false = lit< tt

-- an operation on words gives a word
pub operation_word : (op : Op) (a b : ℕ) → is_division op ≡ false → a < 2 ^ 32 → b < 2 ^ 32 → operation op a b < 2 ^ 32
operation_word Add a b other is_a is_b = omega arith
operation_word Sub a b other is_a is_b = omega arith
operation_word Sll a b other is_a is_b = mod-lt _ (lit< tt)
operation_word Slt a b other is_a is_b = bit_word (int_lt (signed a) (signed b))
operation_word Sltu a b other is_a is_b = bit_word (nat_lt a b)
operation_word Xor a b other is_a is_b = xor_lt 32 a b is_a is_b
operation_word Srl a b other is_a is_b = let less = div-le_self a (2 ^ (b % 32)) in omega arith
operation_word Sra a b other is_a is_b = word_of_word _
operation_word Or a b other is_a is_b = or_lt 32 a b is_a is_b
operation_word And a b other is_a is_b = let less = and_le_l a b in omega arith
operation_word Mul a b other is_a is_b = mod-lt _ (lit< tt)
operation_word Mulh a b other is_a is_b = word_of_word _
operation_word Mulhsu a b other is_a is_b = word_of_word _
operation_word Mulhu a b other is_a is_b = (div-lt_iff_lt-mul (lit< tt)).1 (mul-lt a b (2 ^ 32) (2 ^ 32) is_a is_b)
operation_word Div a b other is_a is_b = absurd (true≢false other)
operation_word Divu a b other is_a is_b = absurd (true≢false other)
operation_word Rem a b other is_a is_b = absurd (true≢false other)
operation_word Remu a b other is_a is_b = absurd (true≢false other)

module _ (unit : units.Unit) (inputs results : List ℕ) (is : IsUnit unit) (five : length inputs ≡ 5)
    (words : All (λ n. n < 2 ^ 32) inputs) (are : AreResults unit inputs results (length unit.ops)) where
  arg_word : (k : ℕ) → ((m : ℕ) → m < k → slice_index results m < 2 ^ 32) → (arg : Arg) → IsArg k arg
      → arg_value inputs results arg < 2 ^ 32
  arg_word k earlier (Input i) is_arg = words i 0 (omega (arith, five))
  arg_word k earlier (Earlier m) is_arg = earlier m is_arg
  arg_word k earlier (Constant word) is_arg = is_arg

  pub results_words : (n k : ℕ) → k < n → k < length unit.ops → slice_index results k < 2 ^ 32
  results_words zero k below within = absurd (omega arith)
  results_words (suc n) k below within =
      let op : UnitOp = op_at unit k in
      let op_is : IsOp k op = is.ops k within in
      let earlier : (m : ℕ) → m < k → slice_index results m < 2 ^ 32 = λ m h. results_words n m (omega arith) (omega arith) in
      subst (λ word. word < 2 ^ 32) (sym (are k within))
      (operation_word op.op _ _ op_is.no_division (arg_word k earlier op.left op_is.left) (arg_word k earlier op.right op_is.right))

  pub outputs_words : All (λ n. n < 2 ^ 32) (map (slice_index results) unit.outputs)
  outputs_words k d below =
      let within : k < length unit.outputs = omega (arith, length-map unit.outputs (slice_index results)) in
      let output : ℕ = get_or unit.outputs k 0 in
      let there : output < length unit.ops = is.outputs output (Contains-get_or unit.outputs k 0 within) in
      subst (λ word. word < 2 ^ 32) (sym (get_or-map (slice_index results) unit.outputs k 0 d within))
      (results_words (length unit.ops) output there there)

-- ---- the outputs as three words

pub padded_three : (outputs : List ℕ) → length outputs ≤ 3
    → slice_index outputs 0 ∷ slice_index outputs 1 ∷ slice_index outputs 2 ∷ [] ≡ padded 3 outputs
padded_three [] few = refl
padded_three (x ∷ []) few = refl
padded_three (x ∷ y ∷ []) few = refl
padded_three (x ∷ y ∷ z ∷ []) few = refl
padded_three (x ∷ y ∷ z ∷ w ∷ rest) few = absurd (omega arith)

-- the result at a place among the outputs, and 0 past their end
module _ (results outputs : List ℕ) (place : ℕ) where
  pub output_there : (n : ℕ) → true ≡ nat_lt place (length outputs) → n ≡ get_or outputs place n
      → slice_index results n ≡ slice_index (map (slice_index results) outputs) place
  output_there n within is =
      ap (slice_index results) is
      ∙ sym (get_or-map (slice_index results) outputs place n 0 (ltb-true place (length outputs) (sym within)))

  pub output_absent : false ≡ nat_lt place (length outputs) → 0 ≡ slice_index (map (slice_index results) outputs) place
  output_absent past =
      let long : length outputs ≤ place = ltb-false place (length outputs) (sym past) in
      sym (get_or_past (map (slice_index results) outputs) place 0 (omega (arith, long, length-map outputs (slice_index results))))
