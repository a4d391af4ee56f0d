-- For private contracts: the steps of operators.
use Rattle.std.specs.Prelude.{◌≡◌, ℕ, ◌/◌, ◌%◌, ◌^◌, replicate, ⊤}
use Rattle.ci_verilog.specs.declared.vectors.Vector.{Vector}
use Rattle.ci_verilog.specs.declared.expressions.Operator.{Operator}
use Rattle.ci_verilog.specs.declared.expressions.Operator.TheVariants as operator
use Rattle.ci_verilog.specs.Values.{of_width, above, joined}
use Rattle.ci_plan.specs.declared.steps.Step.{Step}
use Rattle.ci_plan.specs.declared.steps.Step.TheVariants.{Plus, Minus, Times, And, Or, Xor, Left, Right, Less}

-- the step that stands for an operator, on vectors at these places, of which the left one has this width
abbrev pub step_of : Operator → ℕ → ℕ → ℕ → Step
step_of operator.Plus l r width = Plus l r width
step_of operator.Minus l r width = Minus l r width
step_of operator.Times l r width = Times l r width
step_of operator.And l r width = And l r
step_of operator.Or l r width = Or l r
step_of operator.Xor l r width = Xor l r
step_of operator.Left l r width = Left l r width
step_of operator.Right l r width = Right l r
step_of operator.Less l r width = Less l r

-- the widths of the operands are those with which the step makes what the operator makes
abbrev pub AgreeFor : Operator → ℕ → ℕ → Type 0
AgreeFor operator.Minus left right = left ≡ right
AgreeFor _ left right = ⊤

-- the vector behind 32 copies of its bit 31
abbrev pub widened_bits : Vector → Vector
widened_bits v = above (joined (replicate 32 (of_width 1 (v.value / 2 ^ 31 % 2)))) v
