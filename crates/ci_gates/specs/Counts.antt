-- How many gates a module takes, for everybody.
use Rattle.std.specs.Prelude.{ℕ, ◌+◌, ◌*◌, List, [], ◌∷◌, ◌++◌, map}
use Rattle.ci_verilog.specs.declared.expressions.Term.{Term}
use Rattle.ci_verilog.specs.declared.expressions.Expr.{Expr}
use Rattle.ci_verilog.specs.declared.expressions.Expr.TheVariants.{One, Two, Choose}
use Rattle.ci_verilog.specs.declared.expressions.Operator.{Operator}
use Rattle.ci_verilog.specs.declared.expressions.Operator.TheVariants.{Plus, Minus, Times, And, Or, Xor, Left, Right, Less}
use Rattle.ci_verilog.specs.Modules.{Module, Known, IsTerm, known_by}
use Rattle.ci_verilog.specs.Values.{results_of}

-- by the width of the left operand and that of the right one
abbrev pub operator_gates : Operator → ℕ → ℕ → ℕ
operator_gates And n k = n
operator_gates Or n k = n
operator_gates Xor n k = n
-- full adders of two xor, two and, one or
operator_gates Plus n k = 5 * n
-- the complement too
operator_gates Minus n k = 6 * n
-- the carry of that, inverted
operator_gates Less n k = 6 * n + 1
-- a row for each bit
operator_gates Times n k = 3 * n * (n + 1)
-- a stage for each bit of the amount
operator_gates Left n k = 3 * n * k
operator_gates Right n k = 3 * n * k

module _ (known : List Known) where
  -- the expression takes so many gates, by the widths of its operands
  pub data HasGates : Expr → ℕ → Type 0 where
    one : {t : Term} → HasGates (One t) 0
    two : {operator : Operator} {l r : Term} {left right : ℕ} → IsTerm known l left → IsTerm known r right
        → HasGates (Two operator l r) (operator_gates operator left right)
    choose : {test first second : Term} {width : ℕ} → IsTerm known first width
        → HasGates (Choose test first second) (3 * width)

  -- and the expressions together
  pub data HaveGates : List Expr → ℕ → Type 0 where
    none : HaveGates [] 0
    more : {expr : Expr} {exprs : List Expr} {n others : ℕ} → HasGates expr n → HaveGates exprs others
        → HaveGates (expr ∷ exprs) (n + others)

-- the expressions of the wires and of the results
abbrev pub exprs_of : Module → List Expr
exprs_of m = map (λ wire. wire.value) m.wires.list ++ results_of m

-- the count of a module: the gates of its wires and results together
abbrev pub IsCountOf : Module → ℕ → Type 0
IsCountOf m n = HaveGates (known_by m.wires) (exprs_of m) n
