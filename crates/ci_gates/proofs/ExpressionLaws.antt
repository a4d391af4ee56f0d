-- The gates of expressions.
use Rattle.std.specs.Prelude.{◌≡◌, ℕ, ◌+◌, ◌*◌, ◌≤◌, ◌==◌, Bool, true, false, if◌then◌else◌, List, [], ◌∷◌, length}
use Rattle.std.specs.List.{slice_index_or}
use Rattle.std.proofs.Common.{refl, sym, ap, ◌∙◌, subst, arith}
use Rattle.ci_verilog.specs.declared.vectors.Vector.{Vector}
use Rattle.ci_verilog.specs.declared.expressions.Term.{Term}
use Rattle.ci_verilog.specs.declared.expressions.Operator.{Operator}
use Rattle.ci_verilog.specs.declared.expressions.Operator.TheVariants.{Plus, Minus, Times, And, Or, Xor, Left, Right, Less}
use Rattle.ci_verilog.specs.declared.expressions.Expr.TheVariants.{One, Two, Choose}
use Rattle.ci_verilog.specs.Modules.{WireList, Known, known_by, IsTerm, IsExpr, Makes}
use Rattle.ci_verilog.specs.Values.{term_bits, operated}
use Rattle.ci_verilog.proofs.ExpressionLaws.{term_fits}
use Rattle.ci_verilog.proofs.WidthLaws.{one_parts, two_parts, choose_parts, narrow_term}
use Rattle.ci_netlist.specs.declared.bits.Bit.{Bit}
use Rattle.ci_netlist.specs.declared.bits.Gate.{Gate}
use Rattle.ci_netlist.specs.Netlists.{bit_value, digit, spelt, AreBits}
use Rattle.ci_gates.specs.private.Growing.{MakesWord, operator_width}
use Rattle.ci_gates.proofs.NetlistLaws.{counted, grows_none}
use Rattle.ci_gates.specs.Counts.{operator_gates, HasGates}
use Rattle.ci_gates.specs.private.Scopes.{vector_of, IsScope, IsHeld, HoldsWords, Stands}

-- bits that stand for a term are as many as the term is wide
pub term_wide : (wires : WireList) (words bits : List Bit) (t : Term) (w : ℕ) → IsHeld wires words
    → Stands wires words bits (λ names. term_bits names t) → IsTerm (known_by wires) t w → length bits ≡ w
term_wide wires words bits t w held stands is =
    ap (λ v. v.width) (stands.value held.arguments held.gives held.names held.holds)
    ∙ (term_fits (known_by wires) held.names held.holds.fit t w is).width_is

two_gates : (known : List Known) (operator : Operator) (l r : Term) (n : ℕ) → HasGates known (Two operator l r) n
    → (left : ℕ) × (right : ℕ) × IsTerm known l left × IsTerm known r right × (n ≡ operator_gates operator left right)
two_gates known operator l r n (HasGates.two {left = left} {right = right} is_l is_r) = (left, right, is_l, is_r, refl)

made_width : (operator : Operator) (left right width : ℕ) → Makes operator left right width → operator_width operator left ≡ width
made_width Plus left right width makes = sym makes.1
made_width Minus left right width makes = sym makes.1
made_width Times left right width makes = sym makes.1
made_width And left right width makes = sym makes.1
made_width Or left right width makes = sym makes.1
made_width Xor left right width makes = sym makes.1
made_width Left left right width makes = sym makes
made_width Right left right width makes = sym makes
made_width Less left right width makes = sym makes.1

module _ (wires : WireList) (words left right : List Bit) (operator : Operator) (l r : Term) (held : IsHeld wires words)
    (stands_l : Stands wires words left (λ names. term_bits names l)) (stands_r : Stands wires words right (λ names. term_bits names r)) where
  pub operands_wide : (w : ℕ) → IsExpr (known_by wires) (Two operator l r) w → Makes operator (length left) (length right) w
  operands_wide w is =
      let parts = two_parts (known_by wires) operator l r w is in
      subst (λ n. Makes operator n (length right) w) (sym (term_wide wires words left l parts.0 held stands_l parts.2))
      (subst (λ n. Makes operator parts.0 n w) (sym (term_wide wires words right r parts.1 held stands_r parts.3)) parts.4)

  pub left_narrow : (w : ℕ) → IsScope wires words → IsExpr (known_by wires) (Two operator l r) w → length left ≤ 64
  left_narrow w scope is =
      let parts = two_parts (known_by wires) operator l r w is in
      subst (λ n. n ≤ 64) (sym (term_wide wires words left l parts.0 held stands_l parts.2))
      (narrow_term (known_by wires) scope.narrow l parts.0 parts.2)

  gates_are : (n : ℕ) → HasGates (known_by wires) (Two operator l r) n → n ≡ operator_gates operator (length left) (length right)
  gates_are n has =
      let parts = two_gates (known_by wires) operator l r n has in
      parts.4 ∙ (λ t. operator_gates operator (sym (term_wide wires words left l parts.0 held stands_l parts.2) t)
      (sym (term_wide wires words right r parts.1 held stands_r parts.3) t))

  -- that it takes some number of gates
  pub has_gates : (w : ℕ) → IsExpr (known_by wires) (Two operator l r) w
      → HasGates (known_by wires) (Two operator l r) (operator_gates operator (length left) (length right))
  has_gates w is =
      let parts = two_parts (known_by wires) operator l r w is in
      subst (HasGates (known_by wires) (Two operator l r))
      (λ t. operator_gates operator (sym (term_wide wires words left l parts.0 held stands_l parts.2) t)
      (sym (term_wide wires words right r parts.1 held stands_r parts.3) t))
      (HasGates.two parts.2 parts.3)

  pub two_makes : (old new : List Gate) (bits : List Bit) (n w : ℕ)
      → MakesWord old new (operator_gates operator (length left) (length right)) (operator_width operator (length left)) bits
      → HasGates (known_by wires) (Two operator l r) n → IsExpr (known_by wires) (Two operator l r) w → MakesWord old new n w bits
  two_makes old new bits n w makes has is =
      subst (λ m. MakesWord old new m w bits) (sym (gates_are n has))
      (subst (λ m. MakesWord old new (operator_gates operator (length left) (length right)) m bits)
      (made_width operator (length left) (length right) w (operands_wide w is)) makes)

  pub two_value : (arguments : List ℕ) (gives : ℕ → Bool) (names : List ℕ → Vector)
      → HoldsWords (bit_value arguments gives) names wires words
      → operated operator (vector_of (bit_value arguments gives) left) (vector_of (bit_value arguments gives) right)
      ≡ operated operator (term_bits names l) (term_bits names r)
  two_value arguments gives names holds =
      λ t. operated operator (stands_l.value arguments gives names holds t) (stands_r.value arguments gives names holds t)

-- ---- choices

choose_gates : (known : List Known) (test first second : Term) (n : ℕ) → HasGates known (Choose test first second) n
    → (width : ℕ) × IsTerm known first width × (n ≡ 3 * width)
choose_gates known test first second n (HasGates.choose {width = width} is) = (width, is, refl)

pub one_bit : (bits : List Bit) → length bits ≡ 1 → (d : Bit) → bits ≡ slice_index_or bits 0 d ∷ []
one_bit [] one d = absurd (omega arith)
one_bit (b ∷ []) one d = refl
one_bit (b ∷ c ∷ bits) one d = absurd (omega arith)

test_holds : (b : Bool) (value first second : ℕ) → digit b + 2 * 0 ≡ value → (if b then first else second) ≡ (if value == 0 then second else first)
test_holds true value first second is = subst (λ v. first ≡ (if v == 0 then second else first)) is refl
test_holds false value first second is = subst (λ v. second ≡ (if v == 0 then second else first)) is refl

module _ (wires : WireList) (words test first second : List Bit) (bit : Bit) (t f s : Term) (held : IsHeld wires words)
    (stands_t : Stands wires words test (λ names. term_bits names t)) (stands_f : Stands wires words first (λ names. term_bits names f))
    (stands_s : Stands wires words second (λ names. term_bits names s)) where
  first_wide : (w : ℕ) → IsExpr (known_by wires) (Choose t f s) w → length first ≡ w
  first_wide w is = term_wide wires words first f w held stands_f (choose_parts (known_by wires) t f s w is).1

  pub same_wide : (w : ℕ) → IsExpr (known_by wires) (Choose t f s) w → length second ≡ length first
  same_wide w is = term_wide wires words second s w held stands_s (choose_parts (known_by wires) t f s w is).2 ∙ sym (first_wide w is)

  pub chosen_gates : (w : ℕ) → IsExpr (known_by wires) (Choose t f s) w → HasGates (known_by wires) (Choose t f s) (3 * length first)
  chosen_gates w is =
      subst (λ n. HasGates (known_by wires) (Choose t f s) (3 * n)) (sym (first_wide w is))
      (HasGates.choose (choose_parts (known_by wires) t f s w is).1)

  pub choice_makes : (old new : List Gate) (bits : List Bit) (n w : ℕ) → MakesWord old new (3 * length first) (length first) bits
      → HasGates (known_by wires) (Choose t f s) n → IsExpr (known_by wires) (Choose t f s) w → MakesWord old new n w bits
  choice_makes old new bits n w makes has is =
      let parts = choose_gates (known_by wires) t f s n has in
      let count : 3 * length first ≡ n = ap (λ m. 3 * m) (term_wide wires words first f parts.0 held stands_f parts.1) ∙ sym parts.2 in
      subst (λ m. MakesWord old new m w bits) count
      (subst (λ m. MakesWord old new (3 * length first) m bits) (first_wide w is) makes)

  pub choice_value : (arguments : List ℕ) (gives : ℕ → Bool) (names : List ℕ → Vector) → test ≡ bit ∷ []
      → HoldsWords (bit_value arguments gives) names wires words
      → (if bit_value arguments gives bit then spelt (bit_value arguments gives) first else spelt (bit_value arguments gives) second)
      ≡ (if (term_bits names t).value == 0 then (term_bits names s).value else (term_bits names f).value)
  choice_value arguments gives names one holds =
      let spells = bit_value arguments gives in
      let value_is : digit (spells bit) + 2 * 0 ≡ (term_bits names t).value =
      ap (spelt spells) (sym one) ∙ ap (λ v. v.value) (stands_t.value arguments gives names holds) in
      test_holds (spells bit) (term_bits names t).value (spelt spells first) (spelt spells second) value_is
      ∙ (λ i. if (term_bits names t).value == 0 then ap (λ v. v.value) (stands_s.value arguments gives names holds) i
      else ap (λ v. v.value) (stands_f.value arguments gives names holds) i)

-- ---- terms alone

one_gates : (known : List Known) (t : Term) (n : ℕ) → HasGates known (One t) n → n ≡ 0
one_gates known t n HasGates.one = refl

pub one_makes : (wires : WireList) (words bits : List Bit) (t : Term) (gates : List Gate) (n w : ℕ) → IsHeld wires words
    → Stands wires words bits (λ names. term_bits names t) → AreBits (length gates) words
    → HasGates (known_by wires) (One t) n → IsExpr (known_by wires) (One t) w → MakesWord gates gates n w bits
one_makes wires words bits t gates n w held stands are has is =
    record {
      grows = counted gates gates 0 n (sym (one_gates (known_by wires) t n has)) (grows_none gates);
      width_is = term_wide wires words bits t w held stands (one_parts (known_by wires) t w is);
      are_bits = stands.are_bits (length gates) are;
    }
