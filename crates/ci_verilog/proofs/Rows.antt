-- Rows of the definitions: what each operator gives at corners, and each rule of a module from both sides.
use Rattle.std.specs.Prelude.{◌≡◌, ℕ, zero, suc, ◌<◌, List, [], ◌∷◌, replicate, codes, slice_index, Some, true, false, if◌then◌else◌}
use Rattle.std.specs.List.{Contains}
use Rattle.std.proofs.Common.{refl, sym, ap, subst, arith, lit<}
use Rattle.ci_verilog.specs.declared.vectors.Vector.{Vector}
use Rattle.ci_verilog.specs.declared.expressions.Simple.{Simple}
use Rattle.ci_verilog.specs.declared.expressions.Simple.TheVariants.{Whole, Bits, Number}
use Rattle.ci_verilog.specs.declared.expressions.Item.{Item}
use Rattle.ci_verilog.specs.declared.expressions.Item.TheVariants as item
use Rattle.ci_verilog.specs.declared.expressions.Term.TheVariants as term
use Rattle.ci_verilog.specs.declared.expressions.Operator.TheVariants.{Plus, Minus, Times, And, Or, Xor, Left, Right, Less}
use Rattle.ci_verilog.specs.declared.expressions.Expr.{Expr}
use Rattle.ci_verilog.specs.declared.expressions.Expr.TheVariants.{One, Two, Choose}
use Rattle.ci_verilog.specs.declared.expressions.Wire.{Wire}
use Rattle.ci_verilog.specs.Modules.{Known, IsInput, nothing, vector, inputs, Makes, IsSimple, IsItem, AreItems, IsTerm, Module}
use Rattle.ci_verilog.specs.Values.{of_width, joined, operated, expr_value, term_bits, IsValueOf}
use Rattle.ci_verilog.proofs.ValueLaws.{same}
use Rattle.ci_verilog.proofs.WidthLaws.{whole_parts, bits_parts, number_parts, repeat_item_parts, join_parts}

-- ---- operators at corners

sum_wraps : operated Plus (of_width 32 4294967295) (of_width 32 2) ≡ 1
sum_wraps = refl

sum_of_64_bits_wraps : operated Plus (of_width 64 18446744073709551615) (of_width 64 1) ≡ 0
sum_of_64_bits_wraps = refl

one_bit_wraps : operated Plus (of_width 1 1) (of_width 1 1) ≡ 0
one_bit_wraps = refl

difference_in_order : operated Minus (of_width 32 2) (of_width 32 1) ≡ 1
difference_in_order = refl

difference_wraps : operated Minus (of_width 32 1) (of_width 32 2) ≡ 4294967295
difference_wraps = refl

product_of_ones : operated Times (of_width 64 18446744073709551615) (of_width 64 18446744073709551615) ≡ 1
product_of_ones = refl

bits_and : operated And (of_width 4 12) (of_width 4 10) ≡ 8
bits_and = refl

bits_or : operated Or (of_width 4 12) (of_width 4 10) ≡ 14
bits_or = refl

bits_xor : operated Xor (of_width 4 12) (of_width 4 10) ≡ 6
bits_xor = refl

left_by_31 : operated Left (of_width 32 3) (of_width 5 31) ≡ 2147483648
left_by_31 = refl

left_by_the_width : operated Left (of_width 32 1) (of_width 32 32) ≡ 0
left_by_the_width = refl

right_by_31 : operated Right (of_width 32 2147483648) (of_width 5 31) ≡ 1
right_by_31 = refl

right_by_the_width : operated Right (of_width 32 4294967295) (of_width 32 32) ≡ 0
right_by_the_width = refl

less : operated Less (of_width 32 1) (of_width 32 4294967295) ≡ 1
less = refl

not_less_than_itself : operated Less (of_width 32 2) (of_width 32 2) ≡ 0
not_less_than_itself = refl

-- ---- parts

first_is_highest : joined (of_width 4 1 ∷ of_width 8 2 ∷ []) ≡ of_width 12 258
first_is_highest = refl

copies : joined (replicate 3 (of_width 2 1)) ≡ of_width 6 21
copies = refl

bits_of_a_name : term_bits (λ n. of_width 32 2882400018) (term.Plain (Bits (codes "a") 15 8)) ≡ of_width 8 239
bits_of_a_name = refl

second_where_true : expr_value (λ n. of_width 1 1) (Choose (term.Plain (Whole (codes "w"))) (term.Plain (Number 32 5)) (term.Plain (Number 32 7))) ≡ 5
second_where_true = refl

third_where_false : expr_value (λ n. of_width 1 0) (Choose (term.Plain (Whole (codes "w"))) (term.Plain (Number 32 5)) (term.Plain (Number 32 7))) ≡ 7
third_where_false = refl

-- ---- rules, from both sides

differ : (m n : ℕ) (w v : ℕ) → vector (m ∷ []) w ≡ vector (n ∷ []) v → m < n → ⊥
differ m n w v e below = let f : (m ∷ []) ≡ (n ∷ []) = ap (λ k. k.name) e in let g : m ≡ n = cc in absurd (omega arith)

input_is_known : IsSimple (inputs false) (Whole (codes "b")) 32
input_is_known = IsSimple.whole (1, omega arith, refl)

other_is_not_known : (w : ℕ) → ¬ Contains (inputs false) (vector (codes "d") w)
other_is_not_known w (zero, below, is) = differ 97 100 32 w is (omega arith)
other_is_not_known w (suc zero, below, is) = differ 98 100 32 w is (omega arith)
other_is_not_known w (suc (suc zero), below, is) = differ 99 100 32 w is (omega arith)
other_is_not_known w (suc (suc (suc k)), below, is) = absurd (omega arith)

-- a wide module has it
fifth_is_known : IsSimple (inputs true) (Whole (codes "e")) 32
fifth_is_known = IsSimple.whole (4, omega arith, refl)

whole_other : (w : ℕ) → ¬ IsSimple (inputs false) (Whole (codes "d")) w
whole_other w is = other_is_not_known w (whole_parts (inputs false) (codes "d") w is)

top_bit : IsSimple (inputs false) (Bits (codes "a") 31 31) 1
top_bit = IsSimple.bits (0, omega arith, refl) (omega arith) (omega arith)

all_bits : IsSimple (inputs false) (Bits (codes "a") 31 0) 32
all_bits = IsSimple.bits (0, omega arith, refl) (omega arith) (omega arith)

words_only : (v : Known) → Contains (inputs false) v → v.width ≡ 32
words_only v (zero, below, is) = sym (ap (λ k. k.width) is)
words_only v (suc zero, below, is) = sym (ap (λ k. k.width) is)
words_only v (suc (suc zero), below, is) = sym (ap (λ k. k.width) is)
words_only v (suc (suc (suc k)), below, is) = absurd (omega arith)

bit_past_the_top : (low w : ℕ) → ¬ IsSimple (inputs false) (Bits (codes "a") 32 low) w
bit_past_the_top low w is =
    let parts = bits_parts (inputs false) (codes "a") 32 low w is in
    absurd (omega (arith, parts.2, words_only (vector (codes "a") parts.0) parts.1))

low_above_high : (w : ℕ) → ¬ IsSimple (inputs false) (Bits (codes "a") 3 4) w
low_above_high w is = let parts = bits_parts (inputs false) (codes "a") 3 4 w is in absurd (omega (arith, parts.3))

one_bit_constant : IsSimple (inputs false) (Number 1 1) 1
one_bit_constant = IsSimple.number (omega arith) (omega arith) (lit< tt)

wide_constant : IsSimple (inputs false) (Number 64 18446744073709551615) 64
wide_constant = IsSimple.number (omega arith) (omega arith) (lit< tt)

no_bits_constant : (w : ℕ) → ¬ IsSimple (inputs false) (Number 0 0) w
no_bits_constant w is = absurd (omega (arith, (number_parts (inputs false) 0 0 w is).0))

too_wide_constant : (w : ℕ) → ¬ IsSimple (inputs false) (Number 65 0) w
too_wide_constant w is = absurd (omega (arith, (number_parts (inputs false) 65 0 w is).1))

too_great_constant : (w : ℕ) → ¬ IsSimple (inputs false) (Number 4 16) w
too_great_constant w is = absurd (omega (arith, (number_parts (inputs false) 4 16 w is).2))

two_words : IsItem (inputs false) (item.Repeat 2 (Whole (codes "a"))) 64
two_words = IsItem.repeat (omega arith) (omega arith) (IsSimple.whole (0, omega arith, refl))

three_words : (w : ℕ) → ¬ IsItem (inputs false) (item.Repeat 3 (Whole (codes "a"))) w
three_words w is =
    let parts = repeat_item_parts (inputs false) 3 (Whole (codes "a")) w is in
    let e : parts.0 ≡ 32 = words_only (vector (codes "a") parts.0) (whole_parts (inputs false) (codes "a") parts.0 parts.1) in
    absurd (omega (arith, parts.3, e))

no_copies : (w : ℕ) → ¬ IsItem (inputs false) (item.Repeat 0 (Number 1 1)) w
no_copies w is = absurd (omega (arith, (repeat_item_parts (inputs false) 0 (Number 1 1) w is).2))

double_word : IsTerm (inputs false) (term.Join (item.Plain (Whole (codes "a")) ∷ item.Plain (Whole (codes "b")) ∷ [])) 64
double_word =
    IsTerm.join (AreItems.more (IsItem.plain (IsSimple.whole (0, omega arith, refl)))
    (AreItems.one (IsItem.plain (IsSimple.whole (1, omega arith, refl))))) (omega arith)

join_of_65 : (items : List Item) → AreItems (inputs false) items 65 → ¬ IsTerm (inputs false) (term.Join items) 65
join_of_65 items are is = absurd (omega (arith, (join_parts (inputs false) items 65 is).1))

sum_of_two_widths : (w : ℕ) → ¬ Makes Plus 7 8 w
sum_of_two_widths w makes = absurd (omega (arith, makes.0))

shift_by_any_width : Makes Left 7 8 7
shift_by_any_width = refl

comparison_is_one_bit : Makes Less 32 32 1
comparison_is_one_bit = (refl, refl)

comparison_is_no_word : ¬ Makes Less 32 32 32
comparison_is_no_word makes = absurd (omega (arith, makes.1))

-- ---- whole modules

-- one wide wire, and z 0
abbrev of_wide : Expr → Simple → Module
of_wide value result =
    record {
      number = 0;
      cycles = 1;
      wires = record { wide = false; list = record { name = codes "w0"; width = 64; value = value } ∷ [] };
      y = One (term.Plain result);
      z = One (term.Plain (Number 32 0));
      x = nothing;
    }

-- a signed and an unsigned factor, the high half of the product
abbrev mulhsu : Module
mulhsu =
    of_wide
    (Two Times (term.Join (item.Repeat 32 (Bits (codes "a") 31 31) ∷ item.Plain (Whole (codes "a")) ∷ []))
    (term.Join (item.Plain (Number 32 0) ∷ item.Plain (Whole (codes "b")) ∷ [])))
    (Bits (codes "w0") 63 32)

-- the arithmetic shift to the right, in 64 bits
abbrev sra : Module
sra =
    of_wide
    (Two Right (term.Join (item.Repeat 32 (Bits (codes "a") 31 31) ∷ item.Plain (Whole (codes "a")) ∷ []))
    (term.Plain (Bits (codes "b") 4 0)))
    (Bits (codes "w0") 31 0)

abbrev names_of : ℕ → ℕ → ℕ → ℕ → List ℕ → Vector
names_of a b c w n =
    if same n (codes "a") then of_width 32 a
    else (if same n (codes "b") then of_width 32 b else (if same n (codes "c") then of_width 32 c else of_width 64 w))

-- where the wide wire has its value, the module has its results
by_wire : (value : Expr) (result : Simple) (a b c w y z : ℕ)
    → of_width 64 w ≡ of_width 64 (expr_value (names_of a b c w) value)
    → expr_value (names_of a b c w) (One (term.Plain result)) ≡ y → 0 ≡ z
    → IsValueOf (of_wide value result) (a ∷ b ∷ c ∷ 0 ∷ 0 ∷ []) (y ∷ z ∷ 0 ∷ [])
by_wire value result a b c w y z settled gives zero_is =
    record {
      names = names_of a b c w;
      settled = record { inputs_are = given; wires_are = wired };
      results_are = λ t. (sym gives) t ∷ (sym zero_is) t ∷ 0 ∷ [];
    }
  where
    named : (known : Known) (name : List ℕ) → Some known ≡ Some (vector name 32) → known.name ≡ name
    named known name e = cc

    given : (k : ℕ) (name : List ℕ) → IsInput false name k → names_of a b c w name ≡ of_width 32 (slice_index (a ∷ b ∷ c ∷ 0 ∷ 0 ∷ []) k)
    given zero name is = ap (names_of a b c w) (sym (named (vector (codes "a") 32) name is))
    given (suc zero) name is = ap (names_of a b c w) (sym (named (vector (codes "b") 32) name is))
    given (suc (suc zero)) name is = ap (names_of a b c w) (sym (named (vector (codes "c") 32) name is))
    given (suc (suc (suc k))) name is = absurd cc

    wired : (wire : Wire) → Contains (of_wide value result).wires.list wire
        → names_of a b c w wire.name ≡ of_width wire.width (expr_value (names_of a b c w) wire.value)
    wired wire (zero, below, is) =
        subst (λ u. names_of a b c w u.name ≡ of_width u.width (expr_value (names_of a b c w) u.value)) is settled
    wired wire (suc k, below, is) = absurd (omega arith)

mulhsu_of_least_and_greatest : IsValueOf mulhsu (2147483648 ∷ 4294967295 ∷ 0 ∷ 0 ∷ 0 ∷ []) (2147483648 ∷ 0 ∷ 0 ∷ [])
mulhsu_of_least_and_greatest = by_wire _ _ 2147483648 4294967295 0 9223372039002259456 2147483648 0 refl refl refl

sra_of_least_by_31 : IsValueOf sra (2147483648 ∷ 31 ∷ 0 ∷ 0 ∷ 0 ∷ []) (4294967295 ∷ 0 ∷ 0 ∷ [])
sra_of_least_by_31 = by_wire _ _ 2147483648 31 0 8589934591 4294967295 0 refl refl refl
