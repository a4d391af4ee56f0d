-- The templates' wires, by letters: each is one that the letters before it allow.
use Rattle.std.proofs.Common.{◌≡◌, ℕ, zero, suc, ◌<◌, ◌≤◌, ◌==◌, ◌&&◌, not, Bool, true, false, List, [], ◌∷◌, ◌++◌, map}
use Rattle.std.proofs.Common.{length, Contains, slice_index, refl, ap, arith, lit<}
use Rattle.std.proofs.lemmas.Bool.{and_parts, eq-eqb}
use Rattle.ci_word.specs.declared.arithmetic.Op.{Op}
use Rattle.ci_word.specs.declared.arithmetic.Op.TheVariants.{Add, Sub, Sll, Slt, Sltu, Xor, Srl, Sra, Or, And, Mul, Mulh, Mulhsu, Mulhu, Div, Divu, Rem, Remu}
use Rattle.ci_isa.specs.Effects.{is_division}
use Rattle.ci_verilog.specs.declared.expressions.Operator.{Operator}
use Rattle.ci_verilog.specs.declared.expressions.Operator.TheVariants as operator
use Rattle.ci_verilog.specs.declared.expressions.Simple.TheVariants.{Whole, Number}
use Rattle.ci_verilog.specs.declared.expressions.Item.TheVariants as item
use Rattle.std.proofs.Common.{◌+◌, ◌-◌, ◌^◌, sym, ◌∙◌}
use Rattle.std.proofs.lemmas.Bool.{false≢true}
use Rattle.std.proofs.lemmas.Nat.{pow_pos}
use Rattle.ci_verilog.specs.declared.expressions.Term.{Term}
use Rattle.ci_verilog.specs.declared.expressions.Expr.{Expr}
use Rattle.ci_verilog.specs.declared.expressions.Expr.TheVariants.{One, Two}
use Rattle.std.proofs.lemmas.List.Elements.{Contains-push}
use Rattle.ci_verilog.specs.declared.expressions.Wire.{Wire}
use Rattle.ci_verilog.specs.Modules.{Known, vector, declared_by, Makes, IsSimple, IsItem, AreItems, IsTerm, IsExpr, IsNew, IsWire, AreWires}
use Rattle.ci_vemit.specs.Templates.{wire, whole, bits, constant, signed, unsigned, widened, p, q, t, u, v, w, direct}
use Rattle.ci_vemit.specs.Templates.{shift, comparison, turned, high_half, template}

-- ---- letters

abbrev pub IsLetter : List ℕ → Type 0
IsLetter name = (byte : ℕ) × (name ≡ byte ∷ [])

abbrev pub AllLetters : List Known → Type 0
AllLetters [] = Unit {0}
AllLetters (k ∷ known) = IsLetter k.name × AllLetters known

pub letter_of : (known : List Known) (k : Known) → AllLetters known → Contains known k → IsLetter k.name
letter_of [] k are is = absurd (omega (arith, is.1))
letter_of (first ∷ known) k are (zero, below, is) = (are.0.0, ap (λ k. k.name) (sym is) ∙ are.0.1)
letter_of (first ∷ known) k are (suc n, below, is) = letter_of known k are.1 (n, omega arith, is)

pub letters_more : (known : List Known) (k : Known) → AllLetters known → IsLetter k.name → AllLetters (known ++ k ∷ [])
letters_more [] k are is = (is, tt)
letters_more (first ∷ known) k are is = (are.0, letters_more known k are.1 is)

-- no name that is known begins like this one
abbrev is_free : List Known → List ℕ → Bool
is_free [] name = true
is_free (k ∷ known) name = not (slice_index k.name 0 == slice_index name 0) && is_free known name

pub free_is_new : (known : List Known) (name : List ℕ) → is_free known name ≡ true → IsNew known name
free_is_new [] name free width is = absurd (omega (arith, is.1))
free_is_new (k ∷ known) name free width (zero, below, is) =
    let same : (slice_index k.name 0 == slice_index name 0) ≡ true =
    eq-eqb (slice_index k.name 0) (slice_index name 0) (ap (λ k. slice_index k.name 0) is) in
    let other : not (slice_index k.name 0 == slice_index name 0) ≡ true =
    (and_parts (not (slice_index k.name 0 == slice_index name 0)) (is_free known name) free).0 in
    absurd (false≢true (sym (ap not same) ∙ other))
free_is_new (k ∷ known) name free width (suc n, below, is) =
    free_is_new known name (and_parts (not (slice_index k.name 0 == slice_index name 0)) (is_free known name) free).1 width (n, omega arith, is)

-- ---- widths of the parts

module _ (known : List Known) where
  module _ (name : List ℕ) (width : ℕ) (is : Contains known (vector name width)) where
    pub is_whole : IsTerm known (whole name) width
    is_whole = IsTerm.plain (IsSimple.whole is)

    is_bits : (high low : ℕ) → high < width → low ≤ high → IsTerm known (bits name high low) (high + 1 - low)
    is_bits high low below order = IsTerm.plain (IsSimple.bits is below order)

  is_signed : (name : List ℕ) → Contains known (vector name 32) → IsTerm known (signed name) 64
  is_signed name is =
      IsTerm.join (AreItems.more (IsItem.repeat (omega arith) (omega arith) (IsSimple.bits is (omega arith) (omega arith)))
      (AreItems.one (IsItem.plain (IsSimple.whole is)))) (omega arith)

  zeros_above : (zeros width : ℕ) (name : List ℕ) → 1 ≤ zeros → zeros + width ≤ 64 → Contains known (vector name width)
      → AreItems known (item.Plain (Number zeros 0) ∷ item.Plain (Whole name) ∷ []) (zeros + width)
  zeros_above zeros width name some narrow is =
      AreItems.more (IsItem.plain (IsSimple.number some (omega arith) (pow_pos zeros))) (AreItems.one (IsItem.plain (IsSimple.whole is)))

  is_unsigned : (name : List ℕ) → Contains known (vector name 32) → IsTerm known (unsigned name) 64
  is_unsigned name is = IsTerm.join (zeros_above 32 32 name (omega arith) (omega arith) is) (omega arith)

  is_widened : (name : List ℕ) → Contains known (vector name 1) → IsTerm known (widened name) 32
  is_widened name is = IsTerm.join (zeros_above 31 1 name (omega arith) (omega arith) is) (omega arith)

  pub is_constant : (word : ℕ) → word < 2 ^ 32 → IsTerm known (constant word) 32
  is_constant word below = IsTerm.plain (IsSimple.number (omega arith) (omega arith) below)

  is_turned : (name : List ℕ) → Contains known (vector name 32) → IsExpr known (turned name) 32
  is_turned name is = IsExpr.two (is_whole name 32 is) (is_constant 2147483648 (lit< tt)) (refl, refl)

  line : (name : List ℕ) (width : ℕ) (e : Expr) → is_free known name ≡ true → 1 ≤ width → width ≤ 64 → IsExpr known e width
      → IsWire known (wire name width e)
  line name width e free least most is =
      record { is_new = free_is_new known name free; least = least; most = most; value = is }

-- a wire and the result behind it
with_result : (known : List Known) (name : List ℕ) (width : ℕ) (e last : Expr) → IsWire known (wire name width e)
    → is_free (known ++ vector name width ∷ []) t ≡ true → IsExpr (known ++ vector name width ∷ []) last 32
    → AreWires known (wire name width e ∷ wire t 32 last ∷ [])
with_result known name width e last is free is_last =
    (is, (line (known ++ vector name width ∷ []) t 32 last free (omega arith) (omega arith) is_last, tt))

-- the lines of a comparison, where the names w and t are free
comparison_wires : (known : List Known) (l r : List ℕ) → Contains known (vector l 32) → Contains known (vector r 32)
    → is_free known w ≡ true → is_free (known ++ vector w 1 ∷ []) t ≡ true → AreWires known (comparison l r)
comparison_wires known l r is_l is_r free_w free_t =
    with_result known w 1 (Two operator.Less (whole l) (whole r)) (One (widened w))
    (line known w 1 (Two operator.Less (whole l) (whole r)) free_w (omega arith) (omega arith)
    (IsExpr.two (is_whole known l 32 is_l) (is_whole known r 32 is_r) (refl, refl)))
    free_t (IsExpr.one (is_widened (known ++ vector w 1 ∷ []) w (Contains-push known (vector w 1))))

-- ---- the templates

-- the operands
abbrev pub operands : List Known
operands = vector p 32 ∷ vector q 32 ∷ []

has_p : Contains operands (vector p 32)
has_p = (0, omega arith, refl)

has_q : Contains operands (vector q 32)
has_q = (1, omega arith, refl)

-- what the lines of each template keep
pub record IsTemplate (lines : List Wire) : Type 0 where
  pub are_wires : AreWires operands lines
  pub are_letters : AllLetters (map declared_by lines)
  pub has_result : Contains (map declared_by lines) (vector t 32)
  pub few : length lines ≤ 4

-- a template of the result alone
alone : (e : Expr) → IsExpr operands e 32 → IsTemplate (wire t 32 e ∷ [])
alone e is = record {
  are_wires = (line operands t 32 e refl (omega arith) (omega arith) is, tt);
  are_letters = ((116, refl), tt);
  has_result = (0, omega arith, refl);
  few = omega arith;
}

direct_is : (o : Operator) → Makes o 32 32 32 → IsTemplate (direct o)
direct_is o makes =
    alone (Two o (whole p) (whole q)) (IsExpr.two (is_whole operands p 32 has_p) (is_whole operands q 32 has_q) makes)

shift_is : (o : Operator) → Makes o 32 5 32 → IsTemplate (shift o)
shift_is o makes =
    alone (Two o (whole p) (bits q 4 0))
    (IsExpr.two (is_whole operands p 32 has_p) (is_bits operands q 32 has_q 4 0 (omega arith) (omega arith)) makes)

-- a template of the wire w and the result, which is a part of w or w widened
by_w : (width : ℕ) (e last : Expr) → 1 ≤ width → width ≤ 64 → IsExpr operands e width
    → IsExpr (operands ++ vector w width ∷ []) last 32 → IsTemplate (wire w width e ∷ wire t 32 last ∷ [])
by_w width e last least most is is_last = record {
  are_wires = with_result operands w width e last (line operands w width e refl least most is) refl is_last;
  are_letters = ((119, refl), ((116, refl), tt));
  has_result = (1, omega arith, refl);
  few = omega arith;
}

sra_is : IsTemplate (template Sra)
sra_is =
    by_w 64 (Two operator.Right (signed p) (bits q 4 0)) (One (bits w 31 0)) (omega arith) (omega arith)
    (IsExpr.two (is_signed operands p has_p) (is_bits operands q 32 has_q 4 0 (omega arith) (omega arith)) refl)
    (IsExpr.one (is_bits (operands ++ vector w 64 ∷ []) w 64 (2, omega arith, refl) 31 0 (omega arith) (omega arith)))

high_half_is : (l r : Term) → IsTerm operands l 64 → IsTerm operands r 64 → IsTemplate (high_half l r)
high_half_is l r is_l is_r =
    by_w 64 (Two operator.Times l r) (One (bits w 63 32)) (omega arith) (omega arith) (IsExpr.two is_l is_r (refl, refl))
    (IsExpr.one (is_bits (operands ++ vector w 64 ∷ []) w 64 (2, omega arith, refl) 63 32 (omega arith) (omega arith)))

sltu_is : IsTemplate (template Sltu)
sltu_is = record {
  are_wires = comparison_wires operands p q has_p has_q refl refl;
  are_letters = ((119, refl), ((116, refl), tt));
  has_result = (1, omega arith, refl);
  few = omega arith;
}

slt_is : IsTemplate (template Slt)
slt_is = record {
  are_wires = (
    line operands u 32 (turned p) refl (omega arith) (omega arith) (is_turned operands p has_p),
    (
      line (operands ++ vector u 32 ∷ []) v 32 (turned q) refl (omega arith) (omega arith)
          (is_turned (operands ++ vector u 32 ∷ []) q (1, omega arith, refl)),
      comparison_wires (operands ++ vector u 32 ∷ vector v 32 ∷ []) u v (2, omega arith, refl) (3, omega arith, refl) refl refl,
    ),
  );
  are_letters = ((117, refl), ((118, refl), ((119, refl), ((116, refl), tt))));
  has_result = (3, omega arith, refl);
  few = omega arith;
}

pub template_is : (op : Op) → is_division op ≡ false → IsTemplate (template op)
template_is Add known = direct_is operator.Plus (refl, refl)
template_is Sub known = direct_is operator.Minus (refl, refl)
template_is Mul known = direct_is operator.Times (refl, refl)
template_is And known = direct_is operator.And (refl, refl)
template_is Or known = direct_is operator.Or (refl, refl)
template_is Xor known = direct_is operator.Xor (refl, refl)
template_is Sll known = shift_is operator.Left refl
template_is Srl known = shift_is operator.Right refl
template_is Sra known = sra_is
template_is Sltu known = sltu_is
template_is Slt known = slt_is
template_is Mulhu known = high_half_is (unsigned p) (unsigned q) (is_unsigned operands p has_p) (is_unsigned operands q has_q)
template_is Mulh known = high_half_is (signed p) (signed q) (is_signed operands p has_p) (is_signed operands q has_q)
template_is Mulhsu known = high_half_is (signed p) (unsigned q) (is_signed operands p has_p) (is_unsigned operands q has_q)
template_is Div known = absurd cc
template_is Divu known = absurd cc
template_is Rem known = absurd cc
template_is Remu known = absurd cc
