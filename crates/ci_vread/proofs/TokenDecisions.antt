-- Whether two tokens are the same, and whether a token fits a role.
use Rattle.std.proofs.Common.{◌≡◌, ℕ, ◌⊎◌, inl, inr, List, refl, ap, subst, Bool, true, false, eqb}
use Rattle.std.proofs.lemmas.Bool.{eqb-true, eq-eqb}
use denote.Enum.Declared.{Declared}
use denote.Enum.Bare.{Bare, sameb, same_true, same_false}
use Rattle.ci_verilog.specs.contracts.expressions.Operator.{the_type as operator_type}
use Rattle.ci_vread.specs.contracts.tokens.Sign.{the_type as sign_type}
use Rattle.ci_vread.specs.declared.tokens.Sign.TheVariants.{NameA, NameB, NameC}
use Rattle.ci_vread.specs.Lexicon.{Token, sign, operator, name, number, constant, cycles, never}
use Rattle.ci_vread.specs.Grammar.{Role, is, its_cycles, its_module, its_high, its_name, its_target, its_use, its_index, its_low, its_count, its_constant}
use Rattle.ci_vread.specs.Grammar.{its_operator}
use Rattle.ci_vread.specs.Grammar.{Fits, that_token, some_cycles, a_module, a_high, a_name, a_target, a_use, input_a, input_b, input_c, an_index, a_low}
use Rattle.ci_vread.specs.Grammar.{a_count, a_constant, an_operator}
use Rattle.ci_vread.specs.Rules.{same}
use Rattle.ci_vread.proofs.NameLaws.{same_is, same_itself}

abbrev pub Decided : Type 0 → Type 0
Decided A = A ⊎ (¬ A)

-- values of an enum without fields
unfoldable pub enum_decided : (D : Declared) → Bare D.parts → (a b : D.D) → Decided (a ≡ b)
enum_decided D bare a b = by (sameb D a b) refl
  where
    by : (t : Bool) → sameb D a b ≡ t → Decided (a ≡ b)
    by true e = inl (same_true D bare a b e)
    by false e = inr (same_false D a b e)

unfoldable pub number_decided : (m n : ℕ) → Decided (m ≡ n)
number_decided m n = by (eqb m n) refl
  where
    by : (b : Bool) → eqb m n ≡ b → Decided (m ≡ n)
    by true e = inl (eqb-true m n e)
    by false e = inr (λ f. let g = eq-eqb m n f in absurd (cc))

unfoldable pub name_decided : (xs ys : List ℕ) → Decided (xs ≡ ys)
name_decided xs ys = by (same xs ys) refl
  where
    by : (b : Bool) → same xs ys ≡ b → Decided (xs ≡ ys)
    by true e = inl (same_is xs ys e)
    by false e = inr (λ f. let g : same xs ys ≡ true = subst (λ zs. same xs zs ≡ true) f (same_itself xs) in absurd (cc))

-- values of a kind of token that has one of them
unfoldable pub carried : {A : Type 0} (make : A → Token) {x y : A} → (make x ≡ make y → x ≡ y) → Decided (x ≡ y) → Decided (make x ≡ make y)
carried make back (inl e) = inl (ap make e)
carried make back (inr n) = inr (λ e. n (back e))

unfoldable pub token_decided : (s t : Token) → Decided (s ≡ t)
token_decided (sign s) (sign t) = carried (λ x. sign x) (λ e. cc) (enum_decided sign_type tt s t)
token_decided (operator s) (operator t) = carried (λ x. operator x) (λ e. cc) (enum_decided operator_type tt s t)
token_decided (name s) (name t) = carried (λ x. name x) (λ e. cc) (name_decided s t)
token_decided (number s) (number t) = carried (λ x. number x) (λ e. cc) (number_decided s t)
token_decided (cycles s) (cycles t) = carried (λ x. cycles x) (λ e. cc) (number_decided s t)
token_decided never never = inl refl
token_decided (constant v x) (constant w y) = by (number_decided v w) (number_decided x y)
  where
    by : Decided (v ≡ w) → Decided (x ≡ y) → Decided (constant v x ≡ constant w y)
    by (inl e) (inl f) = inl (λ i. constant (e i) (f i))
    by (inl e) (inr n) = inr (λ f. n (cc))
    by (inr n) d = inr (λ f. n (cc))
token_decided s t = inr (λ e. absurd (cc))

pub fits_is : (s t : Token) → Fits (is s) t → s ≡ t
fits_is _ _ (that_token t) = refl

unfoldable pub fits_or_not : (role : Role) (t : Token) → Decided (Fits role t)
fits_or_not (is s) t = elim (token_decided s t) [
  | inl e ↦ inl (subst (Fits (is s)) e (that_token s))
  | inr n ↦ inr (λ f. n (fits_is s t f))
]
fits_or_not its_cycles (cycles n) = inl (some_cycles n)
fits_or_not its_module (name n) = inl (a_module n)
fits_or_not its_high (number n) = inl (a_high n)
fits_or_not its_name (name n) = inl (a_name n)
fits_or_not its_target (name n) = inl (a_target n)
fits_or_not its_use (name n) = inl (a_use n)
fits_or_not its_use (sign NameA) = inl input_a
fits_or_not its_use (sign NameB) = inl input_b
fits_or_not its_use (sign NameC) = inl input_c
fits_or_not its_index (number n) = inl (an_index n)
fits_or_not its_low (number n) = inl (a_low n)
fits_or_not its_count (number n) = inl (a_count n)
fits_or_not its_constant (constant w v) = inl (a_constant w v)
fits_or_not its_operator (operator o) = inl (an_operator o)
fits_or_not role t = inr (λ f. elim f [ ])
