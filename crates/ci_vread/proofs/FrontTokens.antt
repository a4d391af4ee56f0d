-- What a token of the code is, by its kind.
use Rattle.std.proofs.Common.{◌≡◌, ℕ, ◌-◌, take, false, None, List, [], map, drop, length, refl, sym, ap, ◌∙◌, subst, min, arith, ◌⊎◌, inl, inr}
use Rattle.std.proofs.lemmas.Bool.{cases_lt}
use Rattle.std.proofs.lemmas.List.{drop-map, drop_all, take_rest}
use Rattle.ci_verilog.specs.declared.expressions.Operator.{Operator}
use Rattle.ci_vread.specs.declared.tokens.Sign.{Sign}
use Rattle.ci_vread.specs.declared.tokens.Kind.{Kind}
use Rattle.ci_vread.specs.declared.tokens.Kind.TheVariants as kind
use Rattle.ci_vread.specs.declared.tokens.Token as of_code
use Rattle.ci_vread.specs.Lexicon.{Token}
use Rattle.ci_vread.specs.private.Scanned.{text_of, symbol_by}
use Rattle.ci_vread.specs.private.Building.{token_in, token_of, is_sign, is_number, is_cycles, number_in, cycles_in, operator_in, constant_in, name_in}

module _ (text : List ℕ) (t : of_code.Token) (found : Token) (is : token_of text t ≡ found) where
  -- a token of this kind
  pub of_kind : (k : Kind) → t.kind ≡ k → token_in (symbol_by k (text_of text t)) ≡ found
  of_kind k e = ap (λ k. token_in (symbol_by k (text_of text t))) (sym e) ∙ is

  -- what each token of another kind keeps, the token keeps
  by_others : (Q : Token → Type 0) (P : Kind → Type 0) → ¬ P t.kind
      → ((k : Kind) (bytes : List ℕ) → ¬ P k → Q (token_in (symbol_by k bytes))) → Q found
  by_others Q P other each = subst Q is (each t.kind (text_of text t) other)

  pub no_sign : (s : Sign) → ((x : Sign) → ¬ (t.kind ≡ kind.Sign x)) → false ≡ is_sign s found
  unfolding is_sign
  no_sign s other = by_others (λ f. false ≡ is_sign s f) (λ k. (x : Sign) × (k ≡ kind.Sign x)) (λ h. other h.0 h.1) each
    where
      each : (k : Kind) (bytes : List ℕ) → ¬ ((x : Sign) × (k ≡ kind.Sign x)) → false ≡ is_sign s (token_in (symbol_by k bytes))
      each (kind.Sign x) bytes not = absurd (not (x, refl))
      each k bytes not = refl

  pub no_number : ¬ (t.kind ≡ kind.Number) → (false ≡ is_number found) × (0 ≡ number_in found)
  unfolding is_number number_in
  no_number other = by_others (λ f. (false ≡ is_number f) × (0 ≡ number_in f)) (λ k. k ≡ kind.Number) other each
    where
      each : (k : Kind) (bytes : List ℕ) → ¬ (k ≡ kind.Number)
          → (false ≡ is_number (token_in (symbol_by k bytes))) × (0 ≡ number_in (token_in (symbol_by k bytes)))
      each kind.Number bytes not = absurd (not refl)
      each k bytes not = (refl, refl)

  pub no_cycles : ¬ (t.kind ≡ kind.Cycles) → (false ≡ is_cycles found) × (0 ≡ cycles_in found)
  unfolding is_cycles cycles_in
  no_cycles other = by_others (λ f. (false ≡ is_cycles f) × (0 ≡ cycles_in f)) (λ k. k ≡ kind.Cycles) other each
    where
      each : (k : Kind) (bytes : List ℕ) → ¬ (k ≡ kind.Cycles)
          → (false ≡ is_cycles (token_in (symbol_by k bytes))) × (0 ≡ cycles_in (token_in (symbol_by k bytes)))
      each kind.Cycles bytes not = absurd (not refl)
      each k bytes not = (refl, refl)

  pub no_operator : ((o : Operator) → ¬ (t.kind ≡ kind.Operator o)) → None ≡ operator_in found
  unfolding operator_in
  no_operator other =
      by_others (λ f. None ≡ operator_in f) (λ k. (o : Operator) × (k ≡ kind.Operator o)) (λ h. other h.0 h.1) each
    where
      each : (k : Kind) (bytes : List ℕ) → ¬ ((o : Operator) × (k ≡ kind.Operator o))
          → None ≡ operator_in (token_in (symbol_by k bytes))
      each (kind.Operator o) bytes not = absurd (not (o, refl))
      each k bytes not = refl

  pub no_constant : ¬ (t.kind ≡ kind.Constant) → None ≡ constant_in found
  unfolding constant_in
  no_constant other = by_others (λ f. None ≡ constant_in f) (λ k. k ≡ kind.Constant) other each
    where
      each : (k : Kind) (bytes : List ℕ) → ¬ (k ≡ kind.Constant) → None ≡ constant_in (token_in (symbol_by k bytes))
      each kind.Constant bytes not = absurd (not refl)
      each k bytes not = refl

  pub no_name : ¬ (t.kind ≡ kind.Name) → ((x : Sign) → ¬ (t.kind ≡ kind.Sign x)) → [] ≡ name_in found
  unfolding name_in
  no_name other not_sign =
      by_others (λ f. [] ≡ name_in f) (λ k. (k ≡ kind.Name) ⊎ ((x : Sign) × (k ≡ kind.Sign x))) neither each
    where
      neither : ¬ ((t.kind ≡ kind.Name) ⊎ ((x : Sign) × (t.kind ≡ kind.Sign x)))
      neither (inl e) = other e
      neither (inr h) = not_sign h.0 h.1

      each : (k : Kind) (bytes : List ℕ) → ¬ ((k ≡ kind.Name) ⊎ ((x : Sign) × (k ≡ kind.Sign x)))
          → [] ≡ name_in (token_in (symbol_by k bytes))
      each kind.Name bytes not = absurd (not (inl refl))
      each (kind.Sign x) bytes not = absurd (not (inr (x, refl)))
      each k bytes not = refl

-- passing over tokens
dropped : {A : Type 0} (xs : List A) (count most : ℕ) → most ≡ min count (length xs) → drop most xs ≡ drop count xs
dropped xs count most e =
    elim (cases_lt count (length xs)) [
      | inl less ↦ let same : most ≡ count = omega arith in ap (λ k. drop k xs) same
      | inr more ↦ drop_all most xs (omega arith) ∙ sym (drop_all count xs (omega arith))
    ]

pub passed : (text : List ℕ) (tokens : List of_code.Token) (count most : ℕ) → most ≡ min count (length tokens)
    → map (token_of text) (take (length tokens - most) (drop most tokens)) ≡ drop count (map (token_of text) tokens)
passed text tokens count most e =
    ap (map (token_of text)) (take_rest tokens most ∙ dropped tokens count most e) ∙ sym (drop-map (token_of text) count tokens)
