-- Lists that are read one thing after the other.
use Rattle.std.proofs.Common.{◌≡◌, ℕ, zero, suc, ◌+◌, Bool, true, false, List, [], ◌∷◌, ◌++◌, drop, refl, sym, ap, ◌∙◌, subst, append_assoc, ◌⊎◌, inl, inr}
use Rattle.std.specs.List.{AllByRecursion}
use Rattle.std.proofs.lemmas.List.{append-nil}
use Rattle.ci_reading.proofs.BrokenLaws.{kept_back}
use Rattle.ci_verilog.specs.declared.expressions.Item.{Item}
use Rattle.ci_vread.specs.Lexicon.{Token}
use Rattle.ci_vread.specs.private.Building.{many, many_by, begins_item, item_of, items_of}

module _ {A : Type 0} (begins : List Token → Bool) (read : ℕ → List Token → A × List Token) where
  -- so much was read of the whole, and what is read next is the rest of it
  pub record IsReadUpTo (most k : ℕ) (xs : List A) (tokens : List Token) (whole : List A × List Token) : Type 0 where
    pub items : xs ++ (many begins read most k tokens).0 ≡ whole.0
    pub rest : (many begins read most k tokens).1 ≡ whole.1

  pub one_more : (most k : ℕ) (tokens : List Token) → begins tokens ≡ true → many begins read (suc most) k tokens
      ≡ ((read k tokens).0 ∷ (many begins read most (k + 1) (read k tokens).1).0, (many begins read most (k + 1) (read k tokens).1).1)
  unfolding many
  one_more most k tokens is = ap (λ b. many_by begins read (suc most) k b tokens) is

  pub no_more : (most k : ℕ) (tokens : List Token) → begins tokens ≡ false → many begins read most k tokens ≡ ([], tokens)
  unfolding many
  no_more zero k tokens not = refl
  no_more (suc most) k tokens not = ap (λ b. many_by begins read (suc most) k b tokens) not

  pub none_left : (k : ℕ) (tokens : List Token) → many begins read 0 k tokens ≡ ([], tokens)
  unfolding many
  none_left k tokens = refl

  module _ (whole : List A × List Token) where
    pub starts : (most k : ℕ) (tokens : List Token) → many begins read most k tokens ≡ whole → IsReadUpTo most k [] tokens whole
    starts most k tokens e = record { items = ap (λ w. w.0) e; rest = ap (λ w. w.1) e }

    pub goes_on : (most less k : ℕ) (xs more : List A) (x : A) (tokens rest : List Token) → most ≡ suc less
        → begins tokens ≡ true → x ≡ (read k tokens).0 → rest ≡ (read k tokens).1 → more ≡ xs ++ x ∷ []
        → IsReadUpTo most k xs tokens whole → IsReadUpTo less (k + 1) more rest whole
    goes_on most less k xs more x tokens rest same is value behind pushed up =
        let e = ap (λ m. many begins read m k tokens) same ∙ one_more less k tokens is in
        let later = many begins read less (k + 1) rest in
        record {
          items = ap (λ ys. ys ++ later.0) pushed ∙ append_assoc xs (x ∷ []) later.0
              ∙ (λ i. xs ++ value i ∷ (many begins read less (k + 1) (behind i)).0) ∙ ap (λ w. xs ++ w.0) (sym e) ∙ up.items;
          rest = ap (λ ts. (many begins read less (k + 1) ts).1) behind ∙ ap (λ w. w.1) (sym e) ∙ up.rest;
        }

    ended_by : (most k : ℕ) (xs : List A) (tokens : List Token) → many begins read most k tokens ≡ ([], tokens)
        → IsReadUpTo most k xs tokens whole → (xs ≡ whole.0) × (tokens ≡ whole.1)
    ended_by most k xs tokens e up =
        (sym (append-nil xs) ∙ ap (λ w. xs ++ w.0) (sym e) ∙ up.items, ap (λ w. w.1) (sym e) ∙ up.rest)

    -- where nothing more begins, or no more may, the whole was read
    pub stops : (most k : ℕ) (xs : List A) (tokens : List Token) → (most ≡ 0) ⊎ (begins tokens ≡ false)
        → IsReadUpTo most k xs tokens whole → (xs ≡ whole.0) × (tokens ≡ whole.1)
    stops most k xs tokens (inl none) up =
        ended_by most k xs tokens (ap (λ m. many begins read m k tokens) none ∙ none_left k tokens) up
    stops most k xs tokens (inr not) up = ended_by most k xs tokens (no_more most k tokens not) up

    pub next_keeps : (P : A → Type 0) (most less k : ℕ) (xs : List A) (tokens : List Token) → most ≡ suc less
        → begins tokens ≡ true → IsReadUpTo most k xs tokens whole → AllByRecursion P whole.0 → P (read k tokens).0
    next_keeps P most less k xs tokens same is up all =
        let e = ap (λ m. many begins read m k tokens) same ∙ one_more less k tokens is in
        let later = many begins read less (k + 1) (read k tokens).1 in
        (kept_back P xs ((read k tokens).0 ∷ later.0) (subst (AllByRecursion P) (sym up.items ∙ ap (λ w. xs ++ w.0) e) all)).0

-- the items of a concatenation, behind the first one
pub items_begun : (tokens rest : List Token) (x : Item) (xs : List Item) → x ≡ (item_of tokens).0 → rest ≡ (item_of tokens).1
    → xs ≡ x ∷ [] → IsReadUpTo begins_item (λ k rest. item_of (drop 1 rest)) 63 1 xs rest (items_of tokens)
unfolding items_of
items_begun tokens rest x xs value behind pushed = record {
  items = ap (λ ys. ys ++ (many begins_item (λ k rest. item_of (drop 1 rest)) 63 1 rest).0) pushed
      ∙ (λ i. value i ∷ (many begins_item (λ k rest. item_of (drop 1 rest)) 63 1 (behind i)).0);
  rest = ap (λ ts. (many begins_item (λ k rest. item_of (drop 1 rest)) 63 1 ts).1) behind;
}
