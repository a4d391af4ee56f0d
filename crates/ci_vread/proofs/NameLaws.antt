-- Names, and the widths that they have.
use Rattle.std.proofs.Common.{◌≡◌, ℕ, suc, zero, List, [], ◌∷◌, ◌++◌, refl, ap, arith, subst, Bool, true, false, not, cond, ◌||◌}
use Rattle.std.proofs.Common.{◌≤◌, ◌++◌, map, append-nil, append_assoc, sym, inl, inr, subst, ap, ◌∙◌, refl}
use Rattle.std.proofs.lemmas.List.Elements.{Contains-push_cases, All-contains, All-from_recursion}
use Rattle.ci_verilog.specs.declared.expressions.Wire.{Wire}
use Rattle.ci_verilog.specs.Modules.{inputs, declared_by, IsWire, AreWires}
use Rattle.std.specs.List.{AllByRecursion, Contains}
use Rattle.std.proofs.lemmas.Bool.{and_parts, eqb-true, eq-eqb}
use Rattle.ci_verilog.specs.Modules.{Known, vector, IsNew}
use Rattle.ci_vread.specs.Rules.{same, is_known, width_of}

pub same_is : (xs ys : List ℕ) → same xs ys ≡ true → xs ≡ ys
same_is [] [] e = refl
same_is [] (y ∷ ys) e = absurd (cc)
same_is (x ∷ xs) [] e = absurd (cc)
same_is (x ∷ xs) (y ∷ ys) e =
    let h = and_parts _ _ e in
    let first : x ≡ y = eqb-true x y h.0 in
    let others : xs ≡ ys = same_is xs ys h.1 in
    λ i. first i ∷ others i

pub not_true : (b : Bool) → not b ≡ true → b ≡ false
not_true true e = absurd (cc)
not_true false e = refl

pub not_false : (b : Bool) → b ≡ false → not b ≡ true
not_false true e = absurd (cc)
not_false false e = refl

pub known_is : (known : List Known) (bytes : List ℕ) → is_known known bytes ≡ true → Contains known (vector bytes (width_of known bytes))
known_is [] bytes e = absurd (cc)
known_is (v ∷ known) bytes e = by (same v.name bytes) refl e (known_is known bytes)
  where
    by : (t : Bool) → same v.name bytes ≡ t → (t || is_known known bytes) ≡ true
        → (is_known known bytes ≡ true → Contains known (vector bytes (width_of known bytes)))
        → Contains (v ∷ known) (vector bytes (cond t v.width (width_of known bytes)))
    by true s f others = let n = same_is v.name bytes s in (0, omega arith, λ i. vector (n i) v.width)
    by false s f others = let c = others f in (suc c.0, omega (arith, c.1), c.2)

pub same_itself : (xs : List ℕ) → same xs xs ≡ true
same_itself [] = refl
same_itself (x ∷ xs) = rw (eq-eqb x x refl, same_itself xs) refl

pub known_if : (known : List Known) (bytes : List ℕ) (w : ℕ) → Contains known (vector bytes w) → is_known known bytes ≡ true
known_if [] bytes w (k, h, e) = absurd (omega (arith, h))
known_if (v ∷ known) bytes w (zero, h, e) =
    let n : v.name ≡ bytes = ap (λ x. x.name) e in
    let s : same v.name bytes ≡ true = subst (λ b. same v.name b ≡ true) n (same_itself v.name) in
    rw s refl
known_if (v ∷ known) bytes w (suc k, h, e) = by (same v.name bytes) (known_if known bytes w (k, omega (arith, h), e))
  where
    by : (t : Bool) → is_known known bytes ≡ true → (t || is_known known bytes) ≡ true
    by true e = refl
    by false e = e

pub is_new : (known : List Known) (bytes : List ℕ) → not (is_known known bytes) ≡ true → IsNew known bytes
is_new known bytes e w c = let f : not true ≡ true = subst (λ t. not t ≡ true) (known_if known bytes w c) e in absurd (cc)

pub unknown_if : (known : List Known) (bytes : List ℕ) → IsNew known bytes → is_known known bytes ≡ false
unknown_if known bytes new = by (is_known known bytes) refl
  where
    by : (b : Bool) → is_known known bytes ≡ b → is_known known bytes ≡ false
    by true e = absurd (new (width_of known bytes) (known_is known bytes e))
    by false e = e

pub width_in_both : (known others : List Known) (bytes : List ℕ) → width_of (known ++ others) bytes ≡ cond (is_known known bytes) (width_of known bytes)
    (width_of others bytes)
width_in_both [] others bytes = refl
width_in_both (v ∷ known) others bytes = by (same v.name bytes) (width_in_both known others bytes)
  where
    by : (t : Bool) → width_of (known ++ others) bytes ≡ cond (is_known known bytes) (width_of known bytes) (width_of others bytes)
        → cond t v.width (width_of (known ++ others) bytes) ≡ cond (t || is_known known bytes) (cond t v.width (width_of known bytes)) (width_of others bytes)
    by true e = refl
    by false e = e

-- ---- tables of names

-- the name has this width alone, which is from 1 to 64
pub record IsWidth (known : List Known) (bytes : List ℕ) (width : ℕ) : Type 0 where
  pub once : width_of known bytes ≡ width
  pub least : 1 ≤ width
  pub most : width ≤ 64

abbrev pub IsTable : List Known → Type 0
IsTable known = (bytes : List ℕ) (width : ℕ) → Contains known (vector bytes width) → IsWidth known bytes width

-- an input's name is one input's alone, which is 32 wide
abbrev IsOneInput : Bool → Known → Type 0
IsOneInput wide v = (width_of (inputs wide) v.name ≡ 32) × (v.width ≡ 32)

inputs_differ : (wide : Bool) → AllByRecursion (IsOneInput wide) (inputs wide)
inputs_differ false = ((refl, refl), ((refl, refl), ((refl, refl), tt)))
inputs_differ true = ((refl, refl), ((refl, refl), ((refl, refl), ((refl, refl), ((refl, refl), tt)))))

pub inputs_are : (wide : Bool) → IsTable (inputs wide)
inputs_are wide bytes width c =
    let all = All-from_recursion (IsOneInput wide) (inputs wide) (inputs_differ wide) in
    let o = All-contains (IsOneInput wide) (inputs wide) (vector bytes width) all c in
    record { once = o.0 ∙ sym o.1; least = omega (arith, o.1); most = omega (arith, o.1) }

pub one_more_name : (known : List Known) (w : Wire) → IsTable known → IsWire known w → IsTable (known ++ declared_by w ∷ [])
one_more_name known w table is bytes v c = elim (Contains-push_cases known (declared_by w) (vector bytes v) c) [
  | inl i ↦
      let o = table bytes v i in
      record {
        once = width_in_both known (declared_by w ∷ []) bytes ∙ (rw (known_if known bytes v i) o.once);
        least = o.least;
        most = o.most;
      }
  | inr e ↦
      let named : w.name ≡ bytes = ap (λ u. u.name) e in
      let wide : w.width ≡ v = ap (λ u. u.width) e in
      let unknown : is_known known bytes ≡ false = subst (λ b. is_known known b ≡ false) named (unknown_if known w.name is.is_new) in
      let found : same w.name bytes ≡ true = subst (λ b. same w.name b ≡ true) named (same_itself w.name) in
      record {
        once = width_in_both known (declared_by w ∷ []) bytes ∙ (rw (unknown, found) wide);
        least = subst (λ n. 1 ≤ n) wide is.least;
        most = subst (λ n. n ≤ 64) wide is.most;
      }
]

pub all_names : (known : List Known) (ws : List Wire) → IsTable known → AreWires known ws → IsTable (known ++ map declared_by ws)
all_names known [] table are = subst IsTable (sym (append-nil known)) table
all_names known (w ∷ ws) table are =
    subst IsTable (append_assoc known (declared_by w ∷ []) (map declared_by ws))
    (all_names (known ++ declared_by w ∷ []) ws (one_more_name known w table are.0) are.1)
