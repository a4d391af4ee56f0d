-- Reading gates, one after the other, is exact.
use Rattle.std.proofs.Common.{◌≡◌, ℕ, zero, suc, ◌+◌, ◌≤◌, Bool, true, false}
use Rattle.std.proofs.Common.{eqb, cond, List, [], ◌∷◌, ◌++◌, length, refl, sym}
use Rattle.std.proofs.Common.{ap, ◌∙◌, subst, arith, append_assoc, append-nil, Some, None}
use Rattle.std.specs.Prelude.{codes, ⊤}
use Rattle.std.specs.List.{flat_map}
use Rattle.std.proofs.lemmas.Bool.{eqb-true}
use Rattle.ci_reading.proofs.Languages.{Plainly, joined, mapped, IsGiven, given}
use Rattle.ci_reading.proofs.Exact.{IsExact, also, give}
use Rattle.ci_reading.proofs.WordReading.{is_word}
use Rattle.ci_reading.proofs.Readers.{part, shown, a_word}
use Rattle.ci_netlist.specs.declared.bits.Bit.{Bit}
use Rattle.ci_netlist.specs.declared.bits.Bit.TheVariants as bit
use Rattle.ci_netlist.specs.declared.bits.Gate.{Gate}
use Rattle.ci_netlist.specs.declared.bits.Gate.TheVariants as gate
use Rattle.ci_netlist.specs.declared.starts.Kind.{Kind}
use Rattle.ci_netlist.specs.declared.starts.Kind.TheVariants.{And, Or, Xor}
use Rattle.ci_netlist.specs.Netlists.{IsBit, HasBits}
use Rattle.ci_netlist.specs.Texts.{bit_text, bits_line, gate_text}
use Rattle.ci_netlist.specs.private.Reading.{kind_of, kind_rest, gate_of, gate_read, gates_read}
use Rattle.ci_netlist.proofs.FoundReading.{Other, most, TextReader, a_found}
use Rattle.ci_netlist.proofs.BitReading.{a_bit}

-- ---- how a gate's line begins

abbrev kind_byte : Kind → ℕ
kind_byte And = 97
kind_byte Or = 111
kind_byte Xor = 120

kind_is_by : (x : ℕ) (k : Kind) (a b c : Bool) → eqb x 97 ≡ a → eqb x 111 ≡ b → eqb x 120 ≡ c
    → cond a (Some And) (cond b (Some Or) (cond c (Some Xor) None)) ≡ Some k → x ≡ kind_byte k
kind_is_by x k true b c is_a is_b is_c e = let same : And ≡ k = cc in eqb-true x 97 is_a ∙ ap kind_byte same
kind_is_by x k false true c is_a is_b is_c e = let same : Or ≡ k = cc in eqb-true x 111 is_b ∙ ap kind_byte same
kind_is_by x k false false true is_a is_b is_c e = let same : Xor ≡ k = cc in eqb-true x 120 is_c ∙ ap kind_byte same
kind_is_by x k false false false is_a is_b is_c e = absurd cc

kind_is : (x : ℕ) (k : Kind) → kind_of x ≡ Some k → x ≡ kind_byte k
kind_is x k e = kind_is_by x k (eqb x 97) (eqb x 111) (eqb x 120) refl refl refl e

byte_is : (k : Kind) → kind_of (kind_byte k) ≡ Some k
byte_is And = refl
byte_is Or = refl
byte_is Xor = refl

-- ---- gates

-- the text of a gate, by its kind and its bits
abbrev kind_text : Kind → Bit → Bit → List ℕ
kind_text k l r = kind_byte k ∷ (kind_rest k ++ ((bit_text l ++ 32 ∷ []) ++ (bit_text r ++ 10 ∷ [])))

line_of_two : (word : List ℕ) (l r : Bit)
    → bits_line word (l ∷ r ∷ []) ≡ word ++ (32 ∷ ((bit_text l ++ 32 ∷ []) ++ (bit_text r ++ 10 ∷ [])))
unfolding bits_line
line_of_two word l r =
    append_assoc word (32 ∷ (bit_text l ++ (32 ∷ (bit_text r ++ [])))) (10 ∷ [])
    ∙ ap (λ v. word ++ 32 ∷ v)
    (append_assoc (bit_text l) (32 ∷ (bit_text r ++ [])) (10 ∷ [])
    ∙ ap (λ v. bit_text l ++ 32 ∷ (v ++ 10 ∷ [])) (append-nil (bit_text r))
    ∙ sym (append_assoc (bit_text l) (32 ∷ []) (bit_text r ++ 10 ∷ [])))

kind_text_is : (k : Kind) (l r : Bit) → gate_text (gate_of k l r) ≡ kind_text k l r
kind_text_is And l r = line_of_two (codes "and") l r
kind_text_is Or l r = line_of_two (codes "or") l r
kind_text_is Xor l r = line_of_two (codes "xor") l r

kind_bits : (made : ℕ) (k : Kind) (l r : Bit) → IsBit made l → IsBit made r → HasBits made (gate_of k l r)
kind_bits made And l r is_l is_r = (is_l, is_r)
kind_bits made Or l r is_l is_r = (is_l, is_r)
kind_bits made Xor l r is_l is_r = (is_l, is_r)

module _ (made : ℕ) (few : made ≤ 4194304) where
  abbrev pub IsGateText : List ℕ → Gate → Type 0
  IsGateText ys g = HasBits made g × (ys ≡ gate_text g)

  abbrev gate_parts : TextReader Gate
  gate_parts = part (a_found kind_of 97 And refl)
      (λ k. part (a_word (kind_rest k))
      (λ w. part (a_bit made 32 few refl) (λ l. shown (λ r. gate_of k l r) (a_bit made 10 few refl))))

  to_gate : (ys : List ℕ) (g : Gate) → gate_parts.Is ys g → IsGateText ys g
  to_gate _ _ (joined ys _ k _ f (joined _ _ _ _ is_word (joined ls _ l _ is_l (mapped rs r is_r)))) = (
    kind_bits made k l r is_l.0 is_r.0,
    (λ i. (f.1 ∙ ap (λ x. x ∷ []) (kind_is f.0 k f.2)) i ++ (kind_rest k ++ (is_l.1 i ++ is_r.1 i)))
        ∙ sym (kind_text_is k l r),
  )

  from_kind : (k : Kind) (l r : Bit) → IsBit made l → IsBit made r
      → gate_parts.Is (gate_text (gate_of k l r)) (gate_of k l r)
  from_kind k l r is_l is_r =
      subst (λ v. gate_parts.Is v (gate_of k l r)) (sym (kind_text_is k l r))
      (joined (kind_byte k ∷ []) _ k _ (kind_byte k, refl, byte_is k)
      (joined (kind_rest k) _ tt _ is_word
      (joined (bit_text l ++ 32 ∷ []) _ l _ (is_l, refl) (mapped (bit_text r ++ 10 ∷ []) r (is_r, refl)))))

  from_gate_by : (g : Gate) → HasBits made g → gate_parts.Is (gate_text g) g
  from_gate_by (gate.And l r) has = from_kind And l r has.0 has.1
  from_gate_by (gate.Or l r) has = from_kind Or l r has.0 has.1
  from_gate_by (gate.Xor l r) has = from_kind Xor l r has.0 has.1

  from_gate : (ys : List ℕ) (g : Gate) → IsGateText ys g → gate_parts.Is ys g
  from_gate ys g is = subst (λ v. gate_parts.Is v g) (sym is.1) (from_gate_by g is.0)

  pub gate_exact : (n : ℕ) → IsExact Other most n (gate_read made) (Plainly IsGateText)
  unfolding gate_read
  gate_exact n = also to_gate from_gate (gate_parts.exact n)

  abbrev pub a_gate : TextReader Gate
  a_gate = record {
    read = gate_read made;
    Is = IsGateText;
    exact = gate_exact;
    some = (
      gate_text (gate.And bit.Zero bit.Zero),
      gate.And bit.Zero bit.Zero,
      ((record { names = tt }, record { names = tt }), refl),
    );
  }

-- ---- gates one after the other

-- each names bits of inputs and of gates before it, where so many others are earlier
abbrev pub AreFrom : ℕ → List Gate → Type 0
AreFrom made [] = ⊤
AreFrom made (g ∷ gates) = HasBits made g × AreFrom (made + 1) gates

abbrev pub AreGatesText : ℕ → ℕ → List ℕ → List Gate → Type 0
AreGatesText made count ys gates = AreFrom made gates × (length gates ≡ count) × (ys ≡ flat_map gate_text gates)

pub some_gates : (made count : ℕ) → (ys : List ℕ) × (gates : List Gate) × AreGatesText made count ys gates
some_gates made zero = ([], [], (tt, refl, refl))
some_gates made (suc n) =
    let rest = some_gates (made + 1) n in
    let g = gate.And bit.Zero bit.Zero in (
      gate_text g ++ rest.0,
      g ∷ rest.1,
      (
        ((record { names = tt }, record { names = tt }), rest.2.0),
        ap suc rest.2.1,
        ap (λ v. gate_text g ++ v) rest.2.2,
      ),
    )

pub none_exact : (made n : ℕ) → IsExact Other most n (gates_read made zero) (Plainly (AreGatesText made zero))
unfolding gates_read
none_exact made n = also to from (give n [])
  where
    to : (ys : List ℕ) (gates : List Gate) → IsGiven {A = List Gate} [] ys gates → AreGatesText made zero ys gates
    to _ _ given = (tt, refl, refl)

    from : (ys : List ℕ) (gates : List Gate) → AreGatesText made zero ys gates → IsGiven {A = List Gate} [] ys gates
    from ys [] is = subst (λ v. IsGiven {A = List Gate} [] v []) (sym is.2) given
    from ys (g ∷ gates) is = absurd (let e = is.1 in omega (arith, e))

module _ (made count : ℕ) (few : made ≤ 4194304)
    (rest_exact : (n : ℕ)
    → IsExact Other most n (gates_read (made + 1) count) (Plainly (AreGatesText (made + 1) count))) where
  abbrev rest : TextReader (List Gate)
  rest = record {
    read = gates_read (made + 1) count;
    Is = AreGatesText (made + 1) count;
    exact = rest_exact;
    some = some_gates (made + 1) count;
  }

  abbrev gates_parts : TextReader (List Gate)
  gates_parts = part (a_gate made few) (λ g. shown (λ gs. g ∷ gs) rest)

  to_gates : (ys : List ℕ) (gates : List Gate) → gates_parts.Is ys gates → AreGatesText made (suc count) ys gates
  to_gates _ _ (joined _ _ g _ is (mapped zs gs are)) = ((is.0, are.0), ap suc are.1, λ i. is.1 i ++ are.2 i)

  from_gates : (ys : List ℕ) (gates : List Gate) → AreGatesText made (suc count) ys gates → gates_parts.Is ys gates
  from_gates ys [] are = absurd (let e = are.1 in omega (arith, e))
  from_gates ys (g ∷ gs) are =
      subst (λ v. gates_parts.Is v (g ∷ gs)) (sym are.2)
      (joined (gate_text g) (flat_map gate_text gs) g (g ∷ gs) (are.0.0, refl)
      (mapped (flat_map gate_text gs) gs (are.0.1, (let e = are.1 in omega (arith, e)), refl)))

  pub more_exact : (n : ℕ)
      → IsExact Other most n (gates_read made (suc count)) (Plainly (AreGatesText made (suc count)))
  unfolding gates_read
  more_exact n = also to_gates from_gates (gates_parts.exact n)

pub gates_exact : (made count : ℕ) → made + count ≤ 4194304 → (n : ℕ)
    → IsExact Other most n (gates_read made count) (Plainly (AreGatesText made count))
gates_exact made zero few n = none_exact made n
gates_exact made (suc count) few n = more_exact made count (omega arith) (gates_exact (made + 1) count (omega arith)) n

abbrev pub the_gates : (made count : ℕ) → made + count ≤ 4194304 → TextReader (List Gate)
the_gates made count few = record {
  read = gates_read made count;
  Is = AreGatesText made count;
  exact = gates_exact made count few;
  some = some_gates made count;
}
