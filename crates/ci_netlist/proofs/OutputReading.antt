-- Reading the bits of the results is exact.
use Rattle.std.proofs.Common.{◌≡◌, ℕ, zero, suc, ◌<◌, ◌≤◌, List, [], ◌∷◌, ◌++◌, length, take, drop, refl, sym}
use Rattle.std.proofs.Common.{ap, ◌∙◌, subst, arith, append_assoc, append-nil, false}
use Rattle.std.specs.Prelude.{codes, ⊤}
use Rattle.std.specs.List.{flat_map}
use Rattle.std.specs.Char.{is_ascii_digit}
use Rattle.std.proofs.lemmas.List.{length-append, take_at, drop_at, drop-drop}
use Rattle.std.proofs.lemmas.List.{take-append-drop, length-take-le, length-drop}
use Rattle.ci_reading.proofs.Languages.{Plainly, joined, mapped, IsGiven, given}
use Rattle.ci_reading.proofs.Exact.{IsExact, also, give}
use Rattle.ci_reading.proofs.WordReading.{is_word}
use Rattle.ci_reading.proofs.Readers.{part, shown, a_word}
use Rattle.ci_netlist.specs.declared.bits.Bit.{Bit}
use Rattle.ci_netlist.specs.declared.bits.Bit.TheVariants as bit
use Rattle.ci_netlist.specs.Netlists.{IsBit}
use Rattle.ci_netlist.specs.Texts.{bit_text, bits_line, outputs_text}
use Rattle.ci_netlist.specs.private.Reading.{end_of, bits_read, result_read, outputs_read}
use Rattle.ci_netlist.proofs.FoundReading.{Other, most, TextReader}
use Rattle.ci_netlist.proofs.BitReading.{a_bit}

abbrev pub AllBits : ℕ → List Bit → Type 0
AllBits made [] = ⊤
AllBits made (b ∷ bits) = IsBit made b × AllBits made bits

-- the last bit ends with the line, and each other one with a space
abbrev pub bits_text : List Bit → List ℕ
bits_text [] = []
bits_text (b ∷ bits) = (bit_text b ++ end_of (length bits) ∷ []) ++ bits_text bits

-- a space before each bit but the first, which the word ends with, and the line's end
bits_line_is : (word : List ℕ) (b : Bit) (bits : List Bit)
    → bits_line word (b ∷ bits) ≡ (word ++ 32 ∷ []) ++ bits_text (b ∷ bits)
unfolding bits_line
bits_line_is word b bits =
    append_assoc word (flat_map (λ b. 32 ∷ bit_text b) (b ∷ bits)) (10 ∷ [])
    ∙ ap (λ v. word ++ v) (spaced b bits)
    ∙ sym (append_assoc word (32 ∷ []) (bits_text (b ∷ bits)))
  where
    spaced : (b : Bit) (bits : List Bit)
        → flat_map (λ b. 32 ∷ bit_text b) (b ∷ bits) ++ 10 ∷ [] ≡ 32 ∷ bits_text (b ∷ bits)
    spaced b [] = ap (λ v. 32 ∷ v)
        (ap (λ v. v ++ 10 ∷ []) (append-nil (bit_text b)) ∙ sym (append-nil (bit_text b ++ 10 ∷ [])))
    spaced b (c ∷ bits) = ap (λ v. 32 ∷ v)
        (append_assoc (bit_text b) (flat_map (λ b. 32 ∷ bit_text b) (c ∷ bits)) (10 ∷ [])
        ∙ ap (λ v. bit_text b ++ v) (spaced c bits)
        ∙ sym (append_assoc (bit_text b) (32 ∷ []) (bits_text (c ∷ bits))))

pub line_is : (word : List ℕ) (bits : List Bit) → 0 < length bits
    → bits_line word bits ≡ (word ++ 32 ∷ []) ++ bits_text bits
line_is word [] some = absurd (omega arith)
line_is word (b ∷ bits) some = bits_line_is word b bits

outputs_text_is : (y z x : List Bit) → length y ≡ 32 → length z ≡ 32 → length x ≡ 32
    → outputs_text (y ++ (z ++ x))
    ≡ (codes "y " ++ bits_text y) ++ ((codes "z " ++ bits_text z) ++ (codes "x " ++ bits_text x))
unfolding outputs_text
outputs_text_is y z x wide_y wide_z wide_x =
    let first : take 32 (y ++ (z ++ x)) ≡ y = take_at y (z ++ x) 32 wide_y in
    let rest : drop 32 (y ++ (z ++ x)) ≡ z ++ x = drop_at y (z ++ x) 32 wide_y in
    let second : take 32 (drop 32 (y ++ (z ++ x))) ≡ z = ap (take 32) rest ∙ take_at z x 32 wide_z in
    let third : drop 64 (y ++ (z ++ x)) ≡ x =
    sym (drop-drop 32 32 (y ++ (z ++ x))) ∙ ap (drop 32) rest ∙ drop_at z x 32 wide_z in
    λ i. (ap (bits_line (codes "y")) first ∙ line_is (codes "y") y (omega (arith, wide_y))) i
    ++ ((ap (bits_line (codes "z")) second ∙ line_is (codes "z") z (omega (arith, wide_z))) i
    ++ (ap (bits_line (codes "x")) third ∙ line_is (codes "x") x (omega (arith, wide_x))) i)

module _ (made : ℕ) where
  all_both : (xs ys : List Bit) → AllBits made xs → AllBits made ys → AllBits made (xs ++ ys)
  all_both [] ys first second = second
  all_both (b ∷ xs) ys first second = (first.0, all_both xs ys first.1 second)

  all_parts : (xs ys : List Bit) → AllBits made (xs ++ ys) → AllBits made xs × AllBits made ys
  all_parts [] ys all = (tt, all)
  all_parts (b ∷ xs) ys all = let rest = all_parts xs ys all.1 in ((all.0, rest.0), rest.1)

-- ---- bits one after the other

abbrev pub AreBitsText : ℕ → ℕ → List ℕ → List Bit → Type 0
AreBitsText made count ys bits = AllBits made bits × (length bits ≡ count) × (ys ≡ bits_text bits)

pub some_bits : (made count : ℕ) → (ys : List ℕ) × (bits : List Bit) × AreBitsText made count ys bits
some_bits made zero = ([], [], (tt, refl, refl))
some_bits made (suc n) =
    let rest = some_bits made n in
    (bits_text (bit.Zero ∷ rest.1), bit.Zero ∷ rest.1, ((record { names = tt }, rest.2.0), ap suc rest.2.1, refl))

end_no_digit : (n : ℕ) → is_ascii_digit (end_of n) ≡ false
end_no_digit zero = refl
end_no_digit (suc n) = refl

none_exact : (made n : ℕ) → IsExact Other most n (bits_read made zero) (Plainly (AreBitsText made zero))
unfolding bits_read
none_exact made n = also to from (give n [])
  where
    to : (ys : List ℕ) (bits : List Bit) → IsGiven {A = List Bit} [] ys bits → AreBitsText made zero ys bits
    to _ _ given = (tt, refl, refl)

    from : (ys : List ℕ) (bits : List Bit) → AreBitsText made zero ys bits → IsGiven {A = List Bit} [] ys bits
    from ys [] is = subst (λ v. IsGiven {A = List Bit} [] v []) (sym is.2) given
    from ys (b ∷ bits) is = absurd (let e = is.1 in omega (arith, e))

module _ (made count : ℕ) (few : made ≤ 4194304)
    (rest_exact : (n : ℕ) → IsExact Other most n (bits_read made count) (Plainly (AreBitsText made count))) where
  abbrev rest : TextReader (List Bit)
  rest =
      record {
        read = bits_read made count;
        Is = AreBitsText made count;
        exact = rest_exact;
        some = some_bits made count;
      }

  abbrev bits_parts : TextReader (List Bit)
  bits_parts = part (a_bit made (end_of count) few (end_no_digit count)) (λ b. shown (λ bs. b ∷ bs) rest)

  to_bits : (ys : List ℕ) (bits : List Bit) → bits_parts.Is ys bits → AreBitsText made (suc count) ys bits
  to_bits _ _ (joined _ _ b _ is (mapped zs bs are)) =
      ((is.0, are.0), ap suc are.1, λ i. (is.1 ∙ ap (λ n. bit_text b ++ end_of n ∷ []) (sym are.1)) i ++ are.2 i)

  from_bits : (ys : List ℕ) (bits : List Bit) → AreBitsText made (suc count) ys bits → bits_parts.Is ys bits
  from_bits ys [] are = absurd (let e = are.1 in omega (arith, e))
  from_bits ys (b ∷ bs) are =
      let same : length bs ≡ count = let e = are.1 in omega (arith, e) in
      subst (λ v. bits_parts.Is v (b ∷ bs)) (sym are.2)
      (joined (bit_text b ++ end_of (length bs) ∷ []) (bits_text bs) b (b ∷ bs)
      (are.0.0, ap (λ n. bit_text b ++ end_of n ∷ []) same) (mapped (bits_text bs) bs (are.0.1, same, refl)))

  more_exact : (n : ℕ) → IsExact Other most n (bits_read made (suc count)) (Plainly (AreBitsText made (suc count)))
  unfolding bits_read
  more_exact n = also to_bits from_bits (bits_parts.exact n)

abbrev pub AreOutputsText : ℕ → List ℕ → List Bit → Type 0
AreOutputsText made ys bits = AllBits made bits × (length bits ≡ 96) × (ys ≡ outputs_text bits)

module _ (made : ℕ) (few : made ≤ 4194304) where
  pub bits_exact : (count n : ℕ) → IsExact Other most n (bits_read made count) (Plainly (AreBitsText made count))
  bits_exact zero n = none_exact made n
  bits_exact (suc count) n = more_exact made count few (bits_exact count) n

  abbrev the_bits : TextReader (List Bit)
  the_bits =
      record { read = bits_read made 32; Is = AreBitsText made 32; exact = bits_exact 32; some = some_bits made 32 }

  -- ---- the three results

  abbrev IsResultText : List ℕ → List ℕ → List Bit → Type 0
  IsResultText letter ys bits = AllBits made bits × (length bits ≡ 32) × (ys ≡ letter ++ bits_text bits)

  abbrev result_parts : List ℕ → TextReader (List Bit)
  result_parts letter = part (a_word letter) (λ w. the_bits)

  to_result : (letter ys : List ℕ) (bits : List Bit) → (result_parts letter).Is ys bits → IsResultText letter ys bits
  to_result letter _ _ (joined _ _ _ _ is_word are) = (are.0, are.1, ap (λ v. letter ++ v) are.2)

  from_result : (letter ys : List ℕ) (bits : List Bit) → IsResultText letter ys bits → (result_parts letter).Is ys bits
  from_result letter ys bits is =
      subst (λ v. (result_parts letter).Is v bits) (sym is.2)
      (joined letter (bits_text bits) tt bits is_word (is.0, is.1, refl))

  pub result_exact : (letter : List ℕ) (n : ℕ)
      → IsExact Other most n (result_read letter made) (Plainly (IsResultText letter))
  unfolding result_read
  result_exact letter n = also (to_result letter) (from_result letter) ((result_parts letter).exact n)

  abbrev a_result : List ℕ → TextReader (List Bit)
  a_result letter = record {
    read = result_read letter made;
    Is = IsResultText letter;
    exact = result_exact letter;
    some = let s = some_bits made 32 in (letter ++ bits_text s.1, s.1, (s.2.0, s.2.1, refl));
  }

  abbrev outputs_parts : TextReader (List Bit)
  outputs_parts = part (a_result (codes "y "))
      (λ y. part (a_result (codes "z ")) (λ z. shown (λ x. y ++ (z ++ x)) (a_result (codes "x "))))

  pub to_outputs : (ys : List ℕ) (bits : List Bit) → outputs_parts.Is ys bits → AreOutputsText made ys bits
  to_outputs _ _ (joined ys _ y _ is_y (joined zs _ z _ is_z (mapped xs x is_x))) = (
    all_both made y (z ++ x) is_y.0 (all_both made z x is_z.0 is_x.0),
    (let e = length-append y (z ++ x) in let f = length-append z x in omega (arith, e, f, is_y.1, is_z.1, is_x.1)),
    (λ i. is_y.2 i ++ (is_z.2 i ++ is_x.2 i)) ∙ sym (outputs_text_is y z x is_y.1 is_z.1 is_x.1),
  )

  from_outputs : (ys : List ℕ) (bits : List Bit) → AreOutputsText made ys bits → outputs_parts.Is ys bits
  from_outputs ys bits is =
      let y = take 32 bits in
      let z = take 32 (drop 32 bits) in
      let x = drop 64 bits in
      let wide_y : length y ≡ 32 = let e = is.1 in length-take-le 32 bits (omega (arith, e)) in
      let rest : length (drop 32 bits) ≡ 64 = let e = is.1 in let f = length-drop 32 bits in omega (arith, e, f) in
      let wide_z : length z ≡ 32 = length-take-le 32 (drop 32 bits) (omega (arith, rest)) in
      let last : drop 32 (drop 32 bits) ≡ x = drop-drop 32 32 bits in
      let wide_x : length x ≡ 32 = let e = is.1 in let f = length-drop 64 bits in omega (arith, e, f) in
      let whole : bits ≡ y ++ (z ++ x) =
      sym (take-append-drop 32 bits)
      ∙ ap (λ v. y ++ v) (sym (take-append-drop 32 (drop 32 bits)) ∙ ap (λ v. z ++ v) last) in
      let parts = all_parts made y (z ++ x) (subst (AllBits made) whole is.0) in
      let others = all_parts made z x parts.1 in
      subst (λ v. outputs_parts.Is v bits)
      (sym (is.2 ∙ ap outputs_text whole ∙ outputs_text_is y z x wide_y wide_z wide_x))
      (subst (λ v. outputs_parts.Is
      ((codes "y " ++ bits_text y) ++ ((codes "z " ++ bits_text z) ++ (codes "x " ++ bits_text x))) v) (sym whole)
      (joined (codes "y " ++ bits_text y) _ y _ (parts.0, wide_y, refl)
      (joined (codes "z " ++ bits_text z) _ z _ (others.0, wide_z, refl)
      (mapped (codes "x " ++ bits_text x) x (others.1, wide_x, refl)))))

  pub outputs_exact : (n : ℕ) → IsExact Other most n (outputs_read made) (Plainly (AreOutputsText made))
  unfolding outputs_read
  outputs_exact n = also to_outputs from_outputs (outputs_parts.exact n)

  abbrev pub the_outputs : TextReader (List Bit)
  the_outputs = record {
    read = outputs_read made;
    Is = AreOutputsText made;
    exact = outputs_exact;
    some = let s = outputs_parts.some in (s.0, s.1, to_outputs s.0 s.1 s.2);
  }
