-- Reading a netlist is exact.
use Rattle.std.proofs.Common.{◌≡◌, ℕ, zero, suc, ◌+◌, ◌<◌, ◌≤◌, List, [], ◌∷◌, ◌++◌, length, refl, sym}
use Rattle.std.proofs.Common.{ap, ◌∙◌, subst, arith, append_assoc, lit≤, zero-le}
use Rattle.std.specs.Prelude.{codes}
use Rattle.std.specs.List.{flat_map, slice_index_or}
use Rattle.std.specs.Fmt.{decimal}
use Rattle.std.proofs.Math.Nat.{le_refl}
use Rattle.ci_reading.specs.LineReading.{view, ◌>>=◌}
use Rattle.ci_reading.proofs.Languages.{Plainly, Then, joined, Mapped, mapped}
use Rattle.ci_reading.proofs.Exact.{IsExact, also, and_then}
use Rattle.ci_reading.proofs.WordReading.{is_word}
use Rattle.ci_reading.proofs.Readers.{part, shown, behind, a_number_alone}
use Rattle.ci_netlist.specs.declared.bits.Bit.{Bit}
use Rattle.ci_netlist.specs.declared.bits.Gate.{Gate}
use Rattle.ci_netlist.specs.Netlists.{Netlist, IsBit, AreBits, HasBits, AreGates, IsNetlist}
use Rattle.ci_netlist.specs.Texts.{gate_text, header_text, outputs_text, netlist_text}
use Rattle.ci_netlist.specs.private.Reading.{numbers, netlist_of, header_read, gates_read, outputs_read, netlist_read}
use Rattle.ci_netlist.proofs.FoundReading.{Other, most, TextReader}
use Rattle.ci_netlist.proofs.GateReading.{AreFrom, AreGatesText, the_gates}
use Rattle.ci_netlist.proofs.OutputReading.{AllBits, AreOutputsText, the_outputs}

-- ---- the first line

module _ (place : ℕ) (below : place < 32) where
  abbrev IsHeader : List ℕ → ℕ → Type 0
  IsHeader ys count = (count ≤ 4194304) × (ys ≡ header_text place count)

  abbrev header_parts : TextReader ℕ
  header_parts =
      behind (codes "netlist ")
      (part (a_number_alone (numbers place place 32) (le_refl place) (omega (arith, below)) refl refl)
      (λ k. behind (codes "gates ") (a_number_alone (numbers 0 4194304 10) zero-le (lit≤ tt) refl refl)))

  -- the text of the line, as it is read
  abbrev read_text : ℕ → List ℕ
  read_text count =
      codes "netlist " ++ ((decimal place ++ 32 ∷ []) ++ (codes "gates " ++ (decimal count ++ 10 ∷ [])))

  text_is : (count : ℕ) → header_text place count ≡ read_text count
  unfolding header_text
  text_is count =
      ap (λ v. codes "netlist " ++ v)
      (append_assoc (decimal place) (codes " gates " ++ decimal count) (10 ∷ [])
      ∙ sym (append_assoc (decimal place) (32 ∷ []) (codes "gates " ++ (decimal count ++ 10 ∷ []))))

  to_header : (ys : List ℕ) (count : ℕ) → header_parts.Is ys count → IsHeader ys count
  to_header _ _ (joined _ _ _ _ is_word (joined ks _ k _ is_k (joined _ _ _ count is_word is))) =
      let same : k ≡ place = omega (arith, is_k.0, is_k.1) in (
        is.1,
        (λ i. codes "netlist " ++ ((is_k.2 ∙ ap (λ n. decimal n ++ 32 ∷ []) same) i ++ (codes "gates " ++ is.2 i)))
            ∙ sym (text_is count),
      )

  from_header : (ys : List ℕ) (count : ℕ) → IsHeader ys count → header_parts.Is ys count
  from_header ys count is =
      subst (λ v. header_parts.Is v count) (sym (is.1 ∙ text_is count))
      (joined (codes "netlist ") _ tt count is_word
      (joined (decimal place ++ 32 ∷ []) _ place count (le_refl place, le_refl place, refl)
      (joined (codes "gates ") (decimal count ++ 10 ∷ []) tt count is_word (zero-le, is.0, refl))))

  pub header_exact : (n : ℕ) → IsExact Other most n (header_read place) (Plainly IsHeader)
  unfolding header_read
  header_exact n = also to_header from_header (header_parts.exact n)

-- ---- the properties of netlists, by recursion and by number

gates_from : (made : ℕ) (gates : List Gate) → AreFrom made gates → (k : ℕ) → k < length gates → (d : Gate)
    → HasBits (made + k) (slice_index_or gates k d)
gates_from made [] are k below d = absurd (omega arith)
gates_from made (g ∷ gates) are zero below d =
    subst (λ n. HasBits n g) (let e : made ≡ made + 0 = omega arith in e) are.0
gates_from made (g ∷ gates) are (suc k) below d =
    subst (λ n. HasBits n (slice_index_or gates k d)) (let e : made + 1 + k ≡ made + suc k = omega arith in e)
    (gates_from (made + 1) gates are.1 k (omega arith) d)

from_gates : (made : ℕ) (gates : List Gate)
    → ((k : ℕ) → k < length gates → (d : Gate) → HasBits (made + k) (slice_index_or gates k d)) → AreFrom made gates
from_gates made [] are = tt
from_gates made (g ∷ gates) are = (
  subst (λ n. HasBits n g) (let e : made + 0 ≡ made = omega arith in e) (are 0 (omega arith) g),
  from_gates (made + 1) gates (λ k below d.
      subst (λ n. HasBits n (slice_index_or gates k d)) (let e : made + suc k ≡ made + 1 + k = omega arith in e)
      (are (suc k) (omega arith) d)),
)

pub are_gates : (gates : List Gate) → AreFrom 0 gates → AreGates gates
unfolding AreGates
are_gates gates are k below d =
    subst (λ n. HasBits n (slice_index_or gates k d)) (let e : 0 + k ≡ k = omega arith in e)
    (gates_from 0 gates are k below d)

of_gates : (gates : List Gate) → AreGates gates → AreFrom 0 gates
unfolding AreGates
of_gates gates are =
    from_gates 0 gates
    (λ k below d.
    subst (λ n. HasBits n (slice_index_or gates k d)) (let e : k ≡ 0 + k = omega arith in e) (are k below d))

bits_each : (made : ℕ) (bits : List Bit) → AllBits made bits → (k : ℕ) → k < length bits → (d : Bit)
    → IsBit made (slice_index_or bits k d)
bits_each made [] are k below d = absurd (omega arith)
bits_each made (b ∷ bits) are zero below d = are.0
bits_each made (b ∷ bits) are (suc k) below d = bits_each made bits are.1 k (omega arith) d

pub are_bits : (made : ℕ) (bits : List Bit) → AllBits made bits → AreBits made bits
are_bits made bits are = record { each = bits_each made bits are }

of_bits : (made : ℕ) (bits : List Bit) → AreBits made bits → AllBits made bits
of_bits made [] are = tt
of_bits made (b ∷ bits) are =
    (are.each 0 (omega arith) b, of_bits made bits (record { each = λ k below d. are.each (suc k) (omega arith) d }))

-- ---- netlists

module _ (place : ℕ) (below : place < 32) where
  abbrev pub IsNetlistText : List ℕ → Netlist → Type 0
  IsNetlistText ys net = IsNetlist net × (ys ≡ netlist_text place net)

  abbrev BodyText : ℕ → List ℕ → Netlist → Type 0
  BodyText count = Then (AreGatesText 0 count) (λ g. Mapped (λ o. netlist_of g o) (AreOutputsText count))

  some_body : (count : ℕ) → count ≤ 4194304 → (ys : List ℕ) × (net : Netlist) × BodyText count ys net
  some_body count few =
      (part (the_gates 0 count (omega (arith, few))) (λ g. shown (λ o. netlist_of g o) (the_outputs count few))).some

  body_exact : (count : ℕ) → count ≤ 4194304 → (n : ℕ)
      → IsExact Other most n
      (λ xs. gates_read 0 count xs >>= λ g. view (λ o. netlist_of g.0 o) (outputs_read count g.1))
      (Plainly (BodyText count))
  body_exact count few n =
      (part (the_gates 0 count (omega (arith, few))) (λ g. shown (λ o. netlist_of g o) (the_outputs count few))).exact n

  abbrev AllText : List ℕ → Netlist → Type 0
  AllText = Then (IsHeader place below) BodyText

  parts_exact : (n : ℕ) → IsExact Other most n (netlist_read place) (Plainly AllText)
  unfolding netlist_read
  parts_exact n =
      and_then n (header_read place)
      (λ count xs. gates_read 0 count xs >>= λ g. view (λ o. netlist_of g.0 o) (outputs_read count g.1))
      (IsHeader place below) (header_exact place below n) BodyText
      (λ ys count is. body_exact count is.0 n) (λ ys count is. some_body count is.0)

  to_netlist : (ys : List ℕ) (net : Netlist) → AllText ys net → IsNetlistText ys net
  unfolding netlist_text
  to_netlist _ _ (joined hs _ count _ is_h (joined gs _ gates _ is_g (mapped os outputs is_o))) =
      let same : length gates ≡ count = is_g.1 in (
        record {
          are_gates = are_gates gates is_g.0;
          few = omega (arith, same, is_h.0);
          words = is_o.1;
          are_bits = are_bits (length gates) outputs (subst (λ n. AllBits n outputs) (sym same) is_o.0);
        },
        λ i. (is_h.1 ∙ ap (header_text place) (sym same)) i ++ (is_g.2 i ++ is_o.2 i),
      )

  from_netlist : (ys : List ℕ) (net : Netlist) → IsNetlistText ys net → AllText ys net
  unfolding netlist_text
  from_netlist ys net is =
      subst (λ v. AllText v net) (sym is.1)
      (joined (header_text place (length net.gates)) _ (length net.gates) net (is.0.few, refl)
      (joined (flat_map gate_text net.gates) (outputs_text net.outputs) net.gates net
      (of_gates net.gates is.0.are_gates, refl, refl)
      (mapped (outputs_text net.outputs) net.outputs
      (of_bits (length net.gates) net.outputs is.0.are_bits, is.0.words, refl))))

  pub netlist_exact : (n : ℕ) → IsExact Other most n (netlist_read place) (Plainly IsNetlistText)
  netlist_exact n = also to_netlist from_netlist (parts_exact n)

  pub some_netlist : (ys : List ℕ) × (net : Netlist) × IsNetlistText ys net
  some_netlist =
      let s = some_body 0 zero-le in
      let text = joined (header_text place 0) s.0 0 s.1 (zero-le, refl) s.2 in
      (header_text place 0 ++ s.0, s.1, to_netlist (header_text place 0 ++ s.0) s.1 text)

  abbrev pub a_netlist : TextReader Netlist
  a_netlist = record { read = netlist_read place; Is = IsNetlistText; exact = netlist_exact; some = some_netlist }
