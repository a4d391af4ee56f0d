-- Words of the wires, one after the other.
use Rattle.std.specs.Prelude.{◌≡◌, ℕ, zero, suc, ◌+◌, ◌-◌, ◌*◌, ◌%◌, ◌^◌, ◌<◌, ◌≤◌, Bool, true, false, List, [], ◌++◌}
use Rattle.std.specs.Prelude.{map, length, take, drop, replicate, slice_index, All}
use Rattle.std.specs.List.{Contains, slice_index_or}
use Rattle.std.proofs.Common.{refl, sym, ap, ◌∙◌, subst, arith, inl, inr}
use Rattle.std.proofs.lemmas.Bool.{cases_lt}
use Rattle.std.proofs.lemmas.List.{get_or-take, get_or_read, map-append, take-append-drop, length-take-le, length-append, length-drop, length-replicate}
use Rattle.std.proofs.lemmas.List.{drop-append-le, take-append-le, drop_at, take_all}
use Rattle.std.proofs.lemmas.List.Elements.{Contains-append_left, Contains-append_right, Contains-append_cases}
use Rattle.ci_verilog.specs.declared.vectors.Vector.{Vector}
use Rattle.ci_verilog.specs.declared.expressions.Wire.{Wire}
use Rattle.ci_verilog.specs.Modules.{Known, WireList, wires_of, IsInput, inputs, declared_by, known_by, Module, IsModule}
use Rattle.ci_verilog.specs.Values.{of_width, expr_value, Settles}
use Rattle.ci_verilog.proofs.WireLaws.{narrow_names}
use Rattle.ci_verilog.proofs.ValueLaws.{settled_fit}
use Rattle.ci_netlist.specs.declared.bits.Bit.{Bit}
use Rattle.ci_netlist.specs.declared.bits.Bit.TheVariants.{Zero}
use Rattle.ci_netlist.specs.Netlists.{bit_value, spelt, AreBits}
use Rattle.ci_netlist.proofs.SpellingLaws.{spelt-append}
use Rattle.ci_gates.specs.private.Scopes.{slot, IsScope, HoldsWords}
use Rattle.ci_gates.specs.private.Wired.{slot_of, first_wires, AreInputs}
use Rattle.ci_gates.proofs.BitLaws.{zero_bits, no_bits, appended_bits}
use Rattle.ci_gates.proofs.ShiftLaws.{zeros}

-- what is known by the first wires is known by all
pub known_later : (wires : WireList) (k : ℕ) (v : Known) → Contains (known_by (first_wires wires k)) v → Contains (known_by wires) v
known_later wires k v is =
    let list = wires.list in
    elim (Contains-append_cases (inputs wires.wide) (map declared_by (take k list)) v is) [
      | inl input ↦ Contains-append_left (inputs wires.wide) (map declared_by list) v input
      | inr wire ↦
          Contains-append_right (inputs wires.wide) (map declared_by list) v
          (subst (λ known. Contains known v) (sym (map-append declared_by (take k list) (drop k list)) ∙ ap (map declared_by) (take-append-drop k list))
          (Contains-append_left (map declared_by (take k list)) (map declared_by (drop k list)) v wire))
    ]

-- there are five inputs at most
pub five_inputs : (wide : Bool) (name : List ℕ) (k : ℕ) → IsInput wide name k → k < 5
five_inputs wide name zero input = omega arith
five_inputs wide name (suc zero) input = omega arith
five_inputs wide name (suc (suc zero)) input = omega arith
five_inputs wide name (suc (suc (suc zero))) input = omega arith
five_inputs wide name (suc (suc (suc (suc zero)))) input = omega arith
five_inputs false name (suc (suc (suc (suc (suc k))))) input = absurd cc
five_inputs true name (suc (suc (suc (suc (suc k))))) input = absurd cc

-- the wires, and the first of them, by what was read of them
module _ {wires read : WireList} {wide : Bool} {list : List Wire} (is : read ≡ wires) (is_wide : wide ≡ read.wide) (is_list : list ≡ read.list) where
  pub all_seen : wires_of wide list ≡ wires
  all_seen = (λ i. wires_of (is_wide i) (is_list i)) ∙ is

  pub first_seen : (k : ℕ) → wires_of wide (take k list) ≡ first_wires wires k
  first_seen k = (λ i. wires_of (is_wide i) (take k (is_list i))) ∙ ap (λ ws. first_wires ws k) is

pub scope_of : (m : Module) (words : List Bit) (k : ℕ) → IsModule m → k ≤ length m.wires.list → length words ≡ 64 * (5 + k)
    → IsScope (first_wires m.wires k) words
scope_of m words k is within room =
    record {
      room = let e : length (take k m.wires.list) ≡ k = length-take-le k m.wires.list within in omega (arith, e, room);
      narrow = λ v known. narrow_names m.wires is.are_wires v (known_later m.wires k v known);
    }

pub whole_scope : (m : Module) (words : List Bit) → IsModule m → length words ≡ 64 * (5 + length m.wires.list) → IsScope m.wires words
whole_scope m words is room =
    record { room = omega (arith, room); narrow = λ v known. narrow_names m.wires is.are_wires v known }

-- ---- words behind words

pub slot_wide : (bits : List Bit) → length bits ≤ 64 → length (slot_of bits) ≡ 64
slot_wide bits narrow =
    let e = length-append bits (replicate (64 - length bits) Zero) in
    let f = length-replicate (64 - length bits) Zero in
    omega (arith, e, f)

slot_spells : (holds : Bit → Bool) (bits : List Bit) → holds Zero ≡ false → spelt holds (slot_of bits) ≡ spelt holds bits
slot_spells holds bits nothing =
    spelt-append holds bits (replicate (64 - length bits) Zero)
    ∙ ap (λ n. spelt holds bits + 2 ^ length bits * n) (zeros holds (64 - length bits) nothing) ∙ omega arith

old_slot : (words more : List Bit) (start : ℕ) → start + 64 ≤ length words → slot (words ++ more) start ≡ slot words start
old_slot words more start room =
    ap (take 64) (drop-append-le start words more (omega arith))
    ∙ take-append-le 64 (drop start words) more (let e = length-drop start words in omega (arith, e))

new_slot : (words more : List Bit) (start : ℕ) → length words ≡ start → length more ≡ 64 → slot (words ++ more) start ≡ more
new_slot words more start end wide = ap (take 64) (drop_at words more start end) ∙ take_all 64 more (omega arith)

-- the words of one wire more
pub holds_more : (m : Module) (is : IsModule m) (holds : Bit → Bool) (names : List ℕ → Vector) (arguments : List ℕ) (words bits : List Bit)
    (k : ℕ) (wire : Wire) → holds Zero ≡ false → All (λ n. n < 2 ^ 32) arguments → Settles m arguments names
    → k < length m.wires.list → wire ≡ slice_index_or m.wires.list k wire → length words ≡ 64 * (5 + k) → length bits ≤ 64
    → HoldsWords holds names (first_wires m.wires k) words → spelt holds bits ≡ expr_value names wire.value
    → HoldsWords holds names (first_wires m.wires (k + 1)) (words ++ slot_of bits)
holds_more m is holds names arguments words bits k wire nothing are_words settled within is_wire room narrow before value =
    record {
      inputs_are =
          λ name j input.
          before.inputs_are name j input
          ∙ ap (λ l. of_width 32 (spelt holds l)) (sym (old_slot words (slot_of bits) (64 * j) (let few = five_inputs m.wires.wide name j input in omega (arith, few, room))));
      wires_are = wires_are;
      fit = λ v known. settled_fit m arguments names is settled are_words v (known_later m.wires (k + 1) v known);
    }
  where
    wires_are : (j : ℕ) → j < length (take (k + 1) m.wires.list) → (d : Wire)
        → names (slice_index_or (take (k + 1) m.wires.list) j d).name
        ≡ of_width (slice_index_or (take (k + 1) m.wires.list) j d).width (spelt holds (slot (words ++ slot_of bits) (64 * (5 + j))))
    wires_are j below d =
        let list = m.wires.list in
        let count : length (take (k + 1) list) ≡ k + 1 = length-take-le (k + 1) list (omega arith) in
        let fewer : length (take k list) ≡ k = length-take-le k list (omega arith) in
        elim (cases_lt j k) [
          | inl low ↦
              let here : slice_index_or (take k list) j d ≡ slice_index_or (take (k + 1) list) j d =
              get_or-take k list j d low ∙ sym (get_or-take (k + 1) list j d (omega arith)) in
              subst (λ w. names w.name ≡ of_width w.width (spelt holds (slot (words ++ slot_of bits) (64 * (5 + j))))) here
              (before.wires_are j (omega (arith, fewer)) d
              ∙ ap (λ l. of_width (slice_index_or (take k list) j d).width (spelt holds l))
              (sym (old_slot words (slot_of bits) (64 * (5 + j)) (omega (arith, room)))))
          | inr high ↦
              let last : k ≡ j = omega (arith, count) in
              let there : wire ≡ slice_index_or (take (k + 1) list) j d =
              get_or_read list k wire within is_wire d ∙ ap (λ n. slice_index_or list n d) last
              ∙ sym (get_or-take (k + 1) list j d (let e : j < k + 1 = omega (arith, last) in e)) in
              subst (λ w. names w.name ≡ of_width w.width (spelt holds (slot (words ++ slot_of bits) (64 * (5 + j))))) there
              (settled.wires_are wire (k, within, sym is_wire)
              ∙ ap (of_width wire.width)
              (sym value ∙ sym (slot_spells holds bits nothing)
              ∙ ap (spelt holds) (sym (new_slot words (slot_of bits) (64 * (5 + j)) (omega (arith, room, last)) (slot_wide bits narrow)))))
        ]

-- ---- inputs

pub slot_bits : (made : ℕ) (bits : List Bit) → AreBits made bits → AreBits made (slot_of bits)
slot_bits made bits are = appended_bits made bits (replicate (64 - length bits) Zero) are (zero_bits made (64 - length bits))

pub no_inputs : AreInputs [] 0
no_inputs = record { room = refl; are_bits = no_bits; hold = λ arguments gives k below. absurd (omega arith) }

pub inputs_more : (words bits : List Bit) (count : ℕ) → AreInputs words count → length bits ≡ 32 → ((made : ℕ) → AreBits made bits)
    → ((arguments : List ℕ) (gives : ℕ → Bool) → spelt (bit_value arguments gives) bits ≡ slice_index arguments count % 2 ^ 32)
    → AreInputs (words ++ slot_of bits) (count + 1)
inputs_more words bits count are wide are_bits value =
    record {
      room =
          let e = length-append words (slot_of bits) in
          let f = slot_wide bits (omega (arith, wide)) in
          omega (arith, e, f, are.room);
      are_bits = λ made. appended_bits made words (slot_of bits) (are.are_bits made) (slot_bits made bits (are_bits made));
      hold = hold;
    }
  where
    hold : (arguments : List ℕ) (gives : ℕ → Bool) (k : ℕ) → k < count + 1
        → spelt (bit_value arguments gives) (slot (words ++ slot_of bits) (64 * k)) ≡ slice_index arguments k % 2 ^ 32
    hold arguments gives k below =
        elim (cases_lt k count) [
          | inl low ↦
              ap (spelt (bit_value arguments gives)) (old_slot words (slot_of bits) (64 * k) (omega (arith, are.room)))
              ∙ are.hold arguments gives k low
          | inr high ↦
              let last : count ≡ k = omega arith in
              ap (spelt (bit_value arguments gives))
              (new_slot words (slot_of bits) (64 * k) (omega (arith, are.room, last)) (slot_wide bits (omega (arith, wide))))
              ∙ slot_spells (bit_value arguments gives) bits refl
              ∙ value arguments gives
              ∙ ap (λ n. slice_index arguments n % 2 ^ 32) last
        ]
