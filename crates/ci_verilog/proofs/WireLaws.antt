-- Wires one after the other, and that a known name has one width.
use Rattle.std.specs.Prelude.{◌≡◌, ℕ, zero, suc, ◌<◌, ◌≤◌, ◌≢◌, ◌↔◌, List, [], ◌∷◌, ◌++◌, map, length, take, Some, None, Bool, true, false}
use Rattle.std.specs.List.{Contains, slice_index_or}
use Rattle.std.proofs.Common.{refl, sym, ap, ◌∙◌, subst, arith, append_assoc, append-nil, inl, inr}
use Rattle.std.proofs.lemmas.List.Elements.{Contains-push_cases, Contains-append_left, Contains-append_right, Contains-append_cases}
use Rattle.ci_verilog.specs.declared.expressions.Wire.{Wire}
use Rattle.ci_verilog.specs.Modules.{Known, WireList, IsInput, vector, inputs, declared_by, known_by, IsNew, IsWire, IsFree}
use Rattle.ci_verilog.specs.Modules.{AreWires, AreFree}
use Rattle.ci_verilog.proofs.WidthLaws.{AllNarrow}

-- one wire more behind the others
pub pushed : (known : List Known) (wires : List Wire) (wire : Wire) → AreWires known wires
    → IsWire (known ++ map declared_by wires) wire → AreWires known (wires ++ wire ∷ [])
pushed known [] wire are is = (subst (λ k. IsWire k wire) (append-nil known) is, tt)
pushed known (first ∷ rest) wire are is = (
  are.0,
  pushed (known ++ declared_by first ∷ []) rest wire are.1
      (subst (λ k. IsWire k wire) (sym (append_assoc known (declared_by first ∷ []) (map declared_by rest))) is),
)

pub one_more_free : (wide : Bool) (wires : List Wire) (wire : Wire) → AreFree wide wires → IsFree wide wire.name
    → AreFree wide (wires ++ wire ∷ [])
one_more_free wide [] wire are is = (is, tt)
one_more_free wide (first ∷ rest) wire are is = (are.0, one_more_free wide rest wire are.1 is)

-- each wire is one that those before it allow
pub wire_at : (known : List Known) (wires : List Wire) (k : ℕ) (d : Wire) → AreWires known wires → k < length wires
    → IsWire (known ++ map declared_by (take k wires)) (slice_index_or wires k d)
wire_at known [] k d are below = absurd (omega arith)
wire_at known (first ∷ rest) zero d are below = subst (λ k. IsWire k first) (sym (append-nil known)) are.0
wire_at known (first ∷ rest) (suc k) d are below =
    subst (λ before. IsWire before (slice_index_or rest k d)) (append_assoc known (declared_by first ∷ []) (map declared_by (take k rest)))
    (wire_at (known ++ declared_by first ∷ []) rest k d are.1 (omega arith))

-- ---- one width

abbrev pub OneWidth : List Known → Type 0
OneWidth known = (name : List ℕ) (v w : ℕ) → Contains known (vector name v) → Contains known (vector name w) → v ≡ w

one_width_more : (known : List Known) (name : List ℕ) (width : ℕ) → OneWidth known → IsNew known name
    → OneWidth (known ++ vector name width ∷ [])
one_width_more known name width one new n v w in_v in_w =
    elim (Contains-push_cases known (vector name width) (vector n v) in_v) [
      | inl old_v ↦
          elim (Contains-push_cases known (vector name width) (vector n w) in_w) [
            | inl old_w ↦ one n v w old_v old_w
            | inr new_w ↦ absurd (new v (subst (λ m. Contains known (vector m v)) (sym (ap (λ k. k.name) new_w)) old_v))
          ]
      | inr new_v ↦
          elim (Contains-push_cases known (vector name width) (vector n w) in_w) [
            | inl old_w ↦ absurd (new w (subst (λ m. Contains known (vector m w)) (sym (ap (λ k. k.name) new_v)) old_w))
            | inr new_w ↦ sym (ap (λ k. k.width) new_v) ∙ ap (λ k. k.width) new_w
          ]
    ]

one_width_along : (known : List Known) (wires : List Wire) → AreWires known wires → OneWidth known
    → OneWidth (known ++ map declared_by wires)
one_width_along known [] are one = subst (λ k. OneWidth k) (sym (append-nil known)) one
one_width_along known (wire ∷ wires) are one =
    subst (λ k. OneWidth k) (append_assoc known (declared_by wire ∷ []) (map declared_by wires))
    (one_width_along (known ++ declared_by wire ∷ []) wires are.1 (one_width_more known wire.name wire.width one are.0.is_new))

-- all inputs are words
pub input_is_word : (wide : Bool) (v : Known) → Contains (inputs wide) v → v.width ≡ 32
input_is_word false v (zero, below, is) = sym (ap (λ k. k.width) is)
input_is_word false v (suc zero, below, is) = sym (ap (λ k. k.width) is)
input_is_word false v (suc (suc zero), below, is) = sym (ap (λ k. k.width) is)
input_is_word false v (suc (suc (suc k)), below, is) = absurd (omega arith)
input_is_word true v (zero, below, is) = sym (ap (λ k. k.width) is)
input_is_word true v (suc zero, below, is) = sym (ap (λ k. k.width) is)
input_is_word true v (suc (suc zero), below, is) = sym (ap (λ k. k.width) is)
input_is_word true v (suc (suc (suc zero)), below, is) = sym (ap (λ k. k.width) is)
input_is_word true v (suc (suc (suc (suc zero))), below, is) = sym (ap (λ k. k.width) is)
input_is_word true v (suc (suc (suc (suc (suc k)))), below, is) = absurd (omega arith)

one_width_inputs : (wide : Bool) → OneWidth (inputs wide)
one_width_inputs wide name v w in_v in_w = input_is_word wide (vector name v) in_v ∙ sym (input_is_word wide (vector name w) in_w)

pub one_width : (wires : WireList) → AreWires (inputs wires.wide) wires.list → OneWidth (known_by wires)
one_width wires are = one_width_along (inputs wires.wide) wires.list are (one_width_inputs wires.wide)

-- ---- widths are at most 64

narrow_along : (known : List Known) (wires : List Wire) → AreWires known wires → AllNarrow known
    → AllNarrow (known ++ map declared_by wires)
narrow_along known [] are narrow = subst (λ k. AllNarrow k) (sym (append-nil known)) narrow
narrow_along known (wire ∷ wires) are narrow =
    subst (λ k. AllNarrow k) (append_assoc known (declared_by wire ∷ []) (map declared_by wires))
    (narrow_along (known ++ declared_by wire ∷ []) wires are.1 more)
  where
    more : AllNarrow (known ++ declared_by wire ∷ [])
    more v is =
        elim (Contains-push_cases known (declared_by wire) v is) [
          | inl old ↦ narrow v old
          | inr new ↦ subst (λ k. k.width ≤ 64) new are.0.most
        ]

narrow_inputs : (wide : Bool) → AllNarrow (inputs wide)
narrow_inputs wide v there = let word = input_is_word wide v there in omega (arith, word)

pub narrow_names : (wires : WireList) → AreWires (inputs wires.wide) wires.list → AllNarrow (known_by wires)
narrow_names wires are = narrow_along (inputs wires.wide) wires.list are (narrow_inputs wires.wide)

-- ---- which names are known

some_is_one : {a b : Known} → Some a ≡ Some b → a ≡ b
some_is_one e = cc

-- each input is one of three, or one of five
pub input_is_known : (wide : Bool) (name : List ℕ) (k : ℕ) → IsInput wide name k → Contains (inputs wide) (vector name 32)
input_is_known false name zero is = (0, omega arith, some_is_one is)
input_is_known false name (suc zero) is = (1, omega arith, some_is_one is)
input_is_known false name (suc (suc zero)) is = (2, omega arith, some_is_one is)
input_is_known false name (suc (suc (suc k))) is = absurd cc
input_is_known true name zero is = (0, omega arith, some_is_one is)
input_is_known true name (suc zero) is = (1, omega arith, some_is_one is)
input_is_known true name (suc (suc zero)) is = (2, omega arith, some_is_one is)
input_is_known true name (suc (suc (suc zero))) is = (3, omega arith, some_is_one is)
input_is_known true name (suc (suc (suc (suc zero)))) is = (4, omega arith, some_is_one is)
input_is_known true name (suc (suc (suc (suc (suc k))))) is = absurd cc

pub known_is_input : (wide : Bool) (name : List ℕ) (w : ℕ) → Contains (inputs wide) (vector name w) → (k : ℕ) × IsInput wide name k
known_is_input false name w (zero, below, is) = (0, ap (λ k. Some (vector k.name 32)) is)
known_is_input false name w (suc zero, below, is) = (1, ap (λ k. Some (vector k.name 32)) is)
known_is_input false name w (suc (suc zero), below, is) = (2, ap (λ k. Some (vector k.name 32)) is)
known_is_input false name w (suc (suc (suc k)), below, is) = absurd (omega arith)
known_is_input true name w (zero, below, is) = (0, ap (λ k. Some (vector k.name 32)) is)
known_is_input true name w (suc zero, below, is) = (1, ap (λ k. Some (vector k.name 32)) is)
known_is_input true name w (suc (suc zero), below, is) = (2, ap (λ k. Some (vector k.name 32)) is)
known_is_input true name w (suc (suc (suc zero)), below, is) = (3, ap (λ k. Some (vector k.name 32)) is)
known_is_input true name w (suc (suc (suc (suc zero))), below, is) = (4, ap (λ k. Some (vector k.name 32)) is)
known_is_input true name w (suc (suc (suc (suc (suc k)))), below, is) = absurd (omega arith)

wire_is_known : (wires : List Wire) (k : ℕ) (d : Wire) → k < length wires
    → Contains (map declared_by wires) (declared_by (slice_index_or wires k d))
wire_is_known [] k d below = absurd (omega arith)
wire_is_known (wire ∷ wires) zero d below = (0, omega arith, refl)
wire_is_known (wire ∷ wires) (suc k) d below = let w = wire_is_known wires k d (omega arith) in (suc w.0, omega arith, w.2)

known_is_wire : (wires : List Wire) (name : List ℕ) (w : ℕ) → Contains (map declared_by wires) (vector name w)
    → (k : ℕ) × (k < length wires) × ((d : Wire) → (slice_index_or wires k d).name ≡ name) × Wire
known_is_wire [] name w is = absurd (omega (arith, is.1))
known_is_wire (wire ∷ wires) name w (zero, below, is) = (0, omega arith, (λ d. ap (λ k. k.name) is), wire)
known_is_wire (wire ∷ wires) name w (suc k, below, is) =
    let r = known_is_wire wires name w (k, omega arith, is) in (suc r.0, omega arith, r.2, r.3)

-- ---- the width of a name

width_told : (known : List Known) (name : List ℕ) (v : ℕ) → OneWidth known → Contains known (vector name v) → (w : ℕ)
    → (Some v ≡ Some w) ↔ Contains known (vector name w)
width_told known name v one is w =
    ((λ e. let f : v ≡ w = cc in subst (λ n. Contains known (vector name n)) f is), (λ other. ap Some (one name v w is other)))

-- of a name among the bytes and the slice that the code looks at
module _ (wires : WireList) (slice : List Wire) (name bytes : List ℕ) (same_wires : slice ≡ wires.list) (same_name : bytes ≡ name) where
  pub input_width : (k : ℕ) → AreWires (inputs wires.wide) wires.list → IsInput wires.wide bytes k → (w : ℕ)
      → (Some 32 ≡ Some w) ↔ Contains (known_by wires) (vector name w)
  input_width k are is w =
      width_told (known_by wires) name 32 (one_width wires are)
      (Contains-append_left (inputs wires.wide) (map declared_by wires.list) (vector name 32)
      (input_is_known wires.wide name k (subst (λ n. IsInput wires.wide n k) same_name is))) w

  pub wire_width : (k : ℕ) (d : Wire) → AreWires (inputs wires.wide) wires.list → k < length slice
      → ((d : Wire) → (slice_index_or slice k d).name ≡ bytes) → (w : ℕ)
      → (Some (slice_index_or slice k d).width ≡ Some w) ↔ Contains (known_by wires) (vector name w)
  wire_width k d are below named w =
      let e : (slice_index_or slice k d).name ≡ name = named d ∙ same_name in
      let is : Contains (map declared_by wires.list) (vector name (slice_index_or slice k d).width) =
      subst (λ ws. Contains (map declared_by ws) (vector name (slice_index_or slice k d).width)) same_wires
      (subst (λ n. Contains (map declared_by slice) (vector n (slice_index_or slice k d).width)) e (wire_is_known slice k d below)) in
      width_told (known_by wires) name (slice_index_or slice k d).width (one_width wires are)
      (Contains-append_right (inputs wires.wide) (map declared_by wires.list) (vector name (slice_index_or slice k d).width) is) w

  pub no_width : ((k : ℕ) → ¬ IsInput wires.wide bytes k)
      → ((k : ℕ) → k < length slice → (d : Wire) → (slice_index_or slice k d).name ≢ name) → (w : ℕ)
      → (None ≡ Some w) ↔ Contains (known_by wires) (vector name w)
  no_width no_input no_wire w = (
    (λ e. absurd cc),
    (λ is. elim (Contains-append_cases (inputs wires.wide) (map declared_by wires.list) (vector name w) is) [
      | inl input ↦
          let r = known_is_input wires.wide name w input in
          absurd (no_input r.0 (subst (λ n. IsInput wires.wide n r.0) (sym same_name) r.1))
      | inr wire ↦
          let r = known_is_wire slice name w (subst (λ ws. Contains (map declared_by ws) (vector name w)) (sym same_wires) wire) in
          absurd (no_wire r.0 r.1 r.3 (r.2 r.3))
    ]),
  )
