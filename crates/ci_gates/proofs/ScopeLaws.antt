-- What bits stand for, beside the vectors of names.
use Rattle.std.specs.Prelude.{◌≡◌, ℕ, suc, zero, ◌+◌, ◌-◌, ◌*◌, ◌/◌, ◌%◌, ◌^◌, ◌<◌, ◌≤◌, Bool, List, [], ◌∷◌, ◌++◌, length, take, drop, map, replicate}
use Rattle.std.specs.List.{Contains, slice_index_or}
use Rattle.std.proofs.Common.{refl, sym, ap, ◌∙◌, subst, arith}
use Rattle.std.proofs.Math.Nat.{mul_comm, mod-eq_of_lt}
use Rattle.std.proofs.lemmas.List.{length-take-le, length-drop, length-map, length-append, map_more, drop-drop, drop-take, take-take, get_or-map}
use Rattle.std.proofs.lemmas.List.Elements.{Contains-append_right, Contains-get_or}
use Rattle.ci_verilog.specs.declared.expressions.Wire.{Wire}
use Rattle.ci_verilog.specs.Modules.{WireList, inputs, declared_by, known_by}
use Rattle.ci_verilog.specs.declared.vectors.Vector.{Vector}
use Rattle.ci_verilog.specs.Values.{of_width, above, joined, item_bits}
use Rattle.ci_netlist.specs.declared.bits.Bit.{Bit}
use Rattle.ci_netlist.specs.Netlists.{bit_value, spelt}
use Rattle.ci_gates.specs.private.Scopes.{vector_of, slot, IsScope, Stands}
use Rattle.ci_gates.proofs.LowBitLaws.{AreLowBits}
use Rattle.ci_gates.proofs.BitLaws.{no_bits, appended_bits}
use Rattle.ci_verilog.specs.declared.expressions.Item.{Item}
use Rattle.ci_verilog.specs.Modules.{AreItems}
use Rattle.ci_verilog.specs.private.Held.{ItemFits}
use Rattle.ci_verilog.proofs.VectorLaws.{above_nothing, nothing_above, above_assoc}
use Rattle.ci_netlist.proofs.SpellingLaws.{spelt-take, spelt-drop, spelt-append}

-- ---- constants

pub constant_whole : (value : ℕ) (bits : List Bit) (k width : ℕ) → AreLowBits (λ arguments. value) bits k → k ≡ width → value < 2 ^ width
    → (wires : WireList) (words : List Bit) → Stands wires words bits (λ names. of_width width value)
constant_whole value bits k width is end fits wires words =
    record {
      value =
          λ arguments gives names stands t.
          of_width ((is.width ∙ end) t)
          ((is.spells arguments gives ∙ ap (λ n. value % 2 ^ n) end ∙ mod-eq_of_lt fits) t);
      are_bits = λ made are. is.are_bits made;
    }

-- ---- words one above the other

vector-append : (holds : Bit → Bool) (low high : List Bit) → vector_of holds (low ++ high) ≡ above (vector_of holds high) (vector_of holds low)
vector-append holds low high =
    let e = length-append low high in
    let f = spelt-append holds low high in
    let g : 2 ^ length low * spelt holds high ≡ spelt holds high * 2 ^ length low = mul_comm (2 ^ length low) (spelt holds high) in
    let wide : length (low ++ high) ≡ length high + length low = omega (arith, e) in
    let same : spelt holds (low ++ high) ≡ spelt holds high * 2 ^ length low + spelt holds low = omega (arith, f, g) in
    λ t. of_width (wide t) (same t)

module _ (wires : WireList) (words : List Bit) where
  pub nothing_stands : Stands wires words [] (λ names. of_width 0 0)
  nothing_stands = record { value = λ arguments gives names stands. refl; are_bits = λ made are. no_bits made }

  stands_above : (low high : List Bit) (of_low of_high : (List ℕ → Vector) → Vector) → Stands wires words low of_low
      → Stands wires words high of_high → Stands wires words (low ++ high) (λ names. above (of_high names) (of_low names))
  stands_above low high of_low of_high stands_low stands_high =
      record {
        value =
            λ arguments gives names stands.
            vector-append (bit_value arguments gives) low high
            ∙ (λ t. above (stands_high.value arguments gives names stands t) (stands_low.value arguments gives names stands t));
        are_bits = λ made are. appended_bits made low high (stands_low.are_bits made are) (stands_high.are_bits made are);
      }

  pub stands_as : (bits : List Bit) (of other : (List ℕ → Vector) → Vector) → ((names : List ℕ → Vector) → of names ≡ other names)
      → Stands wires words bits of → Stands wires words bits other
  stands_as bits of other same stands =
      record {
        value = λ arguments gives names holds. stands.value arguments gives names holds ∙ same names;
        are_bits = stands.are_bits;
      }

-- a list of vectors and one more, which is the lowest
joined_push : (vectors : List Vector) (v : Vector) → joined (vectors ++ v ∷ []) ≡ above (joined vectors) v
joined_push [] v = above_nothing v ∙ sym (nothing_above v)
joined_push (u ∷ vectors) v = ap (above u) (joined_push vectors v) ∙ above_assoc u (joined vectors) v

pub items_more : (wires : WireList) (words low high : List Bit) (items : List Item) (k : ℕ) (i : Item) → k < length items
    → i ≡ slice_index_or items k i → Stands wires words low (λ names. item_bits names i)
    → Stands wires words high (λ names. joined (map (item_bits names) (take k items)))
    → Stands wires words (low ++ high) (λ names. joined (map (item_bits names) (take (k + 1) items)))
items_more wires words low high items k i within is_i stands_low stands_high =
    stands_as wires words (low ++ high) (λ names. above (joined (map (item_bits names) (take k items))) (item_bits names i))
    (λ names. joined (map (item_bits names) (take (k + 1) items)))
    (λ names.
    sym (ap joined (map_more (item_bits names) items k i within
    ∙ ap (λ j. map (item_bits names) (take k items) ++ item_bits names j ∷ []) (sym is_i))
    ∙ joined_push (map (item_bits names) (take k items)) (item_bits names i)))
    (stands_above wires words low high (λ names. item_bits names i) (λ names. joined (map (item_bits names) (take k items))) stands_low stands_high)

-- each of the items fits
pub item_fits_at : (wires : WireList) (items : List Item) (w k : ℕ) (d : Item) → AreItems (known_by wires) items w → k < length items
    → ItemFits wires (slice_index_or items k d)
item_fits_at wires [] w k d are below = absurd (omega arith)
item_fits_at wires (i ∷ []) w zero d (AreItems.one is) below = (w, is)
item_fits_at wires (i ∷ []) w (suc k) d are below = absurd (omega arith)
item_fits_at wires (i ∷ items) w zero d (AreItems.more {width = v} is are) below = (v, is)
item_fits_at wires (i ∷ items) w (suc k) d (AreItems.more {others = others} is are) below = item_fits_at wires items others k d are (omega arith)

-- ---- names

pub wire_is_narrow : (wires : WireList) (words : List Bit) (k : ℕ) (d : Wire) → IsScope wires words → k < length wires.list
    → (slice_index_or wires.list k d).width ≤ 64
wire_is_narrow wires words k d scope below =
    scope.narrow (declared_by (slice_index_or wires.list k d))
    (Contains-append_right (inputs wires.wide) (map declared_by wires.list) (declared_by (slice_index_or wires.list k d))
    (subst (Contains (map declared_by wires.list)) (get_or-map declared_by wires.list k d (declared_by d) below)
    (Contains-get_or (map declared_by wires.list) k (declared_by d) (let e = length-map wires.list declared_by in omega (arith, e)))))

module _ (holds : Bit → Bool) (words : List Bit) (start width : ℕ) (v : Vector) (room : start + 64 ≤ length words)
    (is : v ≡ of_width width (spelt holds (slot words start))) where
  beyond : 64 ≤ length (drop start words)
  beyond = let e = length-drop start words in omega (arith, e)

  slot_wide : length (slot words start) ≡ 64
  slot_wide = length-take-le 64 (drop start words) beyond

  -- all bits of a name
  pub whole_stands : (end : ℕ) → width ≤ 64 → end ≡ start + width → v.value < 2 ^ v.width
      → vector_of holds (take (end - start) (drop start words)) ≡ v
  whole_stands end narrow is_end fits =
      let value_is : v.value ≡ spelt holds (slot words start) = ap (λ u. u.value) is in
      let below : spelt holds (slot words start) < 2 ^ width =
      subst (λ n. n < 2 ^ width) value_is (subst (λ w. v.value < 2 ^ w) (ap (λ u. u.width) is) fits) in
      let inner : take (end - start) (drop start words) ≡ take width (slot words start) =
      ap (λ n. take n (drop start words)) (let e : end - start ≡ width = omega (arith, is_end) in e)
      ∙ sym (take-take width 64 (drop start words) narrow) in
      ap (vector_of holds) inner
      ∙ (λ t. of_width (length-take-le width (slot words start) (omega (arith, slot_wide)) t)
      ((spelt-take holds width (slot words start) (omega (arith, slot_wide)) ∙ mod-eq_of_lt below) t))
      ∙ sym is

  -- some bits of a name
  pub part_stands : (high low from end : ℕ) → low ≤ high → high < 64 → from ≡ start + low → end ≡ start + high + 1
      → vector_of holds (take (end - from) (drop from words))
      ≡ of_width (high + 1 - low) (v.value / 2 ^ low % 2 ^ (high + 1 - low))
  part_stands high low from end order narrow is_from is_end =
      let n = high + 1 - low in
      let value_is : v.value ≡ spelt holds (slot words start) = ap (λ u. u.value) is in
      let rest = drop low (slot words start) in
      let rest_wide : length rest ≡ 64 - low = length-drop low (slot words start) ∙ ap (λ m. m - low) slot_wide in
      let inner : take (end - from) (drop from words) ≡ take n rest =
      (λ t. take ((let e : end - from ≡ n = omega (arith, is_from, is_end) in e) t) (drop (is_from t) words))
      ∙ ap (take n) (sym (drop-drop low start words))
      ∙ sym (drop-take low n (drop start words))
      ∙ ap (drop low) (sym (take-take (low + n) 64 (drop start words) (omega arith)))
      ∙ drop-take low n (slot words start) in
      ap (vector_of holds) inner
      ∙ (λ t. of_width (length-take-le n rest (omega (arith, rest_wide)) t)
      ((spelt-take holds n rest (omega (arith, rest_wide))
      ∙ ap (λ m. m % 2 ^ n) (spelt-drop holds low (slot words start) (omega (arith, slot_wide)) ∙ ap (λ m. m / 2 ^ low) (sym value_is))) t))

pub copies_more : (wires : WireList) (words copies word : List Bit) (of : (List ℕ → Vector) → Vector) (k : ℕ)
    → Stands wires words word of → Stands wires words copies (λ names. joined (replicate k (of names)))
    → Stands wires words (copies ++ word) (λ names. joined (replicate (k + 1) (of names)))
copies_more wires words copies word of k stands_word stands_copies =
    stands_as wires words (copies ++ word) (λ names. above (of names) (joined (replicate k (of names))))
    (λ names. joined (replicate (k + 1) (of names)))
    (λ names. ap (λ n. joined (replicate n (of names))) (let e : suc k ≡ k + 1 = omega arith in e))
    (stands_above wires words copies word (λ names. joined (replicate k (of names))) of stands_copies stands_word)
