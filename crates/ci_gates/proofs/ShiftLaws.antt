-- Shifts of words by stages.
use Rattle.std.specs.Prelude.{◌≡◌, ℕ, suc, zero, ◌+◌, ◌-◌, ◌*◌, ◌/◌, ◌%◌, ◌^◌, ◌<◌, ◌≤◌, min, Bool, true, false, if◌then◌else◌, List, length, replicate}
use Rattle.std.specs.List.{slice_index_or}
use Rattle.std.proofs.Common.{refl, sym, ap, ◌∙◌, subst, arith, inl, inr, take, drop}
use Rattle.std.proofs.lemmas.Bool.{cases_lt}
use Rattle.std.proofs.Math.Nat.{mul_assoc, mul_comm, mul-add, mod-add-div, mod-eq_of_lt}
use Rattle.std.proofs.lemmas.Nat.{pow-add, shr-shr, mul-mod_first, mod_below, pow_pos, mul-le}
use Rattle.std.proofs.lemmas.List.{length-replicate, length-take-le, length-append, length-drop}
use Rattle.ci_verilog.proofs.VectorLaws.{shifted_past_left, shifted_past_right}
use Rattle.ci_netlist.specs.declared.bits.Bit.{Bit}
use Rattle.ci_netlist.specs.declared.bits.Bit.TheVariants.{Zero}
use Rattle.ci_netlist.specs.declared.bits.Gate.{Gate}
use Rattle.ci_gates.specs.declared.shifts.Direction.{Direction}
use Rattle.ci_gates.specs.declared.shifts.Direction.TheVariants.{Left, Right}
use Rattle.ci_netlist.specs.Netlists.{AreBits, bit_value, digit, spelt}
use Rattle.ci_gates.specs.private.Growing.{MakesWord, Always, shift_value, moved_bits}
use Rattle.ci_netlist.proofs.NumberLaws.{low_digits}
use Rattle.ci_gates.proofs.BitLaws.{appended_bits, dropped_bits, taken_bits, zero_bits}
use Rattle.ci_gates.proofs.NetlistLaws.{grows_on, counted, grows_none}
use Rattle.ci_netlist.proofs.SpellingLaws.{spelt-append, spelt_below, spelt-take, spelt-drop, spelt_more}

-- ---- numbers

times_below : (p n m : ℕ) → 0 < p → n < m → p * n < p * m
times_below p n m any less =
    let e : p * (n + 1) ≤ p * m = mul-le p (n + 1) p m (omega arith) (omega arith) in
    let f : p * (n + 1) ≡ p * n + p * 1 = mul-add p n 1 in
    omega (arith, e, f)

-- a part of the low digits, moved up
moved_up : (p m n : ℕ) → 0 < m → 0 < p → p * (n % m) ≡ n * p % (p * m)
moved_up p m n some any =
    let low : n % m < m = mod_below n m some in
    let whole : p * (n % m) + p * m * (n / m) ≡ n * p =
    ap (λ x. p * (n % m) + x) (mul_assoc p m (n / m)) ∙ sym (mul-add p (n % m) (m * (n / m)))
    ∙ ap (λ x. p * x) (mod-add-div n m) ∙ mul_comm p n in
    low_digits (p * m) (p * (n % m)) (n / m) (n * p) (times_below p (n % m) m any low) whole

no_shift : (direction : Direction) (width n : ℕ) → n < 2 ^ width → n ≡ shift_value direction width n 0
no_shift Left width n below =
    sym (ap (λ m. m % 2 ^ width) (let e : n * 1 ≡ n = omega arith in e) ∙ mod-eq_of_lt below)
no_shift Right width n below = omega arith

shifts_add : (direction : Direction) (width n s t : ℕ)
    → shift_value direction width (shift_value direction width n s) t ≡ shift_value direction width n (s + t)
shifts_add Left width n s t =
    mul-mod_first (n * 2 ^ s) (2 ^ t) (2 ^ width)
    ∙ ap (λ x. x % 2 ^ width) (mul_assoc n (2 ^ s) (2 ^ t) ∙ ap (λ x. n * x) (sym (pow-add 2 s t)))
shifts_add Right width n s t = shr-shr n s t

-- past the width it is all one
clamped : (direction : Direction) (width n places : ℕ) → n < 2 ^ width
    → shift_value direction width n (min places width) ≡ shift_value direction width n places
clamped direction width n places below =
    elim (cases_lt places width) [
      | inl within ↦ ap (shift_value direction width n) (omega arith)
      | inr past ↦ ap (shift_value direction width n) (let e : min places width ≡ width = omega arith in e) ∙ nothing direction past
    ]
  where
    nothing : (d : Direction) → width ≤ places → shift_value d width n width ≡ shift_value d width n places
    nothing Left past = sym (shifted_past_left n width width (omega arith)) ∙ shifted_past_left n width places past
    nothing Right past = sym (shifted_past_right n width width below (omega arith)) ∙ shifted_past_right n width places below past

-- ---- bits

pub zeros : (holds : Bit → Bool) (n : ℕ) → holds Zero ≡ false → spelt holds (replicate n Zero) ≡ 0
zeros holds zero is = refl
zeros holds (suc n) is = let rest = zeros holds n is in let e : digit (holds Zero) ≡ 0 = ap digit is in omega (arith, rest, e)

moved_spells : (holds : Bit → Bool) (direction : Direction) (bits : List Bit) (places : ℕ) → holds Zero ≡ false → places ≤ length bits
    → spelt holds (moved_bits direction bits places) ≡ shift_value direction (length bits) (spelt holds bits) places
moved_spells holds Left bits places is within =
    let rest = length bits - places in
    let m = 2 ^ rest in
    let split : 2 ^ length bits ≡ 2 ^ places * m =
    ap (λ n. 2 ^ n) (let e : length bits ≡ places + rest = omega arith in e) ∙ pow-add 2 places rest in
    let none = zeros holds places is in
    spelt-append holds (replicate places Zero) (take rest bits)
    ∙ (λ t. none t + 2 ^ length-replicate places Zero t * spelt-take holds rest bits (omega arith) t)
    ∙ (let e : 0 + 2 ^ places * (spelt holds bits % m) ≡ 2 ^ places * (spelt holds bits % m) = omega arith in e)
    ∙ moved_up (2 ^ places) m (spelt holds bits) (pow_pos rest) (pow_pos places)
    ∙ ap (λ n. spelt holds bits * 2 ^ places % n) (sym split)
moved_spells holds Right bits places is within =
    let none = zeros holds places is in
    spelt-append holds (drop places bits) (replicate places Zero)
    ∙ (λ t. spelt-drop holds places bits within t + 2 ^ length (drop places bits) * none t)
    ∙ (let e : spelt holds bits / 2 ^ places + 2 ^ length (drop places bits) * 0 ≡ spelt holds bits / 2 ^ places = omega arith in e)

moved_wide : (direction : Direction) (bits : List Bit) (places : ℕ) → places ≤ length bits → length (moved_bits direction bits places) ≡ length bits
moved_wide Left bits places within =
    let e = length-append (replicate places Zero) (take (length bits - places) bits) in
    let f = length-replicate places Zero in
    let g = length-take-le (length bits - places) bits (omega arith) in
    omega (arith, e, f, g)
moved_wide Right bits places within =
    let e = length-append (drop places bits) (replicate places Zero) in
    let f = length-replicate places Zero in
    let g = length-drop places bits in
    omega (arith, e, f, g)

-- ---- the stages

-- the word was shifted by the k lowest bits of the amount
pub record IsShifted (old new : List Gate) (direction : Direction) (bits amount word : List Bit) (k : ℕ) : Type 0 where
  pub makes : MakesWord old new (3 * length bits * k) (length bits) word
  pub value : Always new (λ holds. spelt holds word
      ≡ shift_value direction (length bits) (spelt holds bits) (spelt holds (take k amount)))

pub shifted_none : (gates : List Gate) (direction : Direction) (bits amount : List Bit) → AreBits (length gates) bits
    → IsShifted gates gates direction bits amount bits 0
shifted_none gates direction bits amount are =
    record {
      makes =
          record {
            grows = counted gates gates 0 (3 * length bits * 0) (omega arith) (grows_none gates);
            width_is = refl;
            are_bits = are;
          };
      value = λ arguments gives settled. no_shift direction (length bits) (spelt (bit_value arguments gives) bits) (spelt_below (bit_value arguments gives) bits);
    }

stage_spells : (holds : Bit → Bool) (direction : Direction) (bits amount word next : List Bit) (k places : ℕ) → holds Zero ≡ false
    → k < length amount → length word ≡ length bits → places ≡ min (2 ^ k) (length bits)
    → spelt holds word ≡ shift_value direction (length bits) (spelt holds bits) (spelt holds (take k amount))
    → spelt holds next ≡ (if holds (slice_index_or amount k Zero) then spelt holds (moved_bits direction word places) else spelt holds word)
    → spelt holds next ≡ shift_value direction (length bits) (spelt holds bits) (spelt holds (take (k + 1) amount))
stage_spells holds direction bits amount word next k places nothing within wide is_places before is =
    is ∙ either (holds (slice_index_or amount k Zero)) ∙ ap (shift_value direction (length bits) (spelt holds bits)) (sym (spelt_more holds amount k Zero within))
  where
    moved : spelt holds (moved_bits direction word places) ≡ shift_value direction (length bits) (spelt holds bits) (spelt holds (take k amount) + 2 ^ k)
    moved =
        moved_spells holds direction word places nothing (omega (arith, is_places, wide))
        ∙ (λ t. shift_value direction (wide t) (spelt holds word) (is_places t))
        ∙ clamped direction (length bits) (spelt holds word) (2 ^ k) (subst (λ n. spelt holds word < 2 ^ n) wide (spelt_below holds word))
        ∙ ap (λ n. shift_value direction (length bits) n (2 ^ k)) before
        ∙ shifts_add direction (length bits) (spelt holds bits) (spelt holds (take k amount)) (2 ^ k)

    either : (b : Bool) → (if b then spelt holds (moved_bits direction word places) else spelt holds word)
        ≡ shift_value direction (length bits) (spelt holds bits) (spelt holds (take k amount) + 2 ^ k * digit b)
    either true = moved ∙ ap (λ n. shift_value direction (length bits) (spelt holds bits) (spelt holds (take k amount) + n)) (omega arith)
    either false = before ∙ ap (shift_value direction (length bits) (spelt holds bits)) (omega arith)

pub shifted_more : (old new newer : List Gate) (direction : Direction) (bits amount word moved next : List Bit) (k places : ℕ)
    → IsShifted old new direction bits amount word k → k < length amount → places ≡ min (2 ^ k) (length bits)
    → moved ≡ moved_bits direction word places
    → MakesWord new newer (3 * length moved) (length moved) next
    → Always newer (λ holds. spelt holds next ≡ (if holds (slice_index_or amount k Zero) then spelt holds moved else spelt holds word))
    → IsShifted old newer direction bits amount next (k + 1)
shifted_more old new newer direction bits amount word moved next k places is within is_places is_moved makes value =
    let wide : length moved ≡ length bits =
    ap length is_moved ∙ moved_wide direction word places (omega (arith, is_places, is.makes.width_is)) ∙ is.makes.width_is in
    record {
      makes =
          record {
            grows =
                counted old newer (3 * length bits * k + 3 * length moved) (3 * length bits * (k + 1))
                (ap (λ n. 3 * length bits * k + 3 * n) wide ∙ stage_count (length bits) k)
                (grows_on old new newer (3 * length bits * k) (3 * length moved) is.makes.grows makes.grows);
            width_is = makes.width_is ∙ wide;
            are_bits = makes.are_bits;
          };
      value =
          λ arguments gives settled.
          let holds = bit_value arguments gives in
          stage_spells holds direction bits amount word next k places refl within is.makes.width_is is_places
          (is.value arguments gives (makes.grows.kept arguments gives settled))
          (value arguments gives settled
          ∙ ap (λ l. if holds (slice_index_or amount k Zero) then spelt holds l else spelt holds word) is_moved);
    }
  where
    stage_count : (n k : ℕ) → 3 * n * k + 3 * n ≡ 3 * n * (k + 1)
    stage_count n k = grind arith

-- ---- the bits of moved words are there

pub moved_are : (made : ℕ) (direction : Direction) (bits : List Bit) (places : ℕ) → AreBits made bits
    → AreBits made (moved_bits direction bits places)
moved_are made Left bits places are =
    appended_bits made (replicate places Zero) (take (length bits - places) bits)
    (zero_bits made places)
    (taken_bits made (length bits - places) bits (omega arith) are)
moved_are made Right bits places are =
    appended_bits made (drop places bits) (replicate places Zero) (dropped_bits made places bits are)
    (zero_bits made places)
