-- What gates give, one after the other, and the words of bits.
use Rattle.std.specs.Prelude.{◌≡◌, ℕ, suc, ◌+◌, ◌-◌, ◌*◌, ◌^◌, ◌<◌, ◌≤◌, Bool}
use Rattle.std.specs.Prelude.{true, false, List, [], ◌∷◌, ◌++◌, length, drop}
use mir.Val.{bool_byte}
use Rattle.std.specs.List.{slice_index_or}
use Rattle.std.proofs.Common.{refl, sym, ap, ◌∙◌, subst, arith, inl, inr}
use Rattle.std.proofs.lemmas.Bool.{cases_lt}
use Rattle.std.proofs.lemmas.List.{get_or_append_left, get_or_push, length_push, drop_more, drop_all}
use Rattle.std.proofs.Math.Nat.{pow-succ'}
use Rattle.ci_netlist.specs.declared.bits.Bit.{Bit}
use Rattle.ci_netlist.specs.declared.bits.Gate.{Gate}
use Rattle.ci_netlist.specs.Netlists.{digit, bit_value, gate_value, spelt, Settles, AreBits, AreGates, HasBits}
use Rattle.ci_netlist.specs.Netlists.{Netlist, IsNetlist, results_of, IsValueOf}
use Rattle.ci_netlist.specs.private.Settled.{Holds, SettlesAs}
use Rattle.ci_netlist.proofs.SpellingLaws.{digit_below}
use Rattle.ci_netlist.proofs.ValueLaws.{settled_somehow}

holds_more : (gives : ℕ → Bool) (given : List Bool) (v : Bool) → Holds gives given → gives (length given) ≡ v
    → Holds gives (given ++ v ∷ [])
holds_more gives given v holds last k below d =
    let e = length_push given v in
    elim (cases_lt k (length given)) [
      | inl low ↦ holds k low d ∙ sym (get_or_append_left given (v ∷ []) d k low)
      | inr high ↦
          let same : length given ≡ k = omega (arith, e) in
          ap gives (sym same) ∙ last ∙ sym (get_or_push given v d k same)
    ]

-- the first gates give these
pub record SettlesFirst (gates : List Gate) (arguments : List ℕ) (given : List Bool) (k : ℕ) : Type 0 where
  pub count : length given ≡ k
  pub holds : (gives : ℕ → Bool) → Settles gates arguments gives → Holds gives given

pub settles_none : (gates : List Gate) (arguments : List ℕ) → SettlesFirst gates arguments [] 0
settles_none gates arguments = record { count = refl; holds = λ gives settled k below d. absurd (omega arith) }

pub settles_more : (gates : List Gate) (arguments : List ℕ) (given : List Bool) (k : ℕ) (d : Gate) (v : Bool)
    → k < length gates → SettlesFirst gates arguments given k
    → ((gives : ℕ → Bool) → Holds gives given → v ≡ gate_value (bit_value arguments gives) (slice_index_or gates k d))
    → SettlesFirst gates arguments (given ++ v ∷ []) (k + 1)
unfolding Settles
settles_more gates arguments given k d v below before value =
    record {
      count = let e = length_push given v in omega (arith, e, before.count);
      holds = λ gives settled.
          let first = before.holds gives settled in
          holds_more gives given v first
          (ap gives before.count ∙ settled k below d ∙ sym (value gives first));
    }

pub settles_all : (gates : List Gate) (arguments : List ℕ) (given : List Bool) (k : ℕ) → k ≡ length gates
    → SettlesFirst gates arguments given k
    → SettlesAs gates arguments given
settles_all gates arguments given k end first = record { count = first.count ∙ end; holds = first.holds }

-- a gate at its place names what was given before it
pub gate_has_bits : (gates : List Gate) (arguments : List ℕ) (given : List Bool) (k : ℕ) (d : Gate) → AreGates gates
    → k < length gates → SettlesFirst gates arguments given k → HasBits (length given) (slice_index_or gates k d)
unfolding AreGates
gate_has_bits gates arguments given k d are below first =
    subst (λ n. HasBits n (slice_index_or gates k d)) (sym first.count) (are k below d)

-- ---- words

pub no_bits : (holds : Bit → Bool) (bits : List Bit) (k : ℕ) → length bits ≡ k → 0 ≡ spelt holds (drop k bits)
no_bits holds bits k end = sym (ap (spelt holds) (drop_all k bits (omega (arith, end))))

byte_is : (b : Bool) → bool_byte b ≡ digit b
byte_is true = refl
byte_is false = refl

bit_above : (holds : Bit → Bool) (bits : List Bit) (k word : ℕ) (d : Bit) (b : Bool) → k < length bits
    → word ≡ spelt holds (drop (k + 1) bits) → b ≡ holds (slice_index_or bits k d)
    → 2 * word + digit b ≡ spelt holds (drop k bits)
bit_above holds bits k word d b below is_word is_bit =
    let all : spelt holds (drop k bits)
    ≡ digit (holds (slice_index_or bits k d)) + 2 * spelt holds (drop (k + 1) bits) =
    ap (spelt holds) (drop_more bits k d below) in
    let here : digit b ≡ digit (holds (slice_index_or bits k d)) = ap digit is_bit in
    omega (arith, all, here, is_word)

-- a bit more below a word
pub bit_below : (holds : Bit → Bool) (bits : List Bit) (k word n : ℕ) (d : Bit) (b : Bool) → 0 < k → k ≤ length bits
    → word ≡ spelt holds (drop k bits) → b ≡ holds (slice_index_or bits (k - 1) d) → n ≡ bool_byte b
    → 2 * word + n ≡ spelt holds (drop (k - 1) bits)
bit_below holds bits k word n d b some within is_word is_bit is_byte =
    let same : k ≡ k - 1 + 1 = omega arith in
    let before : word ≡ spelt holds (drop (k - 1 + 1) bits) = is_word ∙ ap (λ m. spelt holds (drop m bits)) same in
    ap (λ m. 2 * word + m) (is_byte ∙ byte_is b) ∙ bit_above holds bits (k - 1) word d b (omega arith) before is_bit

-- it stays a word
pub word_fits : (k word n : ℕ) (b : Bool) → 0 < k → k ≤ 32 → word < 2 ^ (32 - k) → n ≡ bool_byte b
    → 2 * word + n < 2 ^ (32 - (k - 1))
word_fits k word n b some within few is_byte =
    let bit = digit_below b in
    let same : n ≡ digit b = is_byte ∙ byte_is b in
    let more : 32 - (k - 1) ≡ suc (32 - k) = omega arith in
    let twice : 2 ^ (32 - (k - 1)) ≡ 2 * 2 ^ (32 - k) = ap (λ m. 2 ^ m) more ∙ pow-succ' 2 (32 - k) in
    omega (arith, twice, few, bit, same)

-- ---- results

module _ (net : Netlist) (is : IsNetlist net) (arguments : List ℕ) (gates : List Gate) (given : List Bool)
    (same_gates : gates ≡ net.gates) (settles : SettlesAs gates arguments given) where
  -- the results name what was given
  pub names_given : (seen : List Bool) (outputs : List Bit) → seen ≡ given → outputs ≡ net.outputs
      → AreBits (length seen) outputs
  names_given seen outputs same_given same_outputs =
      let e : length net.gates ≡ length seen = sym (ap length same_given ∙ settles.count ∙ ap length same_gates) in
      subst (AreBits (length seen)) (sym same_outputs) (subst (λ n. AreBits n net.outputs) e is.are_bits)

  pub has_value : (results : List ℕ)
      → ((gives : ℕ → Bool) → Holds gives given → results ≡ results_of (bit_value arguments gives) net.outputs)
      → IsValueOf net arguments results
  has_value results are =
      let some = settled_somehow net.gates is.are_gates arguments in
      let holds = settles.holds some.0 (subst (λ gs. Settles gs arguments some.0) (sym same_gates) some.1) in
      record { gives = some.0; settled = some.1; results_are = are some.0 holds }
