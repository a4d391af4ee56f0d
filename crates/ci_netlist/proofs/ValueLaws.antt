-- Every netlist has one value at each list of values of its inputs.
use Rattle.std.specs.Prelude.{◌≡◌, ℕ, suc, zero, ◌+◌, ◌*◌, ◌<◌, ◌≤◌, ◌&&◌, ◌||◌, Bool}
use Rattle.std.specs.Prelude.{true, false, nat_eq, if◌then◌else◌, List, [], ◌∷◌, length, take, drop}
use Rattle.std.specs.List.{slice_index_or}
use Rattle.std.proofs.Common.{refl, sym, ap, ◌∙◌, subst, arith, inl, inr}
use Rattle.std.proofs.lemmas.Bool.{cases_lt}
use Rattle.std.proofs.lemmas.Bool.Decides.{nat_tests}
use Rattle.std.proofs.lemmas.List.{get_or_default, get_or-take, get_or-drop, length-take, length-drop}
use Rattle.ci_netlist.specs.declared.bits.Bit.{Bit}
use Rattle.ci_netlist.specs.declared.bits.Bit.TheVariants.{Zero, One, Input, Made}
use Rattle.ci_netlist.specs.declared.bits.Gate.{Gate}
use Rattle.ci_netlist.specs.declared.bits.Gate.TheVariants.{And, Or, Xor}
use Rattle.ci_netlist.specs.Netlists.{differ, digit, bit_value, gate_value, spelt}
use Rattle.ci_netlist.specs.Netlists.{Settles, IsBit, AreBits, HasBits, AreGates}
use Rattle.ci_netlist.specs.Netlists.{results_of}
use Rattle.ci_netlist.specs.Laws.{ValueExists, ValueIsOne}

-- ---- what a bit or a gate holds hangs on earlier gates alone

abbrev Agree : ℕ → (ℕ → Bool) → (ℕ → Bool) → Type 0
Agree n gives other = (g : ℕ) → g < n → gives g ≡ other g

bit_agrees : (arguments : List ℕ) (gives other : ℕ → Bool) (n : ℕ) (bit : Bit) → Agree n gives other → IsBit n bit
    → bit_value arguments gives bit ≡ bit_value arguments other bit
bit_agrees arguments gives other n Zero agree is = refl
bit_agrees arguments gives other n One agree is = refl
bit_agrees arguments gives other n (Input k) agree is = refl
bit_agrees arguments gives other n (Made g) agree is = agree g is.names

gate_agrees : (arguments : List ℕ) (gives other : ℕ → Bool) (n : ℕ) (gate : Gate) → Agree n gives other → HasBits n gate
    → gate_value (bit_value arguments gives) gate ≡ gate_value (bit_value arguments other) gate
gate_agrees arguments gives other n (And a b) agree has =
    λ t. bit_agrees arguments gives other n a agree has.0 t && bit_agrees arguments gives other n b agree has.1 t
gate_agrees arguments gives other n (Or a b) agree has =
    λ t. bit_agrees arguments gives other n a agree has.0 t || bit_agrees arguments gives other n b agree has.1 t
gate_agrees arguments gives other n (Xor a b) agree has =
    λ t. differ (bit_agrees arguments gives other n a agree has.0 t)
    (bit_agrees arguments gives other n b agree has.1 t)

-- ---- there is one

abbrev SettlesBelow : List Gate → List ℕ → (ℕ → Bool) → ℕ → Type 0
SettlesBelow gates arguments gives n =
    (k : ℕ) → k < n → (d : Gate) → gives k ≡ gate_value (bit_value arguments gives) (slice_index_or gates k d)

module _ (gates : List Gate) (are : AreGates gates) (arguments : List ℕ) where
  next_gives : (ℕ → Bool) → ℕ → ℕ → Bool
  next_gives gives n k =
      if nat_eq k n then gate_value (bit_value arguments gives) (slice_index_or gates n (And Zero Zero)) else gives k

  stays : (gives : ℕ → Bool) (n : ℕ) → Agree n gives (next_gives gives n)
  unfolding next_gives
  stays gives n g below =
      ap (λ b. if b then gate_value (bit_value arguments gives) (slice_index_or gates n (And Zero Zero)) else gives g)
      (let e : false ≡ nat_eq g n = grind (arith, nat_tests) in e)

  is_new : (gives : ℕ → Bool) (n : ℕ)
      → next_gives gives n n ≡ gate_value (bit_value arguments gives) (slice_index_or gates n (And Zero Zero))
  unfolding next_gives
  is_new gives n =
      ap (λ b. if b then gate_value (bit_value arguments gives) (slice_index_or gates n (And Zero Zero)) else gives n)
      (let e : nat_eq n n ≡ true = grind (arith, nat_tests) in e)

  has_bits : (k : ℕ) → k < length gates → (d : Gate) → HasBits k (slice_index_or gates k d)
  unfolding AreGates
  has_bits k below d = are k below d

  settles_next : (gives : ℕ → Bool) (n : ℕ) → n < length gates → SettlesBelow gates arguments gives n
      → SettlesBelow gates arguments (next_gives gives n) (suc n)
  settles_next gives n within settled k below d =
      elim (cases_lt k n) [
        | inl low ↦
            sym (stays gives n k low) ∙ settled k low d
            ∙ gate_agrees arguments gives (next_gives gives n) k (slice_index_or gates k d)
            (λ g early. stays gives n g (omega arith)) (has_bits k (omega arith) d)
        | inr high ↦ let last : n ≡ k =
            omega arith in subst (λ m. next_gives gives n m
            ≡ gate_value (bit_value arguments (next_gives gives n)) (slice_index_or gates m d)) last
            (is_new gives n ∙ ap (gate_value (bit_value arguments gives))
            (get_or_default gates n (And Zero Zero) d within)
            ∙ gate_agrees arguments gives (next_gives gives n) n (slice_index_or gates n d)
            (λ g early. stays gives n g early) (has_bits n within d))
      ]

  settled_below : (n : ℕ) → n ≤ length gates → (gives : ℕ → Bool) × SettlesBelow gates arguments gives n
  settled_below zero within = ((λ k. false), λ k below d. absurd (omega arith))
  settled_below (suc n) within =
      let before = settled_below n (omega arith) in
      (next_gives before.0 n, settles_next before.0 n (omega arith) before.1)

  pub settled_somehow : (gives : ℕ → Bool) × Settles gates arguments gives
  unfolding Settles
  settled_somehow = let all = settled_below (length gates) (omega arith) in (all.0, all.1)

  -- ---- and no other
  agree_below : (gives other : ℕ → Bool) → Settles gates arguments gives → Settles gates arguments other
      → (n : ℕ) → n ≤ length gates → Agree n gives other
  unfolding Settles
  agree_below gives other left right zero within g below = absurd (omega arith)
  agree_below gives other left right (suc n) within g below =
      elim (cases_lt g n) [
        | inl low ↦ agree_below gives other left right n (omega arith) g low
        | inr high ↦
            let e : g ≡ n = omega arith in
            let early : Agree g gives other =
            λ h less. agree_below gives other left right n (omega arith) h (omega arith) in
            left g (omega arith) (And Zero Zero)
            ∙ gate_agrees arguments gives other g (slice_index_or gates g (And Zero Zero)) early
            (has_bits g (omega arith) (And Zero Zero))
            ∙ sym (right g (omega arith) (And Zero Zero))
      ]

  pub settled_alike : (gives other : ℕ → Bool) → Settles gates arguments gives → Settles gates arguments other
      → Agree (length gates) gives other
  settled_alike gives other left right = agree_below gives other left right (length gates) (omega arith)

-- ---- results

spelt_alike : (arguments : List ℕ) (gives other : ℕ → Bool) (n : ℕ) (bits : List Bit) → Agree n gives other
    → AreBits n bits
    → spelt (bit_value arguments gives) bits ≡ spelt (bit_value arguments other) bits
spelt_alike arguments gives other n [] agree are = refl
spelt_alike arguments gives other n (b ∷ bits) agree are =
    λ t. digit (bit_agrees arguments gives other n b agree (are.each 0 (omega arith) b) t)
    + 2 * spelt_alike arguments gives other n bits agree
    (record { each = λ k below d. are.each (suc k) (omega arith) d }) t

pub value_exists : ValueExists
value_exists net is arguments =
    let settled = settled_somehow net.gates is.are_gates arguments in (
      results_of (bit_value arguments settled.0) net.outputs,
      record { gives = settled.0; settled = settled.1; results_are = refl },
    )

pub some_bits : (made n k : ℕ) (bits : List Bit) → AreBits made bits → AreBits made (take n (drop k bits))
some_bits made n k bits are = record { each = each }
  where
    each : (i : ℕ) → i < length (take n (drop k bits)) → (d : Bit)
        → IsBit made (slice_index_or (take n (drop k bits)) i d)
    each i below d =
        let e = length-take n (drop k bits) in
        let f = length-drop k bits in
        subst (IsBit made) (sym (get_or-take n (drop k bits) i d (omega (arith, e)) ∙ get_or-drop k bits i d))
        (are.each (k + i) (omega (arith, e, f)) d)

rest_bits : (made k : ℕ) (bits : List Bit) → AreBits made bits → AreBits made (drop k bits)
rest_bits made k bits are =
    record {
      each =
          λ i below d.
          subst (IsBit made) (sym (get_or-drop k bits i d))
          (are.each (k + i) (let f = length-drop k bits in omega (arith, f)) d);
    }

pub value_is_one : ValueIsOne
value_is_one net is arguments left right one other =
    let agree = settled_alike net.gates is.are_gates arguments one.gives other.gives one.settled other.settled in
    let n = length net.gates in
    let same =
    λ (bits : List Bit) (are : AreBits n bits). spelt_alike arguments one.gives other.gives n bits agree are in
    one.results_are
    ∙ (λ t. same (take 32 net.outputs) (some_bits n 32 0 net.outputs is.are_bits) t
    ∷ same (take 32 (drop 32 net.outputs)) (some_bits n 32 32 net.outputs is.are_bits) t
    ∷ same (drop 64 net.outputs) (rest_bits n 64 net.outputs is.are_bits) t ∷ [])
    ∙ sym other.results_are
