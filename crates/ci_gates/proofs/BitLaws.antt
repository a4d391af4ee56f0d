-- Bits of words are constants, inputs or outputs of gates that are there.
use Rattle.std.specs.Prelude.{◌≡◌, ℕ, ◌+◌, ◌-◌, ◌<◌, ◌≤◌, List, [], ◌∷◌, ◌++◌, length, replicate}
use Rattle.std.specs.List.{slice_index_or}
use Rattle.std.proofs.Common.{refl, sym, subst, arith, inl, inr, take, drop}
use Rattle.std.proofs.lemmas.Bool.{cases_lt}
use Rattle.std.proofs.lemmas.List.{get_or_append_left, get_or-append_right, get_or-take, get_or-drop, get_or-replicate}
use Rattle.std.proofs.lemmas.List.{length-append, length-take-le, length-drop, length-replicate}
use Rattle.ci_netlist.specs.declared.bits.Bit.{Bit}
use Rattle.ci_netlist.specs.declared.bits.Bit.TheVariants.{Zero, One, Input, Made}
use Rattle.ci_netlist.specs.declared.bits.Gate.{Gate}
use Rattle.ci_netlist.specs.Netlists.{IsBit, AreBits}
use Rattle.ci_gates.specs.private.Growing.{Grows}

-- ---- a bit stays one

later_bit : (bit : Bit) (n m : ℕ) → n ≤ m → IsBit n bit → IsBit m bit
later_bit Zero n m le is = record { names = tt }
later_bit One n m le is = record { names = tt }
later_bit (Input k) n m le is = record { names = is.names }
later_bit (Made g) n m le is = record { names = omega (arith, is.names) }

pub grown_bit : (old new : List Gate) (count : ℕ) (bit : Bit) → Grows old new count → IsBit (length old) bit → IsBit (length new) bit
grown_bit old new count bit grows is = later_bit bit (length old) (length new) (omega (arith, grows.count_is)) is

pub grown_bits : (old new : List Gate) (count : ℕ) (bits : List Bit) → Grows old new count → AreBits (length old) bits → AreBits (length new) bits
grown_bits old new count bits grows are = record { each = λ k below d. grown_bit old new count (slice_index_or bits k d) grows (are.each k below d) }

-- ---- words and parts of words

pub no_bits : (made : ℕ) → AreBits made []
no_bits made = record { each = λ k below d. absurd (omega arith) }

pub appended_bits : (made : ℕ) (xs ys : List Bit) → AreBits made xs → AreBits made ys → AreBits made (xs ++ ys)
appended_bits made xs ys left right = record { each = each }
  where
    each : (k : ℕ) → k < length (xs ++ ys) → (d : Bit) → IsBit made (slice_index_or (xs ++ ys) k d)
    each k below d =
        elim (cases_lt k (length xs)) [
          | inl low ↦ subst (IsBit made) (sym (get_or_append_left xs ys d k low)) (left.each k low d)
          | inr high ↦
              subst (IsBit made) (sym (get_or-append_right xs ys (length xs) k d refl high))
              (right.each (k - length xs) (let e = length-append xs ys in omega (arith, e)) d)
        ]

pub dropped_bits : (made n : ℕ) (bits : List Bit) → AreBits made bits → AreBits made (drop n bits)
dropped_bits made n bits are =
    record {
      each =
          λ k below d.
          subst (IsBit made) (sym (get_or-drop n bits k d))
          (are.each (n + k) (let e = length-drop n bits in omega (arith, e)) d);
    }

pub taken_bits : (made k : ℕ) (bits : List Bit) → k ≤ length bits → AreBits made bits → AreBits made (take k bits)
taken_bits made k bits within are =
    record {
      each =
          λ i below d.
          let e : i < k = let f = length-take-le k bits within in omega (arith, f) in
          subst (IsBit made) (sym (get_or-take k bits i d e)) (are.each i (omega arith) d);
    }

pub copied : (made : ℕ) (bit : Bit) (count : ℕ) (bits : List Bit) → bits ≡ replicate count bit → IsBit made bit → AreBits made bits
copied made bit count bits same is =
    subst (AreBits made) (sym same)
    (record {
      each =
          λ k below d.
          subst (IsBit made)
          (sym (get_or-replicate count k bit d (let e = length-replicate count bit in omega (arith, e)))) is;
    })

pub zero_bits : (made count : ℕ) → AreBits made (replicate count Zero)
zero_bits made count = copied made Zero count (replicate count Zero) refl (record { names = tt })

-- ---- one bit more, above or below

pub bits_more : (made : ℕ) (bits : List Bit) (bit : Bit) → AreBits made bits → IsBit made bit → AreBits made (bits ++ bit ∷ [])
bits_more made bits bit are is = appended_bits made bits (bit ∷ []) are (copied made bit 1 (bit ∷ []) refl is)

pub doubled_bits : (made : ℕ) (bits twice : List Bit) → twice ≡ Zero ∷ bits → AreBits made bits → AreBits made twice
doubled_bits made bits twice same are =
    subst (AreBits made) (sym same) (appended_bits made (Zero ∷ []) bits (zero_bits made 1) are)
