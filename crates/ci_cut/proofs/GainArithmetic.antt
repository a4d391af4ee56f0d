-- The sums and products of a gain fit 64 bits.
use Rattle.std.proofs.Common.{◌≡◌, ℕ, ◌*◌, ◌^◌, ◌<◌, ◌≤◌, ℤ, pos, ◌-ℤ◌, ◌*ℤ◌, ◌≤ℤ◌, neg_ℤ, FitsSigned, to_z, of_z, w64, ap, ◌∙◌, arith}
use Rattle.std.specs.Prelude.{unsigned_abs}
use Rattle.std.proofs.lemmas.Int.{ints, to_z_pos, to_z-of_z, unsigned_abs-mul, fits_signed_from_abs}
use Rattle.std.proofs.lemmas.Nat.{mul-le}
use Rattle.ci_cut.specs.Gain.{saved_cycles}

-- the places that are left over
abbrev pub places_of : ℕ → ℕ → ℤ
places_of size further = (pos size -ℤ pos 1) -ℤ pos further

module _ (further read : ℕ) (few : further ≤ 256) (read_fits : read < 2 ^ 32) where
  pub reads_is : to_z w64 further *ℤ to_z w64 read ≡ pos (further * read)
  reads_is =
      let e : to_z w64 further ≡ pos further = to_z_pos w64 further (omega arith) in
      let f : to_z w64 read ≡ pos read = to_z_pos w64 read (omega arith) in
      ap (λ z. z *ℤ to_z w64 read) e ∙ ap (λ z. pos further *ℤ z) f

  pub reads_fit : FitsSigned w64 (to_z w64 further *ℤ to_z w64 read)
  reads_fit = rw reads_is (fits_signed_from_abs w64 (pos (further * read)) (omega (arith, mul-le further read 256 (2 ^ 32) few (omega arith))))

module _ (size further pad : ℕ) (size_few : size ≤ 256) (few : further ≤ 256) (pad_fits : pad < 2 ^ 32) where
  pub places_is : to_z w64 (of_z w64 (to_z w64 (of_z w64 (to_z w64 size -ℤ pos 1)) -ℤ to_z w64 further)) ≡ places_of size further
  places_is = omega (arith, ints)

  places_few : unsigned_abs (places_of size further) ≤ 512
  places_few = omega (arith, ints)

  pub pads_most : unsigned_abs (places_of size further *ℤ pos pad) ≤ 512 * 2 ^ 32
  pads_most = rw unsigned_abs-mul (mul-le (unsigned_abs (places_of size further)) pad 512 (2 ^ 32) places_few (omega arith))

  pads_are : to_z w64 (of_z w64 (to_z w64 (of_z w64 (to_z w64 size -ℤ pos 1)) -ℤ to_z w64 further)) *ℤ to_z w64 pad ≡ places_of size further *ℤ pos pad
  pads_are =
      let e : to_z w64 pad ≡ pos pad = to_z_pos w64 pad (omega arith) in
      ap (λ z. z *ℤ to_z w64 pad) places_is ∙ ap (λ z. places_of size further *ℤ z) e

  pub pads_fit : FitsSigned w64 (to_z w64 (of_z w64 (to_z w64 (of_z w64 (to_z w64 size -ℤ pos 1)) -ℤ to_z w64 further)) *ℤ to_z w64 pad)
  pads_fit = rw pads_are (fits_signed_from_abs w64 (places_of size further *ℤ pos pad) (omega (arith, pads_most)))

-- an integer is between its size and the negative of that
between : (z : ℤ) (m : ℕ) → unsigned_abs z ≤ m → (neg_ℤ (pos m) ≤ℤ z) × (z ≤ℤ pos m)
between z m h = (omega (arith, ints), omega (arith, ints))

-- a difference of numbers that are far from the ends fits
pub difference_fits : (software hardware reads : ℕ) (pads : ℤ) → software ≤ 256000 → hardware < 2 ^ 32
    → reads ≤ 256 * 2 ^ 32 → unsigned_abs pads ≤ 512 * 2 ^ 32
    → FitsSigned w64 (((pos software -ℤ pos hardware) -ℤ pos reads) -ℤ pads)
difference_fits software hardware reads pads a b c d =
    let bounds = between pads (512 * 2 ^ 32) d in
    omega (arith, ints)

module _ (software hardware further read : ℕ) (software_most : software ≤ 256000)
    (hardware_most : hardware < 2 ^ 32) (few : further ≤ 256) (read_fits : read < 2 ^ 32) where
  reads_back_is : to_z w64 (of_z w64 (to_z w64 further *ℤ to_z w64 read)) ≡ pos (further * read)
  reads_back_is = to_z-of_z w64 _ (reads_fit further read few read_fits) ∙ reads_is further read few read_fits

  reads_most : further * read ≤ 256 * 2 ^ 32
  reads_most = mul-le further read 256 (2 ^ 32) few (omega arith)

  -- the latencies less the hardware time, less the reads
  abbrev less_reads : ℤ
  less_reads =
      to_z w64 (of_z w64 (to_z w64 software -ℤ to_z w64 hardware)) -ℤ to_z w64 (of_z w64 (to_z w64 further *ℤ to_z w64 read))

  less_reads_is : less_reads ≡ (pos software -ℤ pos hardware) -ℤ pos (further * read)
  less_reads_is =
      let saved : to_z w64 (of_z w64 (to_z w64 software -ℤ to_z w64 hardware)) ≡ pos software -ℤ pos hardware = omega (arith, ints) in
      ap (λ z. z -ℤ to_z w64 (of_z w64 (to_z w64 further *ℤ to_z w64 read))) saved ∙ ap (λ z. (pos software -ℤ pos hardware) -ℤ z) reads_back_is

  pub less_reads_fits : FitsSigned w64 less_reads
  less_reads_fits = rw less_reads_is (omega (arith, ints, reads_most))

  module _ (size pad : ℕ) (size_few : size ≤ 256) (pad_fits : pad < 2 ^ 32) where
    -- the charge for the places that are left over
    abbrev pads_back : ℤ
    pads_back =
        to_z w64 (of_z w64 (to_z w64 (of_z w64 (to_z w64 (of_z w64 (to_z w64 size -ℤ pos 1)) -ℤ to_z w64 further)) *ℤ to_z w64 pad))

    pads_back_are : pads_back ≡ places_of size further *ℤ pos pad
    pads_back_are = to_z-of_z w64 _ (pads_fit size further pad size_few few pad_fits) ∙ pads_are size further pad size_few few pad_fits

    less_pads_is : to_z w64 (of_z w64 less_reads) -ℤ pads_back ≡ saved_cycles read pad software hardware further size
    less_pads_is =
        ap (λ z. z -ℤ pads_back) (to_z-of_z w64 less_reads less_reads_fits ∙ less_reads_is)
        ∙ ap (λ z. ((pos software -ℤ pos hardware) -ℤ pos (further * read)) -ℤ z) pads_back_are

    pub less_pads_fits : FitsSigned w64 (to_z w64 (of_z w64 less_reads) -ℤ pads_back)
    less_pads_fits =
        rw less_pads_is
        (difference_fits software hardware (further * read)
        (places_of size further *ℤ pos pad) software_most hardware_most reads_most
        (pads_most size further pad size_few few pad_fits))

    -- what the code computes is the gain of these numbers
    pub gain_is : to_z w64 (of_z w64 (to_z w64 (of_z w64 less_reads) -ℤ pads_back)) ≡ saved_cycles read pad software hardware further size
    gain_is = to_z-of_z w64 _ less_pads_fits ∙ less_pads_is
