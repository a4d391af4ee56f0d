-- The saved cycles fall in what a use costs.
use Rattle.std.proofs.Common.{◌≡◌, ℕ, zero, suc, ◌+◌, ◌-◌, ◌*◌, ◌^◌, ◌<◌, ◌≤◌, ℤ, pos, ◌-ℤ◌, ◌*ℤ◌, ◌≤ℤ◌, FitsSigned, w64, ap, ◌∙◌, arith}
use Rattle.std.proofs.lemmas.Int.{ints}
use Rattle.std.proofs.Math.Nat.{mul-le-mul_left}
use Rattle.std.proofs.lemmas.Nat.{mul-le}
use lib.IntN.{pred_ℤ-*ℤ, -ℤ_one}
use Rattle.ci_cut.specs.Gain.{saved_cycles}
use Rattle.ci_cut.proofs.GainArithmetic.{places_of, pads_most, difference_fits}

-- a further word takes the place of a no-op
pads_less : (places : ℤ) (d pad : ℕ) → (places -ℤ pos d) *ℤ pos pad ≡ (places *ℤ pos pad) -ℤ pos (d * pad)
pads_less places zero pad =
    let same : places -ℤ pos 0 ≡ places = omega (arith, ints) in
    let all = places *ℤ pos pad in
    ap (λ z. z *ℤ pos pad) same ∙ none all
  where
    none : (z : ℤ) → z ≡ z -ℤ pos (0 * pad)
    none z = omega (arith, ints)
pads_less places (suc d) pad =
    let step : places -ℤ pos (suc d) ≡ (places -ℤ pos d) -ℤ pos 1 = omega (arith, ints) in
    ap (λ z. z *ℤ pos pad) (step ∙ -ℤ_one (places -ℤ pos d))
    ∙ pred_ℤ-*ℤ (places -ℤ pos d) (pos pad)
    ∙ ap (λ z. z -ℤ pos pad) (pads_less places d pad)
    ∙ one_more (places *ℤ pos pad)
  where
    one_more : (z : ℤ) → (z -ℤ pos (d * pad)) -ℤ pos pad ≡ z -ℤ pos (suc d * pad)
    one_more z = omega (arith, ints)

-- a read more for a no-op less, which costs no more
costs_more : (saved reads reads' pads other : ℕ) (a b : ℤ) (less more : ℕ) → less ≤ more → b ≡ a -ℤ pos pads
    → reads' ≡ reads + other → pads ≤ other → (((pos saved -ℤ pos more) -ℤ pos reads') -ℤ b) ≤ℤ
    (((pos saved -ℤ pos less) -ℤ pos reads) -ℤ a)
costs_more saved reads reads' pads other a b less more slower b_is reads_is cheap = omega (arith, ints)

-- the saved cycles fall in the hardware time, and in the further words where a no-op costs no more than a read
pub saved_cycles-antitone : (read pad latency less more fewer further members : ℕ) → pad ≤ read → less ≤ more
    → fewer ≤ further
    → saved_cycles read pad latency more further members ≤ℤ saved_cycles read pad latency less fewer members
saved_cycles-antitone read pad latency less more fewer further members cheap slower words =
    let d = further - fewer in
    let places : places_of members further ≡ places_of members fewer -ℤ pos d = omega (arith, ints) in
    let reads : further * read ≡ fewer * read + d * read = split fewer d further (omega arith) in
    costs_more latency (fewer * read) (further * read) (d * pad) (d * read) (places_of members fewer *ℤ pos pad)
    (places_of members further *ℤ pos pad) less more
    slower
    (ap (λ z. z *ℤ pos pad) places ∙ pads_less (places_of members fewer) d pad)
    reads
    (mul-le-mul_left d cheap)
  where
    both : (m n : ℕ) → (m + n) * read ≡ m * read + n * read
    both m n = omega arith

    split : (m n k : ℕ) → k ≡ m + n → k * read ≡ m * read + n * read
    split m n k is = ap (λ (j : ℕ). j * read) is ∙ both m n

-- more members with latencies of at least a no-op each save no less
gains_more : (latency more_latency hardware reads pads : ℕ) (a b : ℤ) → latency + pads ≤ more_latency
    → b ≡ a -ℤ pos pads → (((pos latency -ℤ pos hardware) -ℤ pos reads) -ℤ b) ≤ℤ
    (((pos more_latency -ℤ pos hardware) -ℤ pos reads) -ℤ a)
gains_more latency more_latency hardware reads pads a b enough b_is = omega (arith, ints)

pub saved_cycles-members : (read pad latency more_latency hardware further members more : ℕ) → members ≤ more
    → latency + (more - members) * pad ≤ more_latency
    → saved_cycles read pad latency hardware further members ≤ℤ saved_cycles read pad more_latency
    hardware further more
saved_cycles-members read pad latency more_latency hardware further members more grows enough =
    let d = more - members in
    let places : places_of members further ≡ places_of more further -ℤ pos d = omega (arith, ints) in
    gains_more latency more_latency hardware (further * read) (d * pad) (places_of more further *ℤ pos pad) (places_of members further *ℤ pos pad) enough
    (ap (λ z. z *ℤ pos pad) places ∙ pads_less (places_of more further) d pad)

-- saved cycles of few members fit 64 bits
pub saved_fits : (read pad latencies hardware further members : ℕ) → latencies ≤ 256000 → hardware < 2 ^ 32 → further ≤ 256 → members ≤ 256
    → read < 2 ^ 32 → pad < 2 ^ 32 → FitsSigned w64 (saved_cycles read pad latencies hardware further members)
saved_fits read pad latencies hardware further members a b c d e f =
    difference_fits latencies hardware (further * read) (places_of members further *ℤ pos pad) a b
    (mul-le further read 256 (2 ^ 32) c (omega arith)) (pads_most members further pad d c f)

-- a member less saves its latency less, and a no-op more
one_less : (latencies latency hardware reads pad : ℕ) (a b : ℤ) → b ≡ a -ℤ pos (1 * pad)
    → (((pos (latencies + latency) -ℤ pos hardware) -ℤ pos reads) -ℤ a) -ℤ (pos latency -ℤ pos pad)
    ≡ ((pos latencies -ℤ pos hardware) -ℤ pos reads) -ℤ b
one_less latencies latency hardware reads pad a b b_is = omega (arith, ints)

pub saved_one_less : (read pad latencies latency hardware further members : ℕ)
    → saved_cycles read pad (latencies + latency) hardware further (members + 1) -ℤ (pos latency -ℤ pos pad)
    ≡ saved_cycles read pad latencies hardware further members
saved_one_less read pad latencies latency hardware further members =
    let places : places_of members further ≡ places_of (members + 1) further -ℤ pos 1 = omega (arith, ints) in
    one_less latencies latency hardware (further * read) pad (places_of (members + 1) further *ℤ pos pad) (places_of members further *ℤ pos pad)
    (ap (λ z. z *ℤ pos pad) places ∙ pads_less (places_of (members + 1) further) 1 pad)
