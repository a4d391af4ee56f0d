-- Runs of places that are taken: how far they reach, and two of them joined.
use Rattle.std.proofs.Common.{◌≡◌, ℕ, ◌+◌, ◌-◌, ◌*◌, ◌<◌, ◌≤◌, List, length, set, get_or, inl, inr, arith}
use Rattle.std.proofs.Common.{get_or-set_other, get_or-set_same}
use Rattle.std.proofs.lemmas.Bool.{cases_eq, cases_lt}
use Rattle.std.proofs.lemmas.List.{get_or_past}
use Rattle.ci_elf.specs.Runs.{AreRuns}

-- what isn't 0 stands in the list
within : (runs : List ℕ) (i : ℕ) → 0 < get_or runs i 0 → i < length runs
within runs i some = elim (cases_lt i (length runs)) [
  | inl h ↦ h
  | inr h ↦ absurd (omega (arith, get_or_past runs i 0 h))
]

-- how far a run reaches
reach : (runs : List ℕ) (i : ℕ) → AreRuns runs → 0 < get_or runs i 0 → i + 16 * (get_or runs i 0 - 1) < length runs
reach runs i sound some =
    within runs (i + 16 * (get_or runs i 0 - 1)) (sound.taken i (get_or runs i 0 - 1) (omega arith))

-- where a taken place is written, it stays taken
stays :
    (runs : List ℕ) (i value j : ℕ) → (0 < get_or runs i 0 → 0 < value) → 0 < get_or runs j 0
    → 0 < get_or (set runs i value) j 0
stays runs i value j keeps some = elim (cases_eq j i) [
  | inl same ↦
      let here : 0 < get_or runs i 0 = rw (← same) some in
      let there : i < length runs = within runs i here in
      rw (same, get_or-set_same runs i value 0 there) (keeps here)
  | inr other ↦ rw (get_or-set_other runs i j value 0 other) some
]

-- a run, and the one behind it
module _ (runs : List ℕ) (sound : AreRuns runs) (i run more : ℕ) (here : run ≡ get_or runs i 0) (there : more ≡ get_or runs (i + 16 * run) 0) where
  pub both_taken : (j : ℕ) → j < run + more → 0 < get_or runs (i + 16 * j) 0
  both_taken j h = elim (cases_lt j run) [
    | inl l ↦ sound.taken i j (omega arith)
    | inr l ↦
        let place : i + 16 * run + 16 * (j - run) ≡ i + 16 * j = omega arith in
        rw (← place) (sound.taken (i + 16 * run) (j - run) (omega arith))
  ]

  pub joined : i < length runs → AreRuns (set runs i (run + more))
  joined among = record {
    taken = λ k j h. stays runs i (run + more) (k + 16 * j) (λ some. omega arith) (elim (cases_eq k i) [
      | inl same ↦
          let less : j < run + more = rw (same, get_or-set_same runs i (run + more) 0 among) at h in
          rw same (both_taken j less)
      | inr other ↦
          let less : j < get_or runs k 0 = rw (get_or-set_other runs i k (run + more) 0 other) at h in
          sound.taken k j less
    ]);
  }

  pub joined_small : length runs ≤ 268435456 → run + more ≤ 268435456
  joined_small small = elim (cases_lt 0 more) [
    | inl h ↦ omega (arith, reach runs (i + 16 * run) sound (omega arith))
    | inr h ↦ elim (cases_lt 0 run) [
      | inl l ↦ omega (arith, reach runs i sound (omega arith))
      | inr l ↦ omega arith
    ]
  ]
