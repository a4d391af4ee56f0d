-- Counts of faults that rose in a part of a call.
use Rattle.std.proofs.Common.{ℕ, ◌≤◌, inl, inr, arith}
use Rattle.std.proofs.lemmas.Bool.{cases_lt}
use Rattle.ci_io.specs.Outcomes.{Rises}

-- a count that rose in the last part of a call rose in the call
pub Rises-later : (first middle last : ℕ) → first ≤ middle → Rises middle last → Rises first last
Rises-later first middle last never_falls (inl rose) = inl (omega arith)
Rises-later first middle last never_falls (inr stands) = inr stands

-- a count that rose in the first part of a call rose in the call
pub Rises-earlier : (first middle last : ℕ) → first ≤ middle → Rises first middle → middle ≤ last → Rises first last
Rises-earlier first middle last low (inl rose) never_falls = inl (omega arith)
Rises-earlier first middle last low (inr stands) never_falls = elim (cases_lt middle last) [
  | inl above ↦ inl (omega arith)
  | inr below ↦ inr (omega arith)
]
