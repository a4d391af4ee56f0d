-- Segments in the order of their addresses.
use Rattle.std.proofs.Common.{◌≡◌, ℕ, ◌-◌, ◌<◌, ◌≤◌, inl, inr, List, length, get_or, ◌∙◌, arith}
use Rattle.std.specs.List.{Contains}
use Rattle.std.specs.List.Sorted.{IsNonDecreasingBy}
use Rattle.std.proofs.lemmas.Bool.{cases_lt}
use Rattle.std.proofs.lemmas.List.{get_or_default}
use Rattle.std.proofs.lemmas.List.Elements.{Contains-get_or}
use Rattle.ci_elf.specs.declared.segments.Segment.{Segment}
use Rattle.ci_elf.specs.private.Checks.{IsLastBefore}

module _ (segments : List Segment) (address after : ℕ)
    (behind : (k : ℕ) (d : Segment) → after ≤ k → k < length segments → address < (get_or segments k d).address) where
  pub none_before : after ≡ 0 → (s : Segment) → Contains segments s → address < s.address
  none_before none s c = rw c.2 at (behind c.0 s (omega arith) c.1)

  pub last_before :
      0 < after → after ≤ length segments → IsNonDecreasingBy (λ s. s.address) segments
      → ((k : ℕ) (d : Segment) → k < after → (get_or segments k d).address ≤ address)
      → (d : Segment) → IsLastBefore segments address (get_or segments (after - 1) d)
  last_before some within sorted before d = record {
    among = Contains-get_or segments (after - 1) d (omega arith);
    before = before (after - 1) d (omega arith);
    last = λ s c h. elim (cases_lt c.0 after) [
      | inl l ↦
          let place : get_or segments c.0 d ≡ s = get_or_default segments c.0 d s c.1 ∙ c.2 in
          rw place at (sorted c.0 (after - 1) d (omega arith) (omega arith))
      | inr l ↦ absurd (omega (arith, h, rw c.2 at (behind c.0 s l c.1)))
    ];
  }
