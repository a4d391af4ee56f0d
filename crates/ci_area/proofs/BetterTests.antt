-- What is held of decisions tells whether what is taken in is better than the best.
use Rattle.std.proofs.Common.{◌≡◌, ℕ, ◌<◌, ◌≤◌, inl, inr, List, sym, ap, ◌∙◌, arith}
use Rattle.std.specs.FinSet as set
use Rattle.ci_cut.specs.Best.{ComesBefore}
use Rattle.ci_area.specs.declared.decided.Decided.{Decided}
use Rattle.ci_area.specs.declared.piece.Piece.{Piece}
use Rattle.ci_area.specs.declared.rules.Incumbent.{Incumbent}
use Rattle.ci_area.specs.AreaPrefixes.{taken}
use Rattle.ci_area.specs.AreaRules.{IsBetter}
use Rattle.ci_area.specs.Pieces.{area, gain, IsWithin}
use Rattle.ci_area.specs.Representation.{RepresentsSome, IsMeasured}
use Rattle.ci_area.proofs.DecidedLaws.{same_taken, taken_below}

module _ (pieces : List Piece) (limit : ℕ) (decided : Decided) (some : RepresentsSome pieces decided) where
  same : set.contains decided.taken ≡ taken pieces some.0
  same = same_taken pieces some.0 decided some.1

  area_is : decided.so_far.area ≡ area pieces (set.contains decided.taken)
  area_is = some.1.area_is ∙ sym (ap (area pieces) same)

  gain_is : decided.so_far.gain ≡ gain pieces (set.contains decided.taken)
  gain_is = some.1.gain_is ∙ sym (ap (gain pieces) same)

  taken_within : decided.so_far.area ≤ limit → IsWithin pieces limit (set.contains decided.taken)
  taken_within fits = record {
    are_pieces = λ k in_. taken_below pieces some.0 k some.1.within (sym (some.1.is_taken k) ∙ in_);
    fits = omega (arith, fits, area_is);
  }

  module _ (best : Incumbent) (measured : IsMeasured pieces limit best) where
    abbrev IsBetterHere : Type 0
    IsBetterHere = IsBetter pieces limit (set.contains best.set) (set.contains decided.taken)

    pub too_large : limit < decided.so_far.area → IsBetterHere → ⊥
    too_large large better = omega (arith, large, better.within.fits, area_is)

    pub gains_more : decided.so_far.area ≤ limit → best.gain < decided.so_far.gain → IsBetterHere
    gains_more fits more = record { within = taken_within fits; more = inl (omega (arith, more, gain_is, measured.gain_is)) }

    pub comes_first : decided.so_far.area ≤ limit → decided.so_far.gain ≡ best.gain
        → ComesBefore (set.contains decided.taken) (set.contains best.set) → IsBetterHere
    comes_first fits equal first = record {
      within = taken_within fits;
      more = inr (sym measured.gain_is ∙ sym equal ∙ gain_is, first);
    }

    pub is_first : decided.so_far.gain ≡ best.gain → IsBetterHere → ComesBefore (set.contains decided.taken) (set.contains best.set)
    is_first equal better = elim better.more [
      | inl more ↦ absurd (omega (arith, equal, more, gain_is, measured.gain_is))
      | inr (same_gain, first) ↦ first
    ]
