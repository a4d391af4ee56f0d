use Rattle.std.proofs.Common.{◌≡◌, reverse}
use Rattle.ci_select.specs.private.Followed.{entered_from}
use Rattle.ci_select.proofs.EnteredPlaces.{entered_below}
use Rattle.ci_select.proofs.rounds.entered_places.Given as goal

abbrev pub invariant-loop-place : goal.invariant-loop-place
invariant-loop-place l =
    entered_below l.profile l.blocks l.place (reverse l.places.items) ≡ entered_from l.profile l.blocks
