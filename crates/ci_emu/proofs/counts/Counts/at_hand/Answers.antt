use Rattle.std.proofs.Common.{◌≡◌, ◌+◌, Some, ap, ◌∙◌, sym, arith}
use Rattle.ci_elf.specs.WordPlaces.{place_in}
use Rattle.ci_elf.proofs.WordPlaceLaws.{place_below, placed_word}
use Rattle.ci_emu.proofs.CountLaws.{within_places}
use Rattle.ci_emu.proofs.counts.Counts.at_hand.Goals as goal
use Rattle.ci_emu.proofs.counts.Counts.at_hand.Goals.{In_ok-number}

-- the range that is near tells the word's place
there : (c : In_ok-number) → place_in c.args.self.now.places c.args.address ≡ Some (c.args.nearby.now.first + c.in_ok-number.number)
there c =
    c.requires.placed c.args.address c.in_ok-number.ensures.within
    ∙ ap (λ number. Some (c.args.nearby.now.first + number)) (sym c.in_ok-number.ensures.number)

pub returns-clause-value : goal.returns-clause-value
returns-clause-value c =
    sym (placed_word c.args.self.now.places c.args.address _ c.in_ok-number.ensures.aligned
    (there (goal.at.returns-clause-value c).In_ok-number))

pub returns-clause-within : goal.returns-clause-within
returns-clause-within c =
    within_places c.args.self.now.places c.args.address _ (Some (c.args.nearby.now.first + c.in_ok-number.number)) c.args.self.now.whole
    (placed_word c.args.self.now.places c.args.address _ c.in_ok-number.ensures.aligned
    (there (goal.at.returns-clause-within c).In_ok-number))

pub overflow_add-result : goal.overflow_add-result
overflow_add-result c =
    let below = place_below c.args.self.now.places c.args.address _ (there (goal.at.overflow_add-result c).In_ok-number) in
    omega (arith, c.args.self.now.whole, below)
