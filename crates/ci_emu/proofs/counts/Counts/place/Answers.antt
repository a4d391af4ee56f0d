use Rattle.std.proofs.Common.{◌∙◌, sym, arith}
use Rattle.ci_elf.proofs.WordPlaceLaws.{not_aligned, place_below, placed_word}
use Rattle.ci_emu.proofs.CountLaws.{within_places}
use Rattle.ci_emu.proofs.counts.Counts.place.Goals as goal

pub returns-then-address-ne0-clause-value : goal.returns-then-address-ne0-clause-value
returns-then-address-ne0-clause-value c = not_aligned c.args.self.now.places c.args.address c.if-address-ne0.true

pub returns-then-has-clause-value : goal.returns-then-has-clause-value
returns-then-has-clause-value c =
    placed_word c.args.self.now.places c.args.address _ c.if-address-ne0.false
    (c.requires.placed c.args.address (sym c.has.ensures ∙ c.if-has.true))

pub returns-then-has-clause-within : goal.returns-then-has-clause-within
returns-then-has-clause-within c =
    within_places c.args.self.now.places c.args.address _ _ c.args.self.now.whole
    (placed_word c.args.self.now.places c.args.address _ c.if-address-ne0.false
    (c.requires.placed c.args.address (sym c.has.ensures ∙ c.if-has.true)))

pub overflow_add-result : goal.overflow_add-result
overflow_add-result c =
    let below = place_below c.args.self.now.places c.args.address _ (c.requires.placed c.args.address (sym c.has.ensures ∙ c.if-has.true)) in
    omega (arith, c.args.self.now.whole, below)
