use Rattle.std.proofs.Common.{◌∙◌, subst}
use Rattle.ci_elf.specs.Executables.{InText}
use Rattle.ci_elf.proofs.WordPlaceLaws.{no_place, not_aligned, placed_word}
use Rattle.ci_elf.proofs.places.Places.near.Goals as goal

pub returns-then-address-ne0-clause-place : goal.returns-then-address-ne0-clause-place
returns-then-address-ne0-clause-place c = not_aligned c.args.self.now c.args.address c.if-address-ne0.true

pub returns-in-Some-clause-place : goal.returns-in-Some-clause-place
returns-in-Some-clause-place c = placed_word c.args.self.now c.args.address c.at.result c.if-address-ne0.false c.at.ensures

pub returns-in-None-clause-place : goal.returns-in-None-clause-place
returns-in-None-clause-place c =
    no_place c.args.self.now c.args.address c.if-address-ne0.false
    (subst (λ rs. ¬ InText rs c.args.address) (c.deref.ensures.value ∙ c.self.view_is) c.in-None.ensures)
