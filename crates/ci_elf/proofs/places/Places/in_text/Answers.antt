use Rattle.std.proofs.Common.{◌∙◌, subst}
use Rattle.std.specs.Prelude.{MatchOption}
use Rattle.ci_elf.specs.Executables.{HoldsAddress, InText}
use Rattle.ci_elf.proofs.WordPlaceLaws.{looked_up}
use Rattle.ci_elf.proofs.places.Places.in_text.Goals as goal

pub returns : goal.returns
returns c =
    let ranges = c.deref.ensures.value ∙ c.self.view_is in
    c.is_some.ensures ∙ looked_up c.args.self.now c.args.address c.range_with.result
    (subst (λ rs. MatchOption c.range_with.result (¬ InText rs c.args.address) (HoldsAddress rs c.args.address)) ranges c.range_with.ensures)
