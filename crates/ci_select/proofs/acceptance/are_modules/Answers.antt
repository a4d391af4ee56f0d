use Rattle.std.proofs.Common.{◌∙◌, sym}
use Rattle.std.proofs.lemmas.Slice.Eq.{slice_eq-Decides}
use Rattle.ci_verilog.specs.ModuleEquality.{same_module_decides}
use Rattle.ci_select.proofs.acceptance.are_modules.Goals as goal

pub returns : goal.returns
returns c =
    let decides = slice_eq-Decides same_module_decides c.as_slice.result.now c.args.modules.now c.eq.result c.eq.ensures in
    let own = c.as_slice.ensures.value ∙ c.in_ok-own.ensures in
    (λ is. sym (decides.0 is) ∙ own, λ is. decides.1 (own ∙ sym is))
