use Rattle.std.proofs.Common.{sym, subst}
use Rattle.ci_gates.specs.Modules.{IsNetlistOf}
use Rattle.ci_gates.proofs.ModuleLaws.{is_netlist_of}
use Rattle.ci_gates.proofs.modules.of_module.Goals as goal

pub returns : goal.returns
returns c =
    let m = c.args.module.now in
    subst (IsNetlistOf m) (sym c.finished.ensures.value)
    (is_netlist_of m c.in_ok-words.ensures.is_module _ _ c.finished.ensures.kept c.in_ok-outputs.ensures)
