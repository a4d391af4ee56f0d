-- One module more has its netlist.
use Rattle.ci_commands.proofs.GateLaws.{few_gates, zipped_more}
use Rattle.std.proofs.Common.{sym, subst, take, ◌+◌}
use Rattle.std.specs.List.{AllZip}
use Rattle.ci_gates.specs.Modules.{IsNetlistOf}
use Rattle.ci_commands.proofs.gates.netlists.Goals as goal

pub of_module-requires : goal.of_module-requires
of_module-requires c =
    few_gates c.args.modules.now c.requires.0 c.loop-module.module-index c.module-item.result c.requires.1 c.requires.2
    c.loop-module-test.true c.module-item.is

pub loop-module-preserved : goal.loop-module-preserved
loop-module-preserved c =
    let k = c.loop-module.module-index in
    subst (AllZip IsNetlistOf (take (k + 1) c.args.modules.now)) (sym c.in_ok-push.ensures.items)
    (zipped_more IsNetlistOf c.args.modules.now k c.module-item.result c.loop-module.nets.items c.in_ok-net.net
    c.loop-module-test.true c.module-item.is c.loop-module.invariant c.in_ok-net.ensures)
