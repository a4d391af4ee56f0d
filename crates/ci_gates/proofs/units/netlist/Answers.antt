use Rattle.std.proofs.Common.{◌<◌, length, sym, subst, arith}
use Rattle.std.proofs.lemmas.Result.{IfOk-weaker}
use Rattle.ci_gates.specs.Modules.{HasFewGates, IsNetlistOf}
use Rattle.ci_gates.proofs.UnitLaws.{unit_there, module_within, module_at, unit_is, is_netlist_of_unit}
use Rattle.ci_gates.proofs.units.netlist.Goals as goal

pub index-requires : goal.index-requires
index-requires c =
    let there = unit_there c.args.units.now c.args.k c.requires.there in
    let within = subst (λ ms. c.args.k < length ms) (sym c.in_ok-modules.ensures) (module_within c.args.units.now c.args.k there.0 there.1) in
    omega (arith, within, c.from.ensures, c.in_ok-modules.modules.ok.0)

pub of_module-requires : goal.of_module-requires
of_module-requires c =
    let there = unit_there c.args.units.now c.args.k c.requires.there in
    subst HasFewGates
    (sym (module_at c.args.units.now c.args.k there.0 there.1 c.in_ok-modules.modules.items c.from.result c.index.result.now
    c.in_ok-modules.ensures c.from.ensures c.index.ensures))
    (c.requires.few there.0 there.1)

pub returns : goal.returns
returns c unit there =
    let is = unit_is c.args.units.now c.args.k unit there in
    let read =
    module_at c.args.units.now c.args.k unit there c.in_ok-modules.modules.items c.from.result c.index.result.now c.in_ok-modules.ensures
    c.from.ensures c.index.ensures in
    IfOk-weaker c.of_module.result _ _
    (λ net of. is_netlist_of_unit c.args.k unit net (is c.as_slice-units.ensures.kept) (subst (λ m. IsNetlistOf m net) read of))
    c.of_module.ensures
