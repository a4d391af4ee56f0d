use Rattle.std.proofs.Common.{subst}
use Rattle.ci_verilog.specs.Modules.{wires_of, known_by}
use Rattle.ci_verilog.specs.private.Held.{ItemFits}
use Rattle.ci_verilog.proofs.WidthLaws.{repeat_item_parts}
use Rattle.ci_verilog.proofs.ScopeLaws.{copies_found}
use Rattle.ci_verilog.proofs.evaluation.Scope.item.Goals as goal

pub repeated-requires : goal.repeated-requires
repeated-requires c =
    let self = c.args.self.now in
    let fits = subst (λ x. ItemFits (wires_of self.wide self.wires.now) x) c.in-Repeat.is c.requires.fits in
    let found =
    copies_found self.arguments (wires_of self.wide self.wires.now) self.values.now c.requires.held c.in-Repeat.count c.in-Repeat.simple fits.0
    c.simple-in-Repeat.result (repeat_item_parts (known_by (wires_of self.wide self.wires.now)) c.in-Repeat.count c.in-Repeat.simple fits.0 fits.1)
    c.simple-in-Repeat.ensures in
    record { narrow = found.narrow; in_range = found.in_range }
