-- The choice is made, its units are pieces, and the line is that of the best of them.
use Rattle.std.proofs.Common.{subst, sym}
use Rattle.std.specs.String.{string_bytes}
use Rattle.ci_machine.specs.Words.{AreBytes}
use Rattle.ci_area.specs.Pieces.{ArePieces}
use Rattle.ci_find.specs.AreaCommand.{IsAreaLine}
use Rattle.ci_find.specs.private.Chosen.{instance_from}
use Rattle.ci_find.proofs.AreaPieces.{of_units, pieces_fit, takes_fit}
use Rattle.ci_find.proofs.area.success_of.Goals as goal

pub pieces_of-outcome-requires : goal.pieces_of-outcome-requires
pieces_of-outcome-requires c =
    let run = c.requires.profiled in
    let profiled = c.args.profiled.now in
    let chosen = c.in_ok-chosen.chosen in
    takes_fit c.args.image.now c.args.table.now run.0 run.1 run.2 profiled.profile profiled.analysis.blocks
    profiled.analysis.live run.4 c.args.plan.now run.3 c.requires.image
    (subst AreBytes c.bytes.ensures c.bytes_are_small.ensures) c.read-latency.ensures.table chosen.book chosen.takes.items
    c.in_ok-chosen.ensures.book c.in_ok-chosen.ensures.takes

pub best_line-requires-clause-pieces : goal.best_line-requires-clause-pieces
best_line-requires-clause-pieces c =
    let run = c.requires.profiled in
    let profiled = c.args.profiled.now in
    let chosen = c.in_ok-chosen.chosen in
    let made = c.in_ok-chosen.ensures in
    subst ArePieces (sym c.as_slice.ensures.value)
    (pieces_fit c.args.image.now c.args.table.now run.0 run.1 run.2 profiled.profile profiled.analysis.blocks
    profiled.analysis.live run.4 c.args.plan.now run.3 c.requires.image
    (subst AreBytes c.bytes.ensures c.bytes_are_small.ensures) c.read-latency.ensures.table chosen.book chosen.takes.items
    made.book made.takes chosen.units chosen.saved c.in_ok-pieces.pieces.items made.units c.as_slice-units.ensures.kept
    made.saved c.in_ok-pieces.ensures)

pub returns : goal.returns
returns c =
    let instance = instance_from c.args.table.now c.args.profiled.now c.args.plan.now in
    let chosen = c.in_ok-chosen.chosen in
    let made = c.in_ok-chosen.ensures in
    let pieces = c.in_ok-pieces.pieces.items in
    record {
      book = chosen.book;
      units = chosen.units;
      pieces = pieces;
      legal = made.book;
      given_up = made.given_up;
      units_are = made.units;
      pieces_are =
          of_units instance chosen.book chosen.units chosen.takes.items pieces made.book made.units made.takes
          c.in_ok-pieces.ensures;
      text_is =
          subst (λ text. IsAreaLine pieces c.args.limit c.args.plan.now.budget text.items) (sym c.into_bytes.ensures.value)
          (subst (λ ps. IsAreaLine ps c.args.limit c.args.plan.now.budget (string_bytes c.in_ok-line.line)) c.as_slice.ensures.value
          c.in_ok-line.ensures);
      writes_none = c.new.ensures.items;
    }
