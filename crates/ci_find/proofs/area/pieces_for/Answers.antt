-- One piece more, for one module more.
use Rattle.std.proofs.Common.{◌+◌, ◌∙◌, arith, subst, sym}
use Rattle.std.proofs.lemmas.Option.{get_or_from_slice_get}
use Rattle.ci_verilog.specs.Modules.{Module}
use Rattle.ci_area.specs.declared.piece.Piece.{Piece}
use Rattle.ci_gates.specs.Counts.{IsCountOf}
use Rattle.ci_find.specs.private.Pieces.{ArePiecesFor}
use Rattle.ci_find.proofs.AreaPieces.{no_pieces, one_more}
use Rattle.ci_find.proofs.area.pieces_for.Goals as goal

pub overflow_cast-number : goal.overflow_cast-number
overflow_cast-number c = omega (arith, c.requires.few, c.loop-number-test.true)

pub loop-number-init : goal.loop-number-init
loop-number-init c =
    subst (ArePiecesFor c.args.modules.now c.args.takes.now 0) (sym c.new-pieces.ensures.items)
    (no_pieces c.args.modules.now c.args.takes.now)

pub loop-number-preserved : goal.loop-number-preserved
loop-number-preserved c =
    let k = c.loop-number.number in
    let found = c.index-modules-number in
    let piece : Piece = record { area = c.count.result; gain = c.saved_by.result } in
    subst (ArePiecesFor c.args.modules.now c.args.takes.now (k + 1)) (sym c.in_ok-push.ensures.items)
    (one_more c.args.modules.now c.args.takes.now k c.loop-number.pieces.items piece c.loop-number.invariant
    (record {
      area_is = λ m at.
          subst (λ (n : Module). IsCountOf n piece.area)
          (found.is ∙ get_or_from_slice_get c.args.modules.now k m found.result at) c.count.ensures.value;
      area_most = c.count.ensures.most;
      gain_is = c.saved_by.ensures;
    }))
