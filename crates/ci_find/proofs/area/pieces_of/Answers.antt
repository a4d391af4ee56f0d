-- There are as many modules as units, and a piece for each.
use Rattle.std.proofs.Common.{◌≡◌, ◌∙◌, List, length, IfOk, ap, arith, subst}
use Rattle.ci_verilog.specs.Modules.{Module}
use Rattle.ci_vemit.specs.Templates.{modules_of}
use Rattle.ci_find.specs.private.Pieces.{ArePiecesFor}
use Rattle.ci_find.proofs.AreaPieces.{as_many_modules}
use Rattle.ci_find.proofs.area.pieces_of.Goals as goal

pub pieces_for-pieces-requires-clause-few : goal.pieces_for-pieces-requires-clause-few
pieces_for-pieces-requires-clause-few c =
    let same = ap (λ (ms : List Module). length ms) (c.as_slice.ensures.value ∙ c.in_ok-modules.ensures) in
    let many = as_many_modules c.args.chosen.now.units in
    let few = c.as_slice-units.ensures.kept.few in
    omega (arith, same, many, few)

pub returns : goal.returns
returns c =
    let units = c.args.chosen.now.units in
    let modules_are : c.as_slice.result.now ≡ modules_of units = c.as_slice.ensures.value ∙ c.in_ok-modules.ensures in
    let count : length c.as_slice.result.now ≡ length units =
    ap (λ (ms : List Module). length ms) modules_are ∙ as_many_modules units in
    subst (λ T. T)
    (λ i. IfOk c.pieces_for-pieces.result
    (λ pieces. ArePiecesFor (modules_are i) (c.as_slice-2.ensures.value i) (count i) pieces.items))
    c.pieces_for-pieces.ensures
