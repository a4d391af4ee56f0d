-- The first row that has the word; or one more that has another.
use Rattle.std.proofs.Common.{◌≡◌, ◌≢◌, ◌∙◌, ap, below_more, false, get_or, map, sym, true}
use Rattle.std.proofs.lemmas.List.{get_or-map}
use Rattle.std.proofs.lemmas.Slice.Eq.{bytes_eq-Decides}
use Rattle.ci_arguments.specs.Tables.{CommandRow}
use Rattle.ci_arguments.specs.private.Parses.{command_row}
use Rattle.ci_arguments.proofs.Elements.{no_row, shown_there}
use Rattle.ci_arguments.proofs.parse.row_called.Goals as goal

pub returns-then-eq-clause-some : goal.returns-then-eq-clause-some
returns-then-eq-clause-some c = (
  shown_there command_row c.args.rows.now c.loop-row.row-index no_row c.loop-row-test.true,
  (bytes_eq-Decides _ _).0 (sym c.eq.ensures ∙ c.if-eq.true),
)

pub loop-row-preserved : goal.loop-row-preserved
loop-row-preserved c =
    let rows = c.args.rows.now in
    let i = c.loop-row.row-index in
    below_more (λ k. (d : CommandRow) → c.args.word.now ≢ (get_or (map command_row rows) k d).word) i c.loop-row.invariant
    (λ d is.
    let same : c.args.word.now ≡ (get_or rows i no_row).0.now =
    is ∙ ap (λ row. row.word) (get_or-map command_row rows i no_row d c.loop-row-test.true) in
    let bad : true ≡ false = sym ((bytes_eq-Decides _ _).1 same) ∙ (sym c.eq.ensures ∙ c.if-eq.false) in
    cc)
