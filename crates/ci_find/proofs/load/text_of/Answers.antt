-- The line tells of the cost of the new file.
use Rattle.std.proofs.Common.{◌∙◌}
use Rattle.ci_find.specs.LoadCommand.{load_line}
use Rattle.ci_find.proofs.load.text_of.Goals as goal

pub returns : goal.returns
returns c =
    let chosen = c.args.chosen.now in
    let cost = c.in_ok-cost_with_units.field-0 in (
      cost,
      c.in_ok-cost_with_units.ensures,
      c.in_ok-text.ensures
          ∙ (λ i. load_line c.args.seed c.args.blocks chosen.book.entries chosen.units chosen.saved
          c.args.original.now.profile.cost cost (c.as_slice.ensures.value i)),
    )
