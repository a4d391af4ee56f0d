use Rattle.std.proofs.Common.{Some, ap, sym, ◌∙◌}
use Rattle.toml.specs.View.{view, table_view}
use Rattle.toml.proofs.Views.{view-Table}
use Rattle.ci_lat.specs.Faults.{members_of}
use Rattle.ci_lat.proofs.document.table_at.Goals as goal

pub returns-in-Some-Table : goal.returns-in-Some-Table
returns-in-Some-Table c =
    let found = c.in-Some-Table.ensures in
    ap members_of (sym found)
    ∙ ap (λ d. members_of (Some d)) (ap view c.in-Some-Table.field-0-is ∙ view-Table c.in-Some-Table.table)
    ∙ ap table_view (sym c.in-Some-Table.table-is)
