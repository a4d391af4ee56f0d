use Rattle.std.proofs.Common.{sym, ◌∙◌}
use Rattle.toml.specs.View.{table_view}
use Rattle.ci_lat.proofs.FaultLaws.{HaveFault-first}
use Rattle.ci_lat.proofs.table.Table.from_toml.Goals as goal

pub returns-in-Some-clause-fault : goal.returns-in-Some-clause-fault
returns-in-Some-clause-fault c _ =
    HaveFault-first _ _ (table_view c.in_ok-document.document, c.in_ok-document.ensures.ok, sym c.first_fault.ensures ∙ c.in-Some.is)
