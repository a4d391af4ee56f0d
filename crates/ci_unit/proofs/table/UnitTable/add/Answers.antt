use Rattle.std.proofs.Common.{sym, ap, ◌∙◌, subst}
use Rattle.indexmap.specs.IndexSet.{insert_key}
use Rattle.ci_unit.specs.Tables.{IsTable}
use Rattle.ci_unit.specs.Equality.{same_unit}
use Rattle.ci_unit.proofs.TableLaws.{inserted, table_more}
use Rattle.ci_unit.proofs.table.UnitTable.add.Goals as goal

pub returns-clause-added : goal.returns-clause-added
returns-clause-added c =
    c.in_ok-insert.ensures.keys
    ∙ ap (λ table. insert_key same_unit table c.args.unit) c.self.view_is
    ∙ inserted c.args.self.now c.args.unit c.requires.absent

pub invariant_of-self-2 : goal.invariant_of-self-2
invariant_of-self-2 c =
    subst IsTable
    (sym (c.in_ok-insert.ensures.keys
    ∙ ap (λ table. insert_key same_unit table c.args.unit) c.self.view_is
    ∙ inserted c.args.self.now c.args.unit c.requires.absent))
    (table_more c.args.self.now c.args.unit c.len-number.ensures.kept c.requires.room c.ops.ensures.kept c.requires.absent)
