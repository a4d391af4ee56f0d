use Rattle.std.proofs.Common.{Contains, slice_get, sym, ap, ◌∙◌, subst}
use Rattle.ci_unit.proofs.TableLaws.{found_at, not_found}
use Rattle.ci_unit.proofs.table.UnitTable.number_of.Goals as goal

pub returns-in-Some : goal.returns-in-Some
returns-in-Some c =
    ap (λ table. slice_get table c.in-Some.k) (sym c.self.view_is)
    ∙ found_at c.self.inside.units.keys c.args.unit.now c.in-Some.k c.in-Some.ensures.index

pub returns-in-None : goal.returns-in-None
returns-in-None c there =
    not_found c.self.inside.units.keys c.args.unit.now c.in-None.ensures.found
    (subst (λ table. Contains table c.args.unit.now) (sym c.self.view_is) there)
