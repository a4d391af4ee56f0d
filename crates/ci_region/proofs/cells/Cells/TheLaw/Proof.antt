-- A `&` to a block reaches each of its cells.
use mathlib.Core.List.{[], ◌++◌}
use base.Fml.{Incl-trans}
use contract.BorrowLft.{meet_⊑_left}
use denote.RattleType.{RattleType}
use denote.Param.Laws.{Laws}
use denote.Param.Shared.{copy_shared}
use denote.Struct.Field.{RawPtr-field}
use denote.Struct.Laws.{RawPtr-copy}
use denote.Struct.Lending.{of_Lends}
use Rattle.ci_region.specs.contracts.cells.Cells as block
use Rattle.ci_region.specs.contracts.cells.Cell as cell
use Rattle.ci_region.proofs.cells.Cell.TheLaws.{the_row_laws, the_within}
use Rattle.ci_region.proofs.cells.Cells.TheLaw.Statement.{statement}
use Rattle.ci_region.proofs.Sharing.{cells_lent_laws, Lends-cells}

pub shares : (R : RattleType) (L : Laws R) → statement R L
shares R L = of_Lends (block.struct R) (block.the_codes R.Denot R.coded) (block.the_heap R) (block.the_lent R)
    (λ d p. cells_lent_laws (cell.the_row R) (the_row_laws R L).shr_laws d.start d.cells d.left)
    (copy_shared RawPtr-field RawPtr-copy, tt)
    (λ M 𝓤 𝓛 d p. Lends-cells 𝓛 (block.the_row R).lives (cell.the_row R) (the_row_laws R L)
    (the_within R (block.the_row R).lives (Incl-trans (meet_⊑_left (R.lives ++ []) _) (meet_⊑_left R.lives [])))
    d.start d.cells d.left)
