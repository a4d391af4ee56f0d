use Rattle.std.proofs.Common.{◌≡◌, ◌∙◌, arith, length-set}
use Rattle.std.specs.FinSet as set
use Rattle.ci_cut.proofs.WholeRows.{written_more}
use Rattle.ci_cut.proofs.graph_rows.clear.Goals as goal

pub loop-k-init : goal.loop-k-init
loop-k-init c = record { size = c.told-rows; cleared = λ j below. absurd (omega (arith, below)) }

pub loop-k-preserved : goal.loop-k-preserved
loop-k-preserved c =
    let so_far = c.loop-k.invariant in
    let k = c.loop-k.k in
    record {
      size = length-set c.loop-k.rows k c.empty.result ∙ so_far.size;
      cleared =
          written_more (λ _ row. row ≡ set.empty) set.empty c.loop-k.rows k c.empty.result
          (omega (arith, c.loop-k-test.true, c.requires, so_far.size)) so_far.cleared c.empty.ensures;
    }

pub returns : goal.returns
returns c = λ j below. c.loop-k.invariant.cleared j (omega (arith, below))
