use Rattle.std.proofs.Common.{◌∙◌, ap}
use Rattle.ci_elf.proofs.CoverageLaws.{extended_none, extended_more, extended_empty, extended_all}
use Rattle.ci_elf.proofs.coverage.extended.Goals as goal
use Rattle.ci_elf.proofs.coverage.extended.Goals.{then-part+in_ok-push, else-part}

pub loop-part-init : goal.loop-part-init
loop-part-init c = rw c.new-coverage.ensures.items (extended_none c.args.sorted.now c.requires)

pub loop-part-preserved : goal.loop-part-preserved
loop-part-preserved c =
    elim c.if-part.branch [
      | then-part+in_ok-push w ↦
          let items = ap (λ v. v.items) w.coverage-is ∙ w.in_ok-push.ensures.items in
          rw (items, w.end-is, w.max-end.ensures)
          (extended_more c.args.sorted.now c.requires c.loop-part.part-index c.loop-part.coverage.items c.loop-part.end c.loop-part-test.true
          c.loop-part.invariant w.if-part.true)
      | else-part w ↦
          rw (w.coverage-is, w.end-is)
          (extended_empty c.args.sorted.now c.requires c.loop-part.part-index c.loop-part.coverage.items c.loop-part.end c.loop-part-test.true
          c.loop-part.invariant w.if-part.false)
    ]

pub returns : goal.returns
returns c = extended_all c.args.sorted.now c.requires c.loop-part.part-index c.loop-part.coverage.items
    c.loop-part.end c.loop-part-test.false c.loop-part.invariant
