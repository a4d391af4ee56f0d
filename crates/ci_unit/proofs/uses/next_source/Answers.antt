use Rattle.std.proofs.Common.{sym, ◌∙◌, true, false}
use Rattle.std.specs.FinSet as set
use Rattle.ci_cut.specs.declared.graph.Source.TheVariants.{Entry}
use Rattle.ci_unit.specs.private.Reading.{is_further}
use Rattle.ci_unit.proofs.UseLaws.{find_from}
use Rattle.ci_unit.proofs.uses.next_source.Goals as goal

pub returns-then-is_further : goal.returns-then-is_further
returns-then-is_further c =
    sym (c.loop-source.invariant
    ∙ find_from (is_further (set.contains c.args.cut.now) c.args.seen.now) c.args.sources.now c.loop-source.source-index (Entry 0) true
    c.loop-source-test.true (sym c.is_further.ensures ∙ c.if-is_further.true))

pub loop-source-preserved : goal.loop-source-preserved
loop-source-preserved c =
    c.loop-source.invariant
    ∙ find_from (is_further (set.contains c.args.cut.now) c.args.seen.now) c.args.sources.now c.loop-source.source-index (Entry 0) false
    c.loop-source-test.true (sym c.is_further.ensures ∙ c.if-is_further.false)
