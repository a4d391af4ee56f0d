use Rattle.std.proofs.Common.{arith, subst}
use Rattle.ci_elf.specs.private.Parts.{IsWidened}
use Rattle.ci_elf.proofs.TableLaws.{span_more, table_holds}
use Rattle.ci_elf.proofs.symbols.table_span.Goals as goal

pub loop-n-preserved : goal.loop-n-preserved
loop-n-preserved c =
    let bytes = c.args.bytes.now in
    span_more bytes c.loop-n.n (table_holds bytes c.requires.sections c.loop-n.n (omega arith)) c.loop-n.span c.widened-span.result
    c.loop-n.invariant (subst (λ table. IsWidened c.loop-n.span table c.widened-span.result) c.symbol_part.ensures c.widened-span.ensures)
