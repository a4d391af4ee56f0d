use Rattle.ci_elf.specs.private.SymbolChecks.{IsSpan}
use Rattle.ci_elf.proofs.symbols.table_span.Given as goal

abbrev pub invariant-loop-n : goal.invariant-loop-n
invariant-loop-n l = IsSpan l.bytes l.n l.span
