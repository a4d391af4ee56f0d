use Rattle.std.proofs.Common.{◌-◌, ◌≤◌}
use Rattle.ci_elf.specs.private.SymbolChecks.{value_at}
use Rattle.ci_elf.proofs.EntryLaws.{IsAt}
use Rattle.ci_elf.proofs.symbols.push_values.Given as goal

abbrev pub invariant-loop-k : goal.invariant-loop-k
invariant-loop-k l = record {
  below : l.k ≤ l.count;
  at :
      IsAt l.initial.taken l.taken (value_at l.bytes l.fn.table.start) l.fn.table.start l.k l.initial.symbols.items
      l.symbols.items;
}

abbrev pub decreases-loop-k : goal.decreases-loop-k
decreases-loop-k l = l.count - l.k
