use Rattle.std.proofs.Common.{◌≡◌}
use Rattle.ci_reading.specs.Broken.{each_below}
use Rattle.ci_elf.specs.private.SymbolChecks.{AreTakenBelow, symbols_here}
use Rattle.ci_elf.proofs.TableLaws.{HaveRoom}
use Rattle.ci_elf.proofs.symbols.symbol_values.Given as goal

abbrev pub invariant-loop-n : goal.invariant-loop-n
invariant-loop-n l = record {
  values : l.symbols.items ≡ each_below l.n (symbols_here l.bytes);
  room : HaveRoom l.bytes l.taken;
  taken : AreTakenBelow l.bytes l.n l.taken;
}
