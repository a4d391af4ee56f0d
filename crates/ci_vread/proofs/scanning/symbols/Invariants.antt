-- The symbols so far and those from the place on are those of the text.
use Rattle.std.proofs.Common.{length, ◌-◌, ◌≡◌, ◌≤◌, ◌++◌, map}
use Rattle.ci_reading.specs.Lexers.{symbols_of}
use Rattle.ci_vread.specs.private.Scanned.{placed_of}
use Rattle.ci_vread.specs.private.Scanning.{unit_lexer, symbols_from}
use Rattle.ci_vread.proofs.scanning.symbols.Given as goal

abbrev pub invariant-loop-tokens : goal.invariant-loop-tokens
invariant-loop-tokens l = record {
  symbols : map (placed_of l.text) l.tokens.items ++ symbols_from l.text l.place ≡ symbols_of unit_lexer l.text;
  bound : l.place ≤ length l.text;
}

abbrev pub decreases-loop-tokens : goal.decreases-loop-tokens
decreases-loop-tokens l = length l.text - l.place
