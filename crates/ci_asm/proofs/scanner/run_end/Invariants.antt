use Rattle.std.proofs.Common.{length, ◌-◌, ◌≡◌, ◌+◌, ◌≤◌, drop}
use Rattle.std.specs.List.{prefix_len}
use Rattle.ci_asm.specs.private.Tokens.{belongs}
use Rattle.ci_asm.proofs.scanner.run_end.Given as goal

-- the run that goes on here ends where the whole run ends
abbrev pub invariant-loop-end : goal.invariant-loop-end
invariant-loop-end l = record {
  place : l.end + prefix_len (belongs l.class) (drop l.end l.line) ≡ l.from + prefix_len (belongs l.class) (drop l.from l.line);
  behind : l.from ≤ l.end;
  bound : l.from ≤ length l.line → l.end ≤ length l.line;
}

abbrev pub decreases-loop-end : goal.decreases-loop-end
decreases-loop-end l = length l.line - l.end
