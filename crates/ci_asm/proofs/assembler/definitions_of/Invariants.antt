use Rattle.std.proofs.Common.{◌≡◌, ℕ, ◌+◌, ◌-◌, ◌≤◌, List, drop, length}
use Rattle.std.specs.Option.{option_or}
use Rattle.ci_asm.specs.private.LabelMap.{found_in}
use Rattle.ci_asm.specs.private.Programs.{all_read, definition_of}
use Rattle.ci_asm.specs.Lines.{lines_of}
use Rattle.ci_asm.proofs.assembler.definitions_of.Given as goal

-- the lines that are left give the whole answer, with what was found so far
abbrev pub invariant-loop-start : goal.invariant-loop-start
invariant-loop-start l = record {
  read : all_read (l.number + 1) l.words (lines_of (drop l.start l.text)) ≡ all_read 1 0 (lines_of l.text);
  definitions : (name : List ℕ) → option_or (found_in l.definitions name) (definition_of name (l.number + 1) l.words (lines_of (drop l.start l.text)))
      ≡ definition_of name 1 0 (lines_of l.text);
  number : l.number ≤ l.start;
  words : l.words ≤ l.number;
  start : l.start ≤ length l.text + 1;
}

abbrev pub decreases-loop-start : goal.decreases-loop-start
decreases-loop-start l = length l.text - l.start
