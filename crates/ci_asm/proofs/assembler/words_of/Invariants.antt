use Rattle.std.proofs.Common.{◌≡◌, ◌+◌, ◌-◌, ◌≤◌, List, drop, length, vec_len}
use Rattle.ci_isa.specs.declared.instruction.Insn.{Insn}
use Rattle.ci_asm.specs.private.LabelMap.{found_in}
use Rattle.ci_asm.specs.private.Programs.{insns_of, AreWordsOf}
use Rattle.ci_asm.specs.Lines.{lines_of}
use Rattle.ci_asm.proofs.AssemblySteps.{behind}
use Rattle.ci_asm.proofs.assembler.words_of.Given as goal

-- the lines that are left give the instructions that follow those so far, whose words are there
abbrev pub invariant-loop-start : goal.invariant-loop-start
invariant-loop-start l = record {
  words : (done : List Insn) ×
      (behind done (insns_of (found_in l.definitions) (l.number + 1) (vec_len l.words) (lines_of (drop l.start l.text))) ≡ insns_of (found_in l.definitions) 1 0
      (lines_of l.text)) × AreWordsOf l.words.items done;
  number : l.number ≤ l.start;
  count : vec_len l.words ≤ l.number;
  start : l.start ≤ length l.text + 1;
}

abbrev pub decreases-loop-start : goal.decreases-loop-start
decreases-loop-start l = length l.text - l.start
