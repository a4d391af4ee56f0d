use Rattle.std.proofs.Common.{◌≡◌, ℕ, ◌+◌, List, drop, length, sym, ap, ◌∙◌, arith}
use Rattle.std.specs.Option.{option_or}
use Rattle.std.proofs.lemmas.Result.{err_from_is_err_and}
use Rattle.ci_asm.specs.private.LabelMap.{found_in}
use Rattle.ci_asm.specs.private.Programs.{line_at, words_behind, all_read, definition_on, definition_of}
use Rattle.ci_asm.specs.Lines.{lines_of}
use Rattle.ci_asm.proofs.LinesOfTexts.{lines_of-drop, lines_of-end, line_within}
use Rattle.ci_asm.proofs.AssemblySteps.{all_read-nil, all_read-ok, all_read-err, words_behind-ok, words_in-small, definition_of-nil, definition_of-cons}
use Rattle.ci_asm.proofs.AssemblySteps.{option_or-assoc, option_or-none, fault_carried}
use Rattle.ci_asm.proofs.assembler.definitions_of.Goals as goal

pub returns-in_err-words-clause-fault : goal.returns-in_err-words-clause-fault
returns-in_err-words-clause-fault c =
    let p = err_from_is_err_and c.from_residual.result c.from_residual.ensures.1 in
    let text = c.args.text.now in
    let l = c.loop-start in
    let line = c.line_from-line.result.now in
    let split = lines_of-drop text l.start line (omega arith) c.line_from-line.ensures in
    rw (p.1, p.2) (fault_carried (words_behind (l.number + 1) l.words line) (all_read 1 0 (lines_of text)) c.in_err-words.field-0.0
    (λ q e. sym l.invariant.read ∙ (ap (all_read (l.number + 1) l.words) split ∙ all_read-err (l.number + 1) l.words line _ q e))
    c.in_err-words.ensures.fault)

pub loop-start-preserved : goal.loop-start-preserved
loop-start-preserved c =
    let text = c.args.text.now in
    let l = c.loop-start in
    let line = c.line_from-line.result.now in
    let n = l.number + 1 in
    let after = c.in_ok-words.words in
    let rest = lines_of (drop (l.start + (length line + 1)) text) in
    let split = lines_of-drop text l.start line (omega arith) c.line_from-line.ensures in
    let within = line_within text l.start line (omega arith) c.line_from-line.ensures in
    let read = c.in_ok-words.ensures.words in
    let counted = words_behind-ok n l.words after line read in
    let few = words_in-small (line_at l.words line) in
    let on = λ (name : List ℕ). definition_on name n l.words line in
    let later : (name : List ℕ) → option_or (on name) (definition_of name (n + 1) after rest) ≡ definition_of name n l.words (lines_of (drop l.start text)) =
    λ name. ap (λ k. option_or (on name) (definition_of name (n + 1) k rest)) counted
    ∙ sym (ap (definition_of name n l.words) split ∙ definition_of-cons name n l.words line rest) in
    record {
      read = sym (all_read-ok n l.words after line rest read) ∙ (ap (all_read n l.words) (sym split) ∙ l.invariant.read);
      definitions = λ name. ap (λ f. option_or f (definition_of name (n + 1) after rest)) (c.in_ok-words.ensures.definitions name)
          ∙ (option_or-assoc (found_in l.definitions name) (on name) (definition_of name (n + 1) after rest)
          ∙ (ap (option_or (found_in l.definitions name)) (later name) ∙ l.invariant.definitions name));
      number = omega arith;
      words = omega arith;
      start = omega arith;
    }

pub returns-clause-read : goal.returns-clause-read
returns-clause-read c =
    let l = c.loop-start in
    sym l.invariant.read ∙ (ap (all_read (l.number + 1) l.words) (lines_of-end c.args.text.now l.start (omega arith)) ∙ all_read-nil (l.number + 1) l.words)

pub returns-clause-definitions : goal.returns-clause-definitions
returns-clause-definitions c = λ name.
    let l = c.loop-start in
    let found = found_in l.definitions name in
    let none = ap (definition_of name (l.number + 1) l.words) (lines_of-end c.args.text.now l.start (omega arith))
    ∙ definition_of-nil name (l.number + 1) l.words in
    sym (option_or-none found) ∙ (ap (option_or found) (sym none) ∙ l.invariant.definitions name)
