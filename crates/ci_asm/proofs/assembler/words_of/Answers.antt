use Rattle.std.proofs.Common.{◌≡◌, ◌+◌, ◌++◌, drop, length, vec_len, sym, ap, ◌∙◌, subst, arith, Ok, Err}
use Rattle.std.specs.Option.{option_to_list}
use Rattle.ci_asm.specs.private.LabelMap.{found_in}
use Rattle.ci_asm.specs.private.Programs.{line_insn, insns_of, option_length}
use Rattle.ci_asm.specs.Lines.{lines_of}
use Rattle.ci_asm.proofs.LinesOfTexts.{lines_of-drop, lines_of-end, line_within}
use Rattle.ci_asm.proofs.AssemblySteps.{behind, behind-behind, behind-end, insns_of-nil, insns_of-ok, insns_of-err, option_length-small}
use Rattle.ci_asm.proofs.assembler.words_of.Goals as goal

pub returns-in-Err-clause-fault : goal.returns-in-Err-clause-fault
returns-in-Err-clause-fault c =
    let text = c.args.text.now in
    let found = found_in c.args.definitions.now in
    let l = c.loop-start in
    let line = c.line_from-line.result.now in
    let split = lines_of-drop text l.start line (omega arith) c.line_from-line.ensures in
    let value = subst (λ k. Err c.in-Err.fault ≡ line_insn found (l.number + 1) k line) c.len.ensures c.in-Err.ensures.value in
    rw c.on_line.ensures
    (sym l.invariant.words.1
    ∙ ap (behind l.invariant.words.0)
    (ap (insns_of found (l.number + 1) (vec_len l.words)) split ∙ insns_of-err found (l.number + 1) (vec_len l.words) line _ c.in-Err.fault value))

pub loop-start-preserved : goal.loop-start-preserved
loop-start-preserved c =
    let text = c.args.text.now in
    let found = found_in c.args.definitions.now in
    let l = c.loop-start in
    let line = c.line_from-line.result.now in
    let n = l.number + 1 in
    let done = l.invariant.words.0 in
    let first = c.in-Ok.insn in
    let rest = lines_of (drop (l.start + (length line + 1)) text) in
    let split = lines_of-drop text l.start line (omega arith) c.line_from-line.ensures in
    let within = line_within text l.start line (omega arith) c.line_from-line.ensures in
    let value = subst (λ k. Ok first ≡ line_insn found n k line) c.len.ensures c.in-Ok.ensures.value in
    let counted : vec_len c.push_word.new.words ≡ vec_len l.words + option_length first = c.in_ok-push_word-in-Ok.ensures.count in
    let few = option_length-small first in
    let later : behind (option_to_list first) (insns_of found (n + 1) (vec_len c.push_word.new.words) rest) ≡ insns_of found n (vec_len l.words)
    (lines_of (drop l.start text)) =
    ap (λ k. behind (option_to_list first) (insns_of found (n + 1) k rest)) counted
    ∙ sym (ap (insns_of found n (vec_len l.words)) split ∙ insns_of-ok found n (vec_len l.words) line rest first value) in
    record {
      words = (
        done ++ option_to_list first,
        sym (behind-behind done (option_to_list first) (insns_of found (n + 1) (vec_len c.push_word.new.words) rest))
            ∙ (ap (behind done) later ∙ l.invariant.words.1),
        c.in_ok-push_word-in-Ok.ensures.words done l.invariant.words.2,
      );
      number = omega arith;
      count = omega arith;
      start = omega arith;
    }

pub returns-clause-words : goal.returns-clause-words
returns-clause-words c =
    let l = c.loop-start in
    let found = found_in c.args.definitions.now in
    let done = l.invariant.words.0 in
    let none = ap (insns_of found (l.number + 1) (vec_len l.words)) (lines_of-end c.args.text.now l.start (omega arith))
    ∙ insns_of-nil found (l.number + 1) (vec_len l.words) in
    (done, sym l.invariant.words.1 ∙ (ap (behind done) none ∙ behind-end done), l.invariant.words.2)
