use Rattle.std.proofs.Common.{◌≡◌, ◌++◌, [], ◌∷◌, arith}
use Rattle.std.proofs.lemmas.Grind.{common_steps}
use Rattle.ci_asm.proofs.AssemblySteps.{AreWordsOf-push}
use Rattle.ci_asm.proofs.assembler.push_word.Goals as goal

pub returns-in_ok-push-clause-words : goal.returns-in_ok-push-clause-words
returns-in_ok-push-clause-words c = λ done all.
    let items : c.push.new.self.items ≡ c.args.words.now.items ++ c.encode.result ∷ [] = grind (arith, common_steps) in
    let both = AreWordsOf-push c.args.words.now.items done c.encode.result c.in-Some.insn all c.encode.ensures.reads_back in
    rw (items, c.in-Some.is) both
