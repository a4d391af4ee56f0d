use Rattle.std.proofs.Common.{◌≡◌, ℕ, ◌+◌, ◌*◌, ◌∷◌, [], subst, sym, arith, pos}
use Rattle.ci_isa.specs.declared.instruction.Insn.{Insn}
use Rattle.ci_isa.specs.declared.instruction.Insn.TheVariants.{Jal}
use Rattle.ci_gen.specs.Draws.{state_of}
use Rattle.ci_gen.specs.private.Pushed.{ArePushed}
use Rattle.ci_gen.specs.Texts.{next_word, operation}
use Rattle.ci_gen.proofs.StateLaws.{same_state}
use Rattle.ci_gen.proofs.OperationLaws.{group-whole, operations, operations-more}
use Rattle.ci_gen.proofs.PushLaws.{pushed_then}
use Rattle.ci_gen.proofs.text.push_group.Goals as goal

pub loop-preserved : goal.loop-preserved
loop-preserved c =
    let l = c.loop in
    let first = c.args.text.now.items in
    let last = c.push.new.text.items in
    let at : (seed n : ℕ) → c.args.generator.now.state ≡ state_of seed (32 * n) → l.generator.state ≡ state_of seed (4 * (8 * n + l.counter)) =
    λ seed n is. same_state seed (32 * n + 4 * l.counter) (4 * (8 * n + l.counter)) _ (omega arith) (l.invariant.moves seed n is) in
    record {
      words = λ seed n is.
          let value : c.next_operation.result ≡ operation seed (8 * n + l.counter) = c.next_operation.ensures.value seed (8 * n + l.counter) (at seed n is) in
          let one = subst (λ (i : Insn). ArePushed l.text.items last (i ∷ [])) value c.in_ok-push.ensures in
          subst (ArePushed first last) (sym (operations-more seed n l.counter))
          (pushed_then first l.text.items last (operations seed n l.counter) (operation seed (8 * n + l.counter) ∷ [])
          (l.invariant.words seed n is) one);
      moves = λ seed n is.
          same_state seed (4 * (8 * n + l.counter + 1)) (32 * n + 4 * (l.counter + 1)) _ (omega arith)
          (c.next_operation.ensures.moves seed (8 * n + l.counter) (at seed n is));
    }

pub returns-clause-words : goal.returns-clause-words
returns-clause-words c = λ seed n is.
    let l = c.loop in
    let eight : l.counter ≡ 8 = omega (arith, c.loop-test.false) in
    let words = subst (λ (k : ℕ). ArePushed c.args.text.now.items l.text.items (operations seed n k)) eight (l.invariant.words seed n is) in
    let jump = subst (λ (r : ℕ). ArePushed l.text.items c.push-2.new.text.items (Jal r (pos 4) ∷ [])) c.zero-rd.ensures c.in_ok-push-2.ensures in
    subst (ArePushed c.args.text.now.items c.push-2.new.text.items) (group-whole seed n)
    (pushed_then c.args.text.now.items l.text.items c.push-2.new.text.items (operations seed n 8) (next_word ∷ []) words jump)
