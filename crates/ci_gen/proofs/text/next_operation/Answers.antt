use Rattle.std.proofs.Common.{ℕ, suc, ◌+◌, ◌*◌, ◌/◌, ◌%◌, ap, arith, ◌∙◌}
use Rattle.ci_gen.specs.Texts.{operation_of}
use Rattle.ci_gen.proofs.StateLaws.{same_state, state_behind}
use Rattle.ci_gen.proofs.text.next_operation.Goals as goal

pub returns-clause-value : goal.returns-clause-value
returns-clause-value c = λ seed n before.
    let one = state_behind seed (4 * n) _ c.kind-kind.new.self.state before c.kind-kind.ensures.moves in
    let two = state_behind seed (4 * n + 1) _ c.register-rd.new.self.state (same_state seed (suc (4 * n)) (4 * n + 1) _ (omega arith) one) c.register-rd.ensures.moves in
    let three = state_behind seed (4 * n + 2) _ c.register-rs1.new.self.state (same_state seed (suc (4 * n + 1)) (4 * n + 2) _ (omega arith) two) c.register-rs1.ensures.moves in
    let four = state_behind seed (4 * n + 3) _ c.register-last.new.self.state (same_state seed (suc (4 * n + 2)) (4 * n + 3) _ (omega arith) three) c.register-last.ensures.moves in
    let kind = c.kind-kind.ensures.draws ∙ ap (λ (s : ℕ). s / 65536 % 8) one in
    let rd = c.register-rd.ensures.draws ∙ ap (λ (s : ℕ). 5 + s / 65536 % 8) two in
    let rs1 = c.register-rs1.ensures.draws ∙ ap (λ (s : ℕ). 5 + s / 65536 % 8) three in
    let last = c.register-last.ensures.draws ∙ ap (λ (s : ℕ). 5 + s / 65536 % 8) four in
    c.operation_of.ensures.value ∙ (λ i. operation_of (kind i) (rd i) (rs1 i) (last i))

pub returns-clause-moves : goal.returns-clause-moves
returns-clause-moves c = λ seed n before.
    let one = state_behind seed (4 * n) _ c.kind-kind.new.self.state before c.kind-kind.ensures.moves in
    let two = state_behind seed (suc (4 * n)) _ c.register-rd.new.self.state one c.register-rd.ensures.moves in
    let three = state_behind seed (suc (suc (4 * n))) _ c.register-rs1.new.self.state two c.register-rs1.ensures.moves in
    let four = state_behind seed (suc (suc (suc (4 * n)))) _ c.register-last.new.self.state three c.register-last.ensures.moves in
    same_state seed (suc (suc (suc (suc (4 * n))))) (4 * (n + 1)) _ (omega arith) four
