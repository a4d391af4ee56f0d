use Rattle.std.proofs.Common.{◌≡◌, ◌+◌, ◌-◌, ◌*◌, ℕ, Some, ap, sym, ◌∙◌, arith}
use Rattle.ci_machine.proofs.AccessLaws.{number_more, number_none, number_bound}
use Rattle.ci_machine.proofs.memory.Memory.+load_bytes.Goals as goal

pub returns-in_err-high-clause-value : goal.returns-in_err-high-clause-value
returns-in_err-high-clause-value t c =
    let e : c.args.count ≡ c.args.count - 1 + 1 = omega arith in
    c.from_residual-in_err-high.ensures ∙ sym (number_none _ (c.args.count - 1) c.args.count c.args.address e (sym c.in_err-high.ensures.value))

pub overflow_mul-result : goal.overflow_mul-result
overflow_mul-result t c =
    let e : c.args.count ≡ c.args.count - 1 + 1 = omega arith in
    let b = number_bound 0 c.in_ok-high.high (c.args.count - 1) c.args.count e c.requires (omega arith) c.in_ok-high.ensures.below in
    omega arith

pub overflow_add-result : goal.overflow_add-result
overflow_add-result t c =
    let e : c.args.count ≡ c.args.count - 1 + 1 = omega arith in
    let b = number_bound c.from.result c.in_ok-high.high (c.args.count - 1) c.args.count e c.requires (omega arith) c.in_ok-high.ensures.below in
    omega arith

pub returns-clause-value : goal.returns-clause-value
returns-clause-value t c =
    let e : c.args.count ≡ c.args.count - 1 + 1 = omega arith in
    ap (λ (low : ℕ). Some (low + 256 * c.in_ok-high.high)) c.from.ensures
    ∙ sym (number_more _ (c.args.count - 1) c.args.count c.args.address _ _ e (omega arith) (sym c.in_ok-low.ensures) (sym c.in_ok-high.ensures.value))

pub returns-clause-below : goal.returns-clause-below
returns-clause-below t c =
    let e : c.args.count ≡ c.args.count - 1 + 1 = omega arith in
    (number_bound c.from.result c.in_ok-high.high (c.args.count - 1) c.args.count e c.requires (omega arith) c.in_ok-high.ensures.below).0
