-- One digit more.
use Rattle.std.proofs.Common.{◌≡◌, ◌∙◌, ap, ◌%◌, ◌^◌, ◌+◌, ◌*◌, take, arith}
use Rattle.std.specs.Str.Parse.{digits_value}
use Rattle.std.proofs.Math.Nat.{mod-add-mod}
use Rattle.std.proofs.lemmas.Nat.{mul-mod_first}
use Rattle.std.proofs.lemmas.Int.Digits.{digits_value_more}
use Rattle.ci_vread.proofs.values.value_of.Goals as goal

pub loop-byte-preserved : goal.loop-byte-preserved
loop-byte-preserved c =
    let base = c.args.base in
    let text = c.args.digits.now in
    let i = c.loop-byte.byte-index in
    let d = c.digit_value.result in
    let so_far = digits_value base (take i text) in
    let more : so_far * base + d ≡ digits_value base (take (i + 1) text) =
    omega (arith, digits_value_more base text i c.loop-byte-test.true, c.digit_value.ensures.value) in
    ap (λ v. (v * base % 2 ^ 64 + d) % 2 ^ 64) c.loop-byte.invariant
    ∙ (ap (λ v. (v + d) % 2 ^ 64) (mul-mod_first so_far base (2 ^ 64))
    ∙ (mod-add-mod (so_far * base) (2 ^ 64) d ∙ ap (λ v. v % 2 ^ 64) more))
