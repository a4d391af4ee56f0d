use Rattle.std.proofs.Common.{◌≡◌, ◌%◌, ◌^◌, arith, bit_and, subst}
use Rattle.std.proofs.lemmas.Nat.{and_mask}
use Rattle.ci_plan.proofs.StepLaws.{masked, whole_word}
use Rattle.ci_plan.proofs.steps.low_bits.Goals as goal

pub returns-then-width-eq32 : goal.returns-then-width-eq32
returns-then-width-eq32 c =
    subst (λ w. bit_and c.args.value 4294967295 ≡ c.args.value % 2 ^ w) (let e : 32 ≡ c.args.width = omega arith in e)
    (and_mask c.args.value 32)

pub returns-then-width-lt64 : goal.returns-then-width-lt64
returns-then-width-lt64 c = masked c.args.value c.args.width (omega arith)

pub returns-else-width-lt64 : goal.returns-else-width-lt64
returns-else-width-lt64 c = whole_word c.args.value c.args.width (omega arith) (omega arith)
