use Rattle.std.proofs.Common.{[], ◌∷◌, arith}
use Rattle.ci_vread.proofs.SeenLaws.{other_length}
use Rattle.ci_vread.proofs.seen.are_of_choice.Goals as goal

pub returns-in_default : goal.returns-in_default
returns-in_default c = other_length c.args.widths.now (c.args.due ∷ c.args.due ∷ 1 ∷ []) (λ e. omega arith)

pub returns-in_default-2 : goal.returns-in_default-2
returns-in_default-2 c = other_length c.args.widths.now (c.args.due ∷ c.args.due ∷ 1 ∷ []) (λ e. omega arith)
