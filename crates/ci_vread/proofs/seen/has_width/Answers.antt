use Rattle.std.proofs.Common.{[], ◌∷◌, arith}
use Rattle.ci_vread.proofs.SeenLaws.{other_length}
use Rattle.ci_vread.proofs.seen.has_width.Goals as goal

pub returns-in_default-2 : goal.returns-in_default-2
returns-in_default-2 c = other_length c.args.widths.now (c.args.due ∷ []) (λ e. omega arith)
