use Rattle.std.specs.Prelude.{MatchOption}
use Rattle.std.proofs.Common.{subst}
use Rattle.ci_rename.specs.Renaming.{IsFree, IsLeastFree, stays}
use Rattle.ci_rename.proofs.renaming.renamed_value.Goals as goal

pub returns-in-None : goal.returns-in-None
returns-in-None c =
    let none =
    subst (λ free. MatchOption free ((r : _) → ¬ IsFree c.args.live_out.now c.args.insns.now r) (IsLeastFree c.args.live_out.now c.args.insns.now))
    c.in-None.is c.requires.least in
    stays (λ r to may. none to may.least.free)
