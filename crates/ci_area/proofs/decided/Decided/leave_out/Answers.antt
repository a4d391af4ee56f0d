use Rattle.std.proofs.Common.{arith, refl}
use Rattle.ci_area.proofs.DecidedLaws.{represents_out}
use Rattle.ci_area.proofs.decided.Decided.leave_out.Goals as goal

pub returns-clause-represents : goal.returns-clause-represents
returns-clause-represents c pieces prefix is =
    represents_out pieces prefix c.args.self.now is _ (omega (arith, c.requires.some)) refl refl refl
