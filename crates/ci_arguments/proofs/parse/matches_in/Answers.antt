-- `clap`'s answer is one without fault, and its matches are those of the simple command.
use Rattle.std.proofs.Common.{◌≡◌, true}
use Rattle.clap.specs.Simple.{is_simple}
use Rattle.clap.specs.Words.{app_of}
use Rattle.clap.proofs.WalkLemmas.{both}
use Rattle.ci_arguments.proofs.parse.matches_in.Goals as goal

pub returns-in-Ok-clause-ok : goal.returns-in-Ok-clause-ok
returns-in-Ok-clause-ok c =
    let simple : is_simple (app_of c.args.parser) ≡ true = (both _ _ c.requires).0 in
    record { faultless = c.in-Ok.ensures.kinds c.requires; found = (c.in-Ok.ensures.matches simple).0 }
