use Rattle.std.proofs.Common.{refl, sym, subst}
use Rattle.std.proofs.lemmas.List.{nil_from_length}
use Rattle.ci_select.specs.Instances.{AreOfSomeFile}
use Rattle.ci_select.proofs.FirstRounds.{follows_none}
use Rattle.ci_select.proofs.rounds.Rounds.new.Goals as goal

pub returns-clause-none : goal.returns-clause-none
returns-clause-none c =
    follows_none _
    (subst (λ blocks. AreOfSomeFile blocks c.args.live.now) (sym c.all-blocks.ensures.value) c.requires)
    c.in_ok-instructions_of.ensures c.in_ok-entered_places.ensures
    (nil_from_length c.new.result.entries c.new.ensures.len) c.new-2.ensures refl refl
