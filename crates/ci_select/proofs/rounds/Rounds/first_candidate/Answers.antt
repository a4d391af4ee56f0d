use Rattle.ci_select.proofs.RankLaws.{first_found}
use Rattle.ci_select.proofs.rounds.Rounds.first_candidate.Goals as goal

pub returns : goal.returns
returns c =
    let found = c.first_key_value.ensures in
    first_found c.args.self.now.candidates.entries (λ p. (p.0.now, p.1.now)) c.first_key_value.result found.variant
    found.first found.all_from
