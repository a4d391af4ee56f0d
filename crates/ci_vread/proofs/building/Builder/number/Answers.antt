use Rattle.std.proofs.Common.{ap, sym, ◌∙◌}
use Rattle.ci_vread.specs.private.Building.{front, left, token_in, number_in}
use Rattle.ci_vread.proofs.FrontTokens.{no_number}
use Rattle.ci_vread.proofs.building.Builder.number.Goals as goal

pub returns-in-Number-clause-value : goal.returns-in-Number-clause-value
unfolding number_in
returns-in-Number-clause-value c =
    sym (ap (λ s. number_in (token_in s)) (c.number_of.ensures c.in-Number.is)) ∙ ap number_in c.front-token.ensures

pub returns-in_default-clause-value : goal.returns-in_default-clause-value
returns-in_default-clause-value c =
    (no_number c.args.self.now.text.now c.front-token.result (front (left c.args.self.now)) c.front-token.ensures c.in_default.not-Number).1
