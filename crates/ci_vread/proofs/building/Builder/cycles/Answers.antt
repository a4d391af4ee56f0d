use Rattle.std.proofs.Common.{ap, sym, ◌∙◌}
use Rattle.ci_vread.specs.private.Building.{front, left, token_in, cycles_in}
use Rattle.ci_vread.proofs.FrontTokens.{no_cycles}
use Rattle.ci_vread.proofs.building.Builder.cycles.Goals as goal

pub returns-in-Cycles : goal.returns-in-Cycles
unfolding cycles_in
returns-in-Cycles c =
    sym (ap (λ s. cycles_in (token_in s)) (c.cycles_of.ensures c.in-Cycles.is)) ∙ ap cycles_in c.front-token.ensures

pub returns-in_default : goal.returns-in_default
returns-in_default c =
    (no_cycles c.args.self.now.text.now c.front-token.result (front (left c.args.self.now)) c.front-token.ensures c.in_default.not-Cycles).1
