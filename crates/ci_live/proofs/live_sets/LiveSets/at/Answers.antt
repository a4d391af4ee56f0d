use Rattle.std.proofs.Common.{◌≡◌, ◌<◌, ◌∙◌, ap, subst, arith, length, get_or}
use Rattle.std.proofs.lemmas.List.{get_or_default}
use Rattle.ci_live.specs.Sets.{Sets, at_leader}
use Rattle.ci_live.proofs.LiveLaws.{set_at}
use Rattle.ci_live.proofs.live_sets.LiveSets.at.Goals as goal

pub returns : goal.returns
returns c =
    let (below, here) = subst (λ leaders. (c.in-Some.number < length leaders)
    × (get_or leaders c.in-Some.number 0 ≡ c.args.leader)) c.deref.ensures.value c.in-Some.ensures in
    c.index.ensures ∙ get_or_default c.self.inside.at.items c.in-Some.number _ _ (omega (arith, below, c.self.invariant.many_at))
    ∙ set_at c.self.inside.leaders.items c.self.inside.at.items c.in-Some.number c.args.leader c.self.invariant.ascending below here
    ∙ ap (λ (s : Sets). at_leader s c.args.leader) c.self.view_is
