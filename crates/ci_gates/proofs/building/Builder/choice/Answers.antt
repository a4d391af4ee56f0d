use Rattle.std.proofs.Common.{◌∙◌, ◌&&◌, ap, map}
use Rattle.ci_netlist.specs.Netlists.{bit_value, differ}
use Rattle.ci_gates.specs.private.Growing.{pairs}
use Rattle.ci_gates.proofs.NetlistLaws.{if_ok_both}
use Rattle.ci_gates.proofs.WordLaws.{choice_spells}
use Rattle.ci_gates.proofs.building.Builder.choice.Goals as goal

pub returns-clause-value : goal.returns-clause-value
returns-clause-value c =
    if_ok_both c.each-3.result _ _ _
    (λ made makes value arguments gives settled.
    let holds = bit_value arguments gives in
    let second = makes.grows.kept arguments gives settled in
    let first = c.in_ok-changes.ensures.makes.grows.kept arguments gives second in
    let copies = c.deref-2.result.now in
    choice_spells holds c.args.test c.args.first.now c.args.second.now c.in_ok-differences.differences.items copies
    c.in_ok-changes.changes.items made.items c.requires.same_width
    (c.deref-2.ensures.value ∙ c.in_ok-copies.ensures)
    (c.in_ok-differences.ensures.value arguments gives first)
    (c.in_ok-changes.ensures.value arguments gives second
    ∙ ap (λ l. pairs (λ a b. a && b) (map holds l) (map holds copies)) c.deref.ensures.value)
    (value arguments gives settled ∙ ap (λ l. pairs differ (map holds l) (map holds c.args.second.now)) c.deref-3.ensures.value))
    c.each-3.ensures.makes c.each-3.ensures.value
