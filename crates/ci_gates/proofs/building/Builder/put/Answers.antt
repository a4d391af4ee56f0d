use Rattle.std.proofs.Common.{◌≡◌, ◌≤◌, ◌<◌, length, sym, ap, ◌∙◌, subst, arith, rules}
use Rattle.std.proofs.lemmas.List.{length_push}
use Rattle.ci_netlist.specs.Netlists.{AreGates, Settles, HasBits}
use Rattle.ci_gates.specs.private.Growing.{Grows}
use Rattle.ci_gates.proofs.NetlistLaws.{gates_more, grows_one, last_gives}
use Rattle.ci_gates.proofs.building.Builder.put.Goals as goal

pub invariant_of-self-2 : goal.invariant_of-self-2
invariant_of-self-2 c =
    let old = c.self.inside.gates.items in
    let view : c.args.self.now ≡ old = search rules in
    let held : AreGates old × (length old ≤ 4194304) = c.self.invariant in
    let room : length old < 4194304 = subst (λ gs. length gs < 4194304) view c.requires.room in
    let has : HasBits (length old) c.args.gate = subst (λ gs. HasBits (length gs) c.args.gate) view c.requires.has_bits in
    subst (λ gs. AreGates gs × (length gs ≤ 4194304)) (sym c.in_ok-push.ensures.items)
    (gates_more old c.args.gate held.0 has, let e = length_push old c.args.gate in omega (arith, e, room))

pub returns-clause-grows : goal.returns-clause-grows
returns-clause-grows c =
    let old = c.self.inside.gates.items in
    let view : c.args.self.now ≡ old = search rules in
    subst (λ gs. Grows gs c.push.new.self.items 1) (sym view)
    (subst (λ gs. Grows old gs 1) (sym c.in_ok-push.ensures.items) (grows_one old c.args.gate))

pub returns-clause-value : goal.returns-clause-value
returns-clause-value c arguments gives settled =
    let old = c.self.inside.gates.items in
    ap gives (c.len-place.ensures ∙ c.self.inside.gates.ok.0)
    ∙ last_gives old c.args.gate arguments gives (subst (λ gs. Settles gs arguments gives) c.in_ok-push.ensures.items settled)
