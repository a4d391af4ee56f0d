use Rattle.std.proofs.Common.{◌≡◌, ◌-◌, ◌<◌, length, refl, sym, ap, ◌∙◌, subst, arith}
use Rattle.std.specs.FinSet as set
use Rattle.std.specs.List.{sum_by}
use Rattle.std.proofs.Math.ListN.{set as list_set}
use Rattle.std.proofs.lemmas.List.{get_or_default}
use Rattle.ci_word.specs.Numbers.{count_below}
use Rattle.ci_live.specs.private.Flows.{Has}
use Rattle.ci_live.specs.private.Found.{live_at, missing_at, room}
use Rattle.ci_live.proofs.TransferLaws.{found_right, missing_apart}
use Rattle.ci_live.proofs.SetLaws.{has_none, less_room}
use Rattle.ci_live.proofs.iteration.Found.transfer.Goals as goal

pub returns-then-count-eq0-clause-transfer : goal.returns-then-count-eq0-clause-transfer
returns-then-count-eq0-clause-transfer c =
    let empty = sym c.missing-missing.ensures ∙ set.empty_of_len c.missing-missing.result (sym c.count.ensures.value ∙ c.if-count-eq0.true) in
    (refl, λ r has. has_none r (subst (λ s. Has s r) empty has))

pub returns-clause-sound : goal.returns-clause-sound
returns-clause-sound c =
    let live = c.args.self.now.live.items in
    let n = c.args.number in
    let before = c.index.ensures ∙ get_or_default live n _ set.empty (omega (arith, c.requires.sound.many)) in
    found_right c.args.flows.now c.args.self.now c.requires.sound n c.requires.number _
    (ap (λ s. list_set live n s) (c.union.ensures.value ∙ (λ i. set.union (before i) (c.missing-missing.ensures i))))
    (c.union-self.ensures.value ∙ ap (λ s. set.union c.args.self.now.any s) c.missing-missing.ensures)

pub returns-clause-transfer : goal.returns-clause-transfer
returns-clause-transfer c =
    let live = c.args.self.now.live.items in
    let n = c.args.number in
    let within : n < length live = omega (arith, c.requires.sound.many) in
    let before : c.index.result.now ≡ live_at live n = c.index.ensures ∙ get_or_default live n _ set.empty within in
    let missing = c.missing-missing.ensures in
    let some : 0 < count_below 256 (set.contains (missing_at c.args.flows.now c.args.self.now n)) =
    subst (λ s. 0 < count_below 256 (set.contains s)) missing (omega (arith, c.count.ensures.counted, c.if-count-eq0.false)) in
    subst (λ s. sum_by (λ live. 256 - count_below 256 (set.contains live)) (list_set live n s) < room c.args.self.now)
    (sym (c.union.ensures.value ∙ (λ i. set.union (before i) (missing i))))
    (less_room live n _ within (missing_apart c.args.flows.now c.args.self.now c.requires.sound n c.requires.number) some)
