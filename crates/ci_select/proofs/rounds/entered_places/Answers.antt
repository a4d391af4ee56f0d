use Rattle.std.proofs.Common.{◌≡◌, ◌-◌, ◌∷◌, [], reverse, sym, ap, ◌∙◌, arith}
use Rattle.std.proofs.lemmas.List.{reverse-append}
use Rattle.ci_select.proofs.EnteredPlaces.{entered_as_before, entered_below, entered_more, entered_none}
use Rattle.ci_select.proofs.rounds.entered_places.Goals as goal

pub loop-place-preserved : goal.loop-place-preserved
loop-place-preserved c =
    let loop = c.loop-place in
    entered_as_before c.args.profile.now c.args.blocks.now loop.place (reverse loop.places.items)
    c.index-blocks-place.result c.loop-place-test.true loop.auto.place (omega (arith, c.entries.ensures))
    ∙ loop.invariant

pub loop-place-preserved-in-Continue-1 : goal.loop-place-preserved-in-Continue-1
loop-place-preserved-in-Continue-1 c =
    let loop = c.loop-place in
    let pushed : reverse c.push.new.self.items ≡ (loop.place - 1) ∷ reverse loop.places.items =
    ap reverse c.in_ok-push.ensures.items ∙ reverse-append loop.places.items ((loop.place - 1) ∷ []) in
    ap (entered_below c.args.profile.now c.args.blocks.now (loop.place - 1)) pushed
    ∙ entered_more c.args.profile.now c.args.blocks.now loop.place (reverse loop.places.items)
    c.index-blocks-place.result c.loop-place-test.true loop.auto.place (omega (arith, c.entries.ensures))
    ∙ loop.invariant

pub returns : goal.returns
returns c =
    let loop = c.loop-place in
    sym (entered_none c.args.profile.now c.args.blocks.now loop.place (reverse loop.places.items)
    (omega (arith, c.loop-place-test.false)))
    ∙ loop.invariant
