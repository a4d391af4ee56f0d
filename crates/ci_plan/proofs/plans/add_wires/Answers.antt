use Rattle.std.proofs.Common.{◌≡◌, ◌<◌, ◌≤◌, refl, arith, ap, sym, subst, ◌∙◌, length, take, slice_index_or, Some}
use Rattle.std.proofs.lemmas.List.{length-set}
use Rattle.std.specs.List.{Contains}
use Rattle.ci_plan.specs.private.Names.{AreHeld}
use Rattle.ci_plan.proofs.NameLaws.{none_held, held_later, held_more}
use Rattle.ci_plan.proofs.plans.add_wires.Goals as goal

pub loop-k-init : goal.loop-k-init
loop-k-init c = record {
  room = refl;
  held = none_held c.args.module.now c.args.found.now c.args.draft.now c.requires;
}

pub wire-requires : goal.wire-requires
wire-requires c =
    let m = c.args.module.now in
    let same : c.as_slice-wires.result.now ≡ m.wires.list = c.as_slice-wires.ensures.value ∙ ap (λ w. w.list) c.wires.ensures.value in
    record {
      held = c.loop-k.invariant.held;
      is_module = c.wires.ensures.kept;
      is_there = subst (λ ws. Contains ws c.index-wires-k.result) same (c.loop-k.k, omega arith, sym c.index-wires-k.is);
    }

pub loop-k-preserved : goal.loop-k-preserved
loop-k-preserved c =
    let m = c.args.module.now in
    let l = c.loop-k in
    let same : c.as_slice-wires.result.now ≡ m.wires.list = c.as_slice-wires.ensures.value ∙ ap (λ w. w.list) c.wires.ensures.value in
    let few : length m.wires.list ≤ length c.args.found.now = subst (λ ws. length ws ≤ length c.args.found.now) same (omega arith) in
    let wire = c.index-wires-k.result in
    let there = subst (λ ws. (l.k < length ws) × (wire ≡ slice_index_or ws l.k wire)) same (omega arith, c.index-wires-k.is) in
    let now = c.shorten-place.new.found in
    let whole = c.shorten-place.ensures.room in
    record {
      room = length-set now l.k (Some c.shorten-place.result) ∙ whole ∙ l.invariant.room;
      held =
          held_more m now l.k (Some c.shorten-place.result) wire c.shorten-place.new.draft
          (c.shorten-place.ensures.held m l.k
          (held_later m (take l.k l.found) l.draft c.wire.new.draft c.in_ok-next.ensures.grows l.invariant.held))
          (let e = l.invariant.room in let f = there.0 in omega (arith, e, f, few, whole)) there
          (c.shorten-place.ensures.found m (λ names. names wire.name) c.in_ok-next.ensures.found);
    }

pub returns-clause-held : goal.returns-clause-held
returns-clause-held c =
    let m = c.args.module.now in
    let l = c.loop-k in
    let same : c.as_slice-wires.result.now ≡ m.wires.list = c.as_slice-wires.ensures.value ∙ ap (λ w. w.list) c.wires.ensures.value in
    let all : l.k ≡ length m.wires.list = let e : length c.as_slice-wires.result.now ≡ length m.wires.list = ap length same in omega (arith, e) in
    subst (λ n. AreHeld m (take n l.found) l.draft) all l.invariant.held
