use Rattle.std.proofs.Common.{◌≡◌, ◌-◌, ◌<◌, length, Some, None, ap, sym, subst, ◌∙◌, arith, rules}
use Rattle.std.specs.Prelude.{slice_get}
use Rattle.std.proofs.lemmas.Result.{IfOk-weaker}
use Rattle.ci_dfg.specs.BlockGraph.{graph_of}
use Rattle.ci_dfg.specs.Bundles.{AreBundled}
use Rattle.ci_live.specs.Sets.{after_block}
use Rattle.ci_select.specs.private.Followed.{IsDueGraph, instance_in}
use Rattle.ci_select.proofs.DuePlaces.{block_of_file, last_is_at, last_is_live, last_within}
use Rattle.ci_select.proofs.DuePlaces.{none_unsearched, order_of, present_at}
use Rattle.ci_select.proofs.PresentLaws.{due_search, present_is_one, present_is_sound}
use Rattle.ci_select.proofs.rounds.Rounds.graph.Goals as goal
use Rattle.ci_select.proofs.rounds.Rounds.graph.Goals.{In-Some}

pub unreachable-requires : goal.unreachable-requires
unreachable-requires c =
    none_unsearched c.requires.2
    (subst (λ xs. slice_get xs (length xs - 1) ≡ None) c.deref.ensures.value (sym c.in_default.ensures.value))
    c.requires.1 (due_search c.requires.3)

-- the place is the last one
at_last : (c : In-Some) → slice_get c.args.self.now.unsearched.items (length c.args.self.now.unsearched.items - 1) ≡ Some c.in-Some.place.now
at_last c =
    let place = c.in-Some.place.now in
    subst (λ xs. slice_get xs (length xs - 1) ≡ Some place) c.deref.ensures.value (sym c.in-Some.ensures.value)

within : (c : In-Some) → c.in-Some.place.now < length c.args.self.now.blocks.now
within c = last_within c.in-Some.place.now c.requires.2 (at_last c)

pub bounds-self-place : goal.bounds-self-place
bounds-self-place c = within (goal.at.bounds-self-place c).In-Some

pub offset_bounds-self-place : goal.offset_bounds-self-place
offset_bounds-self-place c = let inside = within (goal.at.offset_bounds-self-place c).In-Some in search rules

pub after-live_out-requires : goal.after-live_out-requires
after-live_out-requires c =
    last_is_live c.in-Some.place.now c.requires.2 (at_last (goal.at.after-live_out-requires c).In-Some) c.index-self-place.result

pub index-requires : goal.index-requires
index-requires c =
    omega (arith, within (goal.at.index-requires c).In-Some, c.requires.2.many, c.args.self.now.present.ok.0)

pub graph-requires : goal.graph-requires
graph-requires c =
    let history = c.requires.0 in
    let leader = c.requires.1 in
    let follows = c.requires.2 in
    let here = (goal.at.graph-requires c).In-Some in
    let block = record (block_of_file follows.of_file) { insns = c.index.result.now } in
    let same = c.deref-2.ensures.value ∙ ap (λ insns. insns.items) c.index.ensures in
    let present =
    present_at c.in-Some.place.now block follows (within here)
    (last_is_at c.in-Some.place.now follows (at_last here) block (due_search c.requires.3)) in
    let sound = present_is_sound follows.of_file follows.legal present in
    record {
      few = omega (arith, sound.can_be_folded.few, ap length same);
      bundled = subst (λ i. AreBundled i) (sym same) sound.can_be_folded.bundled;
    }

pub returns : goal.returns
returns c = IfOk-weaker c.graph.result _ (IsDueGraph c.args.self.now) (λ graph is. λ history leader insns follows due present.
    let rounds = c.args.self.now in
    let place = c.in-Some.place.now in
    let here = (goal.at.returns c).In-Some in
    let block = record (block_of_file follows.of_file) { insns = c.index.result.now } in
    let leads = last_is_at place follows (at_last here) in
    let held = present_at place block follows (within here) (leads block (due_search due)) in
    let one : c.deref-2.result.now ≡ insns =
    c.deref-2.ensures.value ∙ ap (λ insns. insns.items) c.index.ensures
    ∙ present_is_one (instance_in rounds) history leader _ insns (order_of follows) held present in
    let after =
    c.after-live_out.ensures
    ∙ ap (after_block rounds.live.now) (leads c.index-self-place.result (due_search due)) in
    is ∙ (λ i. graph_of (one i) (after i) rounds.table.now)) c.graph.ensures
