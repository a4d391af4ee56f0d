use Rattle.std.proofs.Common.{ap, sym, ◌∙◌, refl, true≢false}
use Rattle.ci_region.specs.BoundedMap.{BoundedMap}
use Rattle.ci_pair.specs.declared.flattening.PairNode.{PairNode}
use Rattle.ci_pair.proofs.RegionLaws.{joined, one_more_used, below_unless, moved}
use Rattle.ci_pair.proofs.trees.branch.Goals as goal

pub returns-in-Ok : goal.returns-in-Ok
returns-in-Ok c = record {
  one_more = one_more_used c.args.region.now c.take.new.self c.in-Ok.slot _ c.in-Ok.ensures.holds c.in-Ok.ensures.was_free;
  was_free = below_unless c.in-Ok.ensures.bounded (λ full. true≢false (sym (c.in-Ok.ensures.full.1 full)));
  same_capacity = ap (λ (m : BoundedMap PairNode). m.capacity) c.in-Ok.ensures.holds;
  tree = λ firsts seconds outs rest trees.
      joined c.args.region.now c.take.new.self c.args.first c.args.second c.args.out c.in-Ok.slot c.in-Ok.ensures.holds c.in-Ok.ensures.was_free
      firsts seconds outs trees.behind trees.between rest trees.out_tree trees.second_tree trees.first_tree;
}

-- ---- no slot was free

pub give_back-requires : goal.give_back-requires
give_back-requires c =
    let trees = c.requires.4 in (
      c.requires.2,
      trees.behind,
      moved c.args.region.now c.take.new.self c.args.out c.in-Err.node.out c.requires.2 trees.behind c.in-Err.ensures.unchanged
          (ap (λ (n : PairNode). n.out) c.in-Err.ensures.value_back) trees.out_tree,
    )

pub give_back-requires-in-Err : goal.give_back-requires-in-Err
give_back-requires-in-Err c =
    let trees = c.requires.4 in
    let back = c.in-Err.ensures.value_back in
    let out = c.give_back.ensures c.requires.2 trees.behind
    (moved c.args.region.now c.take.new.self c.args.out c.in-Err.node.out c.requires.2 trees.behind c.in-Err.ensures.unchanged
    (ap (λ (n : PairNode). n.out) back) trees.out_tree) in (
      c.requires.1,
      trees.between,
      moved (record { values = trees.behind; capacity = c.take.new.self.capacity }) c.give_back.new.region c.args.second c.in-Err.node.second
          c.requires.1 trees.between out (ap (λ (n : PairNode). n.second) back) trees.second_tree,
    )

pub give_back-requires-in-Err-2 : goal.give_back-requires-in-Err-2
give_back-requires-in-Err-2 c =
    let trees = c.requires.4 in
    let back = c.in-Err.ensures.value_back in
    let out = c.give_back.ensures c.requires.2 trees.behind
    (moved c.args.region.now c.take.new.self c.args.out c.in-Err.node.out c.requires.2 trees.behind c.in-Err.ensures.unchanged
    (ap (λ (n : PairNode). n.out) back) trees.out_tree) in
    let second = c.give_back-in-Err.ensures c.requires.1 trees.between
    (moved (record { values = trees.behind; capacity = c.take.new.self.capacity }) c.give_back.new.region c.args.second c.in-Err.node.second
    c.requires.1 trees.between out (ap (λ (n : PairNode). n.second) back) trees.second_tree) in (
      c.requires.0,
      c.requires.3,
      moved (record { values = trees.between; capacity = c.give_back.new.region.capacity }) c.give_back-in-Err.new.region c.args.first
          c.in-Err.node.first c.requires.0 c.requires.3 second (ap (λ (n : PairNode). n.first) back) trees.first_tree,
    )

pub returns-in-Err : goal.returns-in-Err
returns-in-Err c = (
  c.in-Err.ensures.full.0 refl,
  λ firsts seconds outs rest trees.
      let same = c.in-Err.ensures.unchanged in
      let back = c.in-Err.ensures.value_back in
      let out = c.give_back.ensures outs trees.behind
      (moved c.args.region.now c.take.new.self c.args.out c.in-Err.node.out outs trees.behind same
      (ap (λ (n : PairNode). n.out) back) trees.out_tree) in
      let second = c.give_back-in-Err.ensures seconds trees.between
      (moved (record { values = trees.behind; capacity = c.take.new.self.capacity }) c.give_back.new.region c.args.second c.in-Err.node.second
      seconds trees.between out (ap (λ (n : PairNode). n.second) back) trees.second_tree) in
      let first = c.give_back-in-Err-2.ensures firsts rest
      (moved (record { values = trees.between; capacity = c.give_back.new.region.capacity }) c.give_back-in-Err.new.region c.args.first
      c.in-Err.node.first firsts rest second (ap (λ (n : PairNode). n.first) back) trees.first_tree) in
      first ∙ (λ i. record {
        values = rest;
        capacity = (ap (λ (m : BoundedMap PairNode). m.capacity) second ∙ ap (λ (m : BoundedMap PairNode). m.capacity) out
            ∙ ap (λ (m : BoundedMap PairNode). m.capacity) same) i;
      }),
)
