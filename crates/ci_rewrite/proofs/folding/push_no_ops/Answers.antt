use Rattle.std.proofs.Common.{◌≡◌, ◌+◌, ◌-◌, ◌++◌, ◌∷◌, [], replicate, sym, ap, ◌∙◌, append-nil, arith}
use Rattle.std.specs.FinSet as set
use Rattle.ci_cut.specs.Gain.{further_words}
use Rattle.ci_rewrite.specs.FoldedBlock.{no_op, places_left}
use Rattle.ci_rewrite.proofs.FoldLaws.{count_of_members, one_more, places_are_left}
use Rattle.ci_rewrite.proofs.folding.push_no_ops.Goals as goal

pub loop-init : goal.loop-init
loop-init c =
    let graph = c.args.graph.now in
    let cut = set.contains c.args.cut.now in
    let before = c.args.list.now.items in
    let few = (places_are_left graph cut c.requires).0 in
    let none : c.words_of_use-taken.result - (1 + further_words graph cut) ≡ 0 = omega arith in
    record { from = omega arith; within = omega (arith, few); put = sym (ap (λ n. before ++ replicate n no_op) none ∙ append-nil before) }

pub loop-preserved : goal.loop-preserved
loop-preserved c =
    let graph = c.args.graph.now in
    let cut = set.contains c.args.cut.now in
    let members = c.count-members.ensures.value ∙ count_of_members graph c.args.cut.now c.requires in
    record {
      from = omega arith;
      within = omega (arith, members);
      put =
          c.in_ok-push.ensures.items ∙ ap (λ insn. c.loop.list.items ++ insn ∷ []) c.no_op.ensures
          ∙ one_more c.args.list.now.items c.loop.list.items ((1 + further_words graph cut)) c.loop.counter no_op c.loop.invariant.from c.loop.invariant.put;
    }

pub returns : goal.returns
returns c =
    let graph = c.args.graph.now in
    let cut = set.contains c.args.cut.now in
    let members = c.count-members.ensures.value ∙ count_of_members graph c.args.cut.now c.requires in
    let left = (places_are_left graph cut c.requires).1 in
    let count : c.loop.counter - (1 + further_words graph cut) ≡ places_left graph cut = omega (arith, members, left) in
    c.loop.invariant.put ∙ ap (λ n. c.args.list.now.items ++ replicate n no_op) count
