use Rattle.std.proofs.Common.{◌≡◌, true, false, ap, ◌∙◌}
use Rattle.std.specs.FinSet as set
use Rattle.ci_rewrite.proofs.FoldLaws.{put_none, put_more, put_same}
use Rattle.ci_rewrite.proofs.folding.push_those.Goals as goal
use Rattle.ci_rewrite.proofs.folding.push_those.Goals.{then-has+in_ok-push, else-has}

pub loop-k-init : goal.loop-k-init
loop-k-init c = put_none c.args.insns.now c.args.list.now.items (set.contains c.args.numbers.now)

pub loop-k-preserved : goal.loop-k-preserved
loop-k-preserved c =
    let insns = c.args.insns.now in
    let before = c.args.list.now.items in
    let test = set.contains c.args.numbers.now in
    elim c.if-has.branch [
      | then-has+in_ok-push w ↦
          let here : test c.loop-k.k ≡ true = cc in
          ap (λ list. list.items) w.list-is ∙ w.in_ok-push.ensures.items
          ∙ put_more insns before test c.loop-k.list.items c.loop-k.k c.loop-k.invariant c.index-insns-k.result
          here c.loop-k-test.true c.index-insns-k.is
      | else-has w ↦
          let here : test c.loop-k.k ≡ false = cc in
          ap (λ list. list.items) w.list-is
          ∙ put_same insns before test c.loop-k.list.items c.loop-k.k c.loop-k.invariant here
    ]
