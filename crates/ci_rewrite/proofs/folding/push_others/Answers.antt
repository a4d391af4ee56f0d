use Rattle.std.proofs.Common.{◌≡◌, ℕ, true, false, not, ap, ◌∙◌}
use Rattle.std.specs.FinSet as set
use Rattle.ci_rewrite.proofs.FoldLaws.{put_none, put_more, put_same}
use Rattle.ci_rewrite.proofs.folding.push_others.Goals as goal
use Rattle.ci_rewrite.proofs.folding.push_others.Goals.{then-not-has+in_ok-push, else-not-has}

pub loop-k-init : goal.loop-k-init
loop-k-init c = put_none c.args.insns.now c.args.list.now.items (λ k. not (set.contains c.args.numbers.now k))

pub loop-k-preserved : goal.loop-k-preserved
loop-k-preserved c =
    let insns = c.args.insns.now in
    let before = c.args.list.now.items in
    let test = λ (k : ℕ). not (set.contains c.args.numbers.now k) in
    elim c.if-not-has.branch [
      | then-not-has+in_ok-push w ↦
          let here : set.contains c.args.numbers.now c.loop-k.k ≡ false = cc in
          ap (λ list. list.items) w.list-is ∙ w.in_ok-push.ensures.items
          ∙ put_more insns before test c.loop-k.list.items c.loop-k.k c.loop-k.invariant c.index-insns-k.result
          (ap not here) c.loop-k-test.true c.index-insns-k.is
      | else-not-has w ↦
          let here : set.contains c.args.numbers.now c.loop-k.k ≡ true = cc in
          ap (λ list. list.items) w.list-is
          ∙ put_same insns before test c.loop-k.list.items c.loop-k.k c.loop-k.invariant (ap not here)
    ]
