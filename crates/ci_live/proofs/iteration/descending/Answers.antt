use Rattle.std.proofs.Common.{ℕ, ◌<◌, List, subst, sym, arith}
use Rattle.std.specs.List.{All, Contains}
use Rattle.std.proofs.lemmas.List.Elements.{All-push}
use Rattle.ci_live.proofs.PushLaws.{all_from}
use Rattle.ci_live.proofs.iteration.descending.Goals as goal

pub loop-number-preserved : goal.loop-number-preserved
loop-number-preserved c =
    let same = sym c.in_ok-push.ensures.items in
    record {
      below =
          subst (λ (xs : List ℕ). All (λ k. k < c.args.count) xs) same
          (All-push (λ k. k < c.args.count) c.loop-number.numbers.items _ c.loop-number.invariant.below (omega arith));
      all =
          λ k from below.
          subst (λ (xs : List ℕ). Contains xs k) same
          (all_from c.args.count c.loop-number.number c.loop-number.numbers.items (omega arith) c.loop-number.invariant.all k from below);
    }
