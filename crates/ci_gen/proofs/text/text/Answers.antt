use Rattle.std.proofs.Common.{◌≡◌, ℕ, List, [], subst, sym, ap, arith}
use Rattle.ci_gen.specs.Draws.{state_of}
use Rattle.ci_gen.specs.private.Pushed.{ArePushed}
use Rattle.ci_gen.specs.Texts.{ending, group, groups}
use Rattle.ci_gen.proofs.OperationLaws.{groups-more, groups-none}
use Rattle.ci_gen.proofs.PushLaws.{none_pushed, pushed_then}
use Rattle.ci_gen.proofs.text.text.Goals as goal

pub loop-init : goal.loop-init
unfolding state_of
loop-init c = record {
  words = subst (ArePushed [] c.new-text.result.items) (sym (groups-none c.args.seed))
      (subst (λ (ws : List ℕ). ArePushed [] ws []) (sym c.new-text.ensures.items) (none_pushed []));
  moves = c.new-generator.ensures;
}

pub loop-preserved : goal.loop-preserved
loop-preserved c =
    let l = c.loop in
    let seed = c.args.seed in
    let last = c.push_group.new.text.items in
    record {
      words =
          subst (ArePushed [] last) (sym (groups-more seed l.counter))
          (pushed_then [] l.text.items last (groups seed l.counter) (group seed l.counter) l.invariant.words
          (c.in_ok-push_group.ensures.words seed l.counter l.invariant.moves));
      moves = c.in_ok-push_group.ensures.moves seed l.counter l.invariant.moves;
    }

pub returns : goal.returns
returns c =
    let l = c.loop in
    let seed = c.args.seed in
    let all : groups seed l.counter ≡ groups seed 1800 = ap (groups seed) (omega (arith, c.loop-test.false)) in
    let words = subst (ArePushed [] l.text.items) all l.invariant.words in
    pushed_then [] l.text.items c.push_ending.new.text.items (groups seed 1800) ending words c.in_ok-push_ending.ensures [] tt
