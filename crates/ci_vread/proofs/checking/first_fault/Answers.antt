use Rattle.std.proofs.Common.{◌≡◌, ◌<◌, ◌+◌, ◌∷◌, [], ◌++◌, List, length, drop, map, inl, sym, subst, arith}
use Rattle.std.proofs.lemmas.List.{drop_more, drop_all}
use Rattle.ci_vread.specs.declared.tokens.Token.{Token as TokenValue}
use Rattle.ci_vread.specs.declared.checking.Step.{Step}
use Rattle.ci_vread.specs.declared.checking.Step.TheVariants as step
use Rattle.ci_vread.specs.declared.tokens.Kind.TheVariants as kind
use Rattle.ci_vread.specs.declared.tokens.Sign.TheVariants.{ModuleWord}
use Rattle.ci_vread.specs.Grammar.{Goes, Event, Finish, made, units}
use Rattle.ci_vread.specs.Rules.{nothing, rules_from, rules_at}
use Rattle.ci_vread.specs.private.Scanned.{placed_of}
use Rattle.ci_vread.specs.private.Tables.{due_of}
use Rattle.ci_vread.specs.private.Led.{IsAt, IsBehind, IsOn, IsAfter}
use Rattle.ci_vread.proofs.Answered.{kept, faulty}
use Rattle.ci_vread.proofs.Ascending.{ascends}
use Rattle.ci_vread.proofs.CheckerAnswers.{none_left}
use Rattle.ci_vread.proofs.checking.first_fault.Goals as goal
use Rattle.ci_vread.proofs.checking.first_fault.Goals.{In_ok-step}

-- behind one token more
stepped : (c : In_ok-step) (s : Step) → c.in_ok-step.field-0 ≡ s → (events : List Event) (finish : Finish)
    → Goes 0 (made units ∷ []) (map (placed_of c.args.text.now) c.args.tokens.now) events finish
    → IsAfter (rules_from nothing events ++ rules_at finish)
    (map (placed_of c.args.text.now) (drop (c.loop-token.token-index + 1) c.args.tokens.now)) s c.step.new.self
stepped c s is events finish goes =
    let tokens = c.args.tokens.now in
    let i = c.loop-token.token-index in
    let none : TokenValue = record { kind = kind.Sign ModuleWord; size = 0; start = 0 } in
    let rules = rules_from nothing events ++ rules_at finish in
    let rest = map (placed_of c.args.text.now) (drop (i + 1) tokens) in
    let within : i < length tokens = omega arith in
    let more = drop_more tokens i none within in
    let o = c.loop-token.invariant.there events finish goes in
    subst (λ (x : Step). IsAfter rules rest x c.step.new.self) is
    (c.in_ok-step.ensures.after rules rest
    (subst (λ (l : List TokenValue). IsBehind c.loop-token.checker (map (placed_of c.args.text.now) l)) more o.1)
    (subst (λ (l : List TokenValue). IsAt rules (map (placed_of c.args.text.now) l) c.loop-token.checker) more o.0))

pub loop-token-init : goal.loop-token-init
loop-token-init c = record {
  there = λ events finish goes. (
    c.in_ok-checker.ensures.at (map (placed_of c.args.text.now) c.args.tokens.now) events finish goes,
    (ascends c.requires, inl c.in_ok-checker.ensures.fresh),
  );
  bounded = c.in_ok-checker.ensures.bounded;
}

pub returns-in-Whole : goal.returns-in-Whole
returns-in-Whole c =
    kept c.args.text.now (map (placed_of c.args.text.now) c.args.tokens.now) c.requires
    (stepped (goal.at.returns-in-Whole c).In_ok-step step.Whole c.in-Whole.is)

pub returns-in-Bad : goal.returns-in-Bad
returns-in-Bad c =
    faulty c.args.text.now (map (placed_of c.args.text.now) c.args.tokens.now) c.requires c.in-Bad.fault
    (stepped (goal.at.returns-in-Bad c).In_ok-step (step.Bad c.in-Bad.fault) c.in-Bad.is)

pub loop-token-preserved : goal.loop-token-preserved
loop-token-preserved c = record {
  there = λ events finish goes. stepped (goal.at.loop-token-preserved c).In_ok-step step.On c.in-On.is events finish goes;
  bounded = c.in_ok-step.ensures.bounded (subst IsOn (sym c.in-On.is) tt);
}

pub returns : goal.returns
returns c = kept c.args.text.now (map (placed_of c.args.text.now) c.args.tokens.now) c.requires (λ events finish goes.
    let o = (c.loop-token.invariant.there events finish goes).0 in
    let over : drop c.loop-token.token-index c.args.tokens.now ≡ [] = drop_all c.loop-token.token-index c.args.tokens.now (omega arith) in
    absurd (none_left (subst (λ (l : List TokenValue). Goes c.loop-token.checker.last (due_of c.loop-token.checker.due.items)
    (map (placed_of c.args.text.now) l) o.2.events o.2.finish) over o.2.goes)))
