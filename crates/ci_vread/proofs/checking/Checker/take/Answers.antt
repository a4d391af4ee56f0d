use Rattle.std.proofs.Common.{◌∷◌, [], ◌+◌, inr, refl, ap, subst, arith}
use Rattle.ci_reading.specs.Tokens.{token, stray_byte, at}
use Rattle.ci_vread.specs.declared.tokens.Kind.{Kind}
use Rattle.ci_vread.specs.Grammar.{Symbol, reads, read, bad_byte}
use Rattle.ci_vread.specs.Rules.{behind}
use Rattle.ci_vread.specs.private.Scanned.{symbol_by, text_of, placed_of}
use Rattle.ci_vread.specs.private.Tables.{role_of}
use Rattle.ci_vread.specs.private.Led.{LeadsWith}
use Rattle.ci_vread.proofs.CheckerSteps.{taken}
use Rattle.ci_vread.proofs.CheckerAnswers.{stopped, ascend_less}
use Rattle.ci_vread.proofs.CheckerLaws.{steps_on, refused, with_kept}
use Rattle.ci_vread.proofs.RoleLaws.{of_symbol, can_have, suits}
use Rattle.ci_vread.proofs.checking.Checker.take.Goals as goal

pub returns-after-self-le4294967295-clause-after : goal.returns-after-self-le4294967295-clause-after
returns-after-self-le4294967295-clause-after c = λ rules symbols up led.
    let text = c.args.text.now in
    let r = role_of c.args.role in
    let place = c.args.token.start in
    let can = can_have c.args.role c.args.token.kind (text_of text c.args.token) (c.if-fits.ensures.0 refl) in
    let at_token = subst (λ (x : Symbol). LeadsWith rules (at place x ∷ symbols) (reads r ∷ []) c.args.self.now) can.1 led in
    let o = with_kept rules (at place (token can.0) ∷ symbols) (reads r ∷ []) c.args.self.now c.requires.kept at_token in
    let n = steps_on c.args.self.now.seen c.read.new.self c.in_ok-self.field-0 (read r can.0) (c.in_ok-self.ensures.on can.0 can.1 can.2) o.0 place o.1 in
    ((behind o.0 (read r can.0 place), n.0, taken c.in_ok-self.field-0 can.2 o.2 n.1), (ascend_less 0 (place + 1) symbols (omega arith) up.1, inr up.1))

pub returns-then-is_kind-clause-after : goal.returns-then-is_kind-clause-after
returns-then-is_kind-clause-after c = λ rules symbols up led.
    let r = role_of c.args.role in
    let same = ap (λ (k : Kind). symbol_by k (text_of c.args.text.now c.args.token)) (c.if-is_kind.ensures.0 refl) in
    let at_stray = subst (λ (x : Symbol). LeadsWith rules (at c.args.token.start x ∷ symbols) (reads r ∷ []) c.args.self.now) same led in
    stopped bad_byte (with_kept rules (at c.args.token.start stray_byte ∷ symbols) (reads r ∷ []) c.args.self.now c.requires.kept at_stray).2

pub returns-else-is_kind-clause-after : goal.returns-else-is_kind-clause-after
returns-else-is_kind-clause-after c = λ rules symbols up led.
    let r = role_of c.args.role in
    let text = c.args.text.now in
    let bytes = text_of text c.args.token in
    refused (symbol_by c.args.token.kind bytes)
    (λ e. let t = c.if-is_kind.ensures.1 (of_symbol c.args.token.kind bytes stray_byte e) in absurd (cc))
    (λ t e fit. let none = c.if-fits.ensures.1 (suits c.args.role c.args.token.kind bytes t e fit) in absurd (cc))
    (with_kept rules (placed_of text c.args.token ∷ symbols) (reads r ∷ []) c.args.self.now c.requires.kept led).2
