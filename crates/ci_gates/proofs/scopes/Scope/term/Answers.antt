use Rattle.std.specs.Prelude.{ℕ, List, map, replicate}
use Rattle.ci_verilog.specs.declared.vectors.Vector.{Vector}
use Rattle.std.proofs.Common.{sym, subst, ap, ◌∙◌}
use Rattle.std.proofs.lemmas.Result.{IfOk-weaker}
use Rattle.ci_verilog.specs.Values.{simple_bits, item_bits, term_bits, joined}
use Rattle.ci_gates.specs.private.Scopes.{Stands}
use Rattle.ci_verilog.specs.Modules.{wires_of}
use Rattle.ci_gates.proofs.ScopeLaws.{stands_as}
use Rattle.ci_gates.proofs.scopes.Scope.term.Goals as goal

pub returns-in-Plain : goal.returns-in-Plain
returns-in-Plain c =
    let wires = wires_of c.args.self.now.wide c.args.self.now.wires.now in
    let words = c.args.self.now.words.now in
    IfOk-weaker c.simple.result _ _
    (λ v stands.
    stands_as wires words v.items (λ names. simple_bits names c.in-Plain.simple) (λ names. term_bits names c.args.term.now)
    (λ names. ap (term_bits names) (sym c.in-Plain.is)) stands)
    c.simple.ensures

pub returns-in_ok-word-in-Repeat : goal.returns-in_ok-word-in-Repeat
returns-in_ok-word-in-Repeat c =
    let wires = wires_of c.args.self.now.wide c.args.self.now.wires.now in
    let words = c.args.self.now.words.now in
    let of = λ (names : List ℕ → Vector). simple_bits names c.in-Repeat.simple in
    IfOk-weaker c.repeated.result _ _
    (λ v copies.
    stands_as wires words v.items (λ names. joined (replicate c.in-Repeat.count (of names))) (λ names. term_bits names c.args.term.now)
    (λ names. ap (term_bits names) (sym c.in-Repeat.is))
    (copies wires words of (subst (λ l. Stands wires words l of) (sym c.deref.ensures.value) c.in_ok-word-in-Repeat.ensures)))
    c.repeated.ensures

pub returns-in-Join : goal.returns-in-Join
returns-in-Join c =
    let wires = wires_of c.args.self.now.wide c.args.self.now.wires.now in
    let words = c.args.self.now.words.now in
    IfOk-weaker c.items.result _ _
    (λ v stands.
    stands_as wires words v.items (λ names. joined (map (item_bits names) c.as_slice.result.now)) (λ names. term_bits names c.args.term.now)
    (λ names. ap (λ l. joined (map (item_bits names) l)) c.as_slice.ensures ∙ ap (term_bits names) (sym c.in-Join.is)) stands)
    c.items.ensures
