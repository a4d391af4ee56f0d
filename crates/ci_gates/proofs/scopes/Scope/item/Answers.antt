use Rattle.std.specs.Prelude.{ℕ, List, replicate}
use Rattle.ci_verilog.specs.declared.vectors.Vector.{Vector}
use Rattle.std.proofs.Common.{sym, subst, ap}
use Rattle.std.proofs.lemmas.Result.{IfOk-weaker}
use Rattle.ci_verilog.specs.Values.{simple_bits, item_bits, joined}
use Rattle.ci_gates.specs.private.Scopes.{Stands}
use Rattle.ci_verilog.specs.Modules.{wires_of}
use Rattle.ci_gates.proofs.ScopeLaws.{stands_as}
use Rattle.ci_gates.proofs.scopes.Scope.item.Goals as goal

pub returns-in-Plain : goal.returns-in-Plain
returns-in-Plain c =
    let wires = wires_of c.args.self.now.wide c.args.self.now.wires.now in
    let words = c.args.self.now.words.now in
    IfOk-weaker c.simple.result _ _
    (λ v stands.
    stands_as wires words v.items (λ names. simple_bits names c.in-Plain.simple) (λ names. item_bits names c.args.item.now)
    (λ names. ap (item_bits names) (sym c.in-Plain.is)) stands)
    c.simple.ensures

pub returns-in_ok-word-in-Repeat : goal.returns-in_ok-word-in-Repeat
returns-in_ok-word-in-Repeat c =
    let wires = wires_of c.args.self.now.wide c.args.self.now.wires.now in
    let words = c.args.self.now.words.now in
    let of = λ (names : List ℕ → Vector). simple_bits names c.in-Repeat.simple in
    IfOk-weaker c.repeated.result _ _
    (λ v copies.
    stands_as wires words v.items (λ names. joined (replicate c.in-Repeat.count (of names))) (λ names. item_bits names c.args.item.now)
    (λ names. ap (item_bits names) (sym c.in-Repeat.is))
    (copies wires words of (subst (λ l. Stands wires words l of) (sym c.deref.ensures.value) c.in_ok-word-in-Repeat.ensures)))
    c.repeated.ensures
