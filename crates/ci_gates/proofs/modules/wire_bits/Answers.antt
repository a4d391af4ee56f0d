use Rattle.std.specs.Prelude.{length, ◌≤◌, ◌+◌, ◌++◌, IfOk}
use Rattle.std.specs.List.{slice_index_or}
use Rattle.std.proofs.Common.{◌≡◌, take, sym, subst, ap, ◌∙◌, arith}
use Rattle.std.proofs.lemmas.Result.{IfOk-weaker}
use Rattle.ci_verilog.specs.Modules.{wires_of, known_by, WireList}
use Rattle.ci_verilog.specs.private.Held.{ExprFits}
use Rattle.ci_gates.specs.Counts.{HasGates}
use Rattle.ci_gates.specs.private.Scopes.{IsScope, IsHeld}
use Rattle.ci_gates.specs.private.Wired.{first_wires, AreWords, slot_of}
use Rattle.ci_gates.proofs.NetlistLaws.{if_ok_both}
use Rattle.ci_gates.proofs.WireLaws.{first_seen, scope_of}
use Rattle.ci_gates.proofs.WiredLaws.{wire_fits, values_held, wire_room, wire_made}
use Rattle.ci_gates.proofs.modules.wire_bits.Goals as goal
use Rattle.ci_gates.proofs.modules.wire_bits.Goals.{After-index-wires-k, After-expr}

-- what the scope sees
sees : (c : After-index-wires-k) → wires_of c.is_wide.result (take c.args.k c.as_slice-wires.result.now) ≡ first_wires c.args.module.now.wires c.args.k
sees c = first_seen c.wires-all.ensures.value c.is_wide.ensures c.as_slice-wires.ensures.value c.args.k

pub expr-requires-clause-scope : goal.expr-requires-clause-scope
expr-requires-clause-scope c =
    subst (λ ws. IsScope ws c.args.words.now) (sym (sees c))
    (scope_of c.args.module.now c.args.words.now c.args.k c.wires-all.ensures.kept (omega (arith, c.requires.there)) c.requires.words_are.room)

pub expr-requires-clause-held : goal.expr-requires-clause-held
expr-requires-clause-held c =
    subst (λ ws. IsHeld ws c.args.words.now) (sym (sees c))
    (values_held c.args.module.now c.wires-all.ensures.kept c.args.builder.now (first_wires c.args.module.now.wires c.args.k)
    c.args.words.now c.len-made.ensures.kept c.requires.words_are.hold)

-- the wire that is read
found : (c : After-index-wires-k) → c.index-wires-k.result ≡ slice_index_or c.args.module.now.wires.list c.args.k c.index-wires-k.result
found c =
    let same = c.as_slice-wires.ensures.value ∙ ap (λ (w : WireList). w.list) c.wires-all.ensures.value in
    c.index-wires-k.is ∙ ap (λ ws. slice_index_or ws c.args.k c.index-wires-k.result) same

pub expr-requires-clause-fits : goal.expr-requires-clause-fits
expr-requires-clause-fits c =
    let wire = c.index-wires-k.result in
    let fits = wire_fits c.args.module.now c.wires-all.ensures.kept c.args.k wire c.requires.there (found c) in
    subst (λ w. ExprFits (wires_of c.is_wide.result (take c.args.k c.as_slice-wires.result.now)) w.value) c.index-wires-k.is
    (subst (λ ws. ExprFits ws wire.value) (sym (sees c)) (wire.width, fits.value))

pub expr-requires-clause-room : goal.expr-requires-clause-room
expr-requires-clause-room c n has =
    let wire = c.index-wires-k.result in
    wire_room c.args.module.now c.wires-all.ensures.kept c.args.builder.now c.args.words.now c.args.k c.requires.words_are
    wire n c.requires.there (found c)
    (subst (λ ws. HasGates (known_by ws) wire.value n) (sees c)
    (subst (λ w. HasGates (known_by (wires_of c.is_wide.result (take c.args.k c.as_slice-wires.result.now))) w.value n) (sym c.index-wires-k.is) has))
    c.requires.few

-- the word that was made
made : (c : After-expr)
    → IfOk c.expr.result (λ bits. AreWords c.args.module.now c.expr.new.builder (c.args.words.now ++ slot_of bits.items) (c.args.k + 1)
    × (length bits.items ≤ 64))
made c =
    let same = c.as_slice-wires.ensures.value ∙ ap (λ (w : WireList). w.list) c.wires-all.ensures.value in
    let wire = c.index-wires-k.result in
    if_ok_both c.expr.result _ _ _
    (λ bits makes value.
    wire_made c.args.module.now c.wires-all.ensures.kept c.args.builder.now c.args.words.now c.args.k
    c.requires.words_are (wires_of c.is_wide.result (take c.args.k c.as_slice-wires.result.now)) wire
    (slice_index_or c.as_slice-wires.result.now c.args.k wire) c.expr.new.builder bits.items
    (sym (first_seen c.wires-all.ensures.value c.is_wide.ensures c.as_slice-wires.ensures.value c.args.k)) c.index-wires-k.is c.requires.there
    (c.index-wires-k.is ∙ ap (λ ws. slice_index_or ws c.args.k wire) same) makes value)
    c.expr.ensures.makes c.expr.ensures.value

pub returns-clause-narrow : goal.returns-clause-narrow
returns-clause-narrow c = IfOk-weaker c.expr.result _ _ (λ bits is. is.1) (made c)

pub returns-clause-words : goal.returns-clause-words
returns-clause-words c = IfOk-weaker c.expr.result _ _ (λ bits is. is.0) (made c)
