use Rattle.std.proofs.Common.{sym, subst}
use Rattle.ci_verilog.specs.Modules.{wires_of, known_by}
use Rattle.ci_gates.specs.Counts.{HasGates}
use Rattle.ci_gates.specs.private.Scopes.{IsScope, IsHeld}
use Rattle.ci_gates.proofs.NetlistLaws.{if_ok_both}
use Rattle.ci_gates.proofs.WireLaws.{all_seen, whole_scope}
use Rattle.ci_gates.proofs.WiredLaws.{values_held}
use Rattle.ci_gates.proofs.ResultLaws.{result_room, result_made}
use Rattle.ci_gates.proofs.modules.result_bits.Goals as goal

pub expr-requires-clause-scope : goal.expr-requires-clause-scope
expr-requires-clause-scope c =
    subst (λ ws. IsScope ws c.args.words.now) (sym (all_seen c.wires-all.ensures.value c.is_wide.ensures c.as_slice.ensures.value))
    (whole_scope c.args.module.now c.args.words.now c.wires-all.ensures.kept c.requires.next.1.room)

pub expr-requires-clause-held : goal.expr-requires-clause-held
expr-requires-clause-held c =
    subst (λ ws. IsHeld ws c.args.words.now) (sym (all_seen c.wires-all.ensures.value c.is_wide.ensures c.as_slice.ensures.value))
    (values_held c.args.module.now c.wires-all.ensures.kept c.args.builder.now c.args.module.now.wires c.args.words.now
    c.len-made.ensures.kept c.requires.next.1.hold)

pub expr-requires-clause-room : goal.expr-requires-clause-room
expr-requires-clause-room c n has =
    result_room c.args.module.now c.wires-all.ensures.kept c.args.builder.now c.args.words.now c.requires.next.0
    c.requires.next.1 c.args.expr.now c.requires.next.2 n (subst (λ ws. HasGates (known_by ws) c.args.expr.now n) (all_seen c.wires-all.ensures.value c.is_wide.ensures c.as_slice.ensures.value) has) c.requires.few

pub returns-clause-value : goal.returns-clause-value
returns-clause-value c =
    if_ok_both c.expr.result _ _ _
    (λ bits makes value.
    (result_made c.args.module.now c.wires-all.ensures.kept c.args.builder.now c.args.words.now c.requires.next.0
    c.requires.next.1 c.args.expr.now c.requires.next.2 (wires_of c.is_wide.result c.as_slice.result.now) c.expr.new.builder bits.items
    (sym (all_seen c.wires-all.ensures.value c.is_wide.ensures c.as_slice.ensures.value)) makes value).0)
    c.expr.ensures.makes c.expr.ensures.value

pub returns-clause-behind : goal.returns-clause-behind
returns-clause-behind c =
    if_ok_both c.expr.result _ _ _
    (λ bits makes value exprs are next.
    (result_made c.args.module.now c.wires-all.ensures.kept c.args.builder.now c.args.words.now exprs are
    c.args.expr.now next (wires_of c.is_wide.result c.as_slice.result.now) c.expr.new.builder bits.items
    (sym (all_seen c.wires-all.ensures.value c.is_wide.ensures c.as_slice.ensures.value)) makes value).1)
    c.expr.ensures.makes c.expr.ensures.value
