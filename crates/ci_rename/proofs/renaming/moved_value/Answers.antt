use Rattle.std.proofs.Common.{sym, ap, ◌∙◌}
use Rattle.ci_isa.specs.Effects.{padded, results}
use Rattle.ci_dfg.proofs.InstructionLaws.{insn_there}
use Rattle.ci_rename.proofs.GoingThrough.{moves, not_local_stays, not_tied_stays}
use Rattle.ci_rename.proofs.renaming.moved_value.Goals as goal

pub returns-then-not-is_local : goal.returns-then-not-is_local
returns-then-not-is_local c =
    let insns = c.args.insns.now in
    let here = insn_there insns c.args.i c.index-insns-i.result c.requires.there c.index-insns-i.is in
    not_local_stays c.args.live_out.now insns c.args.i c.destination-from.result c.is_local.result
    (c.destination-from.ensures ∙ ap (λ insn. padded 1 (results insn)) (sym here)) c.is_local.ensures c.if-not-is_local.true

pub returns-then-not-is_tied : goal.returns-then-not-is_tied
returns-then-not-is_tied c =
    let insns = c.args.insns.now in
    let here = insn_there insns c.args.i c.index-insns-i.result c.requires.there c.index-insns-i.is in
    not_tied_stays c.args.live_out.now insns c.args.i c.destination-from.result c.is_tied.result
    (c.destination-from.ensures ∙ ap (λ insn. padded 1 (results insn)) (sym here)) c.is_tied.ensures c.if-not-is_tied.true

pub returns : goal.returns
returns c =
    moves c.args.live_out.now c.args.insns.now c.args.i c.destination-from.result c.args.to c.in_ok-with_value_in.field-0.items
    (c.is_local.ensures.0 c.if-not-is_local.false) (c.is_tied.ensures.0 c.if-not-is_tied.false) c.requires.least c.in_ok-with_value_in.ensures
