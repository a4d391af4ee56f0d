use Rattle.std.proofs.Common.{◌≤◌, length, ◌∙◌, arith}
use Rattle.ci_dfg.proofs.SourceLaws.{sources_more, sources_all}
use Rattle.ci_dfg.proofs.operand_sources.sources.Goals as goal

pub loop-register-preserved : goal.loop-register-preserved
loop-register-preserved c =
    c.in_ok-push_source.ensures
    ∙ sources_more c.args.insns.now c.args.k c.loop-register.sources c.operands-register-items.result
    c.loop-register.register-index (omega (arith, c.operands-register-items.type_inv)) c.loop-register.invariant

pub returns : goal.returns
returns c =
    let all : length c.operands-register-items.result ≤ c.loop-register.register-index = omega (arith, c.operands-register-items.type_inv) in
    sources_all c.args.insns.now c.args.k c.loop-register.sources c.operands-register-items.result
    c.loop-register.register-index c.index-insns-k.result all c.loop-register.invariant
    c.operands-register-items.ensures c.requires.there c.index-insns-k.is
