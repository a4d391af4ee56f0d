use Rattle.std.proofs.Common.{◌≡◌, sym, ap, ◌∙◌, arith}
use Rattle.ci_isa.specs.Sequences.{latest_writer}
use Rattle.ci_dfg.proofs.WritersByPlace.{latest_writer-zero}
use Rattle.ci_dfg.proofs.operand_sources.latest_writer.Goals as goal

pub returns : goal.returns
returns c =
    let none : c.loop-j.j ≡ 0 = omega arith in
    sym (c.loop-j.invariant.same ∙ ap (latest_writer c.args.insns.now c.args.register) none ∙ latest_writer-zero c.args.insns.now c.args.register)
