use Rattle.std.proofs.Common.{sym, ◌∙◌}
use Rattle.ci_dfg.proofs.TrueArcs.{read_there, not_read_there}
use Rattle.ci_dfg.proofs.arcs.has_true_arc.Goals as goal

pub returns-then-reads_register : goal.returns-then-reads_register
returns-then-reads_register c =
    read_there c.args.insns.now c.args.j c.args.k c.index-insns-j.result c.index-insns-k.result c.destination-written.result
    c.requires.order c.requires.there c.index-insns-j.is c.index-insns-k.is c.destination-written.ensures
    c.is_latest_writer.result c.is_latest_writer.ensures (sym c.reads_register.ensures ∙ c.if-reads_register.true)

pub returns-else-reads_register : goal.returns-else-reads_register
returns-else-reads_register c =
    c.if-reads_register.false
    ∙ not_read_there c.args.insns.now c.args.j c.args.k c.index-insns-j.result c.index-insns-k.result c.destination-written.result
    c.requires.order c.requires.there c.index-insns-j.is c.index-insns-k.is c.destination-written.ensures
    (sym c.reads_register.ensures ∙ c.if-reads_register.false)
