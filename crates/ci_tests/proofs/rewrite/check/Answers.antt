use Rattle.std.proofs.Common.{length, sym, ap, ◌∙◌, subst, arith, rules}
use Rattle.ci_isa.specs.FieldBounds.{FieldsFit}
use Rattle.ci_isa.proofs.WellFormed.{well_formed}
use Rattle.ci_dfg.proofs.BlockIsGraph.{length-nodes}
use Rattle.ci_dfg.proofs.InstructionLaws.{insn_there}
use Rattle.ci_rewrite.specs.Blocks.{AllFieldsFit}
use Rattle.ci_tests.proofs.rewrite.check.Goals as goal

pub fits-requires : goal.fits-requires
fits-requires g c =
    let nodes =
    ap (λ graph. length graph.nodes) c.in_ok-graph.ensures
    ∙ length-nodes c.as_slice-insns.result.now c.args.live c.usual.result in
    λ k is. let below = c.row-cut.ensures k is in omega (arith, below, nodes)

pub fold-requires-clause-graph : goal.fold-requires-clause-graph
fold-requires-clause-graph g c = (c.args.live, c.usual.result, c.in_ok-graph.ensures)

pub fold-requires-clause-fits : goal.fold-requires-clause-fits
fold-requires-clause-fits g c = let fits = c.fits.ensures.0 (search rules) in (_, fits)

pub encode-requires : goal.encode-requires
encode-requires g c =
    let insns = c.deref-insn-items.result.now in
    let k = c.loop-k.k-counter in
    let insn = c.insn-item.result in
    let fit = subst AllFieldsFit (sym c.deref-insn-items.ensures.value) c.in_ok-new_block.ensures.fit in
    let there = insn_there insns k insn c.loop-k-test.true c.insn-item.is in
    well_formed insn (subst FieldsFit there (fit k c.loop-k-test.true))
