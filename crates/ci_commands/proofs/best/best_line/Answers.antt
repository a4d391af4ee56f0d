-- The line of the best cut of the block that the file holds, or why it holds none.
use Rattle.std.proofs.Common.{ℕ, List, Option, ap, sym, subst, ◌∙◌}
use Rattle.std.specs.String.{string_bytes}
use Rattle.std.proofs.lemmas.Result.{err_from_is_err_and}
use Rattle.ci_cut.specs.FlowGraph.{FlowGraph}
use Rattle.ci_dfg.specs.BlockGraph.{graph_of}
use Rattle.ci_dfg.specs.Bundles.{AreBundled}
use Rattle.ci_commands.specs.private.BlockFiles.{IsFileOf}
use Rattle.ci_commands.specs.PairCommand.{IsLineOf}
use Rattle.ci_commands.proofs.best.best_line.Goals as goal

pub returns-in_err-block-clause-cause : goal.returns-in_err-block-clause-cause
returns-in_err-block-clause-cause c =
    let p = err_from_is_err_and c.from_residual.result c.from_residual.ensures.1 in
    rw (p.1, p.2) c.in_err-block.ensures.cause

pub graph-requires-clause-bundled : goal.graph-requires-clause-bundled
graph-requires-clause-bundled c =
    subst (λ insns. AreBundled insns) (sym c.as_slice.ensures.value) c.in_ok-block.ensures.bundled

pub returns-clause-done : goal.returns-clause-done
returns-clause-done c = λ (at : Option ℕ) (bytes : List ℕ) (file : IsFileOf at bytes c.args.file.now).
    let block = c.in_ok-block.block in
    let same = c.in_ok-graph.ensures ∙ ap (λ insns. graph_of insns block.live_out c.args.table.now) c.as_slice.ensures.value in (
      block.insns.items,
      block.live_out,
      c.in_ok-block.ensures.held at bytes file,
      subst (λ (graph : FlowGraph). IsLineOf c.args.settings.now.sought graph c.args.settings.now.limits c.args.settings.now.budget
          (string_bytes c.in_ok-line_of.field-0)) same c.in_ok-line_of.ensures,
    )
