use Rattle.std.proofs.Common.{◌≡◌, ℕ, [], replicate, slice_index_or, None, sym, arith, subst}
use Rattle.ci_word.proofs.NumberLaws.{count_below-zero}
use Rattle.ci_cut.specs.FlowGraph.{FlowGraph}
use Rattle.ci_cut.specs.Prefixes.{is_eligible}
use Rattle.ci_cut.specs.Representation.{IsLastBelow}
use Rattle.ci_cut.proofs.graph_rows.GraphRows.new.Goals as goal

pub returns : goal.returns
returns c =
    let none : FlowGraph = record { nodes = []; read = 0; pad = 0 } in
    record {
      successors = λ j k below. absurd (omega (arith, below));
      ancestors = λ j k below. absurd (omega (arith, below));
      readers = λ j k below. absurd (omega (arith, below));
      last_below = λ place within.
          let first : place ≡ 0 = omega (arith, within) in
          subst (λ (p : ℕ). IsLastBelow none p (slice_index_or (replicate 257 None) p None)) (sym first)
          (count_below-zero (is_eligible none));
    }
