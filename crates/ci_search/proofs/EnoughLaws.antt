-- How many slots are enough for any graph with so many eligible nodes.
use Rattle.std.proofs.Common.{◌≡◌, ℕ, zero, suc, ◌+◌, ◌≤◌, ◌^◌, true, false, List, [], ◌∷◌, length, refl, arith}
use Rattle.std.proofs.Common.{length-append}
use Rattle.ci_cut.specs.declared.graph.Limits.{Limits}
use Rattle.ci_cut.specs.FlowGraph.{FlowGraph}
use Rattle.ci_cut.specs.Prefixes.{Prefix, eligible_nodes}
use Rattle.ci_cut.specs.Need.{IsOpen, NeedExceeds, continuations}
use Rattle.ci_cut.proofs.ListCountLaws.{AtLeast-length}

-- a node more makes twice as many prefixes, and one
how_many : (undecided : ℕ) (prefix : Prefix) → length (continuations undecided prefix) + 1 ≡ 2 ^ undecided
unfolding continuations
how_many zero prefix = refl
how_many (suc undecided) prefix =
    let taken : List Prefix = continuations undecided (true ∷ prefix) in
    let left_out : List Prefix = continuations undecided (false ∷ prefix) in
    omega (arith, length-append taken left_out, how_many undecided (true ∷ prefix), how_many undecided (false ∷ prefix))

pub enough : (graph : FlowGraph) (limits : Limits) (budget : ℕ) → 2 ^ eligible_nodes graph ≤ budget → ¬ NeedExceeds graph limits budget
enough graph limits budget fits exceeds =
    omega (arith, fits, AtLeast-length (IsOpen graph limits) exceeds, how_many (eligible_nodes graph) [])
