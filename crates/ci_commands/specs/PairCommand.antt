-- For every reader: the line of the command `pair`, the best pair of cuts of a block. In all else it is as `best`.
use Rattle.std.specs.Prelude.{ℕ, List, ◌++◌, codes}
use Rattle.std.specs.Fmt.{signed_decimal}
use Rattle.ci_reading.specs.Lines.{line}
use Rattle.ci_word.specs.Members.{members_text}
use Rattle.ci_cut.specs.declared.graph.Limits.{Limits}
use Rattle.ci_cut.specs.FlowGraph.{FlowGraph}
use Rattle.ci_pair.specs.Pairs.{NodePair, pair_gain, IsBestPair, HasNoPair}
use Rattle.ci_pair.specs.Prefixes.{NeedExceeds}
use Rattle.ci_commands.specs.declared.best.Sought.{Sought}
use Rattle.ci_commands.specs.declared.best.Sought.TheVariants.{Cut, Pair}
use Rattle.ci_commands.specs.BestCommand.{skipped_line, IsBestLine}

-- the members of the first cut in ascending order, those of the second, and what both gain together
abbrev pub pair_line : FlowGraph → NodePair → List ℕ
pair_line graph pair =
    line (codes "pair" ++ members_text pair.first ++ codes " and" ++ members_text pair.second ++ codes " gain "
    ++ signed_decimal (pair_gain graph pair))

abbrev pub no_pair_line : List ℕ
no_pair_line = line (codes "no pair")

-- The line of the best pair, or that there is none; or that the block is skipped, which it may be only where the pairs'
-- need of the graph is greater than the budget.
pub data IsPairLine (graph : FlowGraph) (limits : Limits) (budget : ℕ) : List ℕ → Type 0 where
  pair_is_best : (pair : NodePair) → IsBestPair graph limits pair → IsPairLine graph limits budget (pair_line graph pair)
  no_pair : HasNoPair graph limits → IsPairLine graph limits budget no_pair_line
  skipped : NeedExceeds graph limits budget → IsPairLine graph limits budget (skipped_line budget)

-- the line that is due, by what is searched for
abbrev pub IsLineOf : Sought → FlowGraph → Limits → ℕ → List ℕ → Type 0
IsLineOf Cut = IsBestLine
IsLineOf Pair = IsPairLine
