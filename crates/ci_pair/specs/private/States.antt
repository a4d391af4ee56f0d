-- For private contracts: what the code holds of a prefix of pairs.
use Rattle.std.specs.Prelude.{◌≡◌, ℕ, ◌*◌, ◌≤◌, Bool, ◌&&◌, ℤ, pos, ◌-ℤ◌, length}
use Rattle.ci_cut.specs.FlowGraph.{FlowGraph}
use Rattle.ci_cut.specs.Ports.{size}
use Rattle.ci_cut.specs.Gain.{software}
use Rattle.ci_cut.specs.Prefixes as cuts
use Rattle.ci_cut.specs.Representation as one
use Rattle.ci_pair.specs.declared.terms.PairTerms.{PairTerms}
use Rattle.ci_pair.specs.declared.terms.PairDelays.{PairDelays}
use Rattle.ci_pair.specs.Pairs.{First, Second}
use Rattle.ci_pair.specs.Prefixes.{PairPrefix, choices}

-- a node that may be in either set
abbrev pub undecided : FlowGraph → PairPrefix → ℕ → Bool
undecided graph prefix k = cuts.possible graph (choices First prefix) k && cuts.possible graph (choices Second prefix) k

-- What the undecided nodes add to the bounds of both sets, which count each of them twice.
abbrev pub shared : FlowGraph → PairPrefix → ℤ
shared graph prefix =
    pos (software graph (undecided graph prefix)) -ℤ pos (size graph (undecided graph prefix) * graph.pad)

-- the terms and the delays of both sets are those of the prefix
pub record Represents (graph : FlowGraph) (prefix : PairPrefix) (terms : PairTerms) (delays : PairDelays) : Type 0 where
  pub first : one.Represents graph (choices First prefix) terms.first delays.first
  pub second : one.Represents graph (choices Second prefix) terms.second delays.second
  pub same_place : terms.second.place ≡ terms.first.place
  pub shared_is : terms.shared ≡ shared graph prefix

-- they are those of some prefix
abbrev pub RepresentsSome : FlowGraph → PairTerms → Type 0
RepresentsSome graph terms = (prefix : PairPrefix) × (delays : PairDelays) × Represents graph prefix terms delays

-- they are those of some prefix that labels all nodes
abbrev pub RepresentsWhole : FlowGraph → PairTerms → Type 0
RepresentsWhole graph terms =
    (prefix : PairPrefix) × (delays : PairDelays) × Represents graph prefix terms delays
    × (cuts.eligible_nodes graph ≤ length prefix)

-- the delays of both sets from a place on are the same
pub record AreKeptFrom (place : ℕ) (before after : PairDelays) : Type 0 where
  pub first : one.AreKeptFrom place before.first after.first
  pub second : one.AreKeptFrom place before.second after.second
