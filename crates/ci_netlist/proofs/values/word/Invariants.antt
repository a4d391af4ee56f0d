use Rattle.std.proofs.Common.{◌≡◌, ◌≤◌, ◌<◌, ◌-◌, ◌^◌, ℕ, Bool, drop}
use Rattle.ci_netlist.specs.Netlists.{bit_value, spelt}
use Rattle.ci_netlist.specs.private.Settled.{Holds}
use Rattle.ci_netlist.proofs.values.word.Given as goal

abbrev pub invariant-loop-k : goal.invariant-loop-k
invariant-loop-k l = record {
  within : l.k ≤ 32;
  few : l.word < 2 ^ (32 - l.k);
  spells : (gives : ℕ → Bool) → Holds gives l.given → l.word ≡ spelt (bit_value l.arguments gives) (drop l.k l.bits);
}

abbrev pub decreases-loop-k : goal.decreases-loop-k
decreases-loop-k l = l.k
