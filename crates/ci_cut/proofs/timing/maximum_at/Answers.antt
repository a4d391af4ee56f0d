use Rattle.std.proofs.Common.{◌≡◌, ℕ, ◌+◌, max, take, slice_index, sym, ◌∙◌, subst, arith}
use Rattle.std.proofs.lemmas.Bool.Decides.{nat_tests}
use Rattle.ci_cut.specs.declared.graph.Source.TheVariants.{Entry}
use Rattle.ci_cut.specs.private.ChainDelays.{IsMaximumAt}
use Rattle.ci_cut.proofs.MaximumAt.{IsMaximumAt-entry, IsMaximumAt-made}
use Rattle.ci_cut.proofs.timing.maximum_at.Goals as goal
use Rattle.ci_cut.proofs.timing.maximum_at.Goals.{in-Made, in_default}

pub loop-source-preserved : goal.loop-source-preserved
loop-source-preserved c =
    let sources = c.args.sources.now in
    let delays = c.args.delays.now in
    let i = c.loop-source.source-index in
    let most = c.loop-source.maximum in
    let Done : ℕ → Type 0 = IsMaximumAt delays (take (i + 1) sources) in
    elim c.match-source.branch [
      | in-Made w ↦
          let larger : w.max-maximum.result ≡ max most (slice_index delays w.in-Made.node) = grind (arith, nat_tests) in
          subst Done (sym (w.maximum-is ∙ larger))
          (IsMaximumAt-made sources i (Entry 0) c.loop-source-test.true delays most w.in-Made.node w.in-Made.is c.loop-source.invariant)
      | in_default w ↦
          subst Done (sym w.maximum-is)
          (IsMaximumAt-entry sources i (Entry 0) c.loop-source-test.true delays most w.in_default.field-0 w.in_default.is c.loop-source.invariant)
    ]
