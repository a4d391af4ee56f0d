use Rattle.std.proofs.Common.{◌≡◌, ℕ, ◌<◌, length, not, ◌&&◌, IsTrue, refl, sym, ap, ◌∙◌}
use Rattle.std.specs.FinSet as set
use Rattle.ci_cut.specs.declared.graph.Source.{Source}
use Rattle.ci_cut.specs.declared.graph.Source.TheVariants.{Entry, Made}
use Rattle.ci_cut.specs.declared.ports.SourceSet.{SourceSet}
use Rattle.ci_cut.specs.FlowGraph.{FlowGraph}
use Rattle.ci_cut.specs.private.SourceSets.{holds}
use Rattle.ci_cut.proofs.OneMore.{IsCounted}
use Rattle.ci_cut.proofs.SourceSetLaws.{count_held-more}
use Rattle.ci_cut.proofs.ports.SourceSet.insert_settled.Goals as goal
use Rattle.ci_cut.proofs.ports.SourceSet.insert_settled.Goals.{then-not-has, else-not-has}

counted : (graph : FlowGraph) (sources : SourceSet) (source : Source) → ((k : ℕ) → source ≡ Made k → k < length graph.nodes)
    → ((k : ℕ) → IsTrue (set.contains sources.registers k) → k < 256) → IsTrue (holds sources source) → IsCounted graph source
counted graph sources (Entry r) node register held = register r held
counted graph sources (Made k) node register held = node k refl

pub returns-clause-counted : goal.returns-clause-counted
returns-clause-counted c outside agrees =
    let source = c.args.source in
    count_held-more c.args.graph.now outside c.args.self.now c.insert.new.self source
    (counted c.args.graph.now c.insert.new.self source c.requires c.numbers_are_below_256.ensures) c.insert.ensures c.if-not-has.settled
    (elim c.if-not-has.branch as (λ _. c.if-not-has.settled ≡ (not (holds c.args.self.now source) && outside source)) [
      | then-not-has w ↦ w.settled-is ∙ w.is_settled-settled.ensures ∙ sym agrees
          ∙ ap (λ h. not h && outside source) (sym w.if-not-has.true ∙ c.has.ensures)
      | else-not-has w ↦ w.settled-is ∙ ap not w.if-not-has.false
          ∙ ap (λ h. not h && outside source) (sym w.if-not-has.false ∙ c.has.ensures)
    ])
