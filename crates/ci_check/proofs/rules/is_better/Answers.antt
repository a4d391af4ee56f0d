use Rattle.std.proofs.Common.{◌≡◌, ◌↔◌, ℕ, Bool, ◌⊎◌, IsTrue, sym, ◌∙◌, rules, w64, SFits, ◌<ℤ◌}
use Rattle.std.proofs.lemmas.Bool.{ne_eqb}
use Rattle.ci_cut.specs.declared.graph.Limits.{Limits}
use Rattle.ci_cut.specs.FlowGraph.{FlowGraph}
use Rattle.ci_cut.specs.Gain.{Fits, gain}
use Rattle.ci_check.specs.Rules.{Given, best_gain, IsBeforeBest, IsBetter}
use Rattle.ci_cut.proofs.GainTests.{of_z_same, less_by_test, above_by_tests, decides_less, decides_at_same, decides_above}
use Rattle.ci_check.proofs.rules.is_better.Goals as goal

-- a set that fits is a better cut if its gain, or else the order, says so
by_gain : (graph : FlowGraph) (limits : Limits) (best : Given) (cut : ℕ → Bool) (result : Bool) → Fits graph limits cut
    → IsTrue result ↔ ((best_gain graph best <ℤ gain graph cut) ⊎ ((best_gain graph best ≡ gain graph cut) × IsBeforeBest best cut))
    → IsTrue result ↔ IsBetter graph limits best cut
by_gain graph limits best cut result fits decides = (λ e. record { fits = fits; more = decides.0 e }, λ better. decides.1 better.more)

pub returns-then-gained-best : goal.returns-then-gained-best
returns-then-gained-best c =
    let before : SFits w64 c.args.best.now.gain = search rules in
    let now : SFits w64 c.in-Some.gained = search rules in
    by_gain c.args.graph.now c.args.limits.now c.args.best.now.cut _ _ c.in-Some.ensures.0
    (decides_less _ _ _ _
    (less_by_test _ _ before now c.if-gained-best.true c.requires.measured.gain_is c.in-Some.ensures.1) c.if-gained-best.true)

pub returns-then-gained-best-2 : goal.returns-then-gained-best-2
returns-then-gained-best-2 c =
    let before : SFits w64 c.args.best.now.gain = search rules in
    let now : SFits w64 c.in-Some.gained = search rules in
    by_gain c.args.graph.now c.args.limits.now c.args.best.now.cut _ _ c.in-Some.ensures.0
    (decides_at_same _ _ _ _
    (sym c.requires.measured.gain_is ∙ sym (of_z_same _ _ now before c.if-gained-best-2.true) ∙ c.in-Some.ensures.1)
    c.is_before_best.ensures)

pub returns-else-gained-best-2 : goal.returns-else-gained-best-2
returns-else-gained-best-2 c =
    let before : SFits w64 c.args.best.now.gain = search rules in
    let now : SFits w64 c.in-Some.gained = search rules in
    by_gain c.args.graph.now c.args.limits.now c.args.best.now.cut _ _ c.in-Some.ensures.0
    (decides_above _ _ _ _
    (above_by_tests _ _ before now c.if-gained-best.false (λ same. c.if-gained-best-2.false (sym same)) c.requires.measured.gain_is c.in-Some.ensures.1)
    (ne_eqb _ _ c.if-gained-best-2.false))
