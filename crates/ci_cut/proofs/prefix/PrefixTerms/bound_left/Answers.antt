use Rattle.std.proofs.Common.{◌≡◌, ℕ, ◌+◌, ◌/◌, ◌^◌, ◌<◌, max, ℤ, pos, ◌-ℤ◌, FitsSigned, to_z, of_z, w64, SFits, rules, sym, subst, ap, ◌∙◌, arith}
use Rattle.std.proofs.lemmas.Int.{ints, to_z-of_z}
use Rattle.ci_cut.specs.Gain.{further_words_of, saved_cycles}
use Rattle.ci_cut.specs.Representation.{bound_by}
use Rattle.ci_cut.proofs.MemberSums.{further_words-le, few_inputs}
use Rattle.ci_cut.proofs.SavedCycles.{saved_fits, saved_one_less}
use Rattle.ci_cut.proofs.prefix.PrefixTerms.bound_left.Goals as goal
use Rattle.ci_cut.proofs.prefix.PrefixTerms.bound_left.Goals.{After-from-2}

pub returns-then-self-gt3 : goal.returns-then-self-gt3
returns-then-self-gt3 c =
    let fits : SFits w64 c.bound_of.result = search rules in
    to_z-of_z w64 c.bound_of.result fits
    ∙ c.bound_of.ensures
    ∙ (λ i. bound_by c.args.graph.now c.args.self.now.software c.args.self.now.longest
    (c.ports.ensures.inputs i) (c.ports.ensures.outputs i) c.args.self.now.size)

-- the difference of a latency and a no-op, as the code computes it
plain : (latency pad : ℕ) → latency < 2 ^ 32 → pad < 2 ^ 32
    → to_z w64 (of_z w64 (to_z w64 (of_z w64 (pos latency)) -ℤ to_z w64 (of_z w64 (pos pad)))) ≡ pos latency -ℤ pos pad
plain latency pad a b = omega (arith, ints)

-- what the code computes where no more than three inputs are settled
abbrev without : After-from-2 → ℤ
without c =
    to_z w64 (of_z w64 c.args.self.now.bound)
    -ℤ to_z w64 (of_z w64 (to_z w64 (of_z w64 c.from.result) -ℤ to_z w64 (of_z w64 c.from-2.result)))

without_is : (c : After-from-2) → without c
    ≡ bound_by c.args.graph.now c.args.self.now.software c.args.self.now.longest c.args.self.now.settled c.args.self.now.outputs c.args.self.now.size
without_is c =
    let terms = c.args.self.now in
    let graph = c.args.graph.now in
    let before = c.requires.before in
    let hardware : ℕ = max 1 ((terms.longest + 999) / 1000) in
    let further : ℕ = further_words_of terms.settled terms.outputs in
    let fits : SFits w64 terms.bound = search rules in
    let cost = (λ i. to_z w64 (of_z w64 (to_z w64 (of_z w64 (c.from.ensures i)) -ℤ to_z w64 (of_z w64 ((c.from-2.ensures ∙ ap pos c.pad.ensures) i)))))
    ∙ plain c.args.latency graph.pad (omega arith) (omega (arith, c.pad.ensures)) in
    let same = before.2
    ∙ ap (λ (words : ℕ). saved_cycles graph.read graph.pad (terms.software + c.args.latency) hardware words (terms.size + 1))
    (few_inputs before.0 terms.settled terms.outputs before.1 c.if-self-gt3.false) in
    (λ i. (to_z-of_z w64 terms.bound fits ∙ same) i -ℤ cost i)
    ∙ saved_one_less graph.read graph.pad terms.software c.args.latency hardware further terms.size

without_fits : (c : After-from-2) → FitsSigned w64 (without c)
without_fits c =
    let terms = c.args.self.now in
    let graph = c.args.graph.now in
    subst (λ (z : ℤ). FitsSigned w64 z) (sym (without_is c))
    (saved_fits graph.read graph.pad terms.software (max 1 ((terms.longest + 999) / 1000)) (further_words_of terms.settled terms.outputs) terms.size
    (omega (arith, c.requires.software)) (omega arith) (further_words-le terms.settled terms.outputs 256 c.requires.outputs (omega arith))
    (omega (arith, c.requires.size)) (omega (arith, c.read-read.ensures)) (omega (arith, c.pad.ensures)))

pub overflow_sub-result-2 : goal.overflow_sub-result-2
overflow_sub-result-2 c = without_fits c

pub returns : goal.returns
returns c = to_z-of_z w64 (without c) (without_fits c) ∙ without_is c
