use Rattle.std.proofs.Common.{sym, ◌∙◌, true≢false}
use Rattle.ci_pair.specs.Pairs.{First, Second}
use Rattle.ci_pair.specs.Prefixes.{labelled}
use Rattle.ci_pair.proofs.SetTests.{leads_by, through}
use Rattle.ci_pair.proofs.terms.PairTerms.is_crossing.Goals as goal

pub returns-then-not-meets : goal.returns-then-not-meets
returns-then-not-meets c graph prefix delays represents =
    let terms = c.args.self.now in
    let there = through c.meets.ensures.value
    (leads_by graph (labelled graph First prefix) (labelled graph Second prefix) terms.first.taken terms.second.reaching represents.first.is_taken represents.second.is_reaching) in
    (λ e. absurd (true≢false (sym e)), λ both. absurd (true≢false (sym (there.1 both.0) ∙ c.if-not-meets.true)))

pub returns : goal.returns
returns c graph prefix delays represents =
    let terms = c.args.self.now in
    let there = through c.meets.ensures.value
    (leads_by graph (labelled graph First prefix) (labelled graph Second prefix) terms.first.taken terms.second.reaching represents.first.is_taken represents.second.is_reaching) in
    let back = through c.meets-2.ensures.value
    (leads_by graph (labelled graph Second prefix) (labelled graph First prefix) terms.second.taken terms.first.reaching represents.second.is_taken represents.first.is_reaching) in
    (λ e. (there.0 c.if-not-meets.false, back.0 e), λ both. back.1 both.1)
