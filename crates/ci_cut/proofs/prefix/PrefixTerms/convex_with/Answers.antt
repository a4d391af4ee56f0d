use Rattle.std.proofs.Common.{◌↔◌, ℕ, Bool, IsTrue, refl, subst}
use Rattle.std.specs.FinSet as set
use Rattle.ci_cut.specs.Representation.{row_at, HasWayBack}
use Rattle.ci_cut.proofs.Represented.{same_taken}
use Rattle.ci_cut.proofs.Decisions as more
use Rattle.ci_cut.proofs.prefix.PrefixTerms.convex_with.Goals as goal

pub returns : goal.returns
returns c graph prefix delays rows represents next =
    let terms = c.args.self.now in
    let node = c.args.node in
    let below = more.node_below graph prefix node next in
    more.convex_in graph prefix node next represents.kept _ _ (λ k. rows.successors node k below) represents.is_reaching
    terms.convex _ c.breaks_convexity.result represents.is_convex
    (subst (λ (cut : ℕ → Bool). IsTrue c.breaks_convexity.result ↔ HasWayBack (set.contains (row_at c.args.rows.now.successors node)) cut
    (set.contains terms.reaching))
    (same_taken graph prefix terms delays represents) c.breaks_convexity.ensures)
    refl
