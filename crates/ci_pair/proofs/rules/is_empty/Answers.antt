use Rattle.std.proofs.Common.{refl, sym, ap, ◌∙◌, true≢false}
use Rattle.std.specs.Ordering.{nat_cmp}
use Rattle.std.specs.FinSet as set
use Rattle.ci_pair.proofs.rules.is_empty.Goals as goal

pub returns-in-Some : goal.returns-in-Some
returns-in-Some c = (λ e. absurd (true≢false (sym e)), λ none. absurd (none c.in-Some.field-0 c.in-Some.ensures.0))

pub returns-in-None : goal.returns-in-None
returns-in-None c = (
  λ _ k in_. true≢false (sym in_ ∙ ap (λ s. set.contains s k) c.in-None.ensures ∙ set.contains-empty nat_cmp k),
  λ _. refl,
)
