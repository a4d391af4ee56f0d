use Rattle.std.proofs.Common.{◌≡◌, sym, ◌∙◌, ap, subst, true, Option, Some, None, ℕ, List, is_some, true≢false, refl}
use Rattle.std.specs.Prelude.{MatchOption}
use Rattle.ci_elf.specs.declared.ranges.Range.{Range}
use Rattle.ci_elf.specs.Executables.{HoldsAddress, InText}
use Rattle.ci_elf.proofs.RangeLaws.{text_held}
use Rattle.ci_elf.proofs.image.Image.in_text.Goals as goal

answer : (ranges : List Range) (address : ℕ) (o : Option ℕ) → MatchOption o (¬ InText ranges address) (HoldsAddress ranges address)
    → (is_some o ≡ true → InText ranges address) × (InText ranges address → is_some o ≡ true)
answer ranges address None h = ((λ is. absurd (true≢false (sym is))), (λ t. absurd (h t)))
answer ranges address (Some i) h = ((λ _. text_held ranges address i h), (λ _. refl))

pub returns : goal.returns
returns c =
    let ranges : c.deref.result.now ≡ c.args.self.now.ranges = c.deref.ensures.value ∙ ap (λ i. i.ranges) c.self.view_is in
    let a = answer c.args.self.now.ranges c.args.address c.range_with.result
    (subst (λ rs. MatchOption c.range_with.result (¬ InText rs c.args.address) (HoldsAddress rs c.args.address)) ranges c.range_with.ensures) in
    ((λ is. a.0 (sym c.is_some.ensures ∙ is)), (λ t. c.is_some.ensures ∙ a.1 t))
