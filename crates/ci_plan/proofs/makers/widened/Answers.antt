use Rattle.std.proofs.Common.{◌≡◌, List, [], ◌∷◌, length, slice_index_or, arith, ap, sym, ◌∙◌}
use Rattle.ci_verilog.specs.NameEquality.{same_name_decides}
use Rattle.ci_verilog.specs.declared.expressions.Item.{Item}
use Rattle.ci_verilog.specs.declared.expressions.Item.TheVariants.{Repeat}
use Rattle.ci_verilog.specs.declared.expressions.Simple.TheVariants.{Bits}
use Rattle.ci_plan.proofs.makers.widened.Goals as goal

two : (items : List Item) (first second : Item) → length items ≡ 2 → first ≡ slice_index_or items 0 first
    → second ≡ slice_index_or items 1 second → items ≡ first ∷ second ∷ []
two [] first second many e f = absurd (omega (arith, many))
two (i ∷ []) first second many e f = absurd (omega (arith, many))
two (i ∷ j ∷ []) first second many e f = λ t. sym e t ∷ sym f t ∷ []
two (i ∷ j ∷ k ∷ items) first second many e f = absurd (omega (arith, many))

pub returns-then-eq : goal.returns-then-eq
returns-then-eq c =
    let same = (same_name_decides _ _).0 (sym c.eq.ensures ∙ c.if-eq.true) in
    two c.args.items.now c.index-items-0.result c.index-items-1.result (omega arith) c.index-items-0.is c.index-items-1.is
    ∙ (λ t. (c.in_ok-copied.ensures ∙ ap (λ n. Repeat 32 (Bits n 31 31)) same) t ∷ c.in_ok-name.ensures t ∷ [])
