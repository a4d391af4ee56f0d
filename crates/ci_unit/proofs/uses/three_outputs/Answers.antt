use Rattle.std.proofs.Common.{◌≡◌, ℕ, ap, refl, sym, ◌∙◌, map, slice_get, subst, IfSome, Some, None}
use Rattle.std.specs.Option.{option_or, option_and}
use Rattle.std.specs.FinSet as set
use Rattle.ci_word.specs.Numbers.{numbers_below}
use Rattle.ci_word.proofs.NumberLaws.{numbers_below-zero}
use Rattle.ci_cut.specs.declared.graph.Source.TheVariants.{Made}
use Rattle.ci_cut.specs.Ports.{is_output}
use Rattle.ci_unit.specs.private.Reading.{outputs_below, IsRegister}
use Rattle.ci_unit.proofs.CountLaws.{made_here, not_made}
use Rattle.ci_unit.proofs.UseLaws.{first_pushed, second_pushed, third_pushed, made_registers}
use Rattle.ci_unit.proofs.uses.three_outputs.Goals as goal
use Rattle.ci_unit.proofs.uses.three_outputs.Goals.{then-is_output, else-is_output}

pub loop-k-init : goal.loop-k-init
loop-k-init c =
    let none = numbers_below-zero (is_output c.args.graph.now (set.contains c.args.cut.now)) in
    let no_output : (i : ℕ) → None ≡ slice_get (map (λ k. Made k) (numbers_below 0 (is_output c.args.graph.now (set.contains c.args.cut.now)))) i =
    λ i. sym (ap (λ l. slice_get (map (λ k. Made k) l) i) none) in
    (no_output 0, no_output 1, no_output 2)

pub loop-k-preserved : goal.loop-k-preserved
loop-k-preserved c =
    let graph = c.args.graph.now in
    let cut = set.contains c.args.cut.now in
    let k = c.loop-k.k in
    let so_far = outputs_below graph cut k in
    elim c.if-is_output.branch [
      | then-is_output w ↦
          let more = made_here (is_output graph cut) (λ k. Made k) k so_far refl (Made k) (sym c.is_output.ensures ∙ w.if-is_output.true) refl in (
            w.first-is ∙ w.or-first.ensures ∙ ap (λ o. option_or o (Some (Made k))) c.loop-k.invariant.0
                ∙ first_pushed so_far (Made k) ∙ ap (λ l. slice_get l 0) more,
            w.second-is ∙ w.or-second.ensures
                ∙ (λ i. option_or (c.loop-k.invariant.1 i) (w.and-then-is_output.ensures i))
                ∙ ap (λ o. option_or (slice_get so_far 1) (option_and o (Some (Made k)))) c.loop-k.invariant.0
                ∙ second_pushed so_far (Made k) ∙ ap (λ l. slice_get l 1) more,
            w.third-is ∙ w.or-third.ensures
                ∙ (λ i. option_or (c.loop-k.invariant.2 i) (w.and.ensures i))
                ∙ ap (λ o. option_or (slice_get so_far 2) (option_and o (Some (Made k)))) c.loop-k.invariant.1
                ∙ third_pushed so_far (Made k) ∙ ap (λ l. slice_get l 2) more,
          )
      | else-is_output w ↦
          let more = not_made (is_output graph cut) (λ k. Made k) k so_far refl (sym c.is_output.ensures ∙ w.if-is_output.false) in (
            w.first-is ∙ c.loop-k.invariant.0 ∙ ap (λ l. slice_get l 0) more,
            w.second-is ∙ c.loop-k.invariant.1 ∙ ap (λ l. slice_get l 1) more,
            w.third-is ∙ c.loop-k.invariant.2 ∙ ap (λ l. slice_get l 2) more,
          )
    ]

pub returns-clause-registers : goal.returns-clause-registers
returns-clause-registers c =
    let graph = c.args.graph.now in
    let cut = set.contains c.args.cut.now in (
      subst (λ o. IfSome o IsRegister) (sym c.loop-k.invariant.0) (made_registers graph cut c.loop-k.k 0),
      subst (λ o. IfSome o IsRegister) (sym c.loop-k.invariant.1) (made_registers graph cut c.loop-k.k 1),
      subst (λ o. IfSome o IsRegister) (sym c.loop-k.invariant.2) (made_registers graph cut c.loop-k.k 2),
    )
