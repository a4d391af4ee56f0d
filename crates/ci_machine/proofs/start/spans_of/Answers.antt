use Rattle.std.proofs.Common.{◌≡◌, ◌||◌, ◌∙◌, Bool, true, false, refl, sym, ap, arith}
use Rattle.std.proofs.lemmas.List.Sorted.{Contains-permutation, IsPermutation-sym}
use Rattle.ci_elf.specs.MemoryMap.{stack_start, stack_end}
use Rattle.ci_machine.specs.Programs.{lies_in}
use Rattle.ci_machine.specs.Spans.{in_spans}
use Rattle.ci_machine.proofs.StartLaws.{beside_stack, one_holder, same_held, same_holders}
use Rattle.ci_machine.proofs.start.spans_of.Goals as goal

pub insert-requires-clause-apart : goal.insert-requires-clause-apart
unfolding in_spans
insert-requires-clause-apart c = λ x is. rw c.new-spans.ensures refl

or_false : (b : Bool) → (b || false) ≡ b
or_false true = refl
or_false false = refl

pub insert_all-requires-clause-filled : goal.insert_all-requires-clause-filled
insert_all-requires-clause-filled c =
    let formed = c.segments_by_address.ensures.well_formed in
    let moved = c.segments_by_address.ensures.same in
    λ s has.
    let among = Contains-permutation _ _ s (IsPermutation-sym _ _ moved) has in
    (formed.has_memory s among, formed.below_top s among)

pub insert_all-requires-clause-apart : goal.insert_all-requires-clause-apart
insert_all-requires-clause-apart c =
    let formed = c.segments_by_address.ensures.well_formed in
    let moved = c.segments_by_address.ensures.same in
    λ x. omega (arith, same_holders x _ _ moved, one_holder c.args.image.now formed x)

pub insert_all-requires-clause-free : goal.insert_all-requires-clause-free
unfolding in_spans
insert_all-requires-clause-free c =
    let formed = c.segments_by_address.ensures.well_formed in
    let moved = c.segments_by_address.ensures.same in
    λ x is. c.in_ok-insert.ensures x ∙ ap (λ spans. lies_in stack_start stack_end x || in_spans spans x) c.new-spans.ensures
    ∙ or_false (lies_in stack_start stack_end x)
    ∙ beside_stack c.args.image.now formed x (sym (same_held x _ _ moved) ∙ is)

pub returns : goal.returns
unfolding in_spans
returns c =
    let moved = c.segments_by_address.ensures.same in
    λ x. c.in_ok-insert_all.ensures x
    ∙ (λ k. same_held x _ _ moved k || (c.in_ok-insert.ensures x
    ∙ ap (λ spans. lies_in stack_start stack_end x || in_spans spans x) c.new-spans.ensures
    ∙ or_false (lies_in stack_start stack_end x)) k)
