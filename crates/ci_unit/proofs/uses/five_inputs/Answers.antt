use Rattle.std.proofs.Common.{Some, [], ◌∷◌, sym, ◌∙◌, length, subst}
use Rattle.std.specs.FinSet as set
use Rattle.ci_unit.specs.private.Reading.{AreFirstOf, inputs_below}
use Rattle.ci_unit.proofs.UseLaws.{begin, one_more, no_more, first_five, four_and_next}
use Rattle.ci_unit.proofs.uses.five_inputs.Goals as goal

pub returns-in_default-clause-inputs : goal.returns-in_default-clause-inputs
returns-in_default-clause-inputs c =
    let graph = c.args.graph.now in
    let cut = set.contains c.args.cut.now in
    let n = length c.args.graph.now.nodes in
    first_five graph cut n [] (no_more graph cut n [] (begin graph cut n) (sym c.next_input.ensures.value ∙ c.in_default.is))

pub returns-in_default-next_input-clause-inputs : goal.returns-in_default-next_input-clause-inputs
returns-in_default-next_input-clause-inputs c =
    let graph = c.args.graph.now in
    let cut = set.contains c.args.cut.now in
    let n = length c.args.graph.now.nodes in
    let p = c.in-Some.first in
    let after_p = one_more graph cut n [] p (begin graph cut n) (sym c.next_input.ensures.value ∙ c.in-Some.is) in
    first_five graph cut n (p ∷ []) (no_more graph cut n (p ∷ []) after_p (sym c.next_input-2.ensures.value ∙ c.in_default-next_input.is))

pub returns-in_default-next_input-2-clause-inputs : goal.returns-in_default-next_input-2-clause-inputs
returns-in_default-next_input-2-clause-inputs c =
    let graph = c.args.graph.now in
    let cut = set.contains c.args.cut.now in
    let n = length c.args.graph.now.nodes in
    let p = c.in-Some.first in
    let after_p = one_more graph cut n [] p (begin graph cut n) (sym c.next_input.ensures.value ∙ c.in-Some.is) in
    let q = c.in-Some-next_input.second in
    let after_q = one_more graph cut n (p ∷ []) q after_p (sym c.next_input-2.ensures.value ∙ c.in-Some-next_input.is) in
    first_five graph cut n (p ∷ q ∷ []) (no_more graph cut n (p ∷ q ∷ []) after_q (sym c.next_input-3.ensures.value ∙ c.in_default-next_input-2.is))

pub returns-in_default-next_input-3-clause-inputs : goal.returns-in_default-next_input-3-clause-inputs
returns-in_default-next_input-3-clause-inputs c =
    let graph = c.args.graph.now in
    let cut = set.contains c.args.cut.now in
    let n = length c.args.graph.now.nodes in
    let p = c.in-Some.first in
    let after_p = one_more graph cut n [] p (begin graph cut n) (sym c.next_input.ensures.value ∙ c.in-Some.is) in
    let q = c.in-Some-next_input.second in
    let after_q = one_more graph cut n (p ∷ []) q after_p (sym c.next_input-2.ensures.value ∙ c.in-Some-next_input.is) in
    let r = c.in-Some-next_input-2.third in
    let after_r = one_more graph cut n (p ∷ q ∷ []) r after_q (sym c.next_input-3.ensures.value ∙ c.in-Some-next_input-2.is) in
    first_five graph cut n (p ∷ q ∷ r ∷ []) (no_more graph cut n (p ∷ q ∷ r ∷ []) after_r (sym c.next_input-4.ensures.value ∙ c.in_default-next_input-3.is))

pub returns-clause-inputs : goal.returns-clause-inputs
returns-clause-inputs c =
    let graph = c.args.graph.now in
    let cut = set.contains c.args.cut.now in
    let n = length c.args.graph.now.nodes in
    let p = c.in-Some.first in
    let after_p = one_more graph cut n [] p (begin graph cut n) (sym c.next_input.ensures.value ∙ c.in-Some.is) in
    let q = c.in-Some-next_input.second in
    let after_q = one_more graph cut n (p ∷ []) q after_p (sym c.next_input-2.ensures.value ∙ c.in-Some-next_input.is) in
    let r = c.in-Some-next_input-2.third in
    let after_r = one_more graph cut n (p ∷ q ∷ []) r after_q (sym c.next_input-3.ensures.value ∙ c.in-Some-next_input-2.is) in
    let s = c.in-Some-next_input-3.fourth in
    let after_s = one_more graph cut n (p ∷ q ∷ r ∷ []) s after_r (sym c.next_input-4.ensures.value ∙ c.in-Some-next_input-3.is) in
    subst (AreFirstOf (inputs_below graph cut n) (Some p) (Some q) (Some r) (Some s)) (sym c.next_input-fifth.ensures.value)
    (four_and_next graph cut n p q r s after_s)
