-- One more value that is apart, or one that is not.
use Rattle.std.proofs.Common.{◌<◌, false, length, refl, subst, sym, arith, below_more, get_or, map}
use Rattle.std.specs.Prelude.{IsTrue}
use Rattle.std.proofs.lemmas.List.{get_or-map}
use Rattle.ci_arguments.specs.Words.{AreApart, Value}
use Rattle.ci_arguments.specs.Read.{value_in}
use Rattle.ci_arguments.proofs.Elements.{no_value}
use Rattle.ci_arguments.proofs.said.is_apart_before.Goals as goal

pub returns-then-not-is_apart : goal.returns-then-not-is_apart
returns-then-not-is_apart c = (
  λ e. let bad : IsTrue false = e in cc,
  λ apart.
      let values = c.args.values.now in
      let i = c.args.i in
      let k = c.loop-k.k in
      let d = value_in no_value in
      let within : k < length values = omega arith in
      c.if-not-is_apart.ensures.1
      (subst (λ v. AreApart v (value_in (get_or values i no_value))) (get_or-map value_in values k no_value d within)
      (subst (AreApart (get_or (map value_in values) k d)) (get_or-map value_in values i no_value d c.requires)
      (apart k c.loop-k-test.true d))),
)

pub loop-k-preserved : goal.loop-k-preserved
loop-k-preserved c =
    let values = c.args.values.now in
    let i = c.args.i in
    let k = c.loop-k.k in
    let within : k < length values = omega arith in
    below_more (λ j. (d : Value) → AreApart (get_or (map value_in values) j d) (get_or (map value_in values) i d)) k
    c.loop-k.invariant
    (λ d. subst (AreApart (get_or (map value_in values) k d)) (sym (get_or-map value_in values i no_value d c.requires))
    (subst (λ v. AreApart v (value_in (get_or values i no_value))) (sym (get_or-map value_in values k no_value d within))
    (c.if-not-is_apart.ensures.0 refl)))
