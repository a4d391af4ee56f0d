-- A text that is not of its kind; or one more that is.
use Rattle.std.proofs.Common.{◌∙◌, ◌≤◌, arith, length, map, subst, sym, take_all}
use Rattle.std.specs.List.{AllZip}
use Rattle.std.proofs.lemmas.List.{length-map}
use Rattle.ci_arguments.specs.Words.{Says, Text, Value}
use Rattle.ci_arguments.specs.Read.{value_in}
use Rattle.ci_arguments.specs.declared.tables.Kind.{Kind}
use Rattle.ci_arguments.proofs.Elements.{not_zipped, zipped_shown}
use Rattle.ci_arguments.proofs.SettingLaws.{no_typed, typed, typed_at, typed_length}
use Rattle.ci_arguments.proofs.said.values_said.Goals as goal

abbrev Speaks : Kind × Text → Value → Type 0
Speaks pair value = Says pair.0 pair.1 value

pub returns-in_default-clause-none : goal.returns-in_default-clause-none
returns-in_default-clause-none c = λ e values said.
    let kinds = c.args.kinds.now in
    let texts = c.args.texts.now in
    let i = c.loop-i.i in
    let long = c.if-texts-kinds.false in
    let lt = c.loop-i-test.true in
    not_zipped Speaks (typed kinds texts) values i no_typed (omega (arith, lt, typed_length kinds texts long))
    (λ value. subst (λ pair. Speaks pair value → ⊥) (sym (typed_at kinds texts long i lt)) (c.in_default.ensures.none value))
    said.each

pub loop-i-preserved : goal.loop-i-preserved
loop-i-preserved c =
    let kinds = c.args.kinds.now in
    let texts = c.args.texts.now in
    let i = c.loop-i.i in
    let long = c.if-texts-kinds.false in
    let lt = c.loop-i-test.true in
    record {
      as_many = long;
      each = zipped_shown Speaks value_in (typed kinds texts) c.loop-i.values.items c.push.new.self.items i no_typed c.in-Some.value
          c.in_ok-push.ensures.items (omega (arith, lt, typed_length kinds texts long)) c.loop-i.invariant.each
          (subst (λ pair. Speaks pair (value_in c.in-Some.value)) (sym (typed_at kinds texts long i lt)) c.in-Some.ensures.some);
    }

pub returns-clause-ok : goal.returns-clause-ok
returns-clause-ok c =
    let kinds = c.args.kinds.now in
    let texts = c.args.texts.now in
    let long = c.if-texts-kinds.false in
    let whole : length (typed kinds texts) ≤ c.loop-i.i = omega (arith, c.loop-i-test.false, typed_length kinds texts long) in
    record {
      as_many = length-map texts (λ text. text.now) ∙ long;
      each = subst (λ pairs. AllZip Speaks pairs (map value_in c.loop-i.values.items)) (take_all c.loop-i.i (typed kinds texts) whole)
          c.loop-i.invariant.each;
    }
