use Rattle.std.proofs.Common.{◌≡◌, List, ℕ, Bool, not, true, false, cond, Option, Some, None, refl, sym, ap, ◌∙◌}
use Rattle.std.specs.Option.{is_some, option_copied, option_or}
use denote.Ref.{Bor}
use Rattle.std.specs.Str.{bytes_eq}
use Rattle.std.proofs.lemmas.Map.Text.{btree_map_updates_str}
use Rattle.std.proofs.lemmas.Slice.Eq.{bytes_eq-Decides}
use Rattle.ci_asm.specs.declared.labels.Definition.{Definition}
use Rattle.ci_asm.specs.private.LabelMap.{found_in}
use Rattle.ci_asm.proofs.labels.define.Goals as goal

-- a label that has no definition takes the new one, and the others keep theirs
takes : (b : Bool) (name q : List ℕ) (d : Definition) (old : List ℕ → Option Definition) → bytes_eq name q ≡ b → old name ≡ None
    → cond b (Some d) (old q) ≡ option_or (old q) (cond b (Some d) None)
takes true name q d old e none =
    let same : name ≡ q = (bytes_eq-Decides name q).0 e in
    let at_q : old q ≡ None = ap old (sym same) ∙ none in
    rw at_q refl
takes false name q d old e none = elim (old q) as (λ o. o ≡ option_or o None) [ Some d ↦ refl | None ↦ refl ]

-- nothing is copied from nothing
none_copied : (o : Option (Bor Definition)) → is_some o ≡ false → option_copied o ≡ None
none_copied (Some d) e = absurd (cc)
none_copied None e = refl

pub returns-in_ok-insert : goal.returns-in_ok-insert
returns-in_ok-insert c = λ q.
    let old = found_in c.args.definitions.now in
    let updates = btree_map_updates_str c.args.name.now c.args.definitions.now c.insert.new.self _ c.in_ok-insert.ensures.updates q in
    let none : old c.args.name.now ≡ None = sym c.get.ensures.value ∙ none_copied c.get.result (c.is_none.ensures ∙ ap not c.if-is_none.true) in
    updates ∙ takes (bytes_eq c.args.name.now q) c.args.name.now q c.args.definition old refl none
