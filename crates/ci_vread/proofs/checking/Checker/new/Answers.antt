use Rattle.std.proofs.Common.{◌≡◌, [], ◌∷◌, ◌++◌, refl, ap, sym, ◌∙◌, subst, List}
use Rattle.ci_vread.specs.declared.grammar.Part.{Part as PartValue}
use Rattle.ci_vread.specs.declared.grammar.Part.TheVariants as part
use Rattle.ci_vread.specs.declared.grammar.Phrase.TheVariants as phrase
use Rattle.ci_vread.specs.Grammar.{Goes}
use Rattle.ci_vread.specs.Rules.{nothing}
use Rattle.ci_vread.specs.private.Tables.{due_of}
use Rattle.ci_vread.proofs.checking.Checker.new.Goals as goal

pub returns-clause-at : goal.returns-clause-at
returns-clause-at c = λ symbols events finish goes.
    let one : c.push.new.self.items ≡ part.Made phrase.Units ∷ [] =
    c.in_ok-push.ensures.items ∙ ap (λ (l : List PartValue). l ++ part.Made phrase.Units ∷ []) c.new-due.ensures.items in (
      nothing,
      c.new.ensures.shows,
      record {
        before = [];
        events = events;
        finish = finish;
        goes = subst (λ l. Goes 0 (due_of l) symbols events finish) (sym one) goes;
        rules_are = refl;
        least = tt;
      },
    )
