-- What is told of the rules of a text is told of the text.
use Rattle.std.proofs.Common.{ℕ, List, [], ◌∷◌, ◌++◌, length, Some, None, refl, arith}
use Rattle.ci_reading.specs.Tokens.{AreSymbols}
use Rattle.ci_vread.specs.declared.checking.Fault.{Fault}
use Rattle.ci_vread.specs.Lexicon.{unit_format}
use Rattle.ci_vread.specs.Grammar.{Placed, Event, Finish, Goes, made, units}
use Rattle.ci_vread.specs.Rules.{Rule, AreRules, IsFirst, nothing, rules_from, rules_at}
use Rattle.ci_vread.specs.private.Led.{IsAnswer}
use Rattle.ci_vread.proofs.Annotations.{goes_somehow}
use Rattle.ci_vread.proofs.ReadSteps.{AreKept}
use Rattle.ci_vread.proofs.TextLaws.{are_ended}

module _ (text : List ℕ) (symbols : List Placed) (are : AreSymbols unit_format 0 text symbols) where
  abbrev pub AreTheirs : (List Rule → Type 0) → Type 0
  AreTheirs P = (events : List Event) (finish : Finish) → Goes 0 (made units ∷ []) symbols events finish
      → P (rules_from nothing events ++ rules_at finish)

  some_rules : (P : List Rule → Type 0) → AreTheirs P → (rules : List Rule) × AreRules text rules × P rules
  some_rules P told =
      let o = goes_somehow (length symbols) 0 symbols (are_ended are) (omega arith) in (
        rules_from nothing o.events ++ rules_at o.finish,
        record {
          symbols = symbols;
          events = o.events;
          finish = o.finish;
          are_symbols = are;
          goes = o.goes;
          rules_are = refl;
        },
        told o.events o.finish o.goes,
      )

  pub kept : AreTheirs AreKept → IsAnswer text None
  kept told = some_rules AreKept told

  pub faulty : (fault : Fault) → AreTheirs (λ rules. IsFirst rules fault.kind fault.place) → IsAnswer text (Some fault)
  faulty fault told = some_rules (λ rules. IsFirst rules fault.kind fault.place) told
