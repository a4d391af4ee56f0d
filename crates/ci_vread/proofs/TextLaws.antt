-- What a text says: modules or one fault, and never both.
use Rattle.std.proofs.Common.{◌≡◌, ℕ, inl, inr, List, [], ◌∷◌, ◌++◌, length, arith, refl, sym, ◌∙◌, subst}
use Rattle.ci_reading.specs.Tokens.{AreSymbols, behind_blank, behind_token, at_end, at_comment, at_stray_byte}
use Rattle.ci_reading.specs.Lexers.{symbols_of}
use Rattle.ci_vread.specs.Lexicon.{unit_format}
use Rattle.ci_vread.specs.Grammar.{Placed, made, units, Goes}
use Rattle.ci_vread.specs.Rules.{Rule, nothing, rules_from, rules_at, AreRules, IsFirst}
use Rattle.ci_vread.proofs.Annotations.{goes_once, AreEnded, by_stray, by_text_end, behind, goes_somehow}
use Rattle.ci_vread.specs.Laws.{SpellsOrHasFault, HasNoFault, FaultIsOne, SpellsWhereRulesAreKept}
use Rattle.ci_vread.specs.private.Scanning.{unit_lexer}
use Rattle.ci_vread.proofs.LongestTokens.{are_symbols, one_list}
use Rattle.ci_vread.proofs.FirstFaults.{fault_is_one, kept_has_none, kept_or_fault}
use Rattle.ci_vread.proofs.ReadModules.{kept_spells}
use Rattle.ci_vread.proofs.SpeltModules.{spelled_keeps}

-- the symbols of a text are tokens, and at last a byte that begins none or the end
pub are_ended : {n : ℕ} {bytes : List ℕ} {symbols : List Placed} → AreSymbols unit_format n bytes symbols → AreEnded symbols
are_ended (behind_blank h s) = are_ended s
are_ended (behind_token b s) = behind (are_ended s)
are_ended at_end = by_text_end
are_ended (at_comment c) = by_text_end
are_ended (at_stray_byte h c b) = by_stray

-- each text has rules
pub some_rules : (text : List ℕ) (symbols : List Placed) → AreSymbols unit_format 0 text symbols → (rules : List Rule) × AreRules text rules
some_rules text symbols are =
    let o = goes_somehow (length symbols) 0 symbols (are_ended are) (omega arith) in (
      rules_from nothing o.events ++ rules_at o.finish,
      record {
        symbols = symbols;
        events = o.events;
        finish = o.finish;
        are_symbols = are;
        goes = o.goes;
        rules_are = refl;
      },
    )

-- and these alone
one_rules : (text : List ℕ) {one two : List Rule} → AreRules text one → AreRules text two → one ≡ two
one_rules text a b =
    let same = one_list text b.symbols a.symbols b.are_symbols a.are_symbols in
    let o = goes_once a.goes (subst (λ s. Goes 0 (made units ∷ []) s b.events b.finish) same b.goes) in
    a.rules_are ∙ ((λ i. rules_from nothing (o.events_are i) ++ rules_at (o.finish_is i)) ∙ sym b.rules_are)

pub modules_or_fault : SpellsOrHasFault
modules_or_fault text =
    let o = some_rules text (symbols_of unit_lexer text) (are_symbols text) in
    elim (kept_or_fault o.0) [
      | inl kept ↦ inl (kept_spells text (o.0, o.1, kept))
      | inr first ↦ inr (first.0, first.1, (o.0, o.1, first.2))
    ]

pub one_fault : FaultIsOne
one_fault text k p l q (one, a, first) (two, b, second) = fault_is_one first (subst (λ r. IsFirst r l q) (one_rules text b a) second)

pub never_both : HasNoFault
never_both text modules k p s (two, b, first) =
    let kept = spelled_keeps text modules s in
    kept_has_none kept.2 (subst (λ r. IsFirst r k p) (one_rules text b kept.1) first)

pub spells_where_kept : SpellsWhereRulesAreKept
spells_where_kept text = (kept_spells text, λ spelt. spelled_keeps text spelt.0 spelt.1)
