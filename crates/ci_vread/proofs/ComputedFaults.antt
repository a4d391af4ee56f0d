-- The first fault of a text, computed, for rows.
use Rattle.std.proofs.Common.{◌≡◌, subst, refl, ℕ, zero, suc, inl, inr, List, [], ◌∷◌, ◌++◌, map, Option, Some, None}
use Rattle.std.specs.Prelude.{option_map}
use Rattle.std.specs.Fmt.{digits}
use Rattle.std.specs.List.{AllByRecursion}
use Rattle.ci_reading.specs.Tokens.{token, stray_byte, text_end, at}
use Rattle.ci_reading.specs.Lexers.{symbols_of, symbols_behind}
use Rattle.ci_vread.specs.Lexicon.{Token}
use Rattle.ci_vread.specs.Grammar.{Symbol, Placed, Role, Part, reads, ends, made, units, Phrase, parts_of, NeedsNext, Fits}
use Rattle.ci_vread.specs.Grammar.{read, ended, whole, stops, all_read, by_parts, by_end, by_token, bad_token, bad_byte, no_token, no_next}
use Rattle.ci_vread.proofs.FirstFaults.{first, IsFound, first_is}
use Rattle.ci_vread.proofs.LongestTokens.{are_symbols}
use Rattle.ci_vread.specs.Rules.{HasFault, KeepsRules, AreRules, Rule, nothing, rules_from, rules_at}
use Rattle.ci_vread.specs.private.Scanning.{unit_lexer, scan, number_at, cycles_at, mark_at}
use Rattle.ci_vread.proofs.TokenDecisions.{Decided, fits_or_not, token_decided, enum_decided, number_decided, name_decided, carried}
use Rattle.ci_vread.proofs.Annotations.{HasRun, needs_or_not}

-- ---- one step of the annotation, before the rest of it

abbrev end_here : (last place : ℕ) (x : Symbol) (rest : List Placed) → Option (HasRun last [] (at place x ∷ rest))
end_here last place text_end [] = Some (record { events = []; finish = whole; goes = all_read })
end_here last place x rest = None

abbrev fit_here :
    (last place : ℕ) (role : Role) (due : List Part) (t : Token) (rest : List Placed) → Decided (Fits role t) → Option (HasRun place due rest)
    → Option (HasRun last (reads role ∷ due) (at place (token t) ∷ rest))
fit_here last place role due t rest (inl fit) None = None
fit_here last place role due t rest (inl fit) (Some o) =
    Some (record { events = read role t place ∷ o.events; finish = o.finish; goes = by_token fit o.goes })
fit_here last place role due t rest (inr misfit) again = Some (record { events = []; finish = stops 2 place; goes = bad_token misfit })

unfoldable token_here :
    (last place : ℕ) (role : Role) (due : List Part) (x : Symbol) (rest : List Placed) → Option (HasRun place due rest)
    → Option (HasRun last (reads role ∷ due) (at place x ∷ rest))
unfolding fits_or_not token_decided enum_decided number_decided name_decided carried
token_here last place role due (token t) rest again = fit_here last place role due t rest (fits_or_not role t) again
token_here last place role due stray_byte rest again = Some (record { events = []; finish = stops 1 place; goes = bad_byte })
token_here last place role due text_end rest again = Some (record { events = []; finish = stops 2 place; goes = no_token })

abbrev opened :
    (last place : ℕ) (p : Phrase) (due : List Part) (x : Symbol) (rest : List Placed) → (x ≡ text_end → ¬ NeedsNext p)
    → Option (HasRun last (parts_of p x ++ due) (at place x ∷ rest)) → Option (HasRun last (made p ∷ due) (at place x ∷ rest))
opened last place p due x rest free None = None
opened last place p due x rest free (Some o) = Some (record { events = o.events; finish = o.finish; goes = by_parts free o.goes })

abbrev at_text_end :
    (last place : ℕ) (p : Phrase) (due : List Part) (rest : List Placed) → Decided (NeedsNext p)
    → Option (HasRun last (parts_of p text_end ++ due) (at place text_end ∷ rest)) → Option (HasRun last (made p ∷ due) (at place text_end ∷ rest))
at_text_end last place p due rest (inl need) again = Some (record { events = []; finish = stops 2 place; goes = no_next need })
at_text_end last place p due rest (inr free) again = opened last place p due text_end rest (λ _. free) again

unfoldable phrase_here :
    (last place : ℕ) (p : Phrase) (due : List Part) (x : Symbol) (rest : List Placed)
    → Option (HasRun last (parts_of p x ++ due) (at place x ∷ rest)) → Option (HasRun last (made p ∷ due) (at place x ∷ rest))
unfolding needs_or_not
phrase_here last place p due text_end rest again = at_text_end last place p due rest (needs_or_not p) again
phrase_here last place p due stray_byte rest again = opened last place p due stray_byte rest (λ e. absurd (cc)) again
phrase_here last place p due (token t) rest again = opened last place p due (token t) rest (λ e. absurd (cc)) again

abbrev end_passed :
    (last : ℕ) (what : _) (due : List Part) (symbols : List Placed) → Option (HasRun last due symbols) → Option (HasRun last (ends what ∷ due) symbols)
end_passed last what due symbols None = None
end_passed last what due symbols (Some o) = Some (record { events = ended what last ∷ o.events; finish = o.finish; goes = by_end o.goes })

-- the annotation, in at most n steps
unfoldable run : (n last : ℕ) (due : List Part) (symbols : List Placed) → Option (HasRun last due symbols)
unfolding token_here phrase_here
run zero last due symbols = None
run (suc n) last due [] = None
run (suc n) last [] (q ∷ rest) = end_here last q.place q.symbol rest
run (suc n) last (reads role ∷ due) (q ∷ rest) = token_here last q.place role due q.symbol rest (run n q.place due rest)
run (suc n) last (made p ∷ due) (q ∷ rest) = phrase_here last q.place p due q.symbol rest (run n last (parts_of p q.symbol ++ due) (q ∷ rest))
run (suc n) last (ends what ∷ due) (q ∷ rest) = end_passed last what due (q ∷ rest) (run n last due (q ∷ rest))

-- ---- texts

-- the first fault of a text, if any, found in at most 1,000 steps
unfoldable pub fault_in : List ℕ → Option (Option (ℕ × ℕ))
unfolding run first symbols_behind digits scan number_at cycles_at mark_at
fault_in text = option_map (λ o. first (rules_from nothing o.events ++ rules_at o.finish)) (run 1000 0 (made units ∷ []) (symbols_of unit_lexer text))

abbrev Says : List ℕ → Option (ℕ × ℕ) → Type 0
Says text None = KeepsRules text
Says text (Some (kind, place)) = HasFault text kind place

-- what was computed is what the definitions say
says : (text : List ℕ) (found : Option (ℕ × ℕ)) → fault_in text ≡ Some found → Says text found
unfolding fault_in
says text found e = by (run 1000 0 (made units ∷ []) (symbols_of unit_lexer text)) e
  where
    rules_of_text : (o : HasRun 0 (made units ∷ []) (symbols_of unit_lexer text)) → AreRules text (rules_from nothing o.events ++ rules_at o.finish)
    rules_of_text o = record {
      symbols = symbols_of unit_lexer text;
      events = o.events;
      finish = o.finish;
      are_symbols = are_symbols text;
      goes = o.goes;
      rules_are = refl;
    }

    told : (rules : List Rule) → AreRules text rules → (answer : Option (ℕ × ℕ)) → IsFound rules answer → Says text answer
    told rules are None kept = (rules, are, kept)
    told rules are (Some (k, p)) first = (rules, are, first)

    by : (o : Option (HasRun 0 (made units ∷ []) (symbols_of unit_lexer text)))
        → option_map (λ o. first (rules_from nothing o.events ++ rules_at o.finish)) o ≡ Some found → Says text found
    by None e = absurd (cc)
    by (Some o) e =
        let rules = rules_from nothing o.events ++ rules_at o.finish in
        let same : first rules ≡ found = cc in
        subst (Says text) same (told rules (rules_of_text o) (first rules) (first_is rules))

-- ---- rows

-- a text that keeps all rules, and one whose first fault is of this kind at this place
abbrev pub good : List ℕ → List ℕ × Option (ℕ × ℕ)
good text = (text, None)

abbrev pub bad : List ℕ → ℕ → ℕ → List ℕ × Option (ℕ × ℕ)
bad text kind place = (text, Some (kind, place))

-- the definitions say so of each text
pub record AllSay (rows : List (List ℕ × Option (ℕ × ℕ))) : Type 0 where
  pub each : AllByRecursion (λ row. Says row.0 row.1) rows

pub all_say : {rows : List (List ℕ × Option (ℕ × ℕ))} → map (λ row. fault_in row.0) rows ≡ map (λ row. Some row.1) rows → AllSay rows
all_say {rows} computed = record { each = by rows computed }
  where
    by : (rows : List (List ℕ × Option (ℕ × ℕ))) → map (λ row. fault_in row.0) rows ≡ map (λ row. Some row.1) rows
        → AllByRecursion (λ row. Says row.0 row.1) rows
    by [] e = tt
    by ((text, found) ∷ rows) e =
        let first : fault_in text ≡ Some found = cc in
        let others : map (λ row. fault_in row.0) rows ≡ map (λ row. Some row.1) rows = cc in
        (says text found first, by rows others)
