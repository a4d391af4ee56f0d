-- What spells right sides goes on and keeps every rule.
use Rattle.std.proofs.Common.{◌≡◌, ℕ, List, [], ◌∷◌, ◌++◌, refl, sym, true}
use Rattle.std.proofs.lemmas.Bool.{eq-eqb}
use Rattle.ci_verilog.specs.declared.expressions.Operator.{Operator}
use Rattle.ci_verilog.specs.declared.expressions.Operator.TheVariants.{Left, Right, Less}
use Rattle.ci_verilog.specs.declared.expressions.Expr.{Expr}
use Rattle.ci_verilog.specs.Modules.{Makes, IsExpr, one, two, choose}
use Rattle.ci_reading.specs.Tokens.{token, at}
use Rattle.ci_vread.specs.declared.tokens.Sign.TheVariants.{Semicolon, Colon, Question}
use Rattle.ci_vread.specs.Lexicon.{Token, sign, operator}
use Rattle.ci_vread.specs.Grammar.{Placed, that_token, an_operator, of_side, of_condition, of_branch, of_operand, side, others, term}
use Rattle.ci_vread.specs.Grammar.{Part, ends, made, the, Event, whole, Goes, by_parts}
use Rattle.ci_vread.specs.Rules.{Seen, makes, rules_from}
use Rattle.ci_vread.specs.Spelling.{SpellsExpr, one as spells_one, two as spells_two, choose as spells_choose}
use Rattle.ci_vread.proofs.NameLaws.{IsTable}
use Rattle.ci_vread.proofs.ReadSteps.{AreKept, Begins, more}
use Rattle.ci_vread.proofs.ReadTerms.{behind_term}
use Rattle.ci_vread.proofs.ReadSides.{clean}
use Rattle.ci_vread.proofs.SpeltSimples.{GoesWell, Good, good_token, good_end, good_made}
use Rattle.ci_vread.proofs.SpeltTerms.{cut, term_goes_well}

makes_if : (o : Operator) (left right due : ℕ) → Makes o left right due → makes o (right ∷ left ∷ []) due ≡ true
makes_if Left left right due e = eq-eqb left due (sym e)
makes_if Right left right due e = eq-eqb left due (sym e)
makes_if Less left right due e = rw (eq-eqb left right e.0, eq-eqb due 1 e.1) refl
makes_if o left right due e = rw (eq-eqb left right e.0, eq-eqb left due (sym e.1)) refl

-- a right side begins as its first term
side_opens : {seen : Seen} {due : List Part} (symbols : List Placed) → Good seen (made term ∷ made others ∷ due) symbols → Good seen (made side ∷ due) symbols
side_opens {seen} {due} symbols g last = by symbols (g last).events (g last).goes (g last).kept
  where
    by : (symbols : List Placed) (events : List Event) → Goes last (made term ∷ made others ∷ due) symbols events whole → AreKept (rules_from seen events)
        → GoesWell last seen (made side ∷ due) symbols
    by _ _ (by_parts h goes) kept = record { events = _; goes = by_parts (λ e n. elim n [ ]) (by_parts h goes); kept = kept }

module _ (base : Seen) (table : IsTable base.known) where
  abbrev behind_first : ℕ → Seen
  behind_first size = behind_term (clean base) size

  pub side_goes_well :
      {symbols rest : List Placed} {tokens : List Token} {value : Expr} {place : ℕ} (due : List Part)
      → SpellsExpr tokens value → IsExpr base.known value base.due → Begins symbols tokens (at place (token (sign Semicolon)) ∷ rest)
      → Good (clean base) due (at place (token (sign Semicolon)) ∷ rest) → Good (clean base) (made side ∷ due) symbols
  side_goes_well {symbols = symbols} due (spells_one spelled) (one is_term) a g =
      side_opens symbols (term_goes_well (clean base) table (made others ∷ due) spelled is_term a refl
      (good_made others (good_end of_side (λ last. (rw (eq-eqb base.due base.due refl) refl, tt)) g)))
  side_goes_well {symbols = symbols} {rest = rest} {place = p} due (spells_two {left = left} {right = right} op l_spelled r_spelled)
      (two {left = v} {right = w} is_left is_right makes_it) a g =
      let s = cut left a in
      side_opens symbols (by s.middle s.first s.second)
    where
      by : {symbols : List Placed} (middle : List Placed) → Begins symbols left middle
          → Begins middle (operator op ∷ right) (at p (token (sign Semicolon)) ∷ rest) → Good (clean base) (made term ∷ made others ∷ due) symbols
      by _ first (more b) =
          term_goes_well (clean base) table (made others ∷ due) l_spelled is_left first refl
          (good_made others (good_token (an_operator op) tt
          (term_goes_well (record (behind_first v) { its_op = op }) table (ends of_operand ∷ due) r_spelled is_right b refl
          (good_end of_operand (λ last. (makes_if op v w base.due makes_it, tt)) g))))
  side_goes_well {symbols = symbols} {rest = rest} {place = p} due (spells_choose {test = test} {first = first} {second = second} t_spelled f_spelled s_spelled)
      (choose is_test is_first is_second) a g =
      let s = cut test a in
      side_opens symbols (by s.middle s.first s.second)
    where
      behind_colon : {symbols : List Placed} (middle : List Placed) → Begins symbols first middle
          → Begins middle (sign Colon ∷ second) (at p (token (sign Semicolon)) ∷ rest)
          → Good (behind_first 1) (made term ∷ the Colon ∷ made term ∷ ends of_branch ∷ due) symbols
      behind_colon _ f (more b) =
          term_goes_well (behind_first 1) table (the Colon ∷ made term ∷ ends of_branch ∷ due) f_spelled is_first f refl
          (good_token (that_token _) tt
          (term_goes_well (behind_term (behind_first 1) base.due) table (ends of_branch ∷ due) s_spelled is_second b refl
          (good_end of_branch (λ last. (rw (eq-eqb base.due base.due refl) refl, tt)) g)))

      by : {symbols : List Placed} (middle : List Placed) → Begins symbols test middle
          → Begins middle (sign Question ∷ (first ++ sign Colon ∷ second)) (at p (token (sign Semicolon)) ∷ rest)
          → Good (clean base) (made term ∷ made others ∷ due) symbols
      by _ f (more b) =
          let s = cut first b in
          term_goes_well (clean base) table (made others ∷ due) t_spelled is_test f refl
          (good_made others (good_end of_condition (λ last. (refl, tt)) (good_token (that_token _) tt (behind_colon s.middle s.first s.second))))
