-- Where a right side is due in a text that keeps its rules, one of the due width stands.
use Rattle.std.proofs.Common.{◌≡◌, ℕ, List, [], ◌∷◌, ◌++◌, sym, subst, true}
use Rattle.std.proofs.lemmas.Bool.{and_parts, eqb-true}
use Rattle.ci_verilog.specs.declared.expressions.Operator.{Operator}
use Rattle.ci_verilog.specs.declared.expressions.Operator.TheVariants.{Plus, Left, Right, Less}
use Rattle.ci_verilog.specs.declared.expressions.Expr.{Expr}
use Rattle.ci_verilog.specs.declared.expressions.Expr.TheVariants.{One, Two, Choose}
use Rattle.ci_verilog.specs.Modules.{Makes, IsTerm, IsExpr, one, two, choose}
use Rattle.ci_reading.specs.Tokens.{token, at}
use Rattle.ci_vread.specs.declared.tokens.Sign.TheVariants.{Colon, Question}
use Rattle.ci_vread.specs.Lexicon.{Token, sign, operator}
use Rattle.ci_vread.specs.Grammar.{Symbol, Placed, its_operator, an_operator, of_side, of_condition, of_branch, of_operand, side, others, term}
use Rattle.ci_vread.specs.Grammar.{Part, reads, ends, made, the, parts_of, Event, whole, Goes, by_token}
use Rattle.ci_vread.specs.Rules.{Seen, makes, rules_from}
use Rattle.ci_vread.specs.Spelling.{SpellsExpr, one as spells_one, two as spells_two, choose as spells_choose}
use Rattle.ci_vread.proofs.ReadSteps.{AreKept, IsGood, Begins, more, joined, sign_read, end_read, phrase_read, IsRead}
use Rattle.ci_vread.proofs.ReadTerms.{behind_term, IsWholeTerm, term_read}

-- no right side is on its way
abbrev pub clean : Seen → Seen
clean base = record base { its_op = Plus; widths = []; sum = 0; times = 1; width = 0; index = 0 }

makes_is : (o : Operator) (left right due : ℕ) → makes o (right ∷ left ∷ []) due ≡ true → Makes o left right due
makes_is Left left right due e = sym (eqb-true left due e)
makes_is Right left right due e = sym (eqb-true left due e)
makes_is Less left right due e = let h = and_parts _ _ e in (eqb-true _ _ h.0, eqb-true _ _ h.1)
makes_is o left right due e = let h = and_parts _ _ e in (eqb-true _ _ h.0, sym (eqb-true left due h.1))

pub record IsSide (base : Seen) (tokens : List Token) (size : ℕ) : Type 0 where
  pub value : Expr
  pub spelled : SpellsExpr tokens value
  pub is_expr : IsExpr base.known value base.due

module _ (base : Seen) (due : List Part) where
  abbrev IsSideRead : List Placed → Type 0
  IsSideRead symbols = IsRead (IsSide base) (λ _. clean base) due symbols

  -- behind one term, an operator, and two terms
  abbrev behind_one : ℕ → Seen
  behind_one first = behind_term (clean base) first

  abbrev with_operator : Operator → ℕ → Seen
  with_operator o first = record (behind_one first) { its_op = o }

  abbrev behind_two : ℕ → ℕ → Seen
  behind_two test first = behind_term (behind_one test) first

  module _ (symbols : List Placed) (o : IsRead (IsWholeTerm (clean base)) (behind_term (clean base)) (made others ∷ due) symbols) where
    one_term : (rest : List Placed) → IsGood (behind_one o.size) (ends of_side ∷ due) rest → Begins symbols o.tokens rest → IsSideRead symbols
    one_term rest g begins =
        let e = end_read of_side (behind_one o.size) due rest g in
        let is_due : o.size ≡ base.due = eqb-true _ _ (and_parts _ _ e.kept.0).0 in
        record {
          tokens = o.tokens;
          size = 0;
          rest = rest;
          begins = begins;
          is_part = record {
            value = One o.is_part.value;
            spelled = spells_one o.is_part.spelled;
            is_expr = subst (IsExpr base.known (One o.is_part.value)) is_due (one o.is_part.is_term);
          };
          good = e.good;
        }

    two_terms : (op : Operator) (place : ℕ) (rest : List Placed)
        → IsGood (behind_one o.size) (reads its_operator ∷ made term ∷ ends of_operand ∷ due) (at place (token (operator op)) ∷ rest)
        → Begins symbols o.tokens (at place (token (operator op)) ∷ rest) → IsSideRead symbols
    two_terms op place rest g begins = by op begins g.events g.goes g.kept
      where
        by : (op : Operator) → Begins symbols o.tokens (at place (token (operator op)) ∷ rest) → (events : List Event)
            → Goes g.last (reads its_operator ∷ made term ∷ ends of_operand ∷ due) (at place (token (operator op)) ∷ rest) events whole
            → AreKept (rules_from (behind_one o.size) events) → IsSideRead symbols
        by _ begins _ (by_token (an_operator op) goes) kept =
            let second : IsGood (with_operator op o.size) (made term ∷ ends of_operand ∷ due) rest =
            record { last = place; events = _; goes = goes; kept = kept } in
            let r = term_read (with_operator op o.size) (ends of_operand ∷ due) rest second in
            let e = end_read of_operand (behind_term (with_operator op o.size) r.size) due r.rest r.good in
            record {
              tokens = o.tokens ++ operator op ∷ r.tokens;
              size = 0;
              rest = r.rest;
              begins = joined begins (more r.begins);
              is_part = record {
                value = Two op o.is_part.value r.is_part.value;
                spelled = spells_two op o.is_part.spelled r.is_part.spelled;
                is_expr = two o.is_part.is_term r.is_part.is_term (makes_is op o.size r.size base.due e.kept.0);
              };
              good = e.good;
            }

    choice : (rest : List Placed) → IsGood (behind_one o.size)
        (ends of_condition ∷ the Question ∷ made term ∷ the Colon ∷ made term ∷ ends of_branch ∷ due) rest
        → Begins symbols o.tokens rest → IsSideRead symbols
    choice rest g begins =
        let c = end_read of_condition (behind_one o.size) _ rest g in
        let q = sign_read Question (behind_one o.size) _ rest c.good in
        let r = term_read (behind_one o.size) _ q.rest q.good in
        let d = sign_read Colon (behind_two o.size r.size) _ r.rest r.good in
        let s = term_read (behind_two o.size r.size) (ends of_branch ∷ due) d.rest d.good in
        let e = end_read of_branch (behind_term (behind_two o.size r.size) s.size) due s.rest s.good in
        let widths = and_parts _ _ e.kept.0 in
        let test : o.size ≡ 1 = eqb-true _ _ (and_parts _ _ c.kept.0).0 in
        let first : r.size ≡ base.due = eqb-true _ _ (and_parts _ _ widths.1).0 in
        let second : s.size ≡ base.due = eqb-true _ _ widths.0 in
        record {
          tokens = o.tokens ++ sign Question ∷ (r.tokens ++ sign Colon ∷ s.tokens);
          size = 0;
          rest = s.rest;
          begins = joined begins (joined q.begins (joined r.begins (joined d.begins s.begins)));
          is_part = record {
            value = Choose o.is_part.value r.is_part.value s.is_part.value;
            spelled = spells_choose o.is_part.spelled r.is_part.spelled s.is_part.spelled;
            is_expr = choose (subst (IsTerm base.known o.is_part.value) test o.is_part.is_term)
                (subst (IsTerm base.known r.is_part.value) first r.is_part.is_term) (subst (IsTerm base.known s.is_part.value) second s.is_part.is_term);
          };
          good = e.good;
        }

    others_read : (place : ℕ) (x : Symbol) (rest : List Placed) → IsGood (behind_one o.size) (parts_of others x ++ due) (at place x ∷ rest)
        → Begins symbols o.tokens (at place x ∷ rest) → IsSideRead symbols
    others_read place (token (operator op)) rest good begins = two_terms op place rest good begins
    others_read place (token (sign Question)) rest good begins = choice (at place (token (sign Question)) ∷ rest) good begins
    others_read place x rest good begins = one_term (at place x ∷ rest) good begins

  pub side_read : (symbols : List Placed) → IsGood (clean base) (made side ∷ due) symbols → IsRead (IsSide base) (λ _. clean base) due symbols
  side_read symbols g = phrase_read side (clean base) due symbols IsSideRead g opens
    where
      opens : (place : ℕ) (x : Symbol) (rest : List Placed) → IsGood (clean base) (parts_of side x ++ due) (at place x ∷ rest) → IsSideRead (at place x ∷ rest)
      opens place x rest good =
          let o = term_read (clean base) (made others ∷ due) (at place x ∷ rest) good in
          phrase_read others (behind_one o.size) due o.rest (λ behind. Begins (at place x ∷ rest) o.tokens behind → IsSideRead (at place x ∷ rest)) o.good
          (others_read (at place x ∷ rest) o) o.begins
