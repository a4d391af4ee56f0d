-- The line that shows an instruction assembles to that instruction.
use Rattle.std.proofs.Common.{◌≡◌, ℕ, ◌+◌, true, false, not, ◌&&◌, eqb, List, [], ◌∷◌, ◌++◌, length, refl, sym, ap, ◌∙◌, subst, arith, lit≤}
use Rattle.std.proofs.Common.{Some, None}
use Rattle.std.specs.List.{AllByRecursion, list_all}
use Rattle.std.proofs.lemmas.Bool.Decides.{nat_tests}
use Rattle.std.proofs.lemmas.Bool.{eqb-true}
use Rattle.ci_reading.specs.Tokens as reading
use Rattle.ci_reading.specs.Tokens.{text_end, Placed}
use Rattle.ci_reading.proofs.TokenLaws.{one_list, written_tokens, written_all}
use Rattle.ci_isa.specs.declared.instruction.Insn.{Insn}
use Rattle.ci_isa.specs.Table.{IsWellFormed, IsWordOf}
use Rattle.ci_isa.proofs.WellFormed.{fields_fit}
use Rattle.ci_asm.specs.declared.scanner.ByteClass.TheVariants.{InLine}
use Rattle.ci_asm.specs.private.Tokens.{belongs, scan}
use Rattle.ci_asm.specs.Lexicon.{IsBlank, Token, name, colon, Spells, line_format}
use Rattle.ci_asm.specs.Forms.{Statement, plain}
use Rattle.ci_asm.specs.Lines.{lines_of}
use Rattle.ci_asm.specs.Assembly.{Line, IsLine, AreLines, IsResolved, IsInsnOf, IsAssembly}
use Rattle.ci_asm.specs.Promised.{IsLineOf}
use Rattle.ci_asm.specs.Shown.{shown}
use Rattle.ci_asm.proofs.TestLaws.{by_test}
use Rattle.ci_asm.proofs.LinesOfTexts.{lines_of-one}
use Rattle.ci_asm.proofs.LongestTokens.{IsNameByte, Finds, begun, is_lexer, line_lexer}
use Rattle.ci_asm.proofs.WrittenLines.{all_weaker, spelt_tail, IsNoColon, IsWrittenAs, written_as}

-- ---- no newline

abbrev IsInLine : ℕ → Type 0
IsInLine c = belongs InLine c ≡ true

blank_in_line : (c : ℕ) → IsBlank c → IsInLine c
blank_in_line c blank = grind (arith, nat_tests)

name_in_line : (c : ℕ) → IsNameByte c → IsInLine c
name_in_line c h = grind (arith, nat_tests)

token_in_line : (bytes : List ℕ) (t : Token) → Spells bytes t → AllByRecursion IsInLine bytes
unfolding scan
token_in_line [] t s = tt
token_in_line (c ∷ bytes) t s = (by_test (eqb c 10) newline other, all_weaker IsNameByte IsInLine name_in_line bytes (spelt_tail (c ∷ bytes) t s))
  where
    newline : eqb c 10 ≡ true → IsInLine c
    newline e =
        let found = begun (c ∷ bytes ++ []) t (c ∷ bytes) [] (record { spells = s; is_text = refl }) in
        absurd (subst (λ k. Finds (k ∷ bytes ++ []) (length (k ∷ bytes))) (eqb-true c 10 e) found)

    other : eqb c 10 ≡ false → IsInLine c
    other e = ap not e

tests_all : (bytes : List ℕ) → AllByRecursion IsInLine bytes → list_all (belongs InLine) bytes ≡ true
tests_all [] all = refl
tests_all (c ∷ bytes) all = ap (λ b. b && list_all (belongs InLine) bytes) all.0 ∙ tests_all bytes all.1

-- ---- the line

no_label : (symbols : List (Placed Token)) (first : Token) (others : List Token) (end : ℕ) (label : List ℕ) (column : ℕ)
    → reading.Stands symbols (first ∷ others) text_end end → IsNoColon others
    → ¬ reading.Stands symbols (name label ∷ []) (reading.token colon) column
no_label [] first others end label column s none = λ u. absurd s
no_label (p ∷ []) first [] end label column s none = λ u. absurd u.1
no_label (p ∷ []) first (t ∷ others) end label column s none = λ u. absurd u.1
no_label (p ∷ q ∷ symbols) first [] end label column s none = λ u. let one = s.1.0 in let two = u.1.0 in absurd (cc)
no_label (p ∷ q ∷ symbols) first (t ∷ others) end label column s none = λ u. let one = s.1.0 in let two = u.1.0 in let same : t ≡ colon = cc in
    subst (λ k. IsNoColon (k ∷ others)) same none

abbrev line_of : Insn → Line
line_of i = record { label = None; statement = Some (plain i) }

written_line : (i : Insn) → IsWrittenAs i → IsLine (shown i) (line_of i)
written_line i w =
    let h = written_tokens line_format w.written 0 in
    record {
      tokens = w.first ∷ w.others;
      end = 0 + length (shown i);
      ends = record {
        has_label = λ label column s.
            no_label h.symbols w.first w.others (0 + length (shown i)) label column h.stand w.no_colon
            (subst (λ l. reading.Stands l (name label ∷ []) (reading.token colon) column) (one_list line_format line_lexer is_lexer s.1 h.are) s.2);
        stands = (h.symbols, h.are, h.stand);
      };
      has_statement = w.states;
    }

-- ---- the text

-- a program of one statement that is an instruction
one_resolved : (i : Insn) (program before : List Line) (line : Line) (after : List Line) → line_of i ∷ [] ≡ before ++ line ∷ after
    → IsResolved program before line
one_resolved i program [] line after split =
    let same : line_of i ≡ line = cc in
    subst (IsResolved program []) same (record { is_new = tt; has_insn = λ statement e. (i, by statement (cc)) })
  where
    by : (statement : Statement) → plain i ≡ statement → IsInsnOf program 0 statement i
    by statement e = subst (λ s. IsInsnOf program 0 s i) e refl
one_resolved i program (x ∷ []) line after split = absurd (cc)
one_resolved i program (x ∷ y ∷ before) line after split = absurd (cc)

assembles : (i : Insn) (w : ℕ) → IsWrittenAs i → IsWordOf w i → IsAssembly (shown i ++ 10 ∷ []) (w ∷ [])
assembles i w written is =
    let all = written_all line_format IsInLine blank_in_line token_in_line written.written in
    let lines : lines_of (shown i ++ 10 ∷ []) ≡ shown i ∷ [] = lines_of-one (shown i) (tests_all (shown i) all) in
    record {
      program = line_of i ∷ [];
      is_program = record { are_lines = subst (λ l. AreLines l (line_of i ∷ [])) (sym lines) (written_line i written, tt); fits = lit≤ tt };
      are_resolved = one_resolved i (line_of i ∷ []);
      are_words = ((i, refl, is), tt);
    }

pub shown_assembles : (i : Insn) (text : List ℕ) → IsWellFormed i → text ≡ shown i → IsLineOf text i
shown_assembles i text formed e = λ w is.
    subst (λ t. IsAssembly (t ++ 10 ∷ []) (w ∷ [])) (sym e) (assembles i w (written_as i (fields_fit i formed)) is)
