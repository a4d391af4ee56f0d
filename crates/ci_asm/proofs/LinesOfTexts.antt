-- The lines of a text, one after the other.
use Rattle.std.proofs.Common.{◌≡◌, ℕ, suc, ◌+◌, ◌<◌, ◌≤◌, List, [], ◌∷◌, length, drop, refl, ap, ◌∙◌, arith, Bool, true, false, cond, ◌++◌, eqb, length-drop}
use Rattle.std.proofs.lemmas.List.{drop-drop, drop_all}
use Rattle.std.specs.List.{prefix_len, list_all}
use Rattle.std.proofs.lemmas.List.Sums.{prefix_len-le-length}
use Rattle.std.proofs.lemmas.List.Folds.{length-prefix_len}
use Rattle.ci_asm.specs.declared.scanner.ByteClass.TheVariants.{InLine}
use Rattle.ci_asm.proofs.TestLaws.{and_both, not_true}
use Rattle.ci_asm.specs.private.Tokens.{belongs}
use Rattle.ci_asm.specs.private.Programs.{first_line}
use Rattle.ci_asm.specs.Lines.{lines_of, with_byte}

-- the text behind its first line
abbrev pub behind_first : List ℕ → List ℕ
behind_first text = drop (prefix_len (belongs InLine) text + 1) text

-- the lines of c and a text with these lines
abbrev lines_step : ℕ → List (List ℕ) → List (List ℕ)
lines_step c lines = cond (eqb c 10) ([] ∷ lines) (with_byte c lines)

lines_of-step : (c : ℕ) (text : List ℕ) → lines_of (c ∷ text) ≡ lines_step c (lines_of text)
unfolding lines_of
lines_of-step c text = refl

pub lines_of-nil : lines_of [] ≡ []
unfolding lines_of
lines_of-nil = refl

-- what the first byte of a text adds to its first line, where it is no newline
first_line-more : (c : ℕ) (text : List ℕ) → eqb c 10 ≡ false → first_line (c ∷ text) ≡ c ∷ first_line text
first_line-more c text e =
    let one : 1 + prefix_len (belongs InLine) text ≡ suc (prefix_len (belongs InLine) text) = omega arith in
    rw (e, one) refl

behind_first-more : (c : ℕ) (text : List ℕ) → eqb c 10 ≡ false → behind_first (c ∷ text) ≡ behind_first text
behind_first-more c text e =
    let one : 1 + prefix_len (belongs InLine) text + 1 ≡ suc (prefix_len (belongs InLine) text + 1) = omega arith in
    rw (e, one) refl

-- the first line and the others, by the first byte
split_by : (b : Bool) (c : ℕ) (text : List ℕ) (lines : List (List ℕ)) → eqb c 10 ≡ b → lines_of text ≡ lines
    → (b ≡ false → with_byte c lines ≡ first_line (c ∷ text) ∷ lines_of (behind_first (c ∷ text)))
    → lines_of (c ∷ text) ≡ first_line (c ∷ text) ∷ lines_of (behind_first (c ∷ text))
split_by true c text lines e l more = lines_of-step c text ∙ rw e refl
split_by false c text lines e l more = lines_of-step c text
    ∙ (ap (λ b. cond b ([] ∷ lines_of text) (with_byte c (lines_of text))) e ∙ (ap (with_byte c) l ∙ more refl))

-- the lines of a text are its first line and those of the rest
pub lines_of-cons : (c : ℕ) (text : List ℕ) → lines_of (c ∷ text) ≡ first_line (c ∷ text) ∷ lines_of (behind_first (c ∷ text))
lines_of-cons c [] = split_by (eqb c 10) c [] [] refl lines_of-nil (λ e. rw (first_line-more c [] e, behind_first-more c [] e, lines_of-nil) refl)
lines_of-cons c (d ∷ text) = split_by (eqb c 10) c (d ∷ text) _ refl (lines_of-cons d text)
    (λ e. rw (first_line-more c (d ∷ text) e, behind_first-more c (d ∷ text) e) refl)

lines_of-some : (text : List ℕ) → 0 < length text → lines_of text ≡ first_line text ∷ lines_of (behind_first text)
lines_of-some [] h = absurd (omega arith)
lines_of-some (c ∷ text) h = lines_of-cons c text

-- the same of the text from a place on
pub lines_of-drop : (text : List ℕ) (start : ℕ) (line : List ℕ) → start < length text → line ≡ first_line (drop start text)
    → lines_of (drop start text) ≡ line ∷ lines_of (drop (start + (length line + 1)) text)
lines_of-drop text start line h e =
    let some : 0 < length (drop start text) = omega (arith, length-drop start text) in
    let size : length line ≡ prefix_len (belongs InLine) (drop start text) = ap length e ∙ length-prefix_len (belongs InLine) (drop start text) in
    let rest : behind_first (drop start text) ≡ drop (start + (length line + 1)) text =
    rw size (drop-drop (prefix_len (belongs InLine) (drop start text) + 1) start text) in
    lines_of-some (drop start text) some ∙ rw (rest, ← e) refl

pub lines_of-end : (text : List ℕ) (start : ℕ) → length text ≤ start → lines_of (drop start text) ≡ []
lines_of-end text start h = rw (drop_all start text h) lines_of-nil

-- the first line lies in the text
pub line_within : (text : List ℕ) (start : ℕ) (line : List ℕ) → start < length text → line ≡ first_line (drop start text) → start + length line ≤ length text
line_within text start line h e =
    let size : length line ≡ prefix_len (belongs InLine) (drop start text) = ap length e ∙ length-prefix_len (belongs InLine) (drop start text) in
    omega (arith, prefix_len-le-length (belongs InLine) (drop start text), length-drop start text)

-- ---- a text of one line

-- a line and a newline are one line
pub lines_of-one : (line : List ℕ) → list_all (belongs InLine) line ≡ true → lines_of (line ++ 10 ∷ []) ≡ line ∷ []
lines_of-one [] all = lines_of-step 10 [] ∙ ap (λ lines. [] ∷ lines) lines_of-nil
lines_of-one (c ∷ line) all =
    let both = and_both (belongs InLine c) (list_all (belongs InLine) line) all in
    let others = lines_of-one line both.1 in
    lines_of-step c (line ++ 10 ∷ [])
    ∙ (ap (λ b. cond b ([] ∷ lines_of (line ++ 10 ∷ [])) (with_byte c (lines_of (line ++ 10 ∷ [])))) (not_true (eqb c 10) both.0)
    ∙ ap (with_byte c) others)
