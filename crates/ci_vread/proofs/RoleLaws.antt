-- Which roles a token can have, by its kind.
use Rattle.std.proofs.Common.{◌≡◌, ℕ, List, [], ◌∷◌, refl, ap, sym, subst}
use Rattle.ci_reading.specs.Tokens.{token, stray_byte, text_end}
use Rattle.ci_vread.specs.declared.grammar.Role.{Role as RoleValue}
use Rattle.ci_vread.specs.declared.grammar.Role.TheVariants as role
use Rattle.ci_vread.specs.declared.tokens.Kind.{Kind}
use Rattle.ci_vread.specs.declared.tokens.Kind.TheVariants as kind
use Rattle.ci_vread.specs.declared.tokens.Sign.TheVariants.{NameA, NameB, NameC}
use Rattle.ci_vread.specs.Lexicon.{Token, sign, operator, name, number, constant, cycles}
use Rattle.ci_vread.specs.Grammar.{Symbol, Fits, that_token, some_cycles, a_module, a_high, a_name, a_target, a_use, input_a, input_b, input_c, an_index, a_low}
use Rattle.ci_vread.specs.Grammar.{a_count, a_constant, an_operator}
use Rattle.ci_vread.specs.private.Scanned.{symbol_by, word_in, width_in, value_in, cycles_in}
use Rattle.ci_vread.specs.private.Scanning.{kind_of}
use Rattle.ci_vread.specs.private.Tables.{role_of, IsOperator, IsUse}
use Rattle.ci_vread.specs.private.Checked.{Suits}

-- ---- kinds of symbols

abbrev pub kind_in : Symbol → Kind
kind_in (token t) = kind_of t
kind_in stray_byte = kind.Stray
kind_in text_end = kind.End

-- what stands for the symbol is of its kind
pub of_symbol : (k : Kind) (bytes : List ℕ) (x : Symbol) → symbol_by k bytes ≡ x → k ≡ kind_in x
of_symbol kind.End bytes x e = ap kind_in e
of_symbol k bytes x e = ap kind_in e

-- ---- roles

-- of a kind that suits the role there is a token that fits it
pub can_have : (r : RoleValue) (k : Kind) (bytes : List ℕ) → Suits r k bytes → (t : Token) × (symbol_by k bytes ≡ token t) × Fits (role_of r) t
can_have (role.Sign s) k bytes e = (sign s, ap (λ (x : Kind). symbol_by x bytes) e, that_token (sign s))
can_have (role.Number n) k bytes e = (number n, e, that_token (number n))
can_have (role.Letter l) k bytes e = (name (l ∷ []), e, that_token (name (l ∷ [])))
can_have role.Cycles k bytes e = (cycles (cycles_in bytes), ap (λ (x : Kind). symbol_by x bytes) e, some_cycles (cycles_in bytes))
can_have role.Module k bytes e = (name bytes, ap (λ (x : Kind). symbol_by x bytes) e, a_module bytes)
can_have role.Name k bytes e = (name bytes, ap (λ (x : Kind). symbol_by x bytes) e, a_name bytes)
can_have role.Target k bytes e = (name bytes, ap (λ (x : Kind). symbol_by x bytes) e, a_target bytes)
can_have role.High k bytes e = (number (word_in bytes), ap (λ (x : Kind). symbol_by x bytes) e, a_high (word_in bytes))
can_have role.Index k bytes e = (number (word_in bytes), ap (λ (x : Kind). symbol_by x bytes) e, an_index (word_in bytes))
can_have role.Low k bytes e = (number (word_in bytes), ap (λ (x : Kind). symbol_by x bytes) e, a_low (word_in bytes))
can_have role.Count k bytes e = (number (word_in bytes), ap (λ (x : Kind). symbol_by x bytes) e, a_count (word_in bytes))
can_have role.Constant k bytes e =
    (constant (width_in bytes) (value_in bytes), ap (λ (x : Kind). symbol_by x bytes) e, a_constant (width_in bytes) (value_in bytes))
can_have role.Operator (kind.Operator o) bytes h = (operator o, refl, an_operator o)
can_have role.Operator k bytes h = absurd h
can_have role.Use kind.Name bytes h = (name bytes, refl, a_use bytes)
can_have role.Use (kind.Sign NameA) bytes h = (sign NameA, refl, input_a)
can_have role.Use (kind.Sign NameB) bytes h = (sign NameB, refl, input_b)
can_have role.Use (kind.Sign NameC) bytes h = (sign NameC, refl, input_c)
can_have role.Use k bytes h = absurd h

-- a token that fits the role is of a kind that suits it
pub suits : (r : RoleValue) (k : Kind) (bytes : List ℕ) (t : Token) → symbol_by k bytes ≡ token t → Fits (role_of r) t → Suits r k bytes
suits (role.Sign s) k bytes _ e (that_token _) = of_symbol k bytes (token (sign s)) e
suits (role.Number n) k bytes _ e (that_token _) = e
suits (role.Letter l) k bytes _ e (that_token _) = e
suits role.Cycles k bytes _ e (some_cycles n) = of_symbol k bytes (token (cycles n)) e
suits role.Module k bytes _ e (a_module b) = of_symbol k bytes (token (name b)) e
suits role.Name k bytes _ e (a_name b) = of_symbol k bytes (token (name b)) e
suits role.Target k bytes _ e (a_target b) = of_symbol k bytes (token (name b)) e
suits role.High k bytes _ e (a_high n) = of_symbol k bytes (token (number n)) e
suits role.Index k bytes _ e (an_index n) = of_symbol k bytes (token (number n)) e
suits role.Low k bytes _ e (a_low n) = of_symbol k bytes (token (number n)) e
suits role.Count k bytes _ e (a_count n) = of_symbol k bytes (token (number n)) e
suits role.Constant k bytes _ e (a_constant w v) = of_symbol k bytes (token (constant w v)) e
suits role.Operator k bytes _ e (an_operator o) = subst IsOperator (sym (of_symbol k bytes (token (operator o)) e)) tt
suits role.Use k bytes _ e (a_use b) = subst IsUse (sym (of_symbol k bytes (token (name b)) e)) tt
suits role.Use k bytes _ e input_a = subst IsUse (sym (of_symbol k bytes (token (sign NameA)) e)) tt
suits role.Use k bytes _ e input_b = subst IsUse (sym (of_symbol k bytes (token (sign NameB)) e)) tt
suits role.Use k bytes _ e input_c = subst IsUse (sym (of_symbol k bytes (token (sign NameC)) e)) tt
