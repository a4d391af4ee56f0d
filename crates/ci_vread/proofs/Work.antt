-- How many phrases and ends are left in front of the next token that is due, at most.
use Rattle.std.proofs.Common.{ℕ, ◌+◌, ◌<◌, List, [], ◌∷◌, ◌++◌, arith}
use Rattle.ci_reading.specs.Tokens.{token, text_end}
use Rattle.ci_vread.specs.declared.tokens.Sign.TheVariants.{InputWord, WireWord, LeftBracket, LeftBrace, Comma, Colon, Question}
use Rattle.ci_vread.specs.Lexicon.{sign, operator, number, constant}
use Rattle.ci_vread.specs.Grammar.{Symbol, Part, reads, ends, made, Phrase, parts_of, units, body, wires, side, others, term, inside, item, items, simple, bits}
use Rattle.ci_vread.specs.Grammar.{range}

-- more than all that the phrase consists of up to its first token
abbrev pub weight : Phrase → ℕ
weight side = 6
weight inside = 4
weight term = 3
weight item = 2
weight others = 2
weight body = 2
weight p = 1

abbrev pub work : List Part → ℕ
work [] = 0
work (reads role ∷ parts) = 0
work (ends what ∷ parts) = 1 + work parts
work (made p ∷ parts) = weight p + work parts

pub falls : (p : Phrase) (next : Symbol) (due : List Part) → work (parts_of p next ++ due) < weight p + work due
falls units text_end due = omega arith
falls units next due = omega arith
falls body (token (sign InputWord)) due = omega arith
falls body next due = omega arith
falls wires (token (sign WireWord)) due = omega arith
falls wires next due = omega arith
falls side next due = omega arith
falls others (token (operator o)) due = omega arith
falls others (token (sign Question)) due = omega arith
falls others next due = omega arith
falls term (token (sign LeftBrace)) due = omega arith
falls term next due = omega arith
falls inside (token (number n)) due = omega arith
falls inside next due = omega arith
falls items (token (sign Comma)) due = omega arith
falls items next due = omega arith
falls item (token (sign LeftBrace)) due = omega arith
falls item next due = omega arith
falls simple (token (constant w v)) due = omega arith
falls simple next due = omega arith
falls bits (token (sign LeftBracket)) due = omega arith
falls bits next due = omega arith
falls range (token (sign Colon)) due = omega arith
falls range next due = omega arith

-- nothing ends in front of the next token that is due
abbrev pub IsQuiet : List Part → Type 0
IsQuiet [] = Unit {0}
IsQuiet (reads role ∷ parts) = Unit {0}
IsQuiet (ends what ∷ parts) = ⊥
IsQuiet (made units ∷ []) = Unit {0}
IsQuiet (made p ∷ parts) = ⊥

pub stays_quiet : (p : Phrase) (next : Symbol) (due : List Part) → IsQuiet (made p ∷ due) → IsQuiet (parts_of p next ++ due)
stays_quiet units text_end [] quiet = tt
stays_quiet units next [] quiet = tt
stays_quiet p next due quiet = absurd quiet
