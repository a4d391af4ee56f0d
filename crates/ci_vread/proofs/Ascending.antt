-- The symbols of a text stand one behind the other.
use Rattle.std.proofs.Common.{ℕ, ◌+◌, ◌<◌, List, [], ◌∷◌, ◌++◌, length, length-append, arith}
use Rattle.ci_reading.specs.Tokens.{AreSymbols, behind_blank, behind_token, at_end, at_comment, at_stray_byte}
use Rattle.ci_verilog.specs.declared.expressions.Operator.{Operator}
use Rattle.ci_verilog.specs.declared.expressions.Operator.TheVariants.{Left}
use Rattle.ci_vread.specs.declared.tokens.Sign.{Sign}
use Rattle.ci_vread.specs.declared.tokens.Sign.TheVariants.{ModuleWord, InputWord, OutputWord, WireWord, AssignWord, EndModuleWord}
use Rattle.ci_vread.specs.Lexicon.{Token, Spells, of_sign, of_operator, of_name, of_number, of_constant, of_cycles, long_name, bad_number, bad_constant}
use Rattle.ci_vread.specs.Lexicon.{spelling, operator_spelling, constant_spelling, AreLetters, unit_format}
use Rattle.ci_vread.specs.Grammar.{Placed}
use Rattle.ci_vread.specs.private.Led.{AscendFrom}
use Rattle.ci_vread.proofs.CheckerAnswers.{ascend_less}
use Rattle.ci_vread.proofs.Numbers.{number_good}

some_sign : (s : Sign) → 0 < length (spelling s)
some_sign ModuleWord = omega arith
some_sign InputWord = omega arith
some_sign OutputWord = omega arith
some_sign WireWord = omega arith
some_sign AssignWord = omega arith
some_sign EndModuleWord = omega arith
some_sign s = omega arith

some_operator : (o : Operator) → 0 < length (operator_spelling o)
some_operator Left = omega arith
some_operator o = omega arith

some_letters : (bytes : List ℕ) → AreLetters bytes → 0 < length bytes
some_letters [] letters = absurd letters
some_letters (c ∷ bytes) letters = omega arith

some_constant : (width digits : List ℕ) → 0 < length (constant_spelling width digits)
some_constant width digits = omega (arith, length-append (width ++ (39 ∷ 104 ∷ [])) digits, length-append width (39 ∷ 104 ∷ []))

-- no token is empty
some_bytes : {bytes : List ℕ} {t : Token} → Spells bytes t → 0 < length bytes
some_bytes (of_sign s) = some_sign s
some_bytes (of_operator o) = some_operator o
some_bytes (of_name {bytes} letters other few) = some_letters bytes letters
some_bytes (of_number {digits} {n} is) = (number_good digits n is).numeral.0
some_bytes (of_constant {width} digits is numeral few) = some_constant width digits
some_bytes (of_cycles {digits} is) = omega (arith, length-append (47 ∷ 47 ∷ 32 ∷ 99 ∷ 121 ∷ 99 ∷ 108 ∷ 101 ∷ 115 ∷ 32 ∷ digits) (10 ∷ []))
some_bytes (long_name {bytes} letters long) = some_letters bytes letters
some_bytes (bad_number {digits} numeral other) = numeral.0
some_bytes (bad_constant {width} digits numeral others bad) = some_constant width digits

pub ascends : {n : ℕ} {text : List ℕ} {symbols : List Placed} → AreSymbols unit_format n text symbols → AscendFrom n symbols
ascends {n} {symbols = symbols} (behind_blank blank more) = ascend_less n (n + 1) symbols (omega arith) (ascends more)
ascends {n} (behind_token {bytes = bytes} {symbols = symbols} longest more) =
    let some : 0 < length bytes = some_bytes longest.begins.spells in
    (omega arith, ascend_less (n + 1) (n + length bytes) symbols (omega arith) (ascends more))
ascends at_end = (omega arith, tt)
ascends (at_comment begins) = (omega arith, tt)
ascends (at_stray_byte blank comment none) = (omega arith, tt)
