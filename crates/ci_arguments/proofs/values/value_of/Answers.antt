-- A text that is no word of 32 bits.
use Rattle.std.proofs.Common.{ℕ}
use Rattle.ci_arguments.specs.Words.{IsWord, Says, Text, Value, word}
use Rattle.ci_arguments.specs.declared.tables.Kind.TheVariants as kind
use Rattle.ci_arguments.proofs.values.value_of.Goals as goal

says_none : (text : Text) → ((n : ℕ) → IsWord text n → ⊥) → (value : Value) → Says kind.Word text value → ⊥
says_none text none (word n) is = none n is
says_none text none value is = is

pub returns-in_err-n-in-Word-clause-none : goal.returns-in_err-n-in-Word-clause-none
returns-in_err-n-in-Word-clause-none c =
    rw c.from_residual-in_err-n-in-Word.ensures (rw c.in-Word.is (says_none c.args.text.now c.in_err-n-in-Word.ensures.none))
