-- Words that are appended for instructions.
use Rattle.std.proofs.Common.{◌≡◌, ℕ, List, [], ◌∷◌, ◌++◌, refl, sym, subst, append_assoc, append-nil}
use Rattle.ci_isa.specs.declared.instruction.Insn.{Insn}
use Rattle.ci_gen.specs.Programs.{AreWordsOf}
use Rattle.ci_gen.specs.private.Pushed.{AreOnlyWordsOf, ArePushed, IsOnlyWordOf}

-- one word more, for one instruction more
pub one_pushed : (words : List ℕ) (word : ℕ) (insn : Insn) → IsOnlyWordOf word insn → ArePushed words (words ++ word ∷ []) (insn ∷ [])
one_pushed [] word insn one [] all = (one, tt)
one_pushed [] word insn one (i ∷ done) all = absurd all
one_pushed (w ∷ words) word insn one [] all = absurd all
one_pushed (w ∷ words) word insn one (i ∷ done) all = (all.0, one_pushed words word insn one done all.1)

-- none is appended
pub none_pushed : (words : List ℕ) → ArePushed words words []
none_pushed words done all = subst (AreOnlyWordsOf words) (sym (append-nil done)) all

-- some are, and then others
pub pushed_then : (first second third : List ℕ) (insns others : List Insn) → ArePushed first second insns → ArePushed second third others
    → ArePushed first third (insns ++ others)
pushed_then first second third insns others a b done all =
    subst (AreOnlyWordsOf third) (append_assoc done insns others) (b (done ++ insns) (a done all))

-- the words are those of the instructions
pub words_of_pushed : (words : List ℕ) (insns : List Insn) → AreOnlyWordsOf words insns → AreWordsOf words insns
words_of_pushed [] [] all = tt
words_of_pushed [] (i ∷ insns) all = absurd all
words_of_pushed (w ∷ words) [] all = absurd all
words_of_pushed (w ∷ words) (i ∷ insns) all = (all.0.stands, words_of_pushed words insns all.1)

-- and there are no others
pub only_words : (words others : List ℕ) (insns : List Insn) → AreOnlyWordsOf words insns → AreWordsOf others insns → others ≡ words
only_words [] [] insns all other = refl
only_words [] (v ∷ others) [] all other = absurd other
only_words [] (v ∷ others) (i ∷ insns) all other = absurd all
only_words (w ∷ words) [] [] all other = absurd all
only_words (w ∷ words) [] (i ∷ insns) all other = absurd other
only_words (w ∷ words) (v ∷ others) [] all other = absurd all
only_words (w ∷ words) (v ∷ others) (i ∷ insns) all other =
    λ k. all.0.only v other.0 k ∷ only_words words others insns all.1 other.1 k
