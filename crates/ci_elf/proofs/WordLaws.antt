-- Words that stand in the bytes of a file, one after the other.
use Rattle.std.proofs.Common.{◌≡◌, ℕ, suc, zero, ◌+◌, ◌*◌, ◌<◌, ◌^◌, List, [], ◌∷◌, ◌++◌, length, get_or, refl, ◌∙◌, arith, length-append, add-suc}
use Rattle.std.proofs.lemmas.List.{get_or-append-add, get_or_append_left}
use Rattle.byteorder.specs.Endian.{little_bytes, little_from}
use Rattle.byteorder.specs.Numbers.{little_number-reads_back}
use Rattle.ci_elf.specs.Fields.{field}
use Rattle.ci_elf.specs.Frames.{words}

pub length_words : (numbers : List ℕ) → length (words numbers) ≡ 4 * length numbers
length_words [] = refl
length_words (n ∷ numbers) = omega (arith, length_words numbers)

-- bytes in front move the places on
pub from_behind :
    (front rest : List ℕ) (place n : ℕ)
    → little_from (length front + place) n (front ++ rest) ≡ little_from place n rest
from_behind front rest place zero = refl
from_behind front rest place (suc n) =
    rw (get_or-append-add front rest place 0, ← add-suc (length front) place, from_behind front rest (suc place) n) refl

word_of :
    (numbers : List ℕ) (k : ℕ) → k < length numbers → get_or numbers k 0 < 2 ^ 32
    → little_from (4 * k) 4 (words numbers) ≡ get_or numbers k 0
word_of [] k below small = absurd (omega arith)
word_of (n ∷ numbers) zero below small = little_number-reads_back 4 n (words numbers) small
word_of (n ∷ numbers) (suc k) below small =
    let place : 4 * suc k ≡ 4 + 4 * k = omega arith in
    rw place (from_behind (little_bytes 4 n) (words numbers) (4 * k) 4 ∙ word_of numbers k (omega arith) small)

-- the numbers stand at the place, where those of them that fit a word can be read
abbrev pub StandAt : List ℕ → ℕ → List ℕ → Type 0
StandAt bytes place numbers =
    (k : ℕ) → k < length numbers → get_or numbers k 0 < 2 ^ 32 → field 4 (place + 4 * k) bytes ≡ get_or numbers k 0

pub words_stand : (front numbers : List ℕ) → StandAt (front ++ words numbers) (length front) numbers
unfolding field
words_stand front numbers k below small =
    from_behind front (words numbers) (4 * k) 4 ∙ word_of numbers k below small

module _ (bytes : List ℕ) (place : ℕ) (front behind : List ℕ) (stand : StandAt bytes place (front ++ behind)) where
  pub words_in_front : StandAt bytes place front
  words_in_front k below small =
      let same = get_or_append_left front behind 0 k below in
      stand k (omega (arith, length-append front behind)) (rw same small) ∙ same

  pub words_behind : StandAt bytes (place + 4 * length front) behind
  words_behind k below small =
      let same = get_or-append-add front behind k 0 in
      let there : place + 4 * length front + 4 * k ≡ place + 4 * (length front + k) = omega arith in
      rw there (stand (length front + k) (omega (arith, length-append front behind)) (rw same small) ∙ same)

pub words_inside :
    (bytes : List ℕ) (place : ℕ) (front numbers behind : List ℕ) → StandAt bytes place (front ++ (numbers ++ behind))
    → StandAt bytes (place + 4 * length front) numbers
words_inside bytes place front numbers behind stand =
    words_in_front bytes (place + 4 * length front) numbers behind
    (words_behind bytes place front (numbers ++ behind) stand)
