-- What the definitions of words of the text give on small texts and on a small file.
use Rattle.std.proofs.Common.{◌≡◌, ℕ, ◌+◌, ◌<◌, ◌≤◌, true, false, List, [], ◌∷◌, Some, None, refl, arith, lit<, lit≤}
use Rattle.std.proofs.lemmas.Bool.Decides.{nat_tests}
use Rattle.ci_elf.specs.declared.ranges.Range.{Range}
use Rattle.ci_elf.specs.declared.segments.Segment.{Segment}
use Rattle.ci_elf.specs.Fields.{field}
use Rattle.ci_elf.specs.Executables.{Executable, executable, in_text, place_of}
use Rattle.ci_elf.specs.TextChanges.{with_word}
use Rattle.ci_elf.specs.TextChanges.{ChangeText, IsTextPlace}
use Rattle.ci_elf.specs.WordPlaces.{word_count, word_place}
use Rattle.ci_elf.proofs.ImageLaws.{loads_between}

-- ---- words and their places

abbrev text : List Range
text = record { start = 0x1000; words = 3 } ∷ record { start = 0x2000; words = 2 } ∷ []

last_byte : in_text text 0x100b ≡ true
last_byte = refl

behind_a_range : in_text text 0x100c ≡ false
behind_a_range = refl

all_words : word_count text ≡ 5
all_words = refl

third_word : word_place text 0x1008 ≡ Some 2
unfolding word_place
third_word = refl

last_word : word_place text 0x2004 ≡ Some 4
unfolding word_place
last_word = refl

between_words : word_place text 0x2002 ≡ None
unfolding word_place
between_words = refl

behind_the_last : word_place text 0x2008 ≡ None
unfolding word_place
behind_the_last = refl

-- ---- words written into a file

abbrev segment : Segment
segment = record { address = 0x1000; memory_size = 16; offset = 4; file_size = 12 }

-- two words of text at place 4, and another word behind them
abbrev sample : Executable
sample = executable (0 ∷ 1 ∷ 2 ∷ 3 ∷ 4 ∷ 5 ∷ 6 ∷ 7 ∷ 8 ∷ 9 ∷ 10 ∷ 11 ∷ 12 ∷ 13 ∷ 14 ∷ 15 ∷ []) 0x1000 (segment ∷ [])
    (record { start = 0x1000; words = 2 } ∷ []) []

abbrev written : List ℕ
written = 0 ∷ 1 ∷ 2 ∷ 3 ∷ 4 ∷ 5 ∷ 6 ∷ 7 ∷ 0x0a ∷ 0x0b ∷ 0x0c ∷ 0x0d ∷ 12 ∷ 13 ∷ 14 ∷ 15 ∷ []

second_word : with_word sample.bytes (place_of sample.segments 0x1004) 0x0d0c0b0a ≡ written
unfolding place_of
second_word = refl

read_back : field 4 (place_of sample.segments 0x1004) written ≡ 0x0d0c0b0a
unfolding place_of field
read_back = refl

last_place : IsTextPlace sample 11
unfolding place_of
last_place = (0x1004, (refl, refl), (lit≤ tt, lit< tt))

place_behind : ¬ IsTextPlace sample 12
unfolding place_of
place_behind (address, (aligned, held), within) =
    let from : 0x1000 ≤ address = grind (arith, nat_tests) in
    let to : address < 0x1008 = grind (arith, nat_tests) in
    let loads = loads_between segment address from (omega arith) in
    let place = rw loads at within in
    omega (arith, aligned, place.0, place.1)

-- a byte that is none of the text may not change
other_byte : ¬ ChangeText sample (0 ∷ 1 ∷ 2 ∷ 3 ∷ 4 ∷ 5 ∷ 6 ∷ 7 ∷ 8 ∷ 9 ∷ 10 ∷ 11 ∷ 99 ∷ 13 ∷ 14 ∷ 15 ∷ [])
other_byte change = let same = change.same_else 12 place_behind in cc

-- ---- text that is loaded

-- the sample, and a second segment that loads the same bytes of the file to 5000
abbrev twice : Executable
twice = record sample { segments = segment ∷ record segment { address = 0x5000 } ∷ [] }

-- The last byte of the second word is loaded to the text by the first segment, and by the second one, which shares the
-- text and so breaks a rule, to no text.
loaded_once : IsTextPlace sample (segment.offset + 7) × (in_text sample.ranges (segment.address + 7) ≡ true)
unfolding place_of
loaded_once = ((0x1004, (refl, refl), (lit≤ tt, lit< tt)), refl)

loaded_twice : IsTextPlace twice (segment.offset + 7) × (in_text twice.ranges (0x5000 + 7) ≡ false)
unfolding place_of
loaded_twice = ((0x1004, (refl, refl), (lit≤ tt, lit< tt)), refl)
