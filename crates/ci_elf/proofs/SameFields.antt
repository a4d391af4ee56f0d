-- Fields of bytes that agree with other bytes at the places of the fields.
use Rattle.std.proofs.Common.{◌≡◌, ℕ, suc, zero, ◌+◌, ◌<◌, ◌≤◌, List, [], ◌∷◌, length, take, get_or, refl, arith}
use Rattle.byteorder.specs.Endian.{little_from}
use Rattle.ci_elf.specs.Fields.{field}
use Rattle.ci_reading.specs.Broken.{each_below}
use Rattle.ci_elf.specs.Rules.{Within}

-- both lists hold the same in the `size` places from `start` on
abbrev pub AgreeIn : List ℕ → List ℕ → ℕ → ℕ → Type 0
AgreeIn new old start size = (i : ℕ) → Within start size i → get_or new i 0 ≡ get_or old i 0

from_same :
    (new old : List ℕ) (offset n : ℕ) → AgreeIn new old offset n → little_from offset n new ≡ little_from offset n old
from_same new old offset zero same = refl
from_same new old offset (suc n) same =
    let first : get_or new offset 0 ≡ get_or old offset 0 = same offset (omega arith, omega arith) in
    let rest = from_same new old (suc offset) n (λ i w. same i (omega (arith, w.0), omega (arith, w.1))) in
    rw (first, rest) refl

pub field_same :
    (new old : List ℕ) (start size width offset : ℕ) → AgreeIn new old start size → start ≤ offset
    → offset + width ≤ start + size → field width offset new ≡ field width offset old
unfolding field
field_same new old start size width offset same from to =
    from_same new old offset width (λ i w. same i (omega (arith, w.0), omega (arith, w.1)))

pub take_same :
    (n : ℕ) (new old : List ℕ) → n ≤ length new → n ≤ length old → AgreeIn new old 0 n → take n new ≡ take n old
take_same zero new old a b same = refl
take_same (suc n) [] old a b same = absurd (omega arith)
take_same (suc n) (x ∷ new) [] a b same = absurd (omega arith)
take_same (suc n) (x ∷ new) (y ∷ old) a b same =
    let first : x ≡ y = same 0 (omega arith, omega arith) in
    let rest = take_same n new old (omega arith) (omega arith) (λ i w. same (suc i) (omega arith, omega (arith, w.1))) in
    rw (first, rest) refl

pub each_same :
    {A : Type 0} (n : ℕ) (f g : ℕ → List A) → ((k : ℕ) → k < n → f k ≡ g k) → each_below n f ≡ each_below n g
unfolding each_below
each_same zero f g same = refl
each_same (suc n) f g same = rw (each_same n f g (λ k h. same k (omega arith)), same n (omega arith)) refl
