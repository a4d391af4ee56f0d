-- Rules on each two headers, tested by a part for each header: the rule is kept where the two parts share no place.
use Rattle.std.proofs.Common.{◌≡◌, ◌≢◌, ℕ, ◌+◌, ◌<◌, ◌≤◌, min, max, List, [], ◌∷◌, ◌++◌, length, get_or, sym, ◌∙◌, ap, arith}
use Rattle.ci_elf.specs.declared.parts.Part.{Part}
use Rattle.ci_elf.specs.declared.faults.ElfFault.{ElfFault}
use Rattle.ci_elf.specs.declared.faults.ElfFault.TheVariants.{NoMemory}
use Rattle.ci_elf.specs.private.Parts.{Overlap, AreApart, AreApartAt, IsFirstOverlap, parts_below}
use Rattle.ci_reading.specs.Broken.{each_below}
use Rattle.ci_elf.specs.Rules.{Rule, Holds, fault_of, KeepsRules, BreaksFirst}
use Rattle.ci_reading.proofs.BrokenLaws.{kept_each, each_below_more, length_singles, singles_at}
use Rattle.ci_elf.proofs.CheckLaws.{fault_each, fault_here}
use Rattle.ci_elf.proofs.PartLaws.{no_part}

-- one part more
pub parts_step : (f : ℕ → Part) (n : ℕ) (parts : List Part) (p : Part) → parts ≡ parts_below n f → p ≡ f n → parts ++ p ∷ [] ≡ parts_below (n + 1) f
parts_step f n parts p same is = rw (same, is) (sym (each_below_more n (λ k. f k ∷ [])))

pub parts_count : (f : ℕ → Part) (count : ℕ) (parts : List Part) → parts ≡ parts_below count f → length parts ≡ count
parts_count f count parts are = ap length are ∙ length_singles f count

pub part_is : (f : ℕ → Part) (count : ℕ) (parts : List Part) → parts ≡ parts_below count f → (k : ℕ) → k < count → get_or parts k no_part ≡ f k
part_is f count parts are k h = ap (λ l. get_or l k no_part) are ∙ singles_at f count k no_part h

module _ (bytes : List ℕ) (rule_of : ℕ → ℕ → Rule) (part_of : ℕ → Part) (count : ℕ) (parts : List Part) where
  module _ (many : length parts ≡ count) (at : (k : ℕ) → k < count → get_or parts k no_part ≡ part_of k) where
    apart_at : (m n : ℕ) → m < n → n < count → AreApartAt parts m n → min (part_of m).end (part_of n).end ≤ max (part_of m).start (part_of n).start
    apart_at m n h l apart = rw (at m (omega arith), at n l) at (apart no_part)

    pub pairs_kept :
        ((m n : ℕ) → m < n → n < count → min (part_of m).end (part_of n).end ≤ max (part_of m).start (part_of n).start → Holds bytes (rule_of m n))
        → AreApart parts → KeepsRules bytes (each_below count (λ n. each_below n (λ m. rule_of m n ∷ [])))
    pairs_kept kept apart =
        kept_each (Holds bytes) count (λ n. each_below n (λ m. rule_of m n ∷ [])) (λ n l.
        kept_each (Holds bytes) n (λ m. rule_of m n ∷ []) (λ m h.
        (kept m n h l (apart_at m n h l (λ d. apart m n d h (omega (arith, many)))), tt)))

    pub pairs_broken :
        ((m n : ℕ) → m < n → n < count → min (part_of m).end (part_of n).end ≤ max (part_of m).start (part_of n).start → Holds bytes (rule_of m n))
        → ((m n : ℕ) → m < n → n < count → Overlap (part_of m) (part_of n) → ¬ Holds bytes (rule_of m n))
        → (m n : ℕ) (fault : ElfFault) → fault ≡ fault_of bytes (rule_of m n) → IsFirstOverlap parts m n
        → fault ≢ NoMemory → BreaksFirst bytes (each_below count (λ n. each_below n (λ m. rule_of m n ∷ []))) fault
    pairs_broken kept broken m n fault is first =
        let below : n < count = omega (arith, first.within, many) in
        let overlap : Overlap (part_of m) (part_of n) = rw (at m (omega (arith, first.order)), at n below) at (first.overlap no_part) in
        fault_each bytes count n (λ k. each_below k (λ j. rule_of j k ∷ [])) fault below
        (λ k l. kept_each (Holds bytes) k (λ j. rule_of j k ∷ []) (λ j h.
        (kept j k h (omega arith) (apart_at j k h (omega arith) (first.apart_before j k h l)), tt)))
        (fault_each bytes n m (λ j. rule_of j n ∷ []) fault first.order
        (λ j h. (kept j n (omega (arith, first.order)) below (apart_at j n (omega (arith, first.order)) below (first.apart_from j h)), tt))
        (fault_here bytes (rule_of m n) [] fault (broken m n first.order below overlap) is))
