-- For private contracts: parts of a file or of memory.
use Rattle.std.specs.Prelude.{◌≡◌, ℕ, ◌+◌, ◌-◌, ◌*◌, ◌^◌, ◌<◌, ◌≤◌, min, max, if◌then◌else◌, IsTrue, List, [], ◌∷◌}
use Rattle.std.specs.Prelude.{◌++◌, length}
use Rattle.std.specs.List.{AllPairs}
use Rattle.std.specs.List.Sorted.{IsNonDecreasingBy}
use Rattle.std.specs.Prelude.{slice_index_or}
use Rattle.ci_elf.specs.declared.parts.Part.{Part}
use Rattle.ci_elf.specs.Fields.{e_phoff, e_phnum, e_shoff, e_shnum, is_loadable, p_vaddr, p_memsz, p_offset, p_filesz}
use Rattle.ci_elf.specs.Fields.{is_text, is_symbol_table, sh_offset, sh_size}
use Rattle.ci_reading.specs.Broken.{each_below}

abbrev pub part : ℕ → ℕ → Part
part start size = record { start = start; end = start + size }

-- the two parts share a place
abbrev pub Overlap : Part → Part → Type 0
Overlap p q = max p.start q.start < min p.end q.end

-- The whole has the places of the part, and those of the other one, and goes no further than these two.
pub record IsWidened (p other whole : Part) : Type 0 where
  pub start : whole.start ≤ p.start
  pub end : p.end ≤ whole.end
  pub from : other.start < other.end → whole.start ≤ other.start
  pub to : other.start < other.end → other.end ≤ whole.end
  pub last : (end : ℕ) → p.end ≤ end → (other.start < other.end → other.end ≤ end) → whole.end ≤ end

-- no two of the parts share a place
abbrev pub AreApart : List Part → Type 0
AreApart parts = AllPairs (λ p q. min p.end q.end ≤ max p.start q.start) parts

-- parts m and n of the list share a place
abbrev pub OverlapAt : List Part → ℕ → ℕ → Type 0
OverlapAt parts m n = (d : Part) → Overlap (slice_index_or parts m d) (slice_index_or parts n d)

-- parts m and n of the list share none
abbrev pub AreApartAt : List Part → ℕ → ℕ → Type 0
AreApartAt parts m n =
    (d : Part)
    → min (slice_index_or parts m d).end (slice_index_or parts n d).end
    ≤ max (slice_index_or parts m d).start (slice_index_or parts n d).start

-- Parts m and n share a place, no two parts before n do, and none before m does with n.
pub record IsFirstOverlap (parts : List Part) (m n : ℕ) : Type 0 where
  pub order : m < n
  pub within : n < length parts
  pub overlap : OverlapAt parts m n
  pub apart_before : (i j : ℕ) → i < j → j < n → AreApartAt parts i j
  pub apart_from : (i : ℕ) → i < m → AreApartAt parts i n

-- ---- what parts cover

-- part k of the list, and past its end a part without places
abbrev pub part_at : List Part → ℕ → Part
part_at parts k = slice_index_or parts k (record { start = 0; end = 0 })

-- some part has the place
abbrev pub Covers : List Part → ℕ → Type 0
Covers parts place = (k : ℕ) × ((part_at parts k).start ≤ place) × (place < (part_at parts k).end)

-- starts and ends rise
pub record IsRising (parts : List Part) : Type 0 where
  pub starts : IsNonDecreasingBy (λ p. p.start) parts
  pub ends : IsNonDecreasingBy (λ p. p.end) parts
  pub filled : (k : ℕ) → k < length parts → (part_at parts k).start < (part_at parts k).end

-- the coverage covers the places that the parts cover, by rising parts
pub record IsCoverage (parts coverage : List Part) : Type 0 where
  pub covered : (place : ℕ) → Covers parts place → Covers coverage place
  pub covers : (place : ℕ) → Covers coverage place → Covers parts place
  pub rising : IsRising coverage

-- `next` is the first place from `place` on that is covered, or no place from there on is, and `next` is the greatest
-- number of 64 bits
pub record IsNext (coverage : List Part) (place next : ℕ) : Type 0 where
  pub behind : place ≤ next
  pub first : (x : ℕ) → place ≤ x → x < next → ¬ (Covers coverage x)
  pub covered : next < 2 ^ 64 - 1 → Covers coverage next

-- ---- parts by number

abbrev pub nothing : Part
nothing = part 0 0

-- the memory of segment n, and nothing where it isn't loadable
abbrev pub memory_of : List ℕ → ℕ → Part
memory_of bytes n = if is_loadable bytes n then part (p_vaddr bytes n) (p_memsz bytes n) else nothing

-- the parts of the numbers below n
abbrev pub parts_below : ℕ → (ℕ → Part) → List Part
parts_below n f = each_below n (λ k. f k ∷ [])

-- the file part of section n where it is text, and nothing where it isn't
abbrev pub text_of : List ℕ → ℕ → Part
text_of bytes n = if is_text bytes n then part (sh_offset bytes n) (sh_size bytes n) else nothing

-- the file part of section n where it is a symbol table, and nothing where it isn't
abbrev pub symbols_at : List ℕ → ℕ → Part
symbols_at bytes n = if is_symbol_table bytes n then part (sh_offset bytes n) (sh_size bytes n) else nothing

-- the file header, the tables of headers and the symbol tables
abbrev pub tables_of : List ℕ → List Part
tables_of bytes =
    (part 0 52 ∷ part (e_phoff bytes) (32 * e_phnum bytes) ∷ part (e_shoff bytes) (40 * e_shnum bytes) ∷ [])
    ++ parts_below (e_shnum bytes) (symbols_at bytes)

-- section n is the first whose text meets that of an earlier one, or there are n sections and none does
pub record IsFirstMeeting (bytes : List ℕ) (n : ℕ) : Type 0 where
  pub within : n ≤ e_shnum bytes
  pub apart :
      (j k : ℕ) → j < k → k < n
      → min (text_of bytes j).end (text_of bytes k).end ≤ max (text_of bytes j).start (text_of bytes k).start
  pub meets : n < e_shnum bytes → (m : ℕ) × (m < n) × Overlap (text_of bytes m) (text_of bytes n)

-- the file part of segment n from its first byte of text on, and nothing where it isn't loadable
pub record IsPartFromText (bytes : List ℕ) (texts : List Part) (n : ℕ) (p : Part) : Type 0 where
  pub end : IsTrue (is_loadable bytes n) → p.end ≡ p_offset bytes n + p_filesz bytes n
  pub start : IsTrue (is_loadable bytes n) → IsNext texts (p_offset bytes n) p.start
  pub none : ¬ IsTrue (is_loadable bytes n) → p ≡ nothing

-- such parts of the segments below `count`
pub record ArePartsFromText (bytes : List ℕ) (texts : List Part) (count : ℕ) (parts : List Part) : Type 0 where
  pub many : length parts ≡ count
  pub each : (k : ℕ) → k < count → IsPartFromText bytes texts k (part_at parts k)
