-- Log books, and the text of each in each version.
use Rattle.std.specs.Prelude.{◌≡◌, ℕ, ◌<◌, ◌≤◌, ◌^◌, List, [], ◌∷◌, ◌++◌, codes, IsTrue}
use Rattle.std.specs.List.{flat_map, AllByRecursion}
use Rattle.std.specs.Fmt.{decimal}
use Rattle.std.specs.Ordering.{nat_cmp}
use Rattle.std.specs.FinSet as set
use Rattle.ci_reading.specs.Hex.{eight_hex_digits}
use Rattle.ci_reading.specs.Lines.{line}
use Rattle.ci_word.specs.Members.{members_text}
use Rattle.ci_log.specs.declared.log.Item.{Item}
use Rattle.ci_log.specs.declared.book.Entry.{Entry}
use Rattle.ci_log.specs.declared.book.Entry.TheVariants.{Best, Without, Spent, Take}
use Rattle.ci_log.specs.declared.book.Finish.{Finish}
use Rattle.ci_log.specs.declared.book.Finish.TheVariants.{Empty, Count}
use Rattle.ci_log.specs.declared.book.Version.{Version}
use Rattle.ci_log.specs.declared.book.Version.TheVariants.{One, Two}
use Rattle.ci_log.specs.Trees.{IsLog, letters}
use Rattle.ci_log.specs.Packed.{packed}

-- ---- books

-- a set of node numbers that isn't empty
pub record IsCut (cut : set.FinSet nat_cmp) : Type 0 where
  pub node : ℕ
  pub has_node : IsTrue (set.contains cut node)
  pub below : (k : ℕ) → IsTrue (set.contains cut k) → k < 256

abbrev pub IsEntry : Entry → Type 0
IsEntry (Best leader cut log) = (leader < 2 ^ 32) × IsCut cut × IsLog log
IsEntry (Without leader log) = (leader < 2 ^ 32) × IsLog log
IsEntry (Spent leader budget) = (leader < 2 ^ 32) × (budget ≤ 9999999)
IsEntry (Take leader unit) = (leader < 2 ^ 32) × (unit < 32)

-- each entry but a take
abbrev pub IsSearch : Entry → Type 0
IsSearch (Best leader cut log) = Unit {0}
IsSearch (Without leader log) = Unit {0}
IsSearch (Spent leader budget) = Unit {0}
IsSearch (Take leader unit) = ⊥

-- takes, each with the search that follows it
abbrev pub AreRounds : List Entry → Type 0
AreRounds [] = Unit {0}
AreRounds (Take leader unit ∷ []) = ⊥
AreRounds (Take leader unit ∷ search ∷ entries) = IsSearch search × AreRounds entries
AreRounds (search ∷ entries) = ⊥

pub record AreInOrder (entries : List Entry) : Type 0 where
  pub searches : List Entry
  pub rounds : List Entry
  pub is_split : entries ≡ searches ++ rounds
  pub are_searches : AllByRecursion IsSearch searches
  pub are_rounds : AreRounds rounds

pub record Book : Type 0 where
  pub entries : List Entry
  pub finish : Finish

pub record IsBook (book : Book) : Type 0 where
  pub are_entries : AllByRecursion IsEntry book.entries
  pub in_order : AreInOrder book.entries

-- ---- texts

-- a log in a book of the version
abbrev pub log_text : Version → List Item → List ℕ
log_text One log = letters log
log_text Two log = packed log

-- an entry's first line
abbrev pub entry_head : Entry → List ℕ
entry_head (Best leader cut log) =
    line (codes "block " ++ eight_hex_digits leader ++ codes " best" ++ members_text (set.contains cut))
entry_head (Without leader log) = line (codes "block " ++ eight_hex_digits leader ++ codes " none")
entry_head (Spent leader budget) = line (codes "block " ++ eight_hex_digits leader ++ codes " spent " ++ decimal budget)
entry_head (Take leader unit) = line (codes "take " ++ eight_hex_digits leader ++ codes " unit " ++ decimal unit)

abbrev pub entry_text : Version → Entry → List ℕ
entry_text version (Best leader cut log) = entry_head (Best leader cut log) ++ line (log_text version log)
entry_text version (Without leader log) = entry_head (Without leader log) ++ line (log_text version log)
entry_text version entry = entry_head entry

abbrev pub finish_text : Finish → List ℕ
finish_text Empty = line (codes "end none")
finish_text Count = line (codes "end count")

abbrev pub first_line : Version → List ℕ
first_line One = line (codes "ci-log 1")
first_line Two = line (codes "ci-log 2")

abbrev pub book_text : Version → Book → List ℕ
book_text version book = first_line version ++ (flat_map (entry_text version) book.entries ++ finish_text book.finish)

-- the bytes spell the book in this version
pub record SpellsIn (version : Version) (bytes : List ℕ) (book : Book) : Type 0 where
  pub is_book : IsBook book
  pub is_text : bytes ≡ book_text version book

-- the bytes spell the book
pub record Spells (bytes : List ℕ) (book : Book) : Type 0 where
  pub version : Version
  pub spells : SpellsIn version bytes book
