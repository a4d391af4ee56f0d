-- The first fault of a text that spells no log book.
use Rattle.std.specs.Prelude.{◌≡◌, ◌≢◌, ℕ, List, [], ◌∷◌, ◌++◌, length, ◌⊎◌, Result, Err}
use Rattle.std.specs.List.{flat_map}
use Rattle.ci_reading.specs.Lines.{line}
use Rattle.ci_log.specs.declared.book.Entry.{Entry}
use Rattle.ci_log.specs.declared.book.Entry.TheVariants.{Best, Without, Spent, Take}
use Rattle.ci_log.specs.declared.book.Version.{Version}
use Rattle.ci_log.specs.declared.faults.LogFault.{LogFault}
use Rattle.ci_log.specs.declared.faults.LogFault.TheVariants.{BadHeader, BadItem, Unfinished, Trailing, NoMemory}
use Rattle.ci_log.specs.Books.{Book, IsBook, Spells, entry_text, first_line}

-- the text of some book goes on from these bytes
pub record IsFront (bytes : List ℕ) : Type 0 where
  pub book : Book
  pub more : List ℕ
  pub spells : Spells (bytes ++ more) book

-- the entry has a tree
abbrev pub HasTree : Entry → Type 0
HasTree (Best leader cut log) = Unit {0}
HasTree (Without leader log) = Unit {0}
HasTree (Spent leader budget) = ⊥
HasTree (Take leader unit) = ⊥

-- the bytes are those of some book up to the last byte of a tree: its newline would complete the entry
pub record EndsTree (bytes : List ℕ) : Type 0 where
  pub version : Version
  pub book : Book
  pub is_book : IsBook book
  pub before : List Entry
  pub entry : Entry
  pub after : List Entry
  pub stands : book.entries ≡ before ++ entry ∷ after
  pub has_tree : HasTree entry
  pub is_text : line bytes ≡ first_line version ++ (flat_map (entry_text version) before ++ entry_text version entry)

-- the bytes spell some book
abbrev pub IsWhole : List ℕ → Type 0
IsWhole bytes = (book : Book) × Spells bytes book

-- directly behind these bytes stand a tree's newline alone, or nothing
abbrev pub IsTrailing : List ℕ → ℕ → Type 0
IsTrailing front byte = (EndsTree front × (byte ≢ 10)) ⊎ IsWhole front

-- the text differs from the line in a byte that both have
pub record Differs (text due_line : List ℕ) : Type 0 where
  pub front : List ℕ
  pub byte : ℕ
  pub rest : List ℕ
  pub due : ℕ
  pub others : List ℕ
  pub is_text : text ≡ front ++ byte ∷ rest
  pub is_line : due_line ≡ front ++ due ∷ others
  pub differs : byte ≢ due

-- The text has this fault. Offsets count from 0.
pub data HasFault (text : List ℕ) : LogFault → Type 0 where
  -- a byte that differs from the first line's, in each version
  bad_header : ((version : Version) → Differs text (first_line version)) → HasFault text BadHeader
  -- a book's text without its end
  unfinished : (book : Book) (byte : ℕ) (more : List ℕ) → Spells (text ++ byte ∷ more) book → HasFault text Unfinished
  -- a byte other than a newline behind a whole tree, and any byte behind the finish
  trailing : (front rest : List ℕ) (byte : ℕ)
      → text ≡ front ++ byte ∷ rest → IsTrailing front byte → HasFault text (Trailing (length front))
  -- any other byte behind the first line with which no book goes on, where one goes on before it
  bad_item : (version : Version) (front rest others : List ℕ) (byte : ℕ)
      → text ≡ front ++ byte ∷ rest → front ≡ first_line version ++ others → IsFront front
      → ¬ IsFront (front ++ byte ∷ []) → ¬ IsTrailing front byte → HasFault text (BadItem (length front))

-- the fault is the text's, or memory ran out
abbrev pub IsFaultOf : List ℕ → LogFault → Type 0
IsFaultOf text BadHeader = HasFault text BadHeader
IsFaultOf text (BadItem offset) = HasFault text (BadItem offset)
IsFaultOf text Unfinished = HasFault text Unfinished
IsFaultOf text (Trailing offset) = HasFault text (Trailing offset)
IsFaultOf text NoMemory = Unit {0}

-- the answer, or memory ran out
abbrev pub Answers : Result Book LogFault → Result Book LogFault → Type 0
Answers answer given = (given ≡ answer) ⊎ (given ≡ Err NoMemory)
