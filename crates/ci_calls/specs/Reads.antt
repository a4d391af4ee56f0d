-- For every reader: the reads of a command, over every shelf: its files are read in order, each once and by its name,
-- up to the first that is refused.
use Rattle.std.specs.Prelude.{◌≡◌, ℕ, ◌≤◌, ◌⊎◌, ⊤, Bool, List, [], ◌∷◌, ◌++◌, length, Option, Result, Ok, Err}
use Rattle.ci_io.specs.declared.shelves.ShelfErr.TheVariants as shelf
use Rattle.ci_io.specs.CallLists.{Answer, Call, read}
use Rattle.ci_io.specs.MadeCalls.{AreMade}
use Rattle.ci_io.specs.Outcomes.{ShelfState}
use Rattle.ci_calls.specs.declared.refusals.Refusal.{Refusal}
use Rattle.ci_calls.specs.declared.refusals.Refusal.TheVariants.{Read, TooLarge, NoMemory}
use Rattle.ci_calls.specs.declared.success.Success.{Success}
use Rattle.ci_calls.specs.Files.{optional_input, optional_bytes, AreGiven}
use Rattle.ci_calls.specs.Forms.{IsWellFormed, IsMalformed}
use Rattle.ci_calls.specs.Inputs.{Input}

-- ---- what the reads answer

-- nothing is wrong with the bytes of the file
pub record IsFit (input : Input) (bytes : List ℕ) : Type 0 where
  pub within_limit : length bytes ≤ input.limit
  pub well_formed : IsWellFormed input.form bytes

-- nothing is wrong with the bytes of all the files, by place
abbrev pub AreFit : List Input → List (List ℕ) → Type 0
AreFit [] [] = ⊤
AreFit [] (bytes ∷ answered) = ⊥
AreFit (input ∷ inputs) [] = ⊥
AreFit (input ∷ inputs) (bytes ∷ answered) = IsFit input bytes × AreFit inputs answered

-- the reads of the files that answered these bytes, by place
abbrev pub reads_of : List Input → List (List ℕ) → List Call
reads_of [] answered = []
reads_of (input ∷ inputs) [] = []
reads_of (input ∷ inputs) (bytes ∷ answered) = read input.name input.limit (Ok bytes) ∷ reads_of inputs answered

-- The refusal of a file by what its read answered: its bytes are malformed, or memory ran out for what they say; it
-- isn't there, or reading it failed; it is longer than its limit; or memory ran out for its bytes.
abbrev pub IsRefusedAs : Input → Answer → Refusal → Type 0
IsRefusedAs input (Ok bytes) refusal =
    (length bytes ≤ input.limit) × (IsMalformed input.form bytes refusal ⊎ (refusal ≡ NoMemory))
IsRefusedAs input (Err shelf.Absent) (Read name) = name.now ≡ input.name
IsRefusedAs input (Err shelf.Fault) (Read name) = name.now ≡ input.name
IsRefusedAs input (Err shelf.TooLarge) (TooLarge name) = name.now ≡ input.name
IsRefusedAs input (Err shelf.NoMemory) NoMemory = ⊤
IsRefusedAs input answer refusal = ⊥

-- The reads of a command that doesn't come to its files' bytes, and the refusal: one file is refused, nothing is wrong
-- with those before it, and none behind it is read; or memory runs out before a read or behind the last one.
pub data AreStoppedReads : List Input → List Call → Refusal → Type 0 where
  out_of_memory : (inputs : List Input) → AreStoppedReads inputs [] NoMemory
  refused :
      (input : Input) (inputs : List Input) (answer : Answer) (refusal : Refusal) → IsRefusedAs input answer refusal →
      AreStoppedReads (input ∷ inputs) (read input.name input.limit answer ∷ []) refusal
  one_more :
      (input : Input) (inputs : List Input) (bytes : List ℕ) (calls : List Call) (refusal : Refusal) →
      IsFit input bytes → AreStoppedReads inputs calls refusal →
      AreStoppedReads (input ∷ inputs) (read input.name input.limit (Ok bytes) ∷ calls) refusal

-- ---- what is known of a shelf, of which names a read and a write of it may fail, before the reads and after them

module _ (read_may_fail write_may_fail : List ℕ → Bool) (before after : ShelfState) where
  -- the files were read, all of them, and these are their bytes
  pub record HaveRead (inputs : List Input) (answered : List (List ℕ)) : Type 0 where
    pub fit : AreFit inputs answered
    pub made : AreMade read_may_fail write_may_fail before after (reads_of inputs answered)

  -- the files were not all read, or memory ran out behind that, for this refusal
  pub record HaveNotRead (inputs : List Input) (refusal : Refusal) : Type 0 where
    pub calls : List Call
    pub stopped : AreStoppedReads inputs calls refusal
    pub made : AreMade read_may_fail write_may_fail before after calls

  -- ---- readers

  -- The answer of a reader of one file: a value that its bytes say, or a refusal, whatever files come after it.
  abbrev pub IsReadingOf : {T : Type 0} → Input → Result T Refusal → (List ℕ → T → Type 0) → Type 0
  IsReadingOf input (Ok value) Says = (bytes : List ℕ) × HaveRead (input ∷ []) (bytes ∷ []) × Says bytes value
  IsReadingOf input (Err refusal) Says = (others : List Input) → HaveNotRead (input ∷ others) refusal

  -- the answer of a reader of a file that an option may name
  abbrev pub IsOptionalReadingOf :
      {T : Type 0} → (List ℕ → Input) → Option (List ℕ) → Result T Refusal → (Option (List ℕ) → T → Type 0) → Type 0
  IsOptionalReadingOf input name (Ok value) Says =
      (bytes : Option (List ℕ)) × AreGiven name bytes × HaveRead (optional_input input name) (optional_bytes bytes)
      × Says bytes value
  IsOptionalReadingOf input name (Err refusal) Says =
      (others : List Input) → HaveNotRead (optional_input input name ++ others) refusal

  -- ---- commands

  -- the success of a command that has read these files, and makes of their bytes what it says
  pub record IsSuccessOf (inputs : List Input) (Makes : List (List ℕ) → Success → Type 0) (success : Success) :
      Type 0 where
    pub answered : List (List ℕ)
    pub read : HaveRead inputs answered
    pub made : Makes answered success

  -- the refusal of a command that has read these files, and refuses their bytes
  pub record IsRefusedOnceRead (inputs : List Input) (Refuses : List (List ℕ) → Refusal → Type 0) (refusal : Refusal) :
      Type 0 where
    pub answered : List (List ℕ)
    pub read : HaveRead inputs answered
    pub refused : Refuses answered refusal

  -- the refusal of a command: its files are not all read, or it refuses their bytes
  abbrev pub IsRefusalOf : List Input → (List (List ℕ) → Refusal → Type 0) → Refusal → Type 0
  IsRefusalOf inputs Refuses refusal = HaveNotRead inputs refusal ⊎ IsRefusedOnceRead inputs Refuses refusal

  -- the answer of a command
  abbrev pub IsAnswerOf :
      List Input → (List (List ℕ) → Success → Type 0) → (List (List ℕ) → Refusal → Type 0) → Result Success Refusal
      → Type 0
  IsAnswerOf inputs Makes Refuses (Ok success) = IsSuccessOf inputs Makes success
  IsAnswerOf inputs Makes Refuses (Err refusal) = IsRefusalOf inputs Refuses refusal
