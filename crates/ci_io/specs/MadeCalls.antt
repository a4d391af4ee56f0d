-- For every reader: what calls in a row leave of a shelf, and which were made on a sink.
use Rattle.std.specs.Prelude.{◌≡◌, ◌≢◌, ℕ, ◌≤◌, Bool, IsTrue, List, [], ◌∷◌, ◌++◌, Option, Some, None, IfSome, Ok, Err}
use Rattle.std.specs.Option.{option_map}
use Rattle.ci_io.specs.declared.shelves.ShelfErr.TheVariants.{Absent, Fault, NoMemory}
use Rattle.ci_io.specs.CallLists.{Answer, Outcome, Call, read, write, put}
use Rattle.ci_io.specs.Outcomes.{Rises, ShelfState, SinkState, with_file}
use Rattle.ci_io.specs.Reads.{IsReadOf}

-- ---- on a shelf, by the names of which a read and a write may fail

module _ (read_may_fail write_may_fail : List ℕ → Bool) where
  -- A read: no file changes, and where the shelf tells its files, the answer is that of the name's file. A fault is
  -- counted.
  pub record IsReadMade (before after : ShelfState) (name : List ℕ) (limit : ℕ) (answer : Answer) : Type 0 where
    pub grown : after.calls ≡ before.calls ++ read name limit answer ∷ []
    pub answered : IfSome before.files (λ held. IsReadOf held name limit answer)
    pub told : answer ≡ Err Absent → before.files ≢ None
    pub may_fail : answer ≡ Err Fault → IsTrue (read_may_fail name)
    pub counted : answer ≡ Err Fault → Rises before.read_faults after.read_faults
    pub never_falls : before.read_faults ≤ after.read_faults
    pub same_files : after.files ≡ before.files
    pub same_count : after.write_faults ≡ before.write_faults

  -- what a write leaves of the files, where the shelf tells them: its bytes under the name; or nothing that is known
  -- under the name, after a fault; or what was there, where memory ran out
  abbrev pub LeavesFiles : ShelfState → ShelfState → (name bytes : List ℕ) → Outcome → Type 0
  LeavesFiles before after name bytes (Ok done) = after.files ≡ option_map (with_file name (Some bytes)) before.files
  LeavesFiles before after name bytes (Err Fault) =
      (content : Option (List ℕ)) × (after.files ≡ option_map (with_file name content) before.files)
  LeavesFiles before after name bytes (Err NoMemory) = after.files ≡ before.files
  LeavesFiles before after name bytes (Err error) = ⊥

  -- A write: no file changes but that of the name. A fault is counted.
  pub record IsWriteMade (before after : ShelfState) (name bytes : List ℕ) (outcome : Outcome) : Type 0 where
    pub grown : after.calls ≡ before.calls ++ write name bytes outcome ∷ []
    pub left : LeavesFiles before after name bytes outcome
    pub may_fail : outcome ≡ Err Fault → IsTrue (write_may_fail name)
    pub counted : outcome ≡ Err Fault → Rises before.write_faults after.write_faults
    pub never_falls : before.write_faults ≤ after.write_faults
    pub same_count : after.read_faults ≡ before.read_faults

  abbrev pub IsMade : ShelfState → ShelfState → Call → Type 0
  IsMade before after (read name limit answer) = IsReadMade before after name limit answer
  IsMade before after (write name bytes outcome) = IsWriteMade before after name bytes outcome
  IsMade before after (put bytes outcome) = ⊥

  -- these calls were made on the shelf, in this order, and no others
  abbrev pub AreMade : ShelfState → ShelfState → List Call → Type 0
  AreMade before after [] = after ≡ before
  AreMade before after (call ∷ calls) =
      (between : ShelfState) × IsMade before between call × AreMade between after calls

-- ---- on a sink

-- these calls were made on the sink, in this order, and no others
abbrev pub ArePut : SinkState → SinkState → List Call → Type 0
ArePut before after puts = after.calls ≡ before.calls ++ puts
