-- Calls in a row.
use Rattle.std.proofs.Common.{◌≡◌, ◌≢◌, ◌∙◌, ℕ, ◌≤◌, Bool, IsTrue, List, [], ◌∷◌, ◌++◌, None, IfSome, Result, Ok, Err}
use Rattle.std.proofs.Common.{refl, ap, sym, subst, append-nil, append_assoc, Vec, IsErrOf}
use Rattle.std.specs.declared.alloc.Global.{Global}
use Rattle.ci_io.specs.declared.shelves.ShelfErr.{ShelfErr}
use Rattle.ci_io.specs.declared.shelves.ShelfErr.TheVariants.{Absent, Fault}
use Rattle.ci_io.specs.CallLists.{Outcome, Call, read, write, put, answer_of}
use Rattle.ci_io.specs.MadeCalls.{LeavesFiles, IsReadMade, IsWriteMade, IsMade, AreMade}
use Rattle.ci_io.specs.Outcomes.{Rises, ShelfState}
use Rattle.ci_io.specs.Reads.{IsReadOf}

module _ (read_may_fail write_may_fail : List ℕ → Bool) where
  abbrev Made : ShelfState → ShelfState → List Call → Type 0
  Made = AreMade read_may_fail write_may_fail

  -- calls, and then others
  pub AreMade-append : (before between after : ShelfState) (calls more : List Call) → Made before between calls
      → Made between after more → Made before after (calls ++ more)
  AreMade-append before between after [] more a b = subst (λ (s : ShelfState). Made s after more) a b
  AreMade-append before between after (call ∷ calls) more a b =
      (a.0, a.1, AreMade-append a.0 between after calls more a.2 b)

  one_grown : (before after : ShelfState) (call : Call) → IsMade read_may_fail write_may_fail before after call
      → after.calls ≡ before.calls ++ call ∷ []
  one_grown before after (read name limit answer) made = made.grown
  one_grown before after (write name bytes outcome) made = made.grown
  one_grown before after (put bytes outcome) made = absurd made

  -- the list of the calls grows by them
  pub AreMade-grown : (before after : ShelfState) (calls : List Call) → Made before after calls
      → after.calls ≡ before.calls ++ calls
  AreMade-grown before after [] made = ap (λ (s : ShelfState). s.calls) made ∙ sym (append-nil before.calls)
  AreMade-grown before after (call ∷ calls) made =
      AreMade-grown made.0 after calls made.2 ∙ ap (λ c. c ++ calls) (one_grown before made.0 call made.1)
      ∙ append_assoc before.calls (call ∷ []) calls

  -- ---- one call, by what the shelf says of it

  answers : (result : Result (Vec ℕ Global) ShelfErr) (error : ShelfErr) → answer_of result ≡ Err error
      → IsErrOf result error
  answers (Ok bytes) error same = absurd cc
  answers (Err found) error same = let e : found ≡ error = cc in ap Err e

  -- a read
  pub AreMade-read :
      (before after : ShelfState) (name : List ℕ) (limit : ℕ) (result : Result (Vec ℕ Global) ShelfErr)
      → after.calls ≡ before.calls ++ read name limit (answer_of result) ∷ []
      → IfSome before.files (λ held. IsReadOf held name limit (answer_of result))
      → (IsErrOf result Absent → before.files ≢ None) → (IsErrOf result Fault → IsTrue (read_may_fail name))
      → (IsErrOf result Fault → Rises before.read_faults after.read_faults) → before.read_faults ≤ after.read_faults
      → after.files ≡ before.files → after.write_faults ≡ before.write_faults
      → Made before after (read name limit (answer_of result) ∷ [])
  AreMade-read before after name limit result grown answered told may_fail counted never_falls same_files same_count =
      let made : IsReadMade read_may_fail write_may_fail before after name limit (answer_of result) = record {
        grown = grown;
        answered = answered;
        told = λ same. told (answers result Absent same);
        may_fail = λ same. may_fail (answers result Fault same);
        counted = λ same. counted (answers result Fault same);
        never_falls = never_falls;
        same_files = same_files;
        same_count = same_count;
      } in
      (after, made, refl)

  -- a write, by what it left
  pub AreMade-write :
      (before after : ShelfState) (name bytes : List ℕ) (outcome : Outcome)
      → after.calls ≡ before.calls ++ write name bytes outcome ∷ []
      → LeavesFiles read_may_fail write_may_fail before after name bytes outcome
      → (IsErrOf outcome Fault → IsTrue (write_may_fail name))
      → (IsErrOf outcome Fault → Rises before.write_faults after.write_faults)
      → before.write_faults ≤ after.write_faults → after.read_faults ≡ before.read_faults
      → Made before after (write name bytes outcome ∷ [])
  AreMade-write before after name bytes outcome grown left may_fail counted never_falls same_count =
      let made : IsWriteMade read_may_fail write_may_fail before after name bytes outcome = record {
        grown = grown;
        left = left;
        may_fail = may_fail;
        counted = counted;
        never_falls = never_falls;
        same_count = same_count;
      } in
      (after, made, refl)
