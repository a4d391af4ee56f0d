-- What the reads of a command say of the files of a shelf that tells them.
use Rattle.std.proofs.Common.{◌≡◌, ◌∙◌, ℕ, ◌≤◌, inl, inr, Bool, IsTrue, List, [], ◌∷◌, Option, Some, None, IfSome}
use Rattle.std.proofs.Common.{Ok, Err, refl, ap, sym, subst}
use Rattle.ci_io.specs.declared.shelves.ShelfErr.TheVariants as shelf
use Rattle.ci_io.specs.CallLists.{Answer, Call, read}
use Rattle.ci_io.specs.MadeCalls.{IsReadMade, AreMade}
use Rattle.ci_io.specs.Outcomes.{Files, ShelfState}
use Rattle.ci_io.specs.Reads.{IsReadOf}
use Rattle.ci_calls.specs.declared.refusals.Refusal.{Refusal}
use Rattle.ci_calls.specs.declared.refusals.Refusal.TheVariants.{Read, TooLarge, NoMemory}
use Rattle.ci_calls.specs.declared.success.Success.{Success}
use Rattle.ci_calls.specs.Evaluations.{Evaluates}
use Rattle.ci_calls.specs.Inputs.{Input, MayHold, IsGood, AreRead, absent, too_large, malformed, IsFileRefusal, IsDueName}
use Rattle.ci_calls.specs.Reads.{IsFit, AreFit, reads_of, IsRefusedAs, AreStoppedReads, HaveRead, IsSuccessOf}
use Rattle.ci_calls.specs.Reads.{IsRefusalOf, out_of_memory, refused, one_more}
use Rattle.ci_calls.specs.Refused.{AreUnread, IsRefusedBy}
use Rattle.ci_calls.proofs.Counts.{Rises-later}
use Rattle.ci_calls.proofs.Told.{IsAbsent-told, longer_told}

-- ---- files that are read one after the other

module _ (told : Option Files) where
  -- the file holds what its read answered
  answer_held : (name : List ℕ) (limit : ℕ) (bytes : List ℕ)
      → IfSome told (λ held. IsReadOf held name limit (Ok bytes)) → MayHold told name bytes
  answer_held name limit bytes is = held told is
    where
      held : (files : Option Files) → IfSome files (λ held. IsReadOf held name limit (Ok bytes)) → MayHold files name bytes
      held None is = tt
      held (Some files) is = is.0

-- What is not read behind a file that is, between whose readings the shelf tells the same.
unread_behind :
    (may_fail : List ℕ → Bool) (before between after : ShelfState) (input : Input) (inputs : List Input) (bytes : List ℕ)
    (refusal : Refusal) → between.files ≡ before.files → before.read_faults ≤ between.read_faults
    → IsGood before.files input bytes → AreUnread may_fail between after inputs refusal
    → AreUnread may_fail before after (input ∷ inputs) refusal
unread_behind may_fail before between after input inputs bytes refusal same never_falls good (inl is) =
    inl (inr (bytes, good, subst (λ told. IsFileRefusal told inputs refusal) same is))
unread_behind may_fail before between after input inputs bytes refusal same never_falls good (inr (inl fault)) =
    inr (inl (record {
      name = fault.name;
      due = inr (bytes, good, subst (λ told. IsDueName told inputs fault.name.now) same fault.due);
      fails = fault.fails;
      counted = Rises-later _ _ _ never_falls fault.counted;
      refusal_is = fault.refusal_is;
    }))
unread_behind may_fail before between after input inputs bytes refusal same never_falls good (inr (inr none)) =
    inr (inr none)

module _ (read_may_fail write_may_fail : List ℕ → Bool) where
  -- reads change no file, and count no write
  pub record HaveStayed (before after : ShelfState) : Type 0 where
    pub files : after.files ≡ before.files
    pub writes : after.write_faults ≡ before.write_faults

  abbrev Made : ShelfState → ShelfState → List Call → Type 0
  Made = AreMade read_may_fail write_may_fail

  abbrev IsRead : ShelfState → ShelfState → List ℕ → ℕ → Answer → Type 0
  IsRead = IsReadMade read_may_fail write_may_fail

  stayed_on : (before between after : ShelfState) (name : List ℕ) (limit : ℕ) (answer : Answer)
      → IsRead before between name limit answer → HaveStayed between after → HaveStayed before after
  stayed_on before between after name limit answer one others =
      record { files = others.files ∙ one.same_files; writes = others.writes ∙ one.same_count }

  stayed_none : (before after : ShelfState) → after ≡ before → HaveStayed before after
  stayed_none before after same =
      record { files = ap (λ (s : ShelfState). s.files) same; writes = ap (λ (s : ShelfState). s.write_faults) same }

  -- ---- all files are read

  reads_stay : (before after : ShelfState) (inputs : List Input) (answered : List (List ℕ))
      → Made before after (reads_of inputs answered) → HaveStayed before after
  reads_stay before after [] answered made = stayed_none before after made
  reads_stay before after (input ∷ inputs) [] made = stayed_none before after made
  reads_stay before after (input ∷ inputs) (bytes ∷ answered) made =
      stayed_on before made.0 after input.name input.limit (Ok bytes) made.1
      (reads_stay made.0 after inputs answered made.2)

  good : (before between : ShelfState) (input : Input) (bytes : List ℕ) → IsFit input bytes
      → IsRead before between input.name input.limit (Ok bytes) → IsGood before.files input bytes
  good before between input bytes fit made = record {
    there = answer_held before.files input.name input.limit bytes made.answered;
    within_limit = fit.within_limit;
    well_formed = fit.well_formed;
  }

  are_read : (before after : ShelfState) (inputs : List Input) (answered : List (List ℕ)) → AreFit inputs answered
      → Made before after (reads_of inputs answered) → AreRead before.files inputs answered
  are_read before after [] [] fit made = tt
  are_read before after [] (bytes ∷ answered) fit made = absurd fit
  are_read before after (input ∷ inputs) [] fit made = absurd fit
  are_read before after (input ∷ inputs) (bytes ∷ answered) fit made = (
    good before made.0 input bytes fit.0 made.1,
    subst (λ (told : Option Files). AreRead told inputs answered) made.1.same_files
        (are_read made.0 after inputs answered fit.1 made.2),
  )

  -- the bytes are those of the files
  pub HaveRead-files : (before after : ShelfState) (inputs : List Input) (answered : List (List ℕ))
      → HaveRead read_may_fail write_may_fail before after inputs answered
      → AreRead before.files inputs answered × HaveStayed before after
  HaveRead-files before after inputs answered was =
      (are_read before after inputs answered was.fit was.made, reads_stay before after inputs answered was.made)

  -- ---- not all files are read

  stopped_stay : (before after : ShelfState) (inputs : List Input) (calls : List Call) (refusal : Refusal)
      → AreStoppedReads inputs calls refusal → Made before after calls → HaveStayed before after
  stopped_stay before after inputs calls refusal (out_of_memory rest) made = stayed_none before after made
  stopped_stay before after inputs calls refusal (refused input rest answer refusal' is) made =
      stayed_on before made.0 after input.name input.limit answer made.1 (stayed_none made.0 after made.2)
  stopped_stay before after inputs calls refusal (one_more input rest bytes others refusal' fit stopped) made =
      stayed_on before made.0 after input.name input.limit (Ok bytes) made.1
      (stopped_stay made.0 after rest others refusal' stopped made.2)

  -- the first file is refused
  first_unread : (before after : ShelfState) (input : Input) (inputs : List Input) (answer : Answer) (refusal : Refusal)
      → IsRefusedAs input answer refusal → IsRead before after input.name input.limit answer
      → AreUnread read_may_fail before after (input ∷ inputs) refusal
  first_unread before after input inputs (Ok bytes) refusal (within, inl bad) made =
      inl (inl (malformed bytes (answer_held before.files input.name input.limit bytes made.answered) within bad))
  first_unread before after input inputs (Ok bytes) refusal (within, inr none) made = inr (inr none)
  first_unread before after input inputs (Err shelf.Absent) (Read name) is made =
      inl (inl (absent name is (IsAbsent-told before.files input.name made.answered (made.told refl))))
  first_unread before after input inputs (Err shelf.Fault) (Read name) is made = inr (inl (record {
    name = name;
    due = inl is;
    fails = subst (λ (n : List ℕ). IsTrue (read_may_fail n)) (sym is) (made.may_fail refl);
    counted = made.counted refl;
    refusal_is = refl;
  }))
  first_unread before after input inputs (Err shelf.TooLarge) (TooLarge name) is made =
      let longer = longer_told before.files input.name input.limit made.answered in
      inl (inl (too_large name longer.0 is longer.1 longer.2))
  first_unread before after input inputs (Err shelf.NoMemory) NoMemory is made = inr (inr refl)
  first_unread before after input inputs answer refusal is made = absurd is

  are_unread : (before after : ShelfState) (inputs : List Input) (calls : List Call) (refusal : Refusal)
      → AreStoppedReads inputs calls refusal → Made before after calls
      → AreUnread read_may_fail before after inputs refusal
  are_unread before after inputs calls refusal (out_of_memory rest) made = inr (inr refl)
  are_unread before after inputs calls refusal (refused input rest answer refusal' is) made =
      subst (λ (s : ShelfState). AreUnread read_may_fail before s (input ∷ rest) refusal') (sym made.2)
      (first_unread before made.0 input rest answer refusal' is made.1)
  are_unread before after inputs calls refusal (one_more input rest bytes others refusal' fit stopped) made =
      unread_behind read_may_fail before made.0 after input rest bytes refusal' made.1.same_files made.1.never_falls
      (good before made.0 input bytes fit made.1) (are_unread made.0 after rest others refusal' stopped made.2)

  -- ---- commands

  -- the success of a command is that over the files
  pub IsSuccessOf-files : (before after : ShelfState) (inputs : List Input) (Makes : List (List ℕ) → Success → Type 0)
      (success : Success) → IsSuccessOf read_may_fail write_may_fail before after inputs Makes success
      → Evaluates before.files inputs Makes success × HaveStayed before after
  IsSuccessOf-files before after inputs Makes success is =
      let files = HaveRead-files before after inputs is.answered is.read in
      (record { read = is.answered; files = files.0; made = is.made }, files.1)

  -- the refusal of a command is that over the files
  pub IsRefusalOf-files : (before after : ShelfState) (inputs : List Input)
      (Refuses : List (List ℕ) → Refusal → Type 0) (refusal : Refusal)
      → IsRefusalOf read_may_fail write_may_fail before after inputs Refuses refusal
      → IsRefusedBy read_may_fail before after inputs Refuses refusal × HaveStayed before after
  IsRefusalOf-files before after inputs Refuses refusal (inl stopped) = (
    inl (are_unread before after inputs stopped.calls refusal stopped.stopped stopped.made),
    stopped_stay before after inputs stopped.calls refusal stopped.stopped stopped.made,
  )
  IsRefusalOf-files before after inputs Refuses refusal (inr is) =
      let files = HaveRead-files before after inputs is.answered is.read in
      (inr (record { read = is.answered; files = files.0; refused = is.refused }), files.1)
