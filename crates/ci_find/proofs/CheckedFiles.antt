-- What a check reads of the files that its choice left: they are as the choice read or wrote them, so that they are good
-- and acceptable.
use Rattle.std.proofs.Common.{◌≡◌, ◌∙◌, ℕ, ◌≤◌, inl, inr, List, [], ◌∷◌, length, Some, None, refl, sym, ap, subst, arith}
use Rattle.std.specs.FinMap as finite
use Rattle.std.proofs.lemmas.List.Elements.{All-cons, All-nil}
use Rattle.ci_io.specs.Outcomes.{Files}
use Rattle.ci_log.specs.Books.{Spells}
use Rattle.ci_vread.specs.Spelling.{Spell}
use Rattle.ci_vemit.specs.Templates.{modules_of}
use Rattle.ci_vemit.specs.Texts.{text_of}
use Rattle.ci_vemit.proofs.UnitTexts.{units_spelt}
use Rattle.ci_vemit.proofs.TextBounds.{units_text_short}
use Rattle.ci_calls.specs.declared.refusals.Refusal.{Refusal}
use Rattle.ci_calls.specs.declared.success.Success.{Success}
use Rattle.ci_calls.specs.Files.{book_input, executable_input, new_file_input, units_input}
use Rattle.ci_calls.specs.Finishing.{with_files}
use Rattle.ci_calls.specs.Inputs.{Input, IsGood, AreRead, IsRefusedFile, absent, too_large, malformed, IsFileRefusal}
use Rattle.ci_calls.proofs.OneRefusal.{read_once, read_or_refused}
use Rattle.ci_find.specs.CheckCommand.{CheckFiles, CheckNames, check_inputs, IsCheckRefused}
use Rattle.ci_find.specs.FindCommand.{FindOutput, IsFindMade, find_inputs}
use Rattle.ci_find.specs.Laws.{HoldTheSame, IsOfLongBook}
use Rattle.ci_find.specs.Profiled.{Settings, run_files}
use Rattle.ci_find.proofs.LeftFiles.{AreElse, AreThere, NamesDiffer, are_there}
use Rattle.ci_find.proofs.OneChoice.{acceptable_or_refused}
use Rattle.ci_find.proofs.SameFiles.{Same, read_there}

module _ (held : Files) (executable_name : List ℕ) (output : FindOutput) (settings : Settings) (success : Success)
    (read : List (List ℕ)) (made : IsFindMade output settings read success)
    (files : AreRead (Some held) (find_inputs executable_name settings.table settings.input) read)
    (apart : NamesDiffer output) (elsewhere : AreElse output (find_inputs executable_name settings.table settings.input)) where
  -- the files that it leaves
  abbrev pub left : Files
  left = with_files success.writes.items held

  -- the text of the units
  abbrev units_text : List ℕ
  units_text = text_of (modules_of made.choice.units)

  -- what its names hold
  there : AreThere output held left units_text made.choice.logs_text made.choice.report_text made.choice.new_bytes
  there =
      are_there output held success.writes.items units_text made.choice.logs_text made.choice.report_text
      made.choice.new_bytes apart made.choice.writes_are

  -- of files that were read both hold the same
  stay_the_same : (inputs : List Input) → AreElse output inputs → HoldTheSame inputs held left
  stay_the_same [] others = All-nil (Same held left)
  stay_the_same (input ∷ inputs) others =
      All-cons (Same held left) input inputs (sym (there.stays input.name others.0)) (stay_the_same inputs others.1)

  -- the table and the input
  abbrev run_inputs : List Input
  run_inputs = run_files settings.table settings.input

  -- what was read of them and of the executable
  held_files : AreRead (Some held) (executable_input executable_name ∷ run_inputs) (made.executable ∷ made.others)
  held_files = subst (AreRead (Some held) (find_inputs executable_name settings.table settings.input)) made.read_is files

  -- is read again
  left_files : AreRead (Some left) (executable_input executable_name ∷ run_inputs) (made.executable ∷ made.others)
  left_files =
      read_there held left (executable_input executable_name ∷ run_inputs) (made.executable ∷ made.others)
      (stay_the_same (executable_input executable_name ∷ run_inputs) elsewhere) held_files

  -- and those that were written are good
  good_new : IsGood (Some left) (new_file_input output.new) made.choice.new_bytes
  good_new = record {
    there = there.new_there;
    within_limit =
        omega (
          arith,
          made.choice.new_is.text_alone.same_length,
          ap length made.profiled.files.file_is.same_bytes,
          held_files.0.within_limit,
        );
    well_formed = tt;
  }

  -- the units spell their modules
  units_spell : Spell units_text (modules_of made.choice.units)
  units_spell = units_spelt made.choice.units made.choice.units_keep

  good_units : IsGood (Some left) (units_input output.units) units_text
  good_units = record {
    there = there.units_there;
    within_limit = units_text_short made.choice.units made.choice.units_keep;
    well_formed = (modules_of made.choice.units, units_spell);
  }

  logs_spell : Spells made.choice.logs_text made.choice.book
  logs_spell = record { version = output.version; spells = made.choice.logs_are }

  -- the log book has its form
  good_logs : (bytes : List ℕ) → finite.get left output.logs ≡ Some bytes → length bytes ≤ 268435456
      → IsGood (Some left) (book_input output.logs) bytes
  good_logs bytes is within = record {
    there = is;
    within_limit = within;
    well_formed = (made.choice.book, subst (λ text. Spells text made.choice.book) same logs_spell);
  }
    where
      same : made.choice.logs_text ≡ bytes
      same = let both : Some made.choice.logs_text ≡ Some bytes = sym there.logs_there ∙ is in cc

  -- the files of the check
  abbrev pub names_read : CheckNames
  names_read = record { new = output.new; units = output.units; logs = output.logs }

  abbrev pub inputs : List Input
  inputs = check_inputs executable_name names_read settings.table settings.input

  -- their bytes
  abbrev all_bytes : List (List ℕ)
  all_bytes =
      made.executable ∷ made.choice.new_bytes ∷ units_text ∷ made.choice.logs_text ∷ made.others

  -- and what these say
  abbrev held_choice : CheckFiles all_bytes
  held_choice = record {
    executable = made.executable;
    new_bytes = made.choice.new_bytes;
    units_text = units_text;
    logs_text = made.choice.logs_text;
    others = made.others;
    read_is = refl;
    modules = modules_of made.choice.units;
    book = made.choice.book;
    modules_are = units_spell;
    book_is = logs_spell;
  }

  -- once they are read nothing is refused
  pub once_case : (refusal : Refusal) (bytes : List (List ℕ)) → AreRead (Some left) inputs bytes
      → IsCheckRefused settings bytes refusal → ⊥
  once_case refusal [] are is = are
  once_case refusal (x ∷ []) (a, none) is = none
  once_case refusal (x ∷ y ∷ []) (a, (b, none)) is = none
  once_case refusal (x ∷ y ∷ z ∷ []) (a, (b, (c, none))) is = none
  once_case refusal (x ∷ y ∷ z ∷ w ∷ rest) (a, (b, (c, (d, e)))) is =
      let same : w ≡ made.choice.logs_text =
      (let both : Some w ≡ Some made.choice.logs_text = sym d.there ∙ there.logs_there in cc) in
      let short : length made.choice.logs_text ≤ 268435456 = subst (λ text. length text ≤ 268435456) same d.within_limit in
      let again : AreRead (Some left) inputs all_bytes =
      (left_files.0, (good_new, (good_units, (good_logs made.choice.logs_text there.logs_there short, left_files.1)))) in
      acceptable_or_refused settings all_bytes refusal held_choice made.profiled
      (record {
        legal = made.choice.legal;
        modules_are = (made.choice.units, made.choice.units_are, refl);
        new_is = made.choice.new_is;
      })
      (subst (λ bytes. IsCheckRefused settings bytes refusal)
      (read_once left inputs (x ∷ y ∷ z ∷ w ∷ rest) all_bytes (a, (b, (c, (d, e)))) again) is)

  -- a file with which nothing is wrong is not refused
  good_or_not : (input : Input) (bytes : List ℕ) (refusal : Refusal) → IsGood (Some left) input bytes
      → IsRefusedFile (Some left) input refusal → ⊥
  good_or_not input bytes refusal good is =
      read_or_refused left (input ∷ []) (bytes ∷ []) refusal (good, tt) (inl is)

  -- the log book alone may be refused, for its length
  book_case : (refusal : Refusal) → IsRefusedFile (Some left) (book_input output.logs) refusal
      → IsOfLongBook (Some left) output.logs refusal
  book_case refusal (absent name is none) =
      let both : None ≡ Some made.choice.logs_text = sym none ∙ there.logs_there in absurd cc
  book_case refusal (too_large name bytes is here longer) = record {
    name = name;
    is_name = is;
    refusal_is = refl;
    bytes = bytes;
    there = here;
    too_long = longer;
  }
  book_case refusal (malformed {refusal = r} bytes here within bad) =
      absurd (good_or_not (book_input output.logs) bytes r (good_logs bytes here within) (malformed bytes here within bad))

  -- so may the files be, and for nothing else
  pub file_case : (refusal : Refusal) → IsFileRefusal (Some left) inputs refusal → IsOfLongBook (Some left) output.logs refusal
  file_case refusal (inl a) =
      absurd (good_or_not (executable_input executable_name) made.executable refusal left_files.0 a)
  file_case refusal (inr (b, x, inl a)) =
      absurd (good_or_not (new_file_input output.new) made.choice.new_bytes refusal good_new a)
  file_case refusal (inr (b, x, inr (c, y, inl a))) =
      absurd (good_or_not (units_input output.units) units_text refusal good_units a)
  file_case refusal (inr (b, x, inr (c, y, inr (d, z, inl a)))) = book_case refusal a
  file_case refusal (inr (b, x, inr (c, y, inr (d, z, inr (e, w, rest))))) =
      absurd (read_or_refused left run_inputs made.others refusal left_files.1 rest)
