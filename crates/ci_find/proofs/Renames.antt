-- What the command `rename` makes of its files, and what it refuses: of files that it renames nothing is refused, and
-- others are refused with one status.
use Rattle.std.proofs.Common.{◌≡◌, ◌∙◌, ℕ, inl, inr, Bool, List, [], ◌∷◌, map, sym, subst}
use Rattle.ci_io.specs.Outcomes.{ShelfState}
use Rattle.ci_elf.proofs.OneImage.{image_is_one}
use Rattle.ci_elf.specs.Executables.{IsImageOf}
use Rattle.ci_lat.specs.Latencies.{Latencies, usual}
use Rattle.ci_block.specs.declared.blocks.Block.{Block}
use Rattle.ci_live.specs.Sets.{Sets}
use Rattle.ci_emu.specs.declared.profile.Profile.{Profile}
use Rattle.ci_runs.proofs.RenamedAnalyses.{renamed_files_keep_cuts}
use Rattle.ci_runs.proofs.RenamedFileLaws.{renamed_files_run_in_step}
use Rattle.ci_calls.specs.declared.refusals.Refusal.{Refusal}
use Rattle.ci_calls.specs.declared.success.Success.{Success}
use Rattle.ci_calls.specs.Files.{input_bytes, optional_bytes}
use Rattle.ci_calls.specs.Inputs.{Input}
use Rattle.ci_calls.specs.Reads.{HaveRead, IsSuccessOf, IsRefusalOf}
use Rattle.ci_calls.specs.Refusals.{status_of}
use Rattle.ci_calls.proofs.InputLaws.{read_without_memory}
use Rattle.ci_find.specs.FindCommand.{written}
use Rattle.ci_find.specs.Profiled.{IsProfiled, IsUnprofiled}
use Rattle.ci_find.specs.RenameCommand.{RenameFiles, RenameSettings, IsRenameMade, IsRenameRefused, IsRenaming, IsRenamingOf}
use Rattle.ci_find.specs.RenameHeadline.{KeepsAllCuts, RunInStep}
use Rattle.ci_find.specs.private.Unprofiled.{IsUnprofiledCause}
use Rattle.ci_find.proofs.OneProfile.{one_given, refused_once, run_or_refused}

-- ---- one status

module _ {settings : RenameSettings} {read : List (List ℕ)} (left right : RenameFiles settings read) where
  -- bytes are one executable and one input
  same_read : (left.executable ≡ right.executable) × (optional_bytes left.input ≡ optional_bytes right.input)
  same_read =
      let lists : left.executable ∷ optional_bytes left.input ≡ right.executable ∷ optional_bytes right.input =
      sym left.read_is ∙ right.read_is in
      (cc, cc)

  same_file : left.file ≡ right.file
  same_file =
      image_is_one right.executable left.file right.file
      (subst (λ bytes. IsImageOf bytes left.file) same_read.0 left.file_is) right.file_is

  same_input : left.input ≡ right.input
  same_input = one_given left.input right.input (left.input_given ∙ sym right.input_given) same_read.1

  -- so what is refused of them is one
  refused_too : {refusal : Refusal} → IsUnprofiled right.file (input_bytes right.input) settings.steps refusal
      → IsUnprofiled left.file (input_bytes left.input) settings.steps refusal
  refused_too {refusal} is =
      subst (λ T. T)
      (λ i. IsUnprofiled (sym same_file i) (input_bytes (sym same_input i)) settings.steps refusal) is

-- for files that are renamed nothing is refused
pub rename_or_refused : (name : List ℕ) (settings : RenameSettings) (read : List (List ℕ)) (success : Success)
    (refusal : Refusal) → IsRenameMade name settings read success → IsRenameRefused settings read refusal → ⊥
rename_or_refused name settings read success refusal made is =
    let renaming = made.renaming in
    run_or_refused renaming.files.file (input_bytes renaming.files.input) settings.steps settings.named
    renaming.is_profiled (refused_too renaming.files is.files is.unprofiled)

-- others are refused with one status
pub rename_refused_once : (settings : RenameSettings) (read : List (List ℕ)) (first second : Refusal)
    → IsRenameRefused settings read first → IsRenameRefused settings read second → status_of first ≡ status_of second
rename_refused_once settings read first second a b =
    refused_once a.files.file (input_bytes a.files.input) settings.steps settings.named a.unprofiled
    (refused_too a.files b.files b.unprofiled)

-- ---- the answer

module _
    (settings : RenameSettings) (read : List (List ℕ)) (inputs : List Input) (files : RenameFiles settings read)
    (input : List ℕ) (same : input ≡ input_bytes files.input) (read_may_fail write_may_fail : List ℕ → Bool)
    (before after : ShelfState) (have : HaveRead read_may_fail write_may_fail before after inputs read) where
  -- an executable that can't be renamed
  pub rename_refused : (refusal : Refusal) → IsUnprofiledCause files.file input settings.steps refusal
      → IsRefusalOf read_may_fail write_may_fail before after inputs (IsRenameRefused settings) refusal
  rename_refused refusal (inl is) = inr (record {
    answered = read;
    read = have;
    refused = record {
      files = files;
      unprofiled = subst (λ bytes. IsUnprofiled files.file bytes settings.steps refusal) same is;
    };
  })
  rename_refused refusal (inr none) =
      rw none (inl (read_without_memory read_may_fail write_may_fail before after inputs read have))

  -- one that is renamed
  pub rename_made : (name : List ℕ) (table : Latencies) → table ≡ usual
      → (profile : Profile) (blocks : List Block) (live : Sets)
      → IsProfiled files.file table input settings.steps settings.named profile blocks live
      → (success : Success) (new : List ℕ) → map written success.writes.items ≡ (name, new) ∷ []
      → IsRenaming files.file live new success.text.items
      → IsSuccessOf read_may_fail write_may_fail before after inputs (IsRenameMade name settings) success
  rename_made name table is_usual profile blocks live is success new writes_are renaming = record {
    answered = read;
    read = have;
    made = record {
      new = new;
      writes_are = writes_are;
      renaming = record {
        files = files;
        profile = profile;
        blocks = blocks;
        live = live;
        is_profiled =
            subst (λ T. T)
            (λ i. IsProfiled files.file (is_usual i) (same i) settings.steps settings.named profile blocks live) is;
        renaming = renaming;
      };
    };
  }

-- ---- the runs and the blocks

-- what is renamed runs in step with the original
pub run_in_step : {settings : RenameSettings} {read : List (List ℕ)} {new text : List ℕ}
    → (is : IsRenamingOf settings read new text) → RunInStep is
run_in_step is =
    renamed_files_run_in_step is.files.file is.renaming.renamed is.live is.renaming.values is.renaming.changed
    is.renaming.is_renamed

-- and its blocks keep all cuts
pub keep_cuts : {settings : RenameSettings} {read : List (List ℕ)} {new text : List ℕ}
    → (is : IsRenamingOf settings read new text) → KeepsAllCuts is
keep_cuts is =
    renamed_files_keep_cuts is.files.file is.renaming.renamed is.live is.renaming.values is.renaming.changed
    is.renaming.is_renamed
