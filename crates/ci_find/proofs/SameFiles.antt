-- What is read of some files, and refused of them, is so of others that hold the same.
use Rattle.std.proofs.Common.{◌≡◌, ◌∙◌, ℕ, inl, inr, List, [], ◌∷◌, Some, sym}
use Rattle.std.specs.FinMap as finite
use Rattle.std.proofs.lemmas.List.Elements.{All-head, All-tail}
use Rattle.ci_io.specs.Outcomes.{Files}
use Rattle.ci_calls.specs.declared.refusals.Refusal.{Refusal}
use Rattle.ci_calls.specs.Inputs.{Input, IsGood, AreRead, IsRefusedFile, absent, too_large, malformed, IsFileRefusal}
use Rattle.ci_find.specs.Laws.{HoldTheSame}

module _ (files others : Files) where
  -- both hold the same of this one
  abbrev pub Same : Input → Type 0
  Same input = finite.get files input.name ≡ finite.get others input.name

  -- nothing is wrong with it there,
  good_there : (input : Input) (bytes : List ℕ) → Same input → IsGood (Some files) input bytes
      → IsGood (Some others) input bytes
  good_there input bytes same good = record {
    there = sym same ∙ good.there;
    within_limit = good.within_limit;
    well_formed = good.well_formed;
  }

  -- or it is refused there
  refused_there : (input : Input) (refusal : Refusal) → Same input → IsRefusedFile (Some files) input refusal
      → IsRefusedFile (Some others) input refusal
  refused_there input refusal same (absent name is none) = absent name is (sym same ∙ none)
  refused_there input refusal same (too_large name bytes is there longer) =
      too_large name bytes is (sym same ∙ there) longer
  refused_there input refusal same (malformed bytes there within bad) = malformed bytes (sym same ∙ there) within bad

  -- all of them are read there,
  pub read_there : (inputs : List Input) (read : List (List ℕ)) → HoldTheSame inputs files others
      → AreRead (Some files) inputs read → AreRead (Some others) inputs read
  read_there [] [] same are = tt
  read_there [] (bytes ∷ read) same are = absurd are
  read_there (input ∷ inputs) [] same are = absurd are
  read_there (input ∷ inputs) (bytes ∷ read) same are = (
    good_there input bytes (All-head Same input inputs same) are.0,
    read_there inputs read (All-tail Same input inputs same) are.1,
  )

  -- or the first that is refused is refused there
  pub refusal_there : (inputs : List Input) (refusal : Refusal) → HoldTheSame inputs files others
      → IsFileRefusal (Some files) inputs refusal → IsFileRefusal (Some others) inputs refusal
  refusal_there [] refusal same is = absurd is
  refusal_there (input ∷ inputs) refusal same (inl first) =
      inl (refused_there input refusal (All-head Same input inputs same) first)
  refusal_there (input ∷ inputs) refusal same (inr (bytes, good, later)) =
      inr (
        bytes,
        good_there input bytes (All-head Same input inputs same) good,
        refusal_there inputs refusal (All-tail Same input inputs same) later,
      )
