-- For every reader: the files that a command reads, one after the other, and the first of them that is refused.
use Rattle.std.specs.Prelude.{◌≡◌, ℕ, ◌<◌, ◌≤◌, ◌⊎◌, ⊤, List, [], ◌∷◌, length, Option, Some, None}
use Rattle.std.specs.FinMap as map
use Rattle.ci_io.specs.Outcomes.{Files}
use Rattle.ci_calls.specs.declared.refusals.Refusal.{Refusal}
use Rattle.ci_calls.specs.declared.refusals.Refusal.TheVariants.{Read, TooLarge}
use Rattle.ci_calls.specs.Refusals.{Name}
use Rattle.ci_calls.specs.Forms.{Form, IsWellFormed, IsMalformed}

-- a file that a command reads: its name, its maximum length in bytes, and what its bytes have to be
pub record Input : Type 0 where
  pub name : List ℕ
  pub limit : ℕ
  pub form : Form

-- These may be the bytes of the file of a name: those that the shelf tells, and any where it tells none.
abbrev pub MayHold : Option Files → List ℕ → List ℕ → Type 0
MayHold None name bytes = ⊤
MayHold (Some held) name bytes = map.get held name ≡ Some bytes

-- the shelf tells that no file has the name
abbrev pub IsAbsent : Option Files → List ℕ → Type 0
IsAbsent None name = ⊥
IsAbsent (Some held) name = map.get held name ≡ None

module _ (told : Option Files) where
  -- the file may have these bytes, and nothing is wrong with them
  pub record IsGood (input : Input) (bytes : List ℕ) : Type 0 where
    pub there : MayHold told input.name bytes
    pub within_limit : length bytes ≤ input.limit
    pub well_formed : IsWellFormed input.form bytes

  -- the bytes of all the files, by place, with which nothing is wrong
  abbrev pub AreRead : List Input → List (List ℕ) → Type 0
  AreRead [] [] = ⊤
  AreRead [] (bytes ∷ read) = ⊥
  AreRead (input ∷ inputs) [] = ⊥
  AreRead (input ∷ inputs) (bytes ∷ read) = IsGood input bytes × AreRead inputs read

  -- The refusal of the file: it is absent, or longer than its limit, or malformed.
  pub data IsRefusedFile (input : Input) : Refusal → Type 0 where
    absent : (name : Name) → name.now ≡ input.name → IsAbsent told input.name → IsRefusedFile input (Read name)
    too_large :
        (name : Name) (bytes : List ℕ) → name.now ≡ input.name → MayHold told input.name bytes →
        input.limit < length bytes → IsRefusedFile input (TooLarge name)
    malformed :
        {refusal : Refusal} (bytes : List ℕ) → MayHold told input.name bytes → length bytes ≤ input.limit →
        IsMalformed input.form bytes refusal → IsRefusedFile input refusal

  -- The refusal of the first file that is refused, where nothing is wrong with those before it.
  abbrev pub IsFileRefusal : List Input → Refusal → Type 0
  IsFileRefusal [] refusal = ⊥
  IsFileRefusal (input ∷ inputs) refusal =
      IsRefusedFile input refusal ⊎ ((bytes : List ℕ) × IsGood input bytes × IsFileRefusal inputs refusal)

  -- the name of one of the files, where nothing is wrong with those before it
  abbrev pub IsDueName : List Input → List ℕ → Type 0
  IsDueName [] name = ⊥
  IsDueName (input ∷ inputs) name =
      (name ≡ input.name) ⊎ ((bytes : List ℕ) × IsGood input bytes × IsDueName inputs name)
