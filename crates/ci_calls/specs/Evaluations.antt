-- For every reader: what a command makes of the files that it reads, and what it refuses once they are read.
use Rattle.std.specs.Prelude.{ℕ, List, Option}
use Rattle.ci_io.specs.Outcomes.{Files}
use Rattle.ci_calls.specs.declared.refusals.Refusal.{Refusal}
use Rattle.ci_calls.specs.declared.refusals.Refusal.TheVariants.{Unsupported, ManyGates}
use Rattle.ci_calls.specs.declared.success.Success.{Success}
use Rattle.ci_calls.specs.Inputs.{Input, AreRead}

-- the success of a command that reads these files and makes of their bytes what it says
pub record Evaluates
    (told : Option Files) (inputs : List Input) (IsMade : List (List ℕ) → Success → Type 0) (success : Success) :
    Type 0 where
  pub read : List (List ℕ)
  pub files : AreRead told inputs read
  pub made : IsMade read success

-- the refusal of a command that refuses nothing once its files are read
abbrev pub RefusesNothing : List (List ℕ) → Refusal → Type 0
RefusesNothing read refusal = ⊥

-- the refusal of a file that the command doesn't take, which names a position and a word with this property
abbrev pub IsUnsupported : (ℕ → ℕ → Type 0) → Refusal → Type 0
IsUnsupported P (Unsupported position word) = P position word
IsUnsupported P refusal = ⊥

-- the refusal of modules with too many gates, which names a module and a number of gates with this property
abbrev pub IsManyGates : (ℕ → ℕ → Type 0) → Refusal → Type 0
IsManyGates P (ManyGates number gates) = P number gates
IsManyGates P refusal = ⊥
