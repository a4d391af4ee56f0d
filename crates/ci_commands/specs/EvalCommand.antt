-- For every reader: the command `eval`, what a module of a text computes.
use Rattle.std.specs.Prelude.{◌≡◌, ℕ, Bool, ◌≤◌, List, [], ◌∷◌, ◌++◌, length, codes, slice_get, Some, if◌then◌else◌}
use Rattle.ci_reading.specs.Hex.{eight_hex_digits}
use Rattle.ci_reading.specs.Lines.{line}
use Rattle.ci_verilog.specs.Modules.{Module}
use Rattle.ci_verilog.specs.Values.{IsValueOf}
use Rattle.ci_vread.specs.Spelling.{Spell}
use Rattle.ci_calls.specs.declared.refusals.Refusal.{Refusal}
use Rattle.ci_calls.specs.declared.success.Success.{Success}
use Rattle.ci_calls.specs.Evaluations.{IsUnsupported}
use Rattle.ci_calls.specs.Files.{units_input}
use Rattle.ci_calls.specs.Inputs.{Input}

-- the modules
abbrev pub eval_inputs : List ℕ → List Input
eval_inputs file = units_input file ∷ []

-- a wide module's third result, behind the two that each has
abbrev pub third_result : Bool → ℕ → List ℕ
third_result wide x = if wide then codes " " ++ eight_hex_digits x else []

-- the line of the results of a module
abbrev pub results_line : Bool → ℕ → ℕ → ℕ → List ℕ
results_line wide y z x = line (eight_hex_digits y ++ codes " " ++ eight_hex_digits z ++ third_result wide x)

-- it puts the results y and z, and of a wide module x too, that the module of this number, counted from 0, has at these
-- values of its inputs a, b, c, d and e, of which a narrow one has the first three alone
pub record IsEvalMade (number : ℕ) (arguments : List ℕ) (read : List (List ℕ)) (success : Success) : Type 0 where
  pub bytes : List ℕ
  pub read_is : read ≡ bytes ∷ []
  pub modules : List Module
  pub spelled : Spell bytes modules
  pub chosen : Module
  pub there : slice_get modules number ≡ Some chosen
  pub y : ℕ
  pub z : ℕ
  pub x : ℕ
  pub results : IsValueOf chosen arguments (y ∷ z ∷ x ∷ [])
  pub text_is : success.text.items ≡ results_line chosen.wires.wide y z x
  pub writes_none : success.writes.items ≡ []

-- of so many, counted from 0, there is none of the number, which is named, with 0 for a word
pub record IsPast (count number position word : ℕ) : Type 0 where
  pub absent : count ≤ number
  pub position_is : position ≡ number
  pub word_is : word ≡ 0

-- the text has no module of the number
abbrev pub IsNoModule : List Module → ℕ → ℕ → ℕ → Type 0
IsNoModule modules number = IsPast (length modules) number

-- it refuses a text that has no module of the number
pub record IsEvalRefused (number : ℕ) (read : List (List ℕ)) (refusal : Refusal) : Type 0 where
  pub bytes : List ℕ
  pub read_is : read ≡ bytes ∷ []
  pub modules : List Module
  pub spelled : Spell bytes modules
  pub unsupported : IsUnsupported (IsNoModule modules number) refusal
