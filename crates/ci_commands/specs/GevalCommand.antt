-- For every reader: the command `geval`, what a netlist of a text computes.
use Rattle.std.specs.Prelude.{◌≡◌, ℕ, true, List, [], ◌∷◌, length, slice_get, Some}
use Rattle.ci_netlist.specs.Netlists.{Netlist, IsValueOf}
use Rattle.ci_netlist.specs.Texts.{Spells}
use Rattle.ci_calls.specs.declared.refusals.Refusal.{Refusal}
use Rattle.ci_calls.specs.declared.success.Success.{Success}
use Rattle.ci_calls.specs.Evaluations.{IsUnsupported}
use Rattle.ci_calls.specs.Files.{nets_input}
use Rattle.ci_calls.specs.Inputs.{Input}
use Rattle.ci_commands.specs.EvalCommand.{results_line, IsPast}

-- the netlists
abbrev pub geval_inputs : List ℕ → List Input
geval_inputs file = nets_input file ∷ []

-- it puts the results y, z and x, as those of a wide module are put, that the netlist of this number, counted from 0,
-- has at these values of the inputs a, b, c, d and e
pub record IsGevalMade (number : ℕ) (arguments : List ℕ) (read : List (List ℕ)) (success : Success) : Type 0 where
  pub bytes : List ℕ
  pub read_is : read ≡ bytes ∷ []
  pub nets : List Netlist
  pub spelled : Spells bytes nets
  pub chosen : Netlist
  pub there : slice_get nets number ≡ Some chosen
  pub y : ℕ
  pub z : ℕ
  pub x : ℕ
  pub results : IsValueOf chosen arguments (y ∷ z ∷ x ∷ [])
  pub text_is : success.text.items ≡ results_line true y z x
  pub writes_none : success.writes.items ≡ []

-- it refuses a text that has no netlist of the number
pub record IsGevalRefused (number : ℕ) (read : List (List ℕ)) (refusal : Refusal) : Type 0 where
  pub bytes : List ℕ
  pub read_is : read ≡ bytes ∷ []
  pub nets : List Netlist
  pub spelled : Spells bytes nets
  pub unsupported : IsUnsupported (IsPast (length nets) number) refusal
