-- For every reader: the command `gates`, the netlists of the modules of a text.
use Rattle.std.specs.Prelude.{◌≡◌, ℕ, ◌+◌, ◌<◌, ◌≤◌, List, [], ◌∷◌, ◌++◌, codes, length, sum, sum_by, take}
use Rattle.std.specs.Fmt.{decimal}
use Rattle.std.specs.List.{AllZip}
use Rattle.ci_reading.specs.Lines.{line}
use Rattle.ci_verilog.specs.Modules.{Module}
use Rattle.ci_vread.specs.Spelling.{Spell}
use Rattle.ci_netlist.specs.Netlists.{Netlist}
use Rattle.ci_netlist.specs.Texts.{Spells}
use Rattle.ci_gates.specs.Counts.{IsCountOf}
use Rattle.ci_gates.specs.Modules.{IsNetlistOf}
use Rattle.ci_calls.specs.declared.refusals.Refusal.{Refusal}
use Rattle.ci_calls.specs.declared.success.Success.{Success}
use Rattle.ci_calls.specs.declared.success.Written.{Written}
use Rattle.ci_calls.specs.Evaluations.{IsManyGates}
use Rattle.ci_calls.specs.Files.{units_input}
use Rattle.ci_calls.specs.Inputs.{Input}

-- the modules
abbrev pub gates_inputs : List ℕ → List Input
gates_inputs units = units_input units ∷ []

-- the modules have so many gates together: the sum of their counts
pub record HaveTogether (modules : List Module) (gates : ℕ) : Type 0 where
  pub counts : List ℕ
  pub are_counts : AllZip IsCountOf modules counts
  pub sum_is : gates ≡ sum counts

-- how many gates the netlists have together
abbrev pub gates_of : List Netlist → ℕ
gates_of nets = sum_by (λ net. length net.gates) nets

-- how many netlists there are, and how many gates they have together
abbrev pub gates_line : ℕ → ℕ → List ℕ
gates_line nets gates = line (codes "modules " ++ decimal nets ++ codes " gates " ++ decimal gates)

-- It writes the text of netlists, one for each module in their order, each with its module's count of gates and at all
-- words with its module's values, and puts their line. The modules have at most 4,194,304 gates together.
pub record IsGatesMade (out : List ℕ) (read : List (List ℕ)) (success : Success) : Type 0 where
  pub bytes : List ℕ
  pub read_is : read ≡ bytes ∷ []
  pub modules : List Module
  pub spelled : Spell bytes modules
  pub nets : List Netlist
  pub nets_are : AllZip IsNetlistOf modules nets
  pub together : HaveTogether modules (gates_of nets)
  pub few : gates_of nets ≤ 4194304
  pub file : Written
  pub writes_one : success.writes.items ≡ file ∷ []
  pub name_is : file.name.now ≡ out
  pub file_spells : Spells file.bytes.items nets
  pub puts_line : success.text.items ≡ gates_line (length nets) (gates_of nets)

-- The module of this number, counted from 0, is the first up to which the modules have more than 4,194,304 gates
-- together: with it they have so many, and without it they have no more than that.
pub record IsFirstTooMany (modules : List Module) (number gates : ℕ) : Type 0 where
  pub there : number < length modules
  pub together : HaveTogether (take (number + 1) modules) gates
  pub many : 4194304 < gates
  pub before : ℕ
  pub together_before : HaveTogether (take number modules) before
  pub few_before : before ≤ 4194304

-- it refuses a text whose modules have more gates together
pub record IsGatesRefused (read : List (List ℕ)) (refusal : Refusal) : Type 0 where
  pub bytes : List ℕ
  pub read_is : read ≡ bytes ∷ []
  pub modules : List Module
  pub spelled : Spell bytes modules
  pub many : IsManyGates (IsFirstTooMany modules) refusal
