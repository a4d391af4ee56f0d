-- What the definitions say of every netlist, and of every text, for everybody.
use Rattle.std.specs.Prelude.{◌≡◌, ℕ, List}
use Rattle.ci_netlist.specs.Netlists.{Netlist, IsNetlist, IsValueOf}
use Rattle.ci_netlist.specs.Texts.{Spells, IsWhole}
use Rattle.ci_netlist.specs.Faults.{IsBad}

-- a netlist has results at each list of values of its inputs
abbrev pub ValueExists : Type 0
ValueExists =
    (net : Netlist) → IsNetlist net → (arguments : List ℕ) → (results : List ℕ) × IsValueOf net arguments results

-- and no others
abbrev pub ValueIsOne : Type 0
ValueIsOne =
    (net : Netlist) → IsNetlist net → (arguments left right : List ℕ)
    → IsValueOf net arguments left → IsValueOf net arguments right → left ≡ right

-- a list of netlists has one text
abbrev pub TextIsOne : Type 0
TextIsOne = (left right : List ℕ) (nets : List Netlist) → Spells left nets → Spells right nets → left ≡ right

-- a text has one list of netlists
abbrev pub NetlistsAreOne : Type 0
NetlistsAreOne = (bytes : List ℕ) (left right : List Netlist) → Spells bytes left → Spells bytes right → left ≡ right

-- bytes have one fault at most
abbrev pub FaultIsOne : Type 0
FaultIsOne = (bytes : List ℕ) (left right : ℕ) → IsBad bytes left → IsBad bytes right → left ≡ right

-- and a text has none
abbrev pub TextsHaveNoFault : Type 0
TextsHaveNoFault = (bytes : List ℕ) (offset : ℕ) → IsWhole bytes → ¬ IsBad bytes offset
