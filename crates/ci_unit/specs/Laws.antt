-- What the definitions say of every unit, for everybody.
use Rattle.std.specs.Prelude.{◌≡◌, ℕ, ◌^◌, ◌<◌, List, length, All}
use Rattle.ci_unit.specs.Units.{Unit, IsUnit, IsValueOf}

-- it has outputs at each list of five inputs
abbrev pub ValueExists : Type 0
ValueExists =
    (unit : Unit) → IsUnit unit → (inputs : List ℕ) → length inputs ≡ 5
    → (outputs : List ℕ) × IsValueOf unit inputs outputs

-- and no others
abbrev pub ValueIsOne : Type 0
ValueIsOne =
    (unit : Unit) → IsUnit unit → (inputs left right : List ℕ)
    → IsValueOf unit inputs left → IsValueOf unit inputs right → left ≡ right

-- at words they are words
abbrev pub ValuesAreWords : Type 0
ValuesAreWords =
    (unit : Unit) → IsUnit unit → (inputs outputs : List ℕ) → length inputs ≡ 5 → All (λ n. n < 2 ^ 32) inputs
    → IsValueOf unit inputs outputs → All (λ n. n < 2 ^ 32) outputs

-- as many as the unit says
abbrev pub ValueHasLength : Type 0
ValueHasLength =
    (unit : Unit) (inputs outputs : List ℕ) → IsValueOf unit inputs outputs
    → length outputs ≡ length unit.outputs
