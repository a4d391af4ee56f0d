-- What the definitions say of every module, for everybody.
use Rattle.std.specs.Prelude.{◌≡◌, ℕ, ◌^◌, ◌<◌, List, All, slice_index, false}
use Rattle.ci_verilog.specs.Modules.{Module, IsModule}
use Rattle.ci_verilog.specs.Values.{IsValueOf}

-- it has results at each list of values of its inputs
abbrev pub ValueExists : Type 0
ValueExists =
    (m : Module) → IsModule m → (arguments : List ℕ)
    → (results : List ℕ) × IsValueOf m arguments results

-- and no others
abbrev pub ValueIsOne : Type 0
ValueIsOne =
    (m : Module) → IsModule m → (arguments left right : List ℕ)
    → IsValueOf m arguments left → IsValueOf m arguments right → left ≡ right

-- at words they are words
abbrev pub ValuesAreWords : Type 0
ValuesAreWords =
    (m : Module) → IsModule m → (arguments results : List ℕ) → All (λ n. n < 2 ^ 32) arguments
    → IsValueOf m arguments results → All (λ n. n < 2 ^ 32) results

-- a narrow one has the same at others, where a, b and c are the same
abbrev pub NarrowIgnores : Type 0
NarrowIgnores =
    (m : Module) → m.wires.wide ≡ false → (arguments others results : List ℕ)
    → ((k : ℕ) → k < 3 → slice_index arguments k ≡ slice_index others k)
    → IsValueOf m arguments results → IsValueOf m others results
