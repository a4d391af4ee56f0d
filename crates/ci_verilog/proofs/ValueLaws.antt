-- A module has one value at each list of values of its inputs.
use Rattle.std.specs.Prelude.{◌≡◌, ℕ, zero, suc, ◌^◌, ◌<◌, ◌==◌, ◌&&◌, if◌then◌else◌, Bool, true, false, List, [], ◌∷◌, ◌++◌, map, length, codes, slice_index, Some, All}
use Rattle.std.specs.List.{Contains}
use Rattle.std.proofs.Common.{refl, sym, ap, ◌∙◌, subst, arith, lit<, append_assoc, append-nil, inl, inr, true≢false}
use Rattle.std.proofs.lemmas.Bool.{and_parts, and_from, cases_lt, eqb-true, eq-eqb}
use Rattle.std.proofs.lemmas.List.{get_or_past}
use Rattle.std.proofs.lemmas.List.Elements.{Contains-push_cases, Contains-push, Contains-append_left}
use Rattle.ci_verilog.specs.declared.vectors.Vector.{Vector}
use Rattle.ci_verilog.specs.declared.expressions.Wire.{Wire}
use Rattle.ci_verilog.specs.Modules.{Known, IsInput, vector, inputs, declared_by, known_by, AreWires, Module, IsModule}
use Rattle.ci_verilog.specs.Values.{of_width, expr_value, results_of, Settles}
use Rattle.ci_verilog.specs.Laws.{ValueExists, ValueIsOne, ValuesAreWords, NarrowIgnores}
use Rattle.ci_verilog.specs.private.Held.{Fits}
use Rattle.ci_verilog.proofs.WireLaws.{input_is_word, input_is_known, known_is_input}
use Rattle.ci_verilog.proofs.ExpressionLaws.{Agree, expr_agrees, AllFit, expr_fits}

-- each wire has the value of its expression
abbrev pub AreSettled : List Wire → (List ℕ → Vector) → Type 0
AreSettled wires names = (wire : Wire) → Contains wires wire → names wire.name ≡ of_width wire.width (expr_value names wire.value)

first_wire : (wire : Wire) (wires : List Wire) → Contains (wire ∷ wires) wire
first_wire wire wires = (0, omega arith, refl)

later_wire : (wire : Wire) (wires : List Wire) (w : Wire) → Contains wires w → Contains (wire ∷ wires) w
later_wire wire wires w is = (suc is.0, omega (arith, is.1), is.2)

-- ---- the results are one

agree_more : (known : List Known) (wire : Wire) (names other : List ℕ → Vector) → Agree known names other
    → names wire.name ≡ other wire.name → Agree (known ++ declared_by wire ∷ []) names other
agree_more known wire names other agree same v is =
    elim (Contains-push_cases known (declared_by wire) v is) [
      | inl old ↦ agree v old
      | inr new ↦ subst (λ k. names k.name ≡ other k.name) new same
    ]

agree_along : (known : List Known) (wires : List Wire) (names other : List ℕ → Vector) → AreWires known wires
    → AreSettled wires names → AreSettled wires other → Agree known names other
    → Agree (known ++ map declared_by wires) names other
agree_along known [] names other are settled too agree = subst (λ k. Agree k names other) (sym (append-nil known)) agree
agree_along known (wire ∷ wires) names other are settled too agree =
    subst (λ k. Agree k names other) (append_assoc known (declared_by wire ∷ []) (map declared_by wires))
    (agree_along (known ++ declared_by wire ∷ []) wires names other are.1
    (λ w is. settled w (later_wire wire wires w is)) (λ w is. too w (later_wire wire wires w is))
    (agree_more known wire names other agree
    (settled wire (first_wire wire wires)
    ∙ ap (of_width wire.width) (expr_agrees known names other agree wire.value wire.width are.0.value)
    ∙ sym (too wire (first_wire wire wires)))))

-- the inputs stand for these values
abbrev AreGiven : Bool → List ℕ → (List ℕ → Vector) → Type 0
AreGiven wide arguments names = (k : ℕ) (name : List ℕ) → IsInput wide name k → names name ≡ of_width 32 (slice_index arguments k)

inputs_agree : (wide : Bool) (arguments : List ℕ) (names other : List ℕ → Vector) → AreGiven wide arguments names
    → AreGiven wide arguments other → Agree (inputs wide) names other
inputs_agree wide arguments names other given also v there =
    let (k, is) = known_is_input wide v.name v.width there in given k v.name is ∙ sym (also k v.name is)

-- two assignments of one module agree on all its names
pub settled_agree : (m : Module) (arguments : List ℕ) (names other : List ℕ → Vector) → IsModule m → Settles m arguments names
    → Settles m arguments other → Agree (known_by m.wires) names other
settled_agree m arguments names other is settled too =
    agree_along (inputs m.wires.wide) m.wires.list names other is.are_wires settled.wires_are too.wires_are
    (inputs_agree m.wires.wide arguments names other settled.inputs_are too.inputs_are)

pub value_is_one : ValueIsOne
value_is_one m is arguments left right of_left of_right =
    let agree = settled_agree m arguments of_left.names of_right.names is of_left.settled of_right.settled in
    of_left.results_are
    ∙ (λ t. expr_agrees (known_by m.wires) of_left.names of_right.names agree m.y 32 is.y t
    ∷ expr_agrees (known_by m.wires) of_left.names of_right.names agree m.z 32 is.z t
    ∷ expr_agrees (known_by m.wires) of_left.names of_right.names agree m.x 32 is.x t ∷ [])
    ∙ sym of_right.results_are

-- ---- there are results

abbrev pub same : List ℕ → List ℕ → Bool
same [] [] = true
same [] (n ∷ ns) = false
same (m ∷ ms) [] = false
same (m ∷ ms) (n ∷ ns) = m == n && same ms ns

-- the name stands for the vector, and each other for what it stood for
assigned : (List ℕ → Vector) → List ℕ → Vector → List ℕ → Vector
assigned names name v n = if same n name then v else names n

same_name : (ms ns : List ℕ) → same ms ns ≡ true → ms ≡ ns
same_name [] [] e = refl
same_name [] (n ∷ ns) e = absurd cc
same_name (m ∷ ms) [] e = absurd cc
same_name (m ∷ ms) (n ∷ ns) e =
    let parts = and_parts (m == n) (same ms ns) e in
    λ t. eqb-true m n parts.0 t ∷ same_name ms ns parts.1 t

same_self : (ns : List ℕ) → same ns ns ≡ true
same_self [] = refl
same_self (n ∷ ns) = and_from (n == n) (same ns ns) (eq-eqb n n refl) (same_self ns)

assigned_here : (names : List ℕ → Vector) (name : List ℕ) (v : Vector) → assigned names name v name ≡ v
unfolding assigned
assigned_here names name v = ap (λ b. if b then v else names name) (same_self name)

assigned_elsewhere : (names : List ℕ → Vector) (name : List ℕ) (v : Vector) (n : List ℕ) → (n ≡ name → ⊥)
    → assigned names name v n ≡ names n
unfolding assigned
assigned_elsewhere names name v n other = by_test (same n name) (λ e. other (same_name n name e))
  where
    by_test : (b : Bool) → (b ≡ true → ⊥) → (if b then v else names n) ≡ names n
    by_test true never = absurd (never refl)
    by_test false never = refl

-- assignments that keep what the known names stand for, with which the wires are settled
abbrev Settling : List Known → List Wire → (List ℕ → Vector) → Type 0
Settling known wires names = (other : List ℕ → Vector) × Agree known other names × AreSettled wires other

settling : (known : List Known) (wires : List Wire) (names : List ℕ → Vector) → AreWires known wires → Settling known wires names
settling known [] names are = (names, (λ v is. refl), (λ wire is. absurd (omega (arith, is.1))))
settling known (wire ∷ wires) names are =
    let value = of_width wire.width (expr_value names wire.value) in
    let first = assigned names wire.name value in
    let known_agree : Agree known first names =
    λ v is. assigned_elsewhere names wire.name value v.name
    (λ e. are.0.is_new v.width (subst (λ n. Contains known (vector n v.width)) e is)) in
    let rest = settling (known ++ declared_by wire ∷ []) wires first are.1 in
    let kept : Agree known rest.0 names =
    λ v is. rest.1 v (Contains-append_left known (declared_by wire ∷ []) v is) ∙ known_agree v is in
    let here : rest.0 wire.name ≡ of_width wire.width (expr_value rest.0 wire.value) =
    rest.1 (declared_by wire) (Contains-push known (declared_by wire)) ∙ assigned_here names wire.name value
    ∙ ap (of_width wire.width) (sym (expr_agrees known rest.0 names kept wire.value wire.width are.0.value)) in
    (rest.0, kept, both wire wires rest.0 here rest.2)
  where
    both : (wire : Wire) (wires : List Wire) (names : List ℕ → Vector)
        → names wire.name ≡ of_width wire.width (expr_value names wire.value) → AreSettled wires names
        → AreSettled (wire ∷ wires) names
    both wire wires names here rest w (zero, below, is) =
        subst (λ w. names w.name ≡ of_width w.width (expr_value names w.value)) is here
    both wire wires names here rest w (suc k, below, is) = rest w (k, omega arith, is)

opening : List ℕ → List ℕ → Vector
unfolding assigned
opening values =
    assigned (assigned (assigned (assigned (assigned (λ n. of_width 0 0) (codes "a") (of_width 32 (slice_index values 0)))
    (codes "b") (of_width 32 (slice_index values 1))) (codes "c") (of_width 32 (slice_index values 2)))
    (codes "d") (of_width 32 (slice_index values 3))) (codes "e") (of_width 32 (slice_index values 4))

same_named : (known : Known) (name : List ℕ) → Some known ≡ Some (vector name 32) → known.name ≡ name
same_named known name e = cc

opening_inputs : (wide : Bool) (arguments : List ℕ) → AreGiven wide arguments (opening arguments)
unfolding opening assigned
opening_inputs false arguments zero name is = ap (opening arguments) (sym (same_named (vector (codes "a") 32) name is))
opening_inputs false arguments (suc zero) name is = ap (opening arguments) (sym (same_named (vector (codes "b") 32) name is))
opening_inputs false arguments (suc (suc zero)) name is = ap (opening arguments) (sym (same_named (vector (codes "c") 32) name is))
opening_inputs false arguments (suc (suc (suc k))) name is = absurd cc
opening_inputs true arguments zero name is = ap (opening arguments) (sym (same_named (vector (codes "a") 32) name is))
opening_inputs true arguments (suc zero) name is = ap (opening arguments) (sym (same_named (vector (codes "b") 32) name is))
opening_inputs true arguments (suc (suc zero)) name is = ap (opening arguments) (sym (same_named (vector (codes "c") 32) name is))
opening_inputs true arguments (suc (suc (suc zero))) name is = ap (opening arguments) (sym (same_named (vector (codes "d") 32) name is))
opening_inputs true arguments (suc (suc (suc (suc zero)))) name is = ap (opening arguments) (sym (same_named (vector (codes "e") 32) name is))
opening_inputs true arguments (suc (suc (suc (suc (suc k))))) name is = absurd cc

-- there is an assignment that settles the module
pub settled_for : (m : Module) → IsModule m → (arguments : List ℕ) → (names : List ℕ → Vector) × Settles m arguments names
settled_for m is arguments =
    let s = settling (inputs m.wires.wide) m.wires.list (opening arguments) is.are_wires in (
      s.0,
      record {
        inputs_are = λ k name input.
            s.1 (vector name 32) (input_is_known m.wires.wide name k input) ∙ opening_inputs m.wires.wide arguments k name input;
        wires_are = s.2;
      },
    )

pub value_exists : ValueExists
value_exists m is arguments =
    let s = settled_for m is arguments in
    (map (expr_value s.0) (results_of m), record { names = s.0; settled = s.1; results_are = refl })

-- ---- narrow modules

three_inputs : (wide : Bool) (name : List ℕ) (k : ℕ) → wide ≡ false → IsInput wide name k → k < 3
three_inputs true name k narrow is = absurd (true≢false narrow)
three_inputs false name zero narrow is = omega arith
three_inputs false name (suc zero) narrow is = omega arith
three_inputs false name (suc (suc zero)) narrow is = omega arith
three_inputs false name (suc (suc (suc k))) narrow is = absurd cc

pub narrow_ignores : NarrowIgnores
narrow_ignores m narrow arguments others results same of = record {
  names = of.names;
  settled = record {
    inputs_are = λ k name is. of.settled.inputs_are k name is ∙ ap (of_width 32) (same k (three_inputs m.wires.wide name k narrow is));
    wires_are = of.settled.wires_are;
  };
  results_are = of.results_are;
}

-- ---- values fit their widths

fit_more : (known : List Known) (wire : Wire) (names : List ℕ → Vector) → AllFit known names → Fits (names wire.name) wire.width
    → AllFit (known ++ declared_by wire ∷ []) names
fit_more known wire names fit here v is =
    elim (Contains-push_cases known (declared_by wire) v is) [
      | inl old ↦ fit v old
      | inr new ↦ subst (λ k. Fits (names k.name) k.width) new here
    ]

fit_along : (known : List Known) (wires : List Wire) (names : List ℕ → Vector) → AreWires known wires → AreSettled wires names
    → AllFit known names → AllFit (known ++ map declared_by wires) names
fit_along known [] names are settled fit = subst (λ k. AllFit k names) (sym (append-nil known)) fit
fit_along known (wire ∷ wires) names are settled fit =
    subst (λ k. AllFit k names) (append_assoc known (declared_by wire ∷ []) (map declared_by wires))
    (fit_along (known ++ declared_by wire ∷ []) wires names are.1 (λ w is. settled w (later_wire wire wires w is))
    (fit_more known wire names fit
    (subst (λ v. Fits v wire.width) (sym (settled wire (first_wire wire wires)))
    (record { width_is = refl; in_range = expr_fits known names fit wire.value wire.width are.0.value }))))

-- words fit their inputs
pub word_at : (arguments : List ℕ) → All (λ n. n < 2 ^ 32) arguments → (k : ℕ) → slice_index arguments k < 2 ^ 32
word_at arguments words k = elim (cases_lt k (length arguments)) [
  | inl there ↦ words k 0 there
  | inr past ↦ subst (λ n. n < 2 ^ 32) (sym (get_or_past arguments k 0 past)) (lit< tt)
]

inputs_fit : (wide : Bool) (names : List ℕ → Vector) (arguments : List ℕ) → AreGiven wide arguments names
    → All (λ n. n < 2 ^ 32) arguments → AllFit (inputs wide) names
inputs_fit wide names arguments given words v there =
    let (k, is) = known_is_input wide v.name v.width there in
    let word : Fits (of_width 32 (slice_index arguments k)) 32 = record { width_is = refl; in_range = word_at arguments words k } in
    subst (λ w. Fits (names v.name) w) (sym (input_is_word wide v there))
    (subst (λ u. Fits u 32) (sym (given k v.name is)) word)

-- at words all names stand for vectors of their widths
pub settled_fit : (m : Module) (arguments : List ℕ) (names : List ℕ → Vector) → IsModule m → Settles m arguments names
    → All (λ n. n < 2 ^ 32) arguments → AllFit (known_by m.wires) names
settled_fit m arguments names is settled words =
    fit_along (inputs m.wires.wide) m.wires.list names is.are_wires settled.wires_are (inputs_fit m.wires.wide names arguments settled.inputs_are words)

pub values_are_words : ValuesAreWords
values_are_words m is arguments results words of =
    let fit = settled_fit m arguments of.names is of.settled words in
    subst (λ r. All (λ n. n < 2 ^ 32) r) (sym of.results_are)
    (three (expr_value of.names m.y) (expr_value of.names m.z) (expr_value of.names m.x) (expr_fits (known_by m.wires) of.names fit m.y 32 is.y)
    (expr_fits (known_by m.wires) of.names fit m.z 32 is.z) (expr_fits (known_by m.wires) of.names fit m.x 32 is.x))
  where
    three : (y z x : ℕ) → y < 2 ^ 32 → z < 2 ^ 32 → x < 2 ^ 32 → All (λ n. n < 2 ^ 32) (y ∷ z ∷ x ∷ [])
    three y z x p q r zero d below = p
    three y z x p q r (suc zero) d below = q
    three y z x p q r (suc (suc zero)) d below = r
    three y z x p q r (suc (suc (suc k))) d below = absurd (omega arith)
