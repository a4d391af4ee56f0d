-- Values of the wires, one after the other.
use Rattle.std.specs.Prelude.{◌≡◌, ℕ, ◌+◌, ◌^◌, ◌<◌, ◌≤◌, List, map, length, take, drop, slice_index, slice_set, Bool, All}
use Rattle.std.specs.List.{Contains, slice_index_or}
use Rattle.std.proofs.Common.{sym, ap, ◌∙◌, subst, arith, inl, inr}
use Rattle.std.proofs.Math.Nat.{le_refl}
use Rattle.std.proofs.Math.Seq.{take-length}
use Rattle.std.proofs.lemmas.Bool.{cases_eq}
use Rattle.std.proofs.lemmas.List.{get_or-take, map-append, take-append-drop, length-take-le, get_or_read, get_or-set_same, get_or-set_other}
use Rattle.std.proofs.lemmas.List.Elements.{Contains-append_left, Contains-append_right, Contains-append_cases}
use Rattle.ci_verilog.specs.declared.vectors.Vector.{Vector}
use Rattle.ci_verilog.specs.declared.expressions.Expr.{Expr}
use Rattle.ci_verilog.specs.declared.expressions.Wire.{Wire}
use Rattle.ci_verilog.specs.Modules.{Known, WireList, wires_of, inputs, declared_by, known_by, IsExpr, IsWire, Module, IsModule}
use Rattle.ci_verilog.specs.Values.{of_width, expr_value, Settles}
use Rattle.ci_verilog.specs.private.Held.{Holds, IsHeld, ExprFits}
use Rattle.ci_verilog.proofs.WireLaws.{wire_at, narrow_names}
use Rattle.ci_verilog.proofs.ExpressionLaws.{expr_fits}
use Rattle.ci_verilog.proofs.ValueLaws.{settled_for, settled_fit}

-- the first wires have these values, whatever assignment settles the module
abbrev pub AreValued : Module → List ℕ → List ℕ → ℕ → Type 0
AreValued m arguments values k =
    (names : List ℕ → Vector) → Settles m arguments names → (j : ℕ) → j < k → (d : Wire)
    → names (slice_index_or m.wires.list j d).name ≡ of_width (slice_index_or m.wires.list j d).width (slice_index values j)

abbrev pub up_to : WireList → ℕ → WireList
up_to wires k = wires_of wires.wide (take k wires.list)

-- what is known by the first wires is known by all
known_later : (wires : WireList) (k : ℕ) (v : Known) → Contains (known_by (up_to wires k)) v → Contains (known_by wires) v
known_later wires k v is =
    let list = wires.list in
    elim (Contains-append_cases (inputs wires.wide) (map declared_by (take k list)) v is) [
      | inl input ↦ Contains-append_left (inputs wires.wide) (map declared_by list) v input
      | inr wire ↦
          Contains-append_right (inputs wires.wide) (map declared_by list) v
          (subst (λ known. Contains known v) (sym (map-append declared_by (take k list) (drop k list)) ∙ ap (map declared_by) (take-append-drop k list))
          (Contains-append_left (map declared_by (take k list)) (map declared_by (drop k list)) v wire))
    ]

module _ (m : Module) (is : IsModule m) (arguments : List ℕ) (words : All (λ n. n < 2 ^ 32) arguments) where
  pub holds_up_to : (values : List ℕ) (k : ℕ) → k ≤ length m.wires.list → AreValued m arguments values k
      → (names : List ℕ → Vector) → Settles m arguments names → Holds names arguments (up_to m.wires k) values
  holds_up_to values k within valued names settled =
      record {
        inputs_are = settled.inputs_are;
        wires_are =
            λ j below d.
            let e : j < k = below_k j below in
            subst (λ w. names w.name ≡ of_width w.width (slice_index values j)) (sym (get_or-take k m.wires.list j d e))
            (valued names settled j e d);
        fit = λ v known. settled_fit m arguments names is settled words v (known_later m.wires k v known);
        narrow = λ v known. narrow_names m.wires is.are_wires v (known_later m.wires k v known);
      }
    where
      below_k : (j : ℕ) → j < length (take k m.wires.list) → j < k
      below_k j below = let e : length (take k m.wires.list) ≡ k = length-take-le k m.wires.list within in omega (arith, e)

  pub is_held : (values : List ℕ) (k : ℕ) → k ≤ length m.wires.list → AreValued m arguments values k
      → IsHeld arguments (up_to m.wires k) values
  is_held values k within valued =
      let s = settled_for m is arguments in (s.0, holds_up_to values k within valued s.0 s.1)

pub expr_fits_at : (m : Module) (k : ℕ) (wire : Wire) → IsModule m → k < length m.wires.list → wire ≡ slice_index_or m.wires.list k wire
    → ExprFits (up_to m.wires k) wire.value
expr_fits_at m k wire is below found =
    let at = wire_at (inputs m.wires.wide) m.wires.list k wire is.are_wires below in
    let same : IsWire (known_by (up_to m.wires k)) wire = subst (λ w. IsWire (known_by (up_to m.wires k)) w) (sym found) at in
    (wire.width, same.value)

-- one value more
pub valued_more : (m : Module) (is : IsModule m) (arguments : List ℕ) (words : All (λ n. n < 2 ^ 32) arguments) (values : List ℕ)
    (k value : ℕ) (wire : Wire) → k < length m.wires.list → k < length values → wire ≡ slice_index_or m.wires.list k wire
    → AreValued m arguments values k
    → ((names : List ℕ → Vector) → Holds names arguments (up_to m.wires k) values → value ≡ expr_value names wire.value)
    → AreValued m arguments (slice_set values k value) (k + 1)
valued_more m is arguments words values k value wire below room found valued value_is names settled j before d =
    let there : wire ≡ slice_index_or m.wires.list k d = get_or_read m.wires.list k wire below found d in
    let wired : names wire.name ≡ of_width wire.width (expr_value names wire.value) =
    settled.wires_are wire (k, below, sym found) in
    let now : names wire.name ≡ of_width wire.width (slice_index (slice_set values k value) k) =
    wired
    ∙ ap (of_width wire.width)
    (sym (value_is names (holds_up_to m is arguments words values k (omega arith) valued names settled))
    ∙ sym (get_or-set_same values k value 0 room)) in
    elim (cases_eq j k) [
      | inl same ↦
          subst (λ n. names (slice_index_or m.wires.list n d).name
          ≡ of_width (slice_index_or m.wires.list n d).width (slice_index (slice_set values k value) n)) (sym same)
          (subst (λ w. names w.name ≡ of_width w.width (slice_index (slice_set values k value) k)) there now)
      | inr other ↦
          let earlier : j < k = omega arith in
          valued names settled j earlier d
          ∙ ap (of_width (slice_index_or m.wires.list j d).width) (sym (get_or-set_other values k j value 0 other))
    ]

-- all values
pub all_held : (m : Module) (is : IsModule m) (arguments : List ℕ) (words : All (λ n. n < 2 ^ 32) arguments) (values : List ℕ)
    (k : ℕ) → length m.wires.list ≤ k → AreValued m arguments values k
    → (names : List ℕ → Vector) → Settles m arguments names → Holds names arguments m.wires values
all_held m is arguments words values k past valued names settled =
    subst (λ ws. Holds names arguments (wires_of m.wires.wide ws) values) (take-length m.wires.list)
    (holds_up_to m is arguments words values (length m.wires.list) (le_refl (length m.wires.list))
    (λ other fixed j below d. valued other fixed j (omega arith) d) names settled)

-- what the evaluator found for y, and for z, is a word
pub is_word : (m : Module) (arguments : List ℕ) (names : List ℕ → Vector) (expr seen : Expr) (n : ℕ) → IsModule m
    → Settles m arguments names → All (λ n. n < 2 ^ 32) arguments → IsExpr (known_by m.wires) expr 32 → seen ≡ expr
    → n ≡ expr_value names seen → n < 2 ^ 32
is_word m arguments names expr seen n is settled words of same value =
    subst (λ k. k < 2 ^ 32) (sym (value ∙ ap (expr_value names) same))
    (expr_fits (known_by m.wires) names (settled_fit m arguments names is settled words) expr 32 of)

-- ---- results

-- what the evaluator has found for expressions that it sees
pub record IsDone (m : Module) (arguments : List ℕ) (wires : WireList) (values : List ℕ) : Type 0 where
  pub names : List ℕ → Vector
  pub settled : Settles m arguments names
  pub holds : Holds names arguments wires values

pub done : (m : Module) (arguments : List ℕ) (wide : Bool) (wires : List Wire) (values : List ℕ) → IsModule m
    → wide ≡ m.wires.wide → wires ≡ m.wires.list → ((names : List ℕ → Vector) → Settles m arguments names → Holds names arguments m.wires values)
    → IsDone m arguments (wires_of wide wires) values
done m arguments wide wires values is same_kind same all =
    let s = settled_for m is arguments in
    record {
      names = s.0;
      settled = s.1;
      holds = subst (λ ws. Holds s.0 arguments ws values) (λ i. record { wide = sym same_kind i; list = sym same i }) (all s.0 s.1);
    }
