-- Whole netlists of modules, and the counts of modules.
use Rattle.std.specs.Prelude.{◌≡◌, ℕ, zero, suc, ◌+◌, ◌^◌, ◌<◌, ◌≤◌, List, []}
use Rattle.std.specs.Prelude.{length, take, All}
use Rattle.std.specs.List.{slice_index_or}
use Rattle.std.proofs.Common.{sym, ◌∙◌, subst, arith}
use Rattle.std.proofs.lemmas.List.{take_all, get_or_default}
use Rattle.ci_verilog.specs.declared.expressions.Wire.{Wire}
use Rattle.ci_verilog.specs.Modules.{known_by, nothing, Module, IsModule}
use Rattle.ci_verilog.specs.Values as module_value
use Rattle.ci_verilog.specs.Values.{of_width, expr_value, Settles, results_of}
use Rattle.ci_verilog.proofs.ValueLaws.{settled_for}
use Rattle.ci_netlist.specs.declared.bits.Bit.{Bit}
use Rattle.ci_netlist.specs.declared.bits.Gate.{Gate}
use Rattle.ci_netlist.specs.Netlists.{AreGates, IsValueOf}
use Rattle.ci_netlist.proofs.ValueLaws.{settled_somehow}
use Rattle.ci_gates.specs.Counts.{HasGates, HaveGates, exprs_of, IsCountOf}
use Rattle.ci_gates.specs.Laws.{CountExists}
use Rattle.ci_gates.specs.Modules.{IsNetlistOf}
use Rattle.ci_gates.specs.private.Wired.{values_of, AreOutputs}
use Rattle.ci_gates.proofs.CountLaws.{wires_have_more, gates_of, have_both, have_one}
use Rattle.ci_gates.proofs.WiredLaws.{any_names, any_fit, wire_expr}

-- ---- whole netlists

module _ (m : Module) (is : IsModule m) (gates : List Gate) (bits : List Bit) (are_gates : AreGates gates)
    (are : AreOutputs m gates bits) where
  pub is_netlist_of : IsNetlistOf m (record { gates = gates; outputs = bits })
  is_netlist_of = record { count = are.count; value = λ arguments results few. (to arguments results few, from arguments results few) }
    where
      to : (arguments results : List ℕ) → All (λ n. n < 2 ^ 32) arguments
          → IsValueOf (record { gates = gates; outputs = bits }) arguments results → module_value.IsValueOf m arguments results
      to arguments results few of =
          let names = settled_for m is arguments in
          record {
            names = names.0;
            settled = names.1;
            results_are = of.results_are ∙ are.value arguments of.gives names.0 few of.settled names.1;
          }

      from : (arguments results : List ℕ) → All (λ n. n < 2 ^ 32) arguments
          → module_value.IsValueOf m arguments results → IsValueOf (record { gates = gates; outputs = bits }) arguments results
      from arguments results few of =
          let settles = settled_somehow gates are_gates arguments in
          record {
            gives = settles.0;
            settled = settles.1;
            results_are = of.results_are ∙ sym (are.value arguments settles.0 of.names few settles.1 of.settled);
          }

-- ---- the count

-- past the end of the wires
no_wire : Wire
no_wire = record { name = []; width = 0; value = nothing }

module _ (m : Module) (is : IsModule m) where
  pub count_is_one : (n k : ℕ) → IsCountOf m n → IsCountOf m k → n ≡ k
  count_is_one n k left right = have_one (known_by m.wires) (any_names m is).0 (any_fit m is) (exprs_of m) n k left right

  -- the gates of the module's next wire
  wire_gates : (k : ℕ) (wire : Wire) → k < length m.wires.list → wire ≡ slice_index_or m.wires.list k wire
      → (n : ℕ) × HasGates (known_by m.wires) wire.value n
  wire_gates k wire below found = gates_of (known_by m.wires) wire.value wire.width (wire_expr m is k wire below found)

  wires_count : (k : ℕ) → k ≤ length m.wires.list → (n : ℕ) × HaveGates (known_by m.wires) (values_of (take k m.wires.list)) n
  wires_count zero within = (0, HaveGates.none)
  wires_count (suc k) within =
      let before = wires_count k (omega arith) in
      let wire = slice_index_or m.wires.list k no_wire in
      let found : wire ≡ slice_index_or m.wires.list k wire = get_or_default m.wires.list k no_wire wire (omega arith) in
      let has = wire_gates k wire (omega arith) found in (
        before.0 + has.0,
        subst (λ j. HaveGates (known_by m.wires) (values_of (take j m.wires.list)) (before.0 + has.0))
            (let e : k + 1 ≡ suc k = omega arith in e) (wires_have_more (known_by m.wires) m.wires.list k wire before.0 has.0 (omega arith) found before.1 has.1),
      )

  -- the wires and then the results
  pub whole_count : (c y z x : ℕ) → HaveGates (known_by m.wires) (values_of m.wires.list) c → HasGates (known_by m.wires) m.y y
      → HasGates (known_by m.wires) m.z z → HasGates (known_by m.wires) m.x x → IsCountOf m (c + y + z + x)
  whole_count c y z x have has_y has_z has_x =
      subst (λ n. IsCountOf m n) (let e : c + (y + (z + (x + 0))) ≡ c + y + z + x = omega arith in e)
      (have_both (known_by m.wires) (values_of m.wires.list) (results_of m) c (y + (z + (x + 0))) have
      (HaveGates.more has_y (HaveGates.more has_z (HaveGates.more has_x HaveGates.none))))

pub count_exists : CountExists
count_exists m is =
    let list = m.wires.list in
    let wires = wires_count m is (length list) (omega arith) in
    let y = gates_of (known_by m.wires) m.y 32 is.y in
    let z = gates_of (known_by m.wires) m.z 32 is.z in
    let x = gates_of (known_by m.wires) m.x 32 is.x in (
      wires.0 + y.0 + z.0 + x.0,
      whole_count m is wires.0 y.0 z.0 x.0
          (subst (λ ws. HaveGates (known_by m.wires) (values_of ws) wires.0) (take_all (length list) list (omega arith)) wires.1) y.1 z.1 x.1,
    )
