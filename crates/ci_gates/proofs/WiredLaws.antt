-- The words of a module's wires, made one after the other.
use Rattle.std.specs.Prelude.{◌≡◌, ℕ, ◌+◌, ◌^◌, ◌<◌, ◌≤◌, Bool, List, [], ◌∷◌, ◌++◌}
use Rattle.std.specs.Prelude.{length, take, drop, All}
use Rattle.std.specs.List.{Contains, slice_index_or}
use Rattle.std.proofs.Common.{refl, sym, ap, ◌∙◌, subst, arith, append_assoc}
use Rattle.std.proofs.Math.Nat.{mod-eq_of_lt}
use Rattle.std.proofs.lemmas.List.{length-append, map-append, take-append-drop, drop_more}
use Rattle.ci_verilog.specs.declared.vectors.Vector.{Vector}
use Rattle.ci_verilog.specs.declared.expressions.Wire.{Wire}
use Rattle.ci_verilog.specs.Modules.{Known, WireList, inputs, known_by, IsExpr, IsWire, Module, IsModule}
use Rattle.ci_verilog.specs.Values.{of_width, expr_value, Settles, results_of}
use Rattle.ci_verilog.specs.private.Held.{Fits}
use Rattle.ci_verilog.proofs.WireLaws.{wire_at}
use Rattle.ci_verilog.proofs.ValueLaws.{settled_for, settled_fit, word_at}
use Rattle.ci_netlist.specs.declared.bits.Bit.{Bit}
use Rattle.ci_netlist.specs.declared.bits.Gate.{Gate}
use Rattle.ci_netlist.specs.Netlists as netlist
use Rattle.ci_netlist.specs.Netlists.{bit_value, spelt, AreBits, AreGates, Netlist, IsValueOf}
use Rattle.ci_netlist.proofs.ValueLaws.{settled_somehow}
use Rattle.ci_gates.specs.Counts.{HasGates, HaveGates, exprs_of}
use Rattle.ci_gates.specs.Modules.{HasFewGates}
use Rattle.ci_gates.specs.private.Growing.{MakesWord}
use Rattle.ci_gates.specs.private.Scopes.{HoldsWords, IsHeld}
use Rattle.ci_gates.specs.private.Wired.{slot_of, first_wires, values_of, AreInputs, AreWords}
use Rattle.ci_gates.proofs.BitLaws.{grown_bits, appended_bits}
use Rattle.ci_gates.proofs.CountLaws.{wires_have_more, gates_of, later_expr, later_gates, have_room}
use Rattle.ci_gates.proofs.WireLaws.{five_inputs, known_later, holds_more, slot_bits, slot_wide}

module _ (m : Module) (is : IsModule m) where
  pub words_first : (words : List Bit) → AreInputs words 5 → AreWords m [] words 0
  words_first words are =
      record {
        is_module = is;
        count = HaveGates.none;
        room = are.room;
        are_bits = are.are_bits 0;
        hold = λ arguments gives names few settles settled. record {
          inputs_are = λ name k input.
              settled.inputs_are k name input
              ∙ ap (of_width 32)
              (sym (mod-eq_of_lt (word_at arguments few k)) ∙ sym (are.hold arguments gives k (five_inputs m.wires.wide name k input)));
          wires_are = λ k below d. absurd (omega arith);
          fit = λ v known. settled_fit m arguments names is settled few v (known_later m.wires 0 v known);
        };
      }

  -- names that settle the module with no inputs given, and their widths
  pub any_names : (names : List ℕ → Vector) × Settles m [] names
  any_names = settled_for m is []

  pub no_arguments : All (λ n. n < 2 ^ 32) []
  no_arguments k d below = absurd (omega arith)

  pub any_fit : (v : Known) → Contains (known_by m.wires) v → Fits (any_names.0 v.name) v.width
  any_fit = settled_fit m [] any_names.0 is any_names.1 no_arguments

  -- there are values that go together, where what settles the gates makes the words stand for the wires
  pub values_held : (gates : List Gate) (wires : WireList) (words : List Bit) → AreGates gates
      → ((arguments : List ℕ) (gives : ℕ → Bool) (names : List ℕ → Vector) → All (λ n. n < 2 ^ 32) arguments
      → netlist.Settles gates arguments gives → Settles m arguments names → HoldsWords (bit_value arguments gives) names wires words)
      → IsHeld wires words
  values_held gates wires words are_gates hold =
      let settles = settled_somehow gates are_gates [] in
      record {
        arguments = [];
        gives = settles.0;
        names = any_names.0;
        holds = hold [] settles.0 any_names.0 no_arguments settles.1 any_names.1;
      }

  pub wire_fits : (k : ℕ) (wire : Wire) → k < length m.wires.list → wire ≡ slice_index_or m.wires.list k wire
      → IsWire (known_by (first_wires m.wires k)) wire
  wire_fits k wire below found =
      subst (λ w. IsWire (known_by (first_wires m.wires k)) w) (sym found)
      (wire_at (inputs m.wires.wide) m.wires.list k wire is.are_wires below)

  -- the expression of the module's next wire, by all names
  pub wire_expr : (k : ℕ) (wire : Wire) → k < length m.wires.list → wire ≡ slice_index_or m.wires.list k wire
      → IsExpr (known_by m.wires) wire.value wire.width
  wire_expr k wire below found =
      later_expr (known_by (first_wires m.wires k)) (known_by m.wires) (known_later m.wires k) wire.value wire.width
      (wire_fits k wire below found).value

  module _ (gates : List Gate) (words : List Bit) (k : ℕ) (are : AreWords m gates words k) where
    -- there is room for the gates of the next wire
    pub wire_room : (wire : Wire) (n : ℕ) → k < length m.wires.list → wire ≡ slice_index_or m.wires.list k wire
        → HasGates (known_by (first_wires m.wires k)) wire.value n → HasFewGates m → length gates + n ≤ 4194304
    wire_room wire n below found has few =
        let list = m.wires.list in
        let before = values_of (take k list) in
        let after = values_of (drop (k + 1) list) ++ results_of m in
        let rest : drop k list ≡ wire ∷ drop (k + 1) list = drop_more list k wire below ∙ ap (λ w. w ∷ drop (k + 1) list) (sym found) in
        let all : exprs_of m ≡ before ++ wire.value ∷ after =
        ap (λ ws. values_of ws ++ results_of m) (sym (take-append-drop k list) ∙ ap (λ ws. take k list ++ ws) rest)
        ∙ ap (λ es. es ++ results_of m) (map-append (λ (w : Wire). w.value) (take k list) (wire ∷ drop (k + 1) list))
        ∙ append_assoc before (wire.value ∷ values_of (drop (k + 1) list)) (results_of m) in
        let most = have_room (known_by m.wires) any_names.0 any_fit before after wire.value (length gates) n few.0 are.count
        (later_gates (known_by (first_wires m.wires k)) (known_by m.wires) (known_later m.wires k) wire.value n has)
        (subst (λ es. HaveGates (known_by m.wires) es few.0) all few.1) in
        omega (arith, most, few.2)

    -- the words of one wire more
    pub words_more : (new : List Gate) (bits : List Bit) (wire : Wire) (n : ℕ) → k < length m.wires.list
        → wire ≡ slice_index_or m.wires.list k wire → HasGates (known_by (first_wires m.wires k)) wire.value n
        → MakesWord gates new n wire.width bits
        → ((arguments : List ℕ) (gives : ℕ → Bool) (names : List ℕ → Vector) → netlist.Settles new arguments gives
        → HoldsWords (bit_value arguments gives) names (first_wires m.wires k) words
        → spelt (bit_value arguments gives) bits ≡ expr_value names wire.value)
        → AreWords m new (words ++ slot_of bits) (k + 1)
    words_more new bits wire n below found has makes value =
        let known = known_by m.wires in
        let list = m.wires.list in
        let narrow : length bits ≤ 64 = let most = (wire_fits k wire below found).most in omega (arith, makes.width_is, most) in
        record {
          is_module = is;
          count =
              subst (HaveGates known (values_of (take (k + 1) list))) (sym makes.grows.count_is)
              (wires_have_more known list k wire (length gates) n below found are.count
              (later_gates (known_by (first_wires m.wires k)) known (known_later m.wires k) wire.value n has));
          room =
              let e = length-append words (slot_of bits) in
              let f = slot_wide bits narrow in
              omega (arith, e, f, are.room);
          are_bits = appended_bits (length new) words (slot_of bits) (grown_bits gates new n words makes.grows are.are_bits)
              (slot_bits (length new) bits makes.are_bits);
          hold = λ arguments gives names few settles settled.
              let before = are.hold arguments gives names few (makes.grows.kept arguments gives settles) settled in
              holds_more m is (bit_value arguments gives) names arguments words bits k wire refl few settled below found are.room narrow before
              (value arguments gives names settles before);
        }

    -- the same, where the scope and the wire go by other names
    pub wire_made : (seen : WireList) (wire asked : Wire) (new : List Gate) (bits : List Bit) → first_wires m.wires k ≡ seen
        → wire ≡ asked → k < length m.wires.list → wire ≡ slice_index_or m.wires.list k wire
        → ((n width : ℕ) → HasGates (known_by seen) asked.value n → IsExpr (known_by seen) asked.value width
        → MakesWord gates new n width bits)
        → ((arguments : List ℕ) (gives : ℕ → Bool) (names : List ℕ → Vector) → netlist.Settles new arguments gives
        → HoldsWords (bit_value arguments gives) names seen words
        → spelt (bit_value arguments gives) bits ≡ expr_value names asked.value)
        → AreWords m new (words ++ slot_of bits) (k + 1) × (length bits ≤ 64)
    wire_made seen wire asked new bits same is_asked below found makes value =
        let first = known_by (first_wires m.wires k) in
        let fits = wire_fits k wire below found in
        let has = gates_of first wire.value wire.width fits.value in
        let word =
        makes has.0 wire.width
        (subst (λ w. HasGates (known_by seen) w.value has.0) is_asked
        (subst (λ ws. HasGates (known_by ws) wire.value has.0) same has.1))
        (subst (λ w. IsExpr (known_by seen) w.value wire.width) is_asked
        (subst (λ ws. IsExpr (known_by ws) wire.value wire.width) same fits.value)) in (
          words_more new bits wire has.0 below found has.1 word
              (λ arguments gives names settles holds.
              value arguments gives names settles (subst (λ ws. HoldsWords (bit_value arguments gives) names ws words) same holds)
              ∙ ap (λ w. expr_value names w.value) (sym is_asked)),
          (let most = fits.most in omega (arith, word.width_is, most)),
        )
