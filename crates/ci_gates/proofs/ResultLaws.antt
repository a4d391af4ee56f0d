-- The bits of a module's results, made behind the words of its wires.
use Rattle.std.specs.Prelude.{◌≡◌, ℕ, ◌+◌, ◌≤◌, Bool, List, [], ◌∷◌, ◌++◌}
use Rattle.std.specs.Prelude.{length, take, drop}
use Rattle.std.proofs.Common.{refl, sym, ap, ◌∙◌, subst, arith, append_assoc, append-nil}
use Rattle.std.proofs.lemmas.List.{length-append, take_all, drop-drop, take_at, drop_at}
use Rattle.ci_verilog.specs.declared.vectors.Vector.{Vector}
use Rattle.ci_verilog.specs.declared.expressions.Expr.{Expr}
use Rattle.ci_verilog.specs.Modules.{WireList, wires_of, known_by, IsExpr, Module, IsModule}
use Rattle.ci_verilog.specs.Values.{expr_value, results_of}
use Rattle.ci_netlist.specs.declared.bits.Bit.{Bit}
use Rattle.ci_netlist.specs.declared.bits.Gate.{Gate}
use Rattle.ci_netlist.specs.Netlists as netlist
use Rattle.ci_netlist.specs.Netlists.{bit_value, spelt, AreBits, AreGates, Netlist, IsValueOf}
use Rattle.ci_gates.specs.Counts.{HasGates, HaveGates, exprs_of}
use Rattle.ci_gates.specs.Modules.{HasFewGates}
use Rattle.ci_gates.specs.private.Growing.{MakesWord}
use Rattle.ci_gates.specs.private.Scopes.{HoldsWords}
use Rattle.ci_gates.specs.private.Wired.{values_of, AreWords, AreBehind, IsNext, IsResult, AreOutputs}
use Rattle.ci_gates.proofs.BitLaws.{grown_bits, appended_bits}
use Rattle.ci_gates.proofs.CountLaws.{gates_of, have_more, have_room}
use Rattle.ci_gates.proofs.WiredLaws.{any_names, any_fit}

module _ (m : Module) (is : IsModule m) (gates : List Gate) (words : List Bit) where
  pub behind_wires : AreWords m gates words (length m.wires.list) → AreBehind m gates words []
  behind_wires are =
      let list = m.wires.list in
      let whole : take (length list) list ≡ list = take_all (length list) list (omega arith) in
      record {
        count =
            subst (λ es. HaveGates (known_by m.wires) es (length gates)) (sym (append-nil (values_of list)))
            (subst (λ ws. HaveGates (known_by m.wires) (values_of ws) (length gates)) whole are.count);
        room = are.room;
        are_bits = are.are_bits;
        hold = λ arguments gives names few settles settled.
            subst (λ ws. HoldsWords (bit_value arguments gives) names (wires_of m.wires.wide ws) words) whole
            (are.hold arguments gives names few settles settled);
      }

  module _ (exprs : List Expr) (are : AreBehind m gates words exprs) where
    module _ (expr : Expr) (next : IsNext m exprs expr) where
      pub result_room : (n : ℕ) → HasGates (known_by m.wires) expr n → HasFewGates m → length gates + n ≤ 4194304
      result_room n has few =
          let wires = values_of m.wires.list in
          let all : exprs_of m ≡ (wires ++ exprs) ++ expr ∷ next.others =
          ap (λ es. wires ++ es) next.splits ∙ sym (append_assoc wires exprs (expr ∷ next.others)) in
          let most = have_room (known_by m.wires) (any_names m is).0 (any_fit m is) (wires ++ exprs) next.others expr (length gates) n few.0
          are.count has (subst (λ es. HaveGates (known_by m.wires) es few.0) all few.1) in
          omega (arith, most, few.2)

      module _ (new : List Gate) (bits : List Bit) (n : ℕ) (has : HasGates (known_by m.wires) expr n) (makes : MakesWord gates new n 32 bits) where
        pub behind_more : AreBehind m new words (exprs ++ expr ∷ [])
        behind_more =
            let known = known_by m.wires in
            let wires = values_of m.wires.list in
            record {
              count =
                  subst (λ es. HaveGates known es (length new)) (append_assoc wires exprs (expr ∷ []))
                  (subst (λ c. HaveGates known ((wires ++ exprs) ++ expr ∷ []) c) (sym makes.grows.count_is)
                  (have_more known (wires ++ exprs) expr (length gates) n are.count has));
              room = are.room;
              are_bits = grown_bits gates new n words makes.grows are.are_bits;
              hold = λ arguments gives names few settles settled.
                  are.hold arguments gives names few (makes.grows.kept arguments gives settles) settled;
            }

        pub is_result
            : ((arguments : List ℕ) (gives : ℕ → Bool) (names : List ℕ → Vector) → netlist.Settles new arguments gives
            → HoldsWords (bit_value arguments gives) names m.wires words
            → spelt (bit_value arguments gives) bits ≡ expr_value names expr)
            → IsResult m gates new expr bits
        is_result value = record {
          count = n;
          grows = makes.grows;
          width = makes.width_is;
          are_bits = makes.are_bits;
          value = λ arguments gives names few settles settled.
              value arguments gives names settles
              (are.hold arguments gives names few (makes.grows.kept arguments gives settles) settled);
        }

      -- the same, where the scope goes by another name
      pub result_made : (seen : WireList) (new : List Gate) (bits : List Bit) → m.wires ≡ seen
          → ((n width : ℕ) → HasGates (known_by seen) expr n → IsExpr (known_by seen) expr width → MakesWord gates new n width bits)
          → ((arguments : List ℕ) (gives : ℕ → Bool) (names : List ℕ → Vector) → netlist.Settles new arguments gives
          → HoldsWords (bit_value arguments gives) names seen words
          → spelt (bit_value arguments gives) bits ≡ expr_value names expr)
          → IsResult m gates new expr bits × AreBehind m new words (exprs ++ expr ∷ [])
      result_made seen new bits same makes value =
          let has = gates_of (known_by m.wires) expr 32 next.is_word in
          let word =
          makes has.0 32 (subst (λ ws. HasGates (known_by ws) expr has.0) same has.1)
          (subst (λ ws. IsExpr (known_by ws) expr 32) same next.is_word) in (
            is_result new bits has.0 has.1 word
                (λ arguments gives names settles holds.
                value arguments gives names settles (subst (λ ws. HoldsWords (bit_value arguments gives) names ws words) same holds)),
            behind_more new bits has.0 has.1 word,
          )

-- one result after the other
module _ (m : Module) (is : IsModule m) (words : List Bit) where
  abbrev pub Turn : List Gate → List Gate → Expr → Type 0
  Turn old new expr =
      (exprs : List Expr) → AreBehind m old words exprs → IsNext m exprs expr → AreBehind m new words (exprs ++ expr ∷ [])

  abbrev pub HasNext : List Gate → Expr → Type 0
  HasNext gates expr = (exprs : List Expr) × AreBehind m gates words exprs × IsNext m exprs expr

  module _ (start first : List Gate) (y : Expr) (is_y : y ≡ m.y) (are : AreWords m start words (length m.wires.list)) (turn : Turn start first y) where
    behind_y : AreBehind m first words (m.y ∷ [])
    behind_y =
        subst (Turn start first) is_y turn [] (behind_wires m is start words are)
        (record { others = m.z ∷ m.x ∷ []; splits = refl; is_word = is.y })

    next_z : IsNext m (m.y ∷ []) m.z
    next_z = record { others = m.x ∷ []; splits = refl; is_word = is.z }

    pub has_second : (z : Expr) → z ≡ m.z → HasNext first z
    has_second z is_z = (m.y ∷ [], behind_y, subst (IsNext m (m.y ∷ [])) (sym is_z) next_z)

    module _ (second : List Gate) (z : Expr) (is_z : z ≡ m.z) (turn_z : Turn first second z) where
      behind_z : AreBehind m second words (m.y ∷ m.z ∷ [])
      behind_z = subst (Turn first second) is_z turn_z (m.y ∷ []) behind_y next_z

      next_x : IsNext m (m.y ∷ m.z ∷ []) m.x
      next_x = record { others = []; splits = refl; is_word = is.x }

      pub has_third : (x : Expr) → x ≡ m.x → HasNext second x
      has_third x is_x = (m.y ∷ m.z ∷ [], behind_z, subst (IsNext m (m.y ∷ m.z ∷ [])) (sym is_x) next_x)

      pub behind_all : (third : List Gate) (x : Expr) → x ≡ m.x → Turn second third x → AreBehind m third words (results_of m)
      behind_all third x is_x turn_x = subst (Turn second third) is_x turn_x (m.y ∷ m.z ∷ []) behind_z next_x

-- the results of a module, one behind the other
module _ (m : Module) (start first second third : List Gate) (words y z x : List Bit) (of_y : IsResult m start first m.y y)
    (of_z : IsResult m first second m.z z) (of_x : IsResult m second third m.x x)
    (are : AreBehind m third words (results_of m)) where
  wide : length (y ++ (z ++ x)) ≡ 96
  wide =
      let e = length-append y (z ++ x) in
      let f = length-append z x in
      omega (arith, e, f, of_y.width, of_z.width, of_x.width)

  results_parts : take 32 (y ++ (z ++ x)) ≡ y
  results_parts = take_at y (z ++ x) 32 of_y.width

  second_part : take 32 (drop 32 (y ++ (z ++ x))) ≡ z
  second_part = ap (take 32) (drop_at y (z ++ x) 32 of_y.width) ∙ take_at z x 32 of_z.width

  third_part : drop 64 (y ++ (z ++ x)) ≡ x
  third_part =
      sym (drop-drop 32 32 (y ++ (z ++ x))) ∙ ap (drop 32) (drop_at y (z ++ x) 32 of_y.width) ∙ drop_at z x 32 of_z.width

  pub are_outputs : AreOutputs m third (y ++ (z ++ x))
  are_outputs = record {
    count = are.count;
    words = wide;
    are_bits = appended_bits (length third) y (z ++ x)
        (grown_bits second third of_x.count y of_x.grows (grown_bits first second of_z.count y of_z.grows of_y.are_bits))
        (appended_bits (length third) z x (grown_bits second third of_x.count z of_x.grows of_z.are_bits) of_x.are_bits);
    value = λ arguments gives names few settles settled.
        let holds = bit_value arguments gives in
        let before = of_x.grows.kept arguments gives settles in
        let begun = of_z.grows.kept arguments gives before in
        λ i. (ap (spelt holds) results_parts ∙ of_y.value arguments gives names few begun settled) i
        ∷ (ap (spelt holds) second_part ∙ of_z.value arguments gives names few before settled) i
        ∷ (ap (spelt holds) third_part ∙ of_x.value arguments gives names few settles settled) i ∷ [];
  }
