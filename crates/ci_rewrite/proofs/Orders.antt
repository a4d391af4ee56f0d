-- In a folded block each node outside the cut acts when what it depends on has acted; in the block each node does.
use Rattle.std.specs.Prelude.{◌≡◌, ℕ, ◌<◌, ◌≤◌, Bool, true, false, not, ◌&&◌, ◌||◌, nat_lt, List}
use Rattle.std.specs.FinSet as finite
use Rattle.std.specs.Ordering.{nat_cmp}
use Rattle.std.proofs.Common.{refl, sym, ap, ◌∙◌, arith, inl, inr, true≢false}
use Rattle.std.proofs.lemmas.Bool.{cases_eq, cases_lt, or_cases, and_left, and_right, false_from_ne_true, or_from}
use Rattle.std.proofs.lemmas.Bool.Decides.{nat_tests}
use Rattle.ci_isa.specs.declared.instruction.Insn.{Insn}
use Rattle.ci_isa.proofs.LastWriter.{written, last_writer}
use Rattle.ci_lat.specs.Latencies.{Latencies}
use Rattle.ci_machine.specs.Cores.{Core}
use Rattle.ci_machine.specs.Actions.{Units}
use Rattle.ci_rewrite.specs.private.Bundles.{TakeGiven}
use Rattle.ci_machine.proofs.TestLaws.{by_test}
use Rattle.ci_cut.specs.Ports.{is_output}
use Rattle.ci_dfg.specs.Arcs.{IsOwnArc, true_arc, anti_arc, output_arc, memory_arc}
use Rattle.ci_dfg.specs.BlockGraph.{graph_of}
use Rattle.ci_rewrite.proofs.CutNodes.{IsFolding, late, late_parts, is_dead, within, early_outside, read_outside}
use Rattle.ci_rewrite.proofs.CutNodes.{before_early, before_member, found_behind, same_side, late_same}
use Rattle.ci_rewrite.proofs.Stages.{IsOrder, up_to}
use Rattle.ci_rewrite.proofs.Tracking.{reads_at}

-- a later node that writes what an earlier one reads or writes stays behind it
hazard : (insns : List Insn) (r j k : ℕ) → j < k → (reads_at insns j r || written insns r j) ≡ true → written insns r k ≡ true → IsOwnArc insns j k
hazard insns r j k before used writes = elim (or_cases (reads_at insns j r) (written insns r j) used) [
  | inl reads ↦ anti_arc j k r before reads writes
  | inr also ↦ output_arc j k r before also writes
]

-- the nodes of a test that have acted before node b
not_itself : (e : Bool) (b : ℕ) → (false || (e && nat_lt b b)) ≡ false
not_itself e b = grind (arith, nat_tests)

placed : (e : Bool) (w b : ℕ) → e ≡ true → w < b → (false || (e && nat_lt w b)) ≡ true
placed e w b is below = grind (arith, nat_tests)

not_placed : (e : Bool) (j b : ℕ) (w : Bool) → b < j → ((false || (e && nat_lt j b)) && w) ≡ false
not_placed e j b w later = grind (arith, nat_tests)

module _ {insns : List Insn} {live_out : finite.FinSet nat_cmp} {table : Latencies} {cut early : ℕ → Bool} {n : ℕ}
    (known : IsFolding insns live_out table cut early n) (units : Units) (take : TakeGiven units insns) (start : Core) where
  pub early_order : IsOrder units insns start n (λ _. false) (is_dead known) early
  early_order = record {
    ready = λ b below is. record {
      within = below;
      fresh = not_itself (early b) b;
      sources = λ r w read last.
          let w_early = before_early known w b (within known b below) (true_arc w b r (last_writer last) read) is in (
            placed (early w) w b w_early last.below,
            and_left (cut w) (not (is_output (graph_of insns live_out table) cut w))
                (early_outside known w (within known w (omega (arith, last.below))) w_early),
          );
      no_later = λ r j used later there. not_placed (early j) j b (written insns r j) later;
      accesses = λ it_moves j there moves. elim (cases_lt j b) [
        | inl before ↦ at_before (early j) j b before (before_early known j b (within known b below) (memory_arc j b before moves it_moves) is)
        | inr behind ↦ at_behind (early j) j b behind
      ];
    };
    bundled = λ b r below is hidden wants.
        let ((u, same, joined), given) = found_behind known units take b r (within known b below) hidden wants in
        (u, same, same_side known u joined ∙ ap early (sym same) ∙ is, given);
  }
    where
      at_before : (e : Bool) (j b : ℕ) → j < b → e ≡ true → (false || (e && nat_lt j b)) ≡ nat_lt j b
      at_before e j b before is = grind (arith, nat_tests)

      at_behind : (e : Bool) (j b : ℕ) → b ≤ j → (false || (e && nat_lt j b)) ≡ nat_lt j b
      at_behind e j b behind = grind (arith, nat_tests)

  -- what has to stay behind a late node is late
  late_behind : (b j : ℕ) → j < n → IsOwnArc insns b j → late known b ≡ true → (early j ≡ false) × (cut j ≡ false)
  late_behind b j below is b_late =
      let (b_out, b_not_early) = late_parts known b b_late in (
        false_from_ne_true (early j) (λ j_early. true≢false (sym (before_early known b j (within known j below) is j_early) ∙ b_not_early)),
        false_from_ne_true (cut j) (λ member.
            true≢false (sym (before_member known b j (within known j below) is member) ∙ or_from (early b) (cut b) b_not_early b_out)),
      )

  pub late_order : IsOrder units insns start n (λ j. early j || cut j) (is_dead known) (late known)
  late_order = record {
    ready = λ b below is. record {
      within = below;
      fresh = not_itself (early b) (cut b) b is;
      sources = λ r w read last. (
        placed (early w) (cut w) w b last.below,
        read_outside known b w r (within known b below) (late_parts known b is).0 read last,
      );
      no_later = λ r j used later there. by_test (written insns r j)
          (λ writes.
          let (none, out) = late_behind b j there (hazard insns r b j later used writes) is in
          unplaced (early j) (cut j) (written insns r j) j b later none out)
          (λ none. and_right (up_to (λ i. early i || cut i) (late known) b j) (written insns r j) none);
      accesses = λ it_moves j there moves. elim (cases_lt j b) [
        | inl before ↦ at_before (early j) (cut j) j b before
        | inr behind ↦ elim (cases_eq j b) [
          | inl same ↦ at_it (early j) (cut j) j b same (ap (late known) same ∙ is)
          | inr other ↦
              let (none, out) = late_behind b j there (memory_arc b j (omega arith) it_moves moves) is in
              at_behind (early j) (cut j) j b behind none out
        ]
      ];
    };
    bundled = λ b r below is hidden wants.
        let ((u, same, joined), given) = found_behind known units take b r (within known b below) hidden wants in
        (u, same, late_same known u joined ∙ ap (late known) (sym same) ∙ is, given);
  }
    where
      not_itself : (e c : Bool) (b : ℕ) → (not c && not e) ≡ true → ((e || c) || ((not c && not e) && nat_lt b b)) ≡ false
      not_itself e c b is = grind (arith, nat_tests)

      placed : (e c : Bool) (w b : ℕ) → w < b → ((e || c) || ((not c && not e) && nat_lt w b)) ≡ true
      placed true c w b below = grind (arith, nat_tests)
      placed false c w b below = grind (arith, nat_tests)

      unplaced : (e c w : Bool) (j b : ℕ) → b < j → e ≡ false → c ≡ false → (((e || c) || ((not c && not e) && nat_lt j b)) && w) ≡ false
      unplaced e c w j b later none out = grind (arith, nat_tests)

      at_before : (e c : Bool) (j b : ℕ) → j < b → ((e || c) || ((not c && not e) && nat_lt j b)) ≡ nat_lt j b
      at_before true c j b before = grind (arith, nat_tests)
      at_before false c j b before = grind (arith, nat_tests)

      at_it : (e c : Bool) (j b : ℕ) → j ≡ b → (not c && not e) ≡ true → ((e || c) || ((not c && not e) && nat_lt j b)) ≡ nat_lt j b
      at_it e c j b same is = grind (arith, nat_tests)

      at_behind : (e c : Bool) (j b : ℕ) → b ≤ j → e ≡ false → c ≡ false → ((e || c) || ((not c && not e) && nat_lt j b)) ≡ nat_lt j b
      at_behind e c j b behind none out = grind (arith, nat_tests)

  -- the order of the block
  pub block_order : IsOrder units insns start n (λ _. false) (λ _. false) (λ _. true)
  block_order = record {
    ready = λ b below is. record {
      within = below;
      fresh = not_itself true b;
      sources = λ r w read last. (placed true w b refl last.below, refl);
      no_later = λ r j used later there. not_placed true j b (written insns r j) later;
      accesses = λ it_moves j there moves. same_test (nat_lt j b);
    };
    bundled = λ b r below is hidden wants.
        let ((u, same, joined), given) = found_behind known units take b r (within known b below) hidden wants in
        (u, same, refl, given);
  }
    where
      same_test : (t : Bool) → (false || (true && t)) ≡ t
      same_test t = grind arith
