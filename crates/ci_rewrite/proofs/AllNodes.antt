-- Runs that have made no node, all nodes in the order of the block, and all nodes in any order.
use Rattle.std.specs.Prelude.{◌≡◌, ℕ, zero, suc, ◌<◌, Bool, true, false, ◌&&◌, nat_lt, List, [], ◌∷◌, None}
use Rattle.std.proofs.Common.{refl, sym, ap, ◌∙◌, subst, arith, inl, inr, true≢false}
use Rattle.std.proofs.lemmas.Bool.{cases_eq, cases_lt, lt-ltb, false_from_ne_true}
use Rattle.ci_isa.specs.declared.instruction.Insn.{Insn}
use Rattle.ci_isa.specs.Sequences.{nth_insn}
use Rattle.ci_isa.proofs.LastPassing.{IsLast, last_or_none}
use Rattle.ci_isa.proofs.LastWriter.{written}
use Rattle.ci_machine.specs.declared.ends.End.{End}
use Rattle.ci_machine.specs.Cores.{Core, first_hidden, register}
use Rattle.ci_machine.specs.Outcomes.{Reached, continued, at_start}
use Rattle.ci_machine.specs.Actions.{Units, act}
use Rattle.ci_machine.specs.Agreement.{act_all, AreRelated, LeavesText, AllLeaveText}
use Rattle.ci_machine.proofs.LeavingLists.{leaves-parts}
use Rattle.ci_machine.proofs.RelatedLists.{act_all-append}
use Rattle.ci_machine.proofs.TestLaws.{by_end, no_end}
use Rattle.ci_rewrite.proofs.Stages.{those_below, those_zero, those_more}
use Rattle.ci_rewrite.proofs.Tracking.{Follows, HasStopped, core_at, end_at, goes_to_memory, memory_stays}

-- ---- two runs of which both have made all nodes

module _ {units : Units} {insns : List Insn} {start : Core} {n : ℕ} {placed first_dead second_dead : ℕ → Bool} {left right : Reached Core}
    (first : Follows units insns start n placed first_dead left) (second : Follows units insns start n placed second_dead right)
    (all : (j : ℕ) → j < n → placed j ≡ true) (alive : ℕ → Bool) (named : (r : ℕ) → alive r ≡ true → r < first_hidden)
    (living : (r w : ℕ) → alive r ≡ true → IsLast (written insns r) n w → (first_dead w ≡ false) × (second_dead w ≡ false)) where
  agree : left.end ≡ None → right.end ≡ None → (r : ℕ) → alive r ≡ true → register left.state r ≡ register right.state r
  agree on also r is = elim (last_or_none (written insns r) n) [
    | inl (w, last) ↦
        let (one, two) = living r w is last in
        (first.going on).registers r w visible (made last) one ∙ sym ((second.going also).registers r w visible (made last) two)
    | inr none ↦
        (first.going on).untouched r visible (untouched none) ∙ sym ((second.going also).untouched r visible (untouched none))
  ]
    where
      visible : r < first_hidden
      visible = named r is

      both : (j : ℕ) → j < n → (placed j && written insns r j) ≡ written insns r j
      both j below = ap (λ p. p && written insns r j) (all j below)

      made : {w : ℕ} → IsLast (written insns r) n w → IsLast (λ j. placed j && written insns r j) n w
      made last = record {
        below = last.below;
        passes = both _ last.below ∙ last.passes;
        none_behind = λ j behind below. both j below ∙ last.none_behind j behind below;
      }

      untouched : ((j : ℕ) → j < n → written insns r j ≡ false) → (j : ℕ) → j < n → (placed j && written insns r j) ≡ false
      untouched none j below = both j below ∙ none j below

  ends_at_one : (e f : End) (a : HasStopped units insns start n e left.state) (b : HasStopped units insns start n f right.state) → a.node ≡ b.node
  ends_at_one e f a b = elim (cases_lt a.node b.node) [
    | inl before ↦ absurd (no_end _ e (b.before a.node before) a.ends)
    | inr from ↦ elim (cases_eq a.node b.node) [
      | inl same ↦ same
      | inr other ↦ absurd (no_end _ f (a.before b.node (omega arith)) b.ends)
    ]
  ]

  pub all_related : AreRelated (λ _. false) alive left right
  all_related = by_end left.end
      (λ on. by_end right.end
      (λ also.
      let one = first.going on in
      let two = second.going also in
      let whole : (j : ℕ) → j < n → goes_to_memory insns j ≡ true → placed j ≡ nat_lt j n = λ j below access. all j below ∙ sym (lt-ltb j n below) in
      record {
        end = on ∙ sym also;
        outside = record {
          memory = λ address clear. one.memory n (omega arith) whole address ∙ sym (two.memory n (omega arith) whole address);
          heap_end = one.rest.heap_end ∙ sym two.rest.heap_end;
          input = one.rest.input ∙ sym two.rest.input;
          output = one.rest.output ∙ sym two.rest.output;
        };
        registers = λ _. agree on also;
      })
      (λ f ended. let b = second.stopped f ended in absurd (no_end _ f (first.unended on b.node b.within (all b.node b.within)) b.ends)))
      (λ e stops.
      let a = first.stopped e stops in
      by_end right.end
      (λ also. absurd (no_end _ e (second.unended also a.node a.within (all a.node a.within)) a.ends))
      (λ f ended.
      let b = second.stopped f ended in
      let at_one = ends_at_one e f a b in
      record {
        end = stops ∙ sym a.ends ∙ ap (end_at units insns start) at_one ∙ b.ends ∙ sym ended;
        outside = record {
          memory = λ address clear. a.memory address ∙ ap (λ k. (core_at units insns start k).memory address) at_one ∙ sym (b.memory address);
          heap_end = a.rest.heap_end ∙ sym b.rest.heap_end;
          input = a.rest.input ∙ sym b.rest.input;
          output = a.rest.output ∙ sym b.rest.output;
        };
        registers = λ none. absurd (no_end left.end e none stops);
      }))

-- ---- the block itself

module _ (units : Units) (insns : List Insn) (start : Core) where
  abbrev first_nodes : ℕ → List Insn
  first_nodes = those_below insns (λ _. true)

  -- the run through the first nodes, where none of them ends
  first_run : (k : ℕ) → ((j : ℕ) → j < k → end_at units insns start j ≡ None)
      → act_all units (first_nodes k) (at_start start) ≡ at_start (core_at units insns start k)
  first_run zero none = ap (λ l. act_all units l (at_start start)) (those_zero insns (λ _. true))
  first_run (suc k) none =
      ap (λ l. act_all units l (at_start start)) (those_more insns (λ _. true) k refl)
      ∙ act_all-append units (first_nodes k) (nth_insn insns k ∷ []) (at_start start)
      ∙ ap (continued (act units (nth_insn insns k))) (first_run k (λ j below. none j (omega arith)))
      ∙ λ i. record { state = core_at units insns start (suc k); end = none k (omega arith) i }

  -- where they leave the text alone, each node does that no end comes before
  pub block_clear : (text : ℕ → Bool) (m : ℕ) → AllLeaveText units text (first_nodes m) (at_start start)
      → (k : ℕ) → k < m → ((j : ℕ) → j < k → end_at units insns start j ≡ None) → LeavesText text (nth_insn insns k) (core_at units insns start k)
  block_clear text zero all k below none = absurd (omega arith)
  block_clear text (suc m) all k below none =
      let (before, (last, _)) = leaves-parts text units (first_nodes m) (nth_insn insns m ∷ []) (at_start start)
      (subst (λ l. AllLeaveText units text l (at_start start)) (those_more insns (λ _. true) m refl) all) in
      elim (cases_eq k m) [
        | inl same ↦
            let run = first_run m (λ j under. none j (omega arith)) in
            subst (λ i. LeavesText text (nth_insn insns i) (core_at units insns start i)) (sym same)
            (subst (λ r. LeavesText text (nth_insn insns m) r.state) run (last (ap (λ r. r.end) run)))
        | inr other ↦ block_clear text m before k (omega arith) none
      ]

  -- before any node has acted
  pub start_follows : (n : ℕ) (dead : ℕ → Bool) → Follows units insns start n (λ _. false) dead (at_start start)
  start_follows n dead = record {
    going = λ _. record {
      registers = λ r w other last. let none = last.passes in cc;
      untouched = λ r other none. refl;
      memory = λ a within acted address. ap (λ m. m address) (sym (memory_stays units insns start 0 a (omega arith) (λ j from to.
          false_from_ne_true (goes_to_memory insns j) (λ access. true≢false (sym (acted j (omega arith) access ∙ lt-ltb j a to))))));
      rest = record { heap_end = refl; input = refl; output = refl };
    };
    unended = λ _ j below acted. cc;
    stopped = λ e is. cc;
  }
