-- Runs through the nodes of a test in their order.
use Rattle.std.proofs.Common.{◌≡◌, ℕ, zero, suc, ◌<◌, ◌≤◌, inl, inr, ap, sym, ◌∙◌, arith, subst, List, [], ◌∷◌, ◌++◌, None, true≢false}
use Rattle.std.specs.Prelude.{Bool, true, false, ◌&&◌, ◌||◌, ◌==◌, nat_lt, map, if◌then◌else◌}
use Rattle.std.proofs.lemmas.Bool.{cases_eq}
use Rattle.std.proofs.lemmas.Bool.Decides.{nat_tests}
use Rattle.std.proofs.lemmas.List.{map-append, append-nil}
use Rattle.ci_word.specs.Numbers.{numbers_below}
use Rattle.ci_word.proofs.NumberLaws.{numbers_below-zero, numbers_below-suc}
use Rattle.ci_isa.specs.declared.instruction.Insn.{Insn}
use Rattle.ci_isa.specs.Sequences.{nth_insn}
use Rattle.ci_machine.specs.Cores.{Core, register, first_hidden}
use Rattle.ci_machine.specs.Outcomes.{Reached, continued}
use Rattle.ci_machine.specs.Actions.{Units, act}
use Rattle.ci_rewrite.specs.private.Bundles.{given_at}
use Rattle.ci_machine.specs.Agreement.{act_all, AllLeaveText}
use Rattle.ci_machine.proofs.TestLaws.{by_test}
use Rattle.ci_machine.proofs.LeavingLists.{leaves-append}
use Rattle.ci_machine.proofs.RelatedLists.{act_all-append}
use Rattle.ci_rewrite.proofs.Tracking.{IsReady, IsBody, Follows, IsStep, Wants, core_at, step, follows_same}

-- the nodes of a test below b
abbrev pub those_below : List Insn → (ℕ → Bool) → ℕ → List Insn
those_below insns test b = map (nth_insn insns) (numbers_below b test)

-- those that have acted once the nodes of the test below b have
abbrev pub up_to : (ℕ → Bool) → (ℕ → Bool) → ℕ → ℕ → Bool
up_to placed test b j = placed j || (test j && nat_lt j b)

module _ (insns : List Insn) (test : ℕ → Bool) where
  pub those_zero : those_below insns test 0 ≡ []
  those_zero = ap (map (nth_insn insns)) (numbers_below-zero test)

  pub those_more : (b : ℕ) → test b ≡ true → those_below insns test (suc b) ≡ those_below insns test b ++ nth_insn insns b ∷ []
  those_more b is =
      ap (map (nth_insn insns)) (numbers_below-suc b test ∙ ap (λ t. numbers_below b test ++ (if t then b ∷ [] else [])) is)
      ∙ map-append (nth_insn insns) (numbers_below b test) (b ∷ [])

  pub those_same : (b : ℕ) → test b ≡ false → those_below insns test (suc b) ≡ those_below insns test b
  those_same b is =
      ap (map (nth_insn insns))
      (numbers_below-suc b test ∙ ap (λ t. numbers_below b test ++ (if t then b ∷ [] else [])) is ∙ append-nil (numbers_below b test))

module _ (units : Units) (insns : List Insn) (start : Core) (n : ℕ) where
  -- the nodes of the test below b have acted after others, and left the text alone
  pub record IsStage (text placed dead test : ℕ → Bool) (run : Reached Core) (b : ℕ) : Type 0 where
    pub follows : Follows units insns start n (up_to placed test b) dead (act_all units (those_below insns test b) run)
    pub leaves_text : AllLeaveText units text (those_below insns test b) run
    pub hidden_there :
        (u : ℕ) → b ≡ suc u → test u ≡ true → (r : ℕ) → first_hidden ≤ r → given_at insns b r ≡ true
        → (act_all units (those_below insns test b) run).end ≡ None
        → register (core_at units insns start b) r ≡ register (act_all units (those_below insns test b) run).state r

  -- Each node of the test may act when the others of the test before it have, and one that wants a hidden register directly
  -- behind the word of its bundle before it.
  pub record IsOrder (placed dead test : ℕ → Bool) : Type 0 where
    pub ready : (b : ℕ) → b < n → test b ≡ true → IsReady units insns start n (up_to placed test b) dead b
    pub bundled :
        (b r : ℕ) → b < n → test b ≡ true → first_hidden ≤ r → Wants units insns start n b r
        → (u : ℕ) × (b ≡ suc u) × (test u ≡ true) × (given_at insns b r ≡ true)

  module _ (text placed dead test : ℕ → Bool) (run : Reached Core) (body : IsBody units insns start n text) (order : IsOrder placed dead test)
      (follows : Follows units insns start n placed dead run) where
    abbrev after : ℕ → Reached Core
    after b = act_all units (those_below insns test b) run

    one_more : (b j : ℕ) → test b ≡ true → up_to placed test (suc b) j ≡ (up_to placed test b j || (j == b))
    one_more b j is = elim (cases_eq j b) [
      | inl at_it ↦ by_here (placed j) (test j) (ap test at_it ∙ is) at_it
      | inr other ↦ by_other (placed j) (test j) other
    ]
      where
        by_here : (p t : Bool) → t ≡ true → j ≡ b → (p || (t && nat_lt j (suc b))) ≡ ((p || (t && nat_lt j b)) || (j == b))
        by_here p t is at_it = grind (arith, nat_tests)

        by_other : (p t : Bool) → (j ≡ b → ⊥) → (p || (t && nat_lt j (suc b))) ≡ ((p || (t && nat_lt j b)) || (j == b))
        by_other p t other = grind (arith, nat_tests, other)

    none_more : (b j : ℕ) → test b ≡ false → up_to placed test b j ≡ up_to placed test (suc b) j
    none_more b j fails = elim (cases_eq j b) [
      | inl at_it ↦ by_here (placed j) (test j) (ap test at_it ∙ fails)
      | inr other ↦ by_other (placed j) (test j) other
    ]
      where
        by_here : (p t : Bool) → t ≡ false → (p || (t && nat_lt j b)) ≡ (p || (t && nat_lt j (suc b)))
        by_here p t fails = grind arith

        by_other : (p t : Bool) → (j ≡ b → ⊥) → (p || (t && nat_lt j b)) ≡ (p || (t && nat_lt j (suc b)))
        by_other p t other = grind (arith, nat_tests, other)

    -- node b has acted too
    whole : (b : ℕ) → IsStage text placed dead test run b → test b ≡ true
        → IsStep units insns start n text b (up_to placed test (suc b)) dead (after b) → IsStage text placed dead test run (suc b)
    whole b before is now =
        let list = those_more insns test b is in
        let run_is : after (suc b) ≡ continued (act units (nth_insn insns b)) (after b) =
        ap (λ l. act_all units l run) list ∙ act_all-append units (those_below insns test b) (nth_insn insns b ∷ []) run in
        record {
          follows = subst (Follows units insns start n (up_to placed test (suc b)) dead) (sym run_is) now.follows;
          leaves_text = subst (λ l. AllLeaveText units text l run) (sym list)
              (leaves-append text units (those_below insns test b) (nth_insn insns b ∷ []) run before.leaves_text (now.leaves_text, tt));
          hidden_there = λ u same there r hidden given on.
              now.hidden_there r hidden given (ap (λ run. run.end) (sym run_is) ∙ on) ∙ ap (λ run. register run.state r) (sym run_is);
        }

    pub stage : (b : ℕ) → b ≤ n → IsStage text placed dead test run b
    stage zero within = record {
      follows = subst (λ list. Follows units insns start n (up_to placed test 0) dead (act_all units list run)) (sym (those_zero insns test))
          (follows_same units insns start n placed (up_to placed test 0) dead run (λ j below. at_first (placed j) (test j) j) follows);
      leaves_text = subst (λ list. AllLeaveText units text list run) (sym (those_zero insns test)) tt;
      hidden_there = λ u is. absurd (omega arith);
    }
      where
        at_first : (p t : Bool) (j : ℕ) → p ≡ (p || (t && nat_lt j 0))
        at_first p t j = grind (arith, nat_tests)
    stage (suc b) within =
        let before = stage b (omega arith) in
        by_test (test b)
        (λ is. whole b before is
        (step units insns start n text (up_to placed test b) dead (up_to placed test (suc b)) (after b) body before.follows
        b (order.ready b (omega arith) is) (λ j below. one_more b j is) (λ on r hidden wants.
        let (u, same, there, given) = order.bundled b r (omega arith) is hidden wants in before.hidden_there u same there r hidden given on)))
        (λ fails. record {
          follows = subst (λ list. Follows units insns start n (up_to placed test (suc b)) dead (act_all units list run)) (sym (those_same insns test b fails))
              (follows_same units insns start n (up_to placed test b) (up_to placed test (suc b)) dead _ (λ j below. none_more b j fails) before.follows);
          leaves_text = subst (λ list. AllLeaveText units text list run) (sym (those_same insns test b fails)) before.leaves_text;
          hidden_there = λ u same there. absurd (true≢false (sym there ∙ ap test (let at_it : u ≡ b = omega arith in at_it) ∙ fails));
        })
