-- What the use of a unit leaves, with up to five inputs and three outputs.
use Rattle.std.proofs.Common.{◌≡◌, ◌≢◌, ℕ, zero, suc, ◌+◌, ◌<◌, ◌≤◌, refl, ap, sym, ◌∙◌, arith, subst, List, [], ◌∷◌, length, slice_index, drop, true≢false}
use Rattle.std.specs.Prelude.{Bool, true, false, slice_index_or, if◌then◌else◌}
use Rattle.std.proofs.lemmas.Bool.Decides.{nat_tests}
use Rattle.ci_isa.specs.Effects.{is_among, is_kept}
use Rattle.ci_machine.specs.Cores.{Core, hidden, hidden_operands, register, with_register, with_registers, values_in}
use Rattle.ci_machine.specs.Outcomes.{at_start}
use Rattle.ci_machine.specs.Actions.{Units}
use Rattle.ci_machine.specs.Agreement.{act_all}
use Rattle.ci_machine.specs.Blocks.{HaveSameStreams}
use Rattle.ci_dfg.specs.Bundles.{a_unit, another, Bundled}
use Rattle.ci_unit.specs.UseWords.{reads_of, use_words}
use Rattle.ci_rewrite.specs.private.Bundles.{taken_from}
use Rattle.ci_rewrite.specs.private.Bundles.{IsLeft, UseLeaves}
use Rattle.ci_machine.proofs.RegisterLaws.{register_kept, register_written, registers_kept}

-- ---- the reads

-- the core behind them
abbrev reads_core : ℕ → List ℕ → Core → Core
reads_core index [] core = core
reads_core index (r ∷ registers) core = reads_core (suc index) registers (with_register core r (register core (32 + index)))

reads_act : (units : Units) (index : ℕ) (registers : List ℕ) (core : Core)
    → act_all units (reads_of index registers) (at_start core) ≡ at_start (reads_core index registers core)
reads_act units index [] core = refl
reads_act units index (r ∷ registers) core = reads_act units (suc index) registers (with_register core r (register core (32 + index)))

apart : (r q : ℕ) → r ≢ q → is_among (r ∷ []) q ≡ false
apart r q other = grind (arith, nat_tests, other)

itself : (r : ℕ) → is_kept r ≡ true → is_among (r ∷ []) r ≡ true
itself r is = grind (arith, nat_tests)

reads_others : (index : ℕ) (registers : List ℕ) (core : Core) (q : ℕ) → ((i : ℕ) → i < length registers → slice_index registers i ≢ q)
    → register (reads_core index registers core) q ≡ register core q
reads_others index [] core q none = refl
reads_others index (r ∷ registers) core q none =
    reads_others (suc index) registers _ q (λ i below. none (suc i) (omega arith))
    ∙ register_kept core r _ q (apart r q (none 0 (omega arith)))

-- named registers that are kept
abbrev AreResults : List ℕ → Type 0
AreResults registers = (i : ℕ) → i < length registers → (slice_index registers i < 32) × (is_kept (slice_index registers i) ≡ true)

-- each of them takes its result, where none behind it is the same
reads_there : (index : ℕ) (registers : List ℕ) (core : Core) → AreResults registers → (i : ℕ) → i < length registers
    → ((j : ℕ) → i < j → j < length registers → slice_index registers j ≢ slice_index registers i)
    → register (reads_core index registers core) (slice_index registers i) ≡ register core (32 + (index + i))
reads_there index [] core are i below last = absurd (omega arith)
reads_there index (r ∷ registers) core are zero below last =
    reads_others (suc index) registers _ r (λ i less. last (suc i) (omega arith) (omega arith))
    ∙ register_written core r _ r (itself r (are 0 (omega arith)).1)
    ∙ ap (λ n. register core (32 + n)) (let same : index ≡ index + 0 = omega arith in same)
reads_there index (r ∷ registers) core are (suc i) below last =
    reads_there (suc index) registers _ (λ j less. are (suc j) (omega arith)) i (omega arith) (λ j after less. last (suc j) (omega arith) (omega arith))
    ∙ register_kept core r _ (32 + (suc index + i)) (apart r (32 + (suc index + i)) (let low = (are 0 (omega arith)).0 in λ same. absurd (omega arith)))
    ∙ ap (λ n. register core (32 + n)) (let same : suc index + i ≡ index + suc i = omega arith in same)

reads_memory : (index : ℕ) (registers : List ℕ) (core : Core) → (reads_core index registers core).memory ≡ core.memory
reads_memory index [] core = refl
reads_memory index (r ∷ registers) core = reads_memory (suc index) registers (with_register core r (register core (32 + index)))

reads_rest : (index : ℕ) (registers : List ℕ) (core : Core) → HaveSameStreams (reads_core index registers core) core
reads_rest index [] core = record { heap_end = refl; input = refl; output = refl }
reads_rest index (r ∷ registers) core =
    let more = reads_rest (suc index) registers (with_register core r (register core (32 + index))) in
    record { heap_end = more.heap_end; input = more.input; output = more.output }

-- ---- the unit word

named_apart : (q : ℕ) → q < 32 → is_among hidden q ≡ false
named_apart q below = grind (arith, nat_tests)

operands_apart : (q : ℕ) → q < 32 → is_among hidden_operands q ≡ false
operands_apart q below = grind (arith, nat_tests)

-- what it leaves of these values, with its first output in this register
module _ (core : Core) (rd : ℕ) (low : rd < 32) (kept : is_kept rd ≡ true) (values : List ℕ) where
  abbrev behind_unit : Core
  behind_unit = with_registers core (rd ∷ hidden) values

  unit_first : register behind_unit rd ≡ slice_index_or values 0 0
  unit_first = register_written (with_registers core hidden (drop 1 values)) rd _ rd (itself rd kept)

  unit_result : (n : ℕ) → n < 2 → register behind_unit (32 + n) ≡ slice_index_or values (suc n) 0
  unit_result zero below =
      register_kept (with_registers core hidden (drop 1 values)) rd _ 32 (apart rd 32 (λ same. absurd (omega arith)))
      ∙ register_written (with_registers core (33 ∷ []) (drop 1 (drop 1 values))) 32 (slice_index_or (drop 1 values) 0 0) 32 refl ∙ second values
    where
      second : (values : List ℕ) → slice_index_or (drop 1 values) 0 0 ≡ slice_index_or values 1 0
      second [] = refl
      second (v ∷ values) = refl
  unit_result (suc zero) below =
      register_kept (with_registers core hidden (drop 1 values)) rd _ 33 (apart rd 33 (λ same. absurd (omega arith)))
      ∙ register_kept (with_registers core (33 ∷ []) (drop 1 (drop 1 values))) 32 (slice_index_or (drop 1 values) 0 0) 33 refl
      ∙ register_written core 33 (slice_index_or (drop 1 (drop 1 values)) 0 0) 33 refl ∙ third values
    where
      third : (values : List ℕ) → slice_index_or (drop 1 (drop 1 values)) 0 0 ≡ slice_index_or values 2 0
      third [] = refl
      third (v ∷ []) = refl
      third (v ∷ w ∷ values) = refl
  unit_result (suc (suc n)) below = absurd (omega arith)

  unit_others : (q : ℕ) → q < 32 → rd ≢ q → register behind_unit q ≡ register core q
  unit_others q below other =
      register_kept (with_registers core hidden (drop 1 values)) rd _ q (apart rd q other)
      ∙ registers_kept hidden (drop 1 values) core q (named_apart q below)

-- ---- the unit word and the reads

module _ (units : Units) (core : Core) (values : List ℕ) (rd : ℕ) (more : List ℕ) (are : AreResults (rd ∷ more)) (few : length more ≤ 2) where
  low : rd < 32
  low = (are 0 (omega arith)).0

  kept : is_kept rd ≡ true
  kept = (are 0 (omega arith)).1

  are_more : AreResults more
  are_more i below = are (suc i) (omega arith)

  abbrev unit_core : Core
  unit_core = with_registers core (rd ∷ hidden) values

  abbrev last_core : Core
  last_core = reads_core 0 more unit_core

  left_there : (i : ℕ) → i < length (rd ∷ more) → ((j : ℕ) → i < j → j < length (rd ∷ more) → slice_index (rd ∷ more) j ≢ slice_index (rd ∷ more) i)
      → register last_core (slice_index (rd ∷ more) i) ≡ slice_index_or values i 0
  left_there zero below last =
      reads_others 0 more unit_core rd (λ i less. last (suc i) (omega arith) (omega arith)) ∙ unit_first core rd low kept values
  left_there (suc i) below last =
      reads_there 0 more unit_core are_more i (omega arith) (λ j after less. last (suc j) (omega arith) (omega arith))
      ∙ ap (λ n. register unit_core (32 + n)) (let same : 0 + i ≡ i = omega arith in same) ∙ unit_result core rd low kept values i (omega arith)

  left_others : (q : ℕ) → q < 32 → ((i : ℕ) → i < length (rd ∷ more) → slice_index (rd ∷ more) i ≢ q) → register last_core q ≡ register core q
  left_others q below none =
      reads_others 0 more unit_core q (λ i less. none (suc i) (omega arith)) ∙ unit_others core rd low kept values q below (none 0 (omega arith))

  left_rest : HaveSameStreams last_core core
  left_rest = let more = reads_rest 0 more unit_core in record { heap_end = more.heap_end; input = more.input; output = more.output }

-- ---- the use

module _ (units : Units) (number : ℕ) (inputs : List ℕ) (rd : ℕ) (more : List ℕ) (now : Core)
    (in_named : (i : ℕ) → slice_index inputs i < 32) (are : AreResults (rd ∷ more)) (few : length more ≤ 2) where
  abbrev input : ℕ → ℕ
  input = slice_index inputs

  -- without a `cput`
  use_bare : units.further number ≡ []
      → (behind : Core) × (act_all units (use_words false number inputs (rd ∷ more)) (at_start now) ≡ at_start behind)
      × IsLeft (rd ∷ more) (units.results number (values_in now (taken_from false inputs))) now behind
  use_bare none =
      let values : List ℕ = units.results number (values_in now (input 0 ∷ input 1 ∷ input 2 ∷ units.further number)) in
      let same : values ≡ units.results number (values_in now (taken_from false inputs)) =
      ap (λ l. units.results number (values_in now (input 0 ∷ input 1 ∷ input 2 ∷ l))) none in (
        last_core units now values rd more are few,
        reads_act units 0 more (with_registers now (rd ∷ hidden) values),
        subst (λ vs. IsLeft (rd ∷ more) vs now (last_core units now values rd more are few)) same (record {
          others = left_others units now values rd more are few;
          there = left_there units now values rd more are few;
          memory = reads_memory 0 more (with_registers now (rd ∷ hidden) values);
          rest = left_rest units now values rd more are few;
        }),
      )

  -- with one
  abbrev put_core : Core
  put_core = with_registers now hidden_operands (values_in now (input 3 ∷ input 4 ∷ []))

  put_named : (q : ℕ) → q < 32 → register put_core q ≡ register now q
  put_named q below = registers_kept hidden_operands (values_in now (input 3 ∷ input 4 ∷ [])) now q (operands_apart q below)

  put_fourth : register put_core 34 ≡ register now (input 3)
  put_fourth = register_written (with_registers now (35 ∷ []) (register now (input 4) ∷ [])) 34 (register now (input 3)) 34 refl

  put_fifth : register put_core 35 ≡ register now (input 4)
  put_fifth =
      register_kept (with_registers now (35 ∷ []) (register now (input 4) ∷ [])) 34 (register now (input 3)) 35 refl
      ∙ register_written now 35 (register now (input 4)) 35 refl

  -- all five values are those before the use
  five_values : values_in put_core (input 0 ∷ input 1 ∷ input 2 ∷ hidden_operands) ≡ values_in now (taken_from true inputs)
  five_values = λ i.
      put_named (input 0) (in_named 0) i ∷ put_named (input 1) (in_named 1) i ∷ put_named (input 2) (in_named 2) i ∷ put_fourth i ∷ put_fifth i ∷ []

  put_values : (takes : Bool) → values_in put_core (input 0 ∷ input 1 ∷ input 2 ∷ (if takes then hidden_operands else [])) ≡ values_in now (taken_from takes inputs)
  put_values true = five_values
  put_values false = λ i. put_named (input 0) (in_named 0) i ∷ put_named (input 1) (in_named 1) i ∷ put_named (input 2) (in_named 2) i ∷ []

  use_passing : (takes : Bool) → units.further number ≡ (if takes then hidden_operands else [])
      → (behind : Core) × (act_all units (use_words true number inputs (rd ∷ more)) (at_start now) ≡ at_start behind)
      × IsLeft (rd ∷ more) (units.results number (values_in now (taken_from takes inputs))) now behind
  use_passing takes both =
      let values : List ℕ = units.results number (values_in put_core (input 0 ∷ input 1 ∷ input 2 ∷ units.further number)) in
      let same : values ≡ units.results number (values_in now (taken_from takes inputs)) =
      ap (λ l. units.results number (values_in put_core (input 0 ∷ input 1 ∷ input 2 ∷ l))) both ∙ ap (units.results number) (put_values takes) in
      let rest = left_rest units put_core values rd more are few in (
        last_core units put_core values rd more are few,
        reads_act units 0 more (with_registers put_core (rd ∷ hidden) values),
        subst (λ vs. IsLeft (rd ∷ more) vs now (last_core units put_core values rd more are few)) same (record {
          others = λ q below none. left_others units put_core values rd more are few q below none ∙ put_named q below;
          there = left_there units put_core values rd more are few;
          memory = reads_memory 0 more (with_registers put_core (rd ∷ hidden) values);
          rest = record { heap_end = rest.heap_end; input = rest.input; output = rest.output };
        }),
      )

pub use_leaves : UseLeaves
use_leaves units passes takes number inputs [] now further passed in_named are some few = absurd (omega arith)
use_leaves units true takes number inputs (rd ∷ more) now further passed in_named are some few =
    use_passing units number inputs rd more now in_named are (omega arith) takes further
use_leaves units false true number inputs (rd ∷ more) now further passed in_named are some few = absurd (true≢false (sym (passed refl)))
use_leaves units false false number inputs (rd ∷ more) now further passed in_named are some few =
    use_bare units number inputs rd more now in_named are (omega arith) further

-- ---- its bundle

reads_bundled : (outputs : List ℕ) → length outputs ≤ 2 → Bundled a_unit (reads_of 0 outputs)
reads_bundled [] few = tt
reads_bundled (r ∷ []) few = (refl, tt)
reads_bundled (r ∷ q ∷ []) few = (refl, (refl, tt))
reads_bundled (r ∷ q ∷ p ∷ outputs) few = absurd (omega arith)

-- the words of a use with one to three outputs are bundled
pub use_is_bundled : (passes : Bool) (number : ℕ) (inputs outputs : List ℕ) → 1 ≤ length outputs → length outputs ≤ 3
    → Bundled another (use_words passes number inputs outputs)
use_is_bundled passes number inputs [] some few = absurd (omega arith)
use_is_bundled true number inputs (rd ∷ more) some few = (tt, (tt, reads_bundled more (omega arith)))
use_is_bundled false number inputs (rd ∷ more) some few = (tt, reads_bundled more (omega arith))
