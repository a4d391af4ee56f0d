-- Steps through instructions that stand in the text.
use Rattle.std.proofs.Common.{◌≡◌, ℕ, zero, suc, refl, ap, sym, subst, ◌∙◌, arith, List, [], ◌∷◌, length, Option, Some, None}
use Rattle.std.specs.Prelude.{Bool, true, false, ◌%◌, ◌==◌, ◌&&◌, if◌then◌else◌}
use Rattle.std.specs.List.{list_any, list_all}
use Rattle.std.specs.Option.{option_map}
use Rattle.std.proofs.lemmas.Bool.Decides.{nat_tests}
use Rattle.ci_isa.specs.declared.instruction.Insn.{Insn}
use Rattle.ci_isa.specs.declared.instruction.Insn.TheVariants.{Store}
use Rattle.ci_isa.specs.Effects.{ends_block}
use Rattle.ci_machine.specs.declared.ends.End.{End}
use Rattle.ci_machine.specs.Cores.{Core, register}
use Rattle.ci_machine.specs.Accesses.{addresses, number_of_bytes, bytes_at, with_bytes}
use Rattle.ci_machine.specs.Outcomes.{Outcome, Next, Ended, Reached, reached, continued, at_start}
use Rattle.ci_machine.specs.Actions.{Units, act, accessed, address_from, stored}
use Rattle.ci_machine.specs.Agreement.{acted}
use Rattle.ci_machine.specs.Agreement.{act_all, AreActions, LeavesText, AllLeaveText}
use Rattle.ci_machine.specs.Programs.{Program, State, in_text}
use Rattle.ci_machine.specs.Steps.{Meaning, insn_in, fetched, following, control, then_onward, stepped, step}
use Rattle.ci_machine.specs.Runs.{after}
use Rattle.ci_machine.specs.Blocks.{StandAt, HaveSameText, IsRunOf}
use Rattle.ci_machine.proofs.TestLaws.{by_end, neither_first, neither_second, both_first, both_second}
use Rattle.ci_machine.proofs.InstructionFrame.{keeps, AgreeAt, same_bytes}
use Rattle.ci_machine.proofs.RelatedLists.{goes_on, has_ended}

-- ---- the first step of a run

module _ (meaning : Meaning) (program : Program) where
  pub first_goes_on : (n : ℕ) (state next : State) → step meaning program state ≡ Next next → after meaning program (suc n) state ≡ after meaning program n next
  first_goes_on zero state next same = ap (reached state) same
  first_goes_on (suc n) state next same = ap (continued (step meaning program)) (first_goes_on n state next same)

  pub first_ends : (n : ℕ) (state : State) (e : End) → step meaning program state ≡ Ended e
      → after meaning program (suc n) state ≡ record { state = state; end = Some e }
  first_ends zero state e same = ap (reached state) same
  first_ends (suc n) state e same = ap (continued (step meaning program)) (first_ends n state e same)

-- ---- the text stays

pub not_stored : (text : ℕ → Bool) (places bytes : List ℕ) (memory : ℕ → Option ℕ) (a : ℕ) → list_any text places ≡ false → text a ≡ true
    → with_bytes memory places bytes a ≡ memory a
not_stored text [] bytes memory a clear is = refl
not_stored text (place ∷ places) [] memory a clear is = refl
not_stored text (place ∷ places) (byte ∷ bytes) memory a clear is =
    other (a == place) (λ same. apart same) (not_stored text places bytes memory a (neither_second (text place) _ clear) is)
  where
    equal : (a == place) ≡ true → a ≡ place
    equal same = grind (arith, nat_tests)

    apart : (a == place) ≡ true → ⊥
    apart same = let here : text a ≡ text place = ap text (equal same) in let none = neither_first (text place) _ clear in cc

    other : (t : Bool) → (t ≡ true → ⊥) → with_bytes memory places bytes a ≡ memory a → (if t then Some byte else with_bytes memory places bytes a) ≡ memory a
    other true never same = absurd (never refl)
    other false never same = same

pub text_stays : (text : ℕ → Bool) (units : Units) (insn : Insn) (core : Core) (a : ℕ) → LeavesText text insn core → text a ≡ true
    → (acted units insn core).state.memory a ≡ core.memory a
text_stays text units (Store width rs1 rs2 offset) core a clear is = after_store (bytes_at core.memory (accessed (Store width rs1 rs2 offset) core))
  where
    after_store : (bytes : Option (List ℕ)) →
        (reached core (stored core width (address_from core rs1 offset) (register core rs2) bytes)).state.memory a
        ≡ core.memory a
    after_store None = refl
    after_store (Some bytes) = not_stored text (accessed (Store width rs1 rs2 offset) core) _ core.memory a clear is
text_stays text units insn core a clear is = ap (λ memory. memory a) ((keeps units insn core).memory refl)

-- so does a list
pub list_keeps_text : (text : ℕ → Bool) (units : Units) (insns : List Insn) (run : Reached Core) (a : ℕ) → AllLeaveText units text insns run
    → text a ≡ true → (act_all units insns run).state.memory a ≡ run.state.memory a
list_keeps_text text units [] run a clear is = refl
list_keeps_text text units (insn ∷ insns) run a clear is =
    list_keeps_text text units insns (continued (act units insn) run) a clear.1 is
    ∙ by_end run.end
    (λ on. ap (λ r. r.state.memory a) (goes_on units insn run on) ∙ text_stays text units insn run.state a (clear.0 on) is)
    (λ e ended. ap (λ r. r.state.memory a) (has_ended units insn run e ended))

text_agrees : (program : Program) (left right : ℕ → Option ℕ) (places : List ℕ) → HaveSameText program left right
    → list_all (in_text program) places ≡ true → AgreeAt places left right
text_agrees program left right [] same all = tt
text_agrees program left right (place ∷ places) same all =
    (same place (both_first (in_text program place) _ all), text_agrees program left right places same (both_second (in_text program place) _ all))

pub same_insn : (meaning : Meaning) (program : Program) (left right : ℕ → Option ℕ) (address : ℕ) → HaveSameText program left right
    → list_all (in_text program) (addresses 4 address) ≡ true → insn_in meaning program left address ≡ insn_in meaning program right address
same_insn meaning program left right address same all =
    ap (λ bytes. if (address % 4 == 0) && in_text program address then option_map meaning.insn (option_map number_of_bytes bytes) else None)
    (same_bytes (addresses 4 address) left right (text_agrees program left right (addresses 4 address) same all))

-- ---- steps

pub over : (units : Units) (insns : List Insn) (core : Core) (e : End)
    → act_all units insns (record { state = core; end = Some e }) ≡ record { state = core; end = Some e }
over units [] core e = refl
over units (insn ∷ insns) core e = over units insns core e

pub over_stays : (units : Units) (insns : List Insn) (run : Reached Core) (e : End) → run.end ≡ Some e → act_all units insns run ≡ run
over_stays units insns run e ended =
    subst (λ o. act_all units insns (record { state = run.state; end = o }) ≡ record { state = run.state; end = o }) (sym ended)
    (over units insns run.state e)

pub control_step : (meaning : Meaning) (program : Program) (state : State) (insn : Insn) → fetched meaning program state ≡ Some insn → ends_block insn ≡ true
    → step meaning program state ≡ control program insn state.pc state.core
control_step meaning program state insn found ends =
    ap (stepped meaning.units program state) found
    ∙ ap (λ test. if test then control program insn state.pc state.core else then_onward state.pc (act meaning.units insn state.core)) ends

module _ (meaning : Meaning) (program : Program) (memory : ℕ → Option ℕ) where
  pub acts_there : (insn : Insn) (state : State) → insn_in meaning program memory state.pc ≡ Some insn
      → list_all (in_text program) (addresses 4 state.pc) ≡ true
      → HaveSameText program memory state.core.memory → ends_block insn ≡ false
      → step meaning program state ≡ then_onward state.pc (act meaning.units insn state.core)
  acts_there insn state there all same acts =
      let now : fetched meaning program state ≡ Some insn = sym (same_insn meaning program memory state.core.memory state.pc same all) ∙ there in
      ap (stepped meaning.units program state) now
      ∙ ap (λ ends. if ends then control program insn state.pc state.core else then_onward state.pc (act meaning.units insn state.core)) acts

  -- text stays over an action that leaves it alone
  pub kept_text : (insn : Insn) (state : State) (core : Core) → act meaning.units insn state.core ≡ Next core
      → LeavesText (in_text program) insn state.core
      → HaveSameText program memory state.core.memory → HaveSameText program memory core.memory
  kept_text insn state core is clear same a text =
      same a text ∙ sym (text_stays (in_text program) meaning.units insn state.core a clear text) ∙ ap (λ o. (reached state.core o).state.memory a) is

  pub block_steps : (insns : List Insn) (state : State) → StandAt meaning program memory state.pc insns → HaveSameText program memory state.core.memory
      → AreActions insns → AllLeaveText meaning.units (in_text program) insns (at_start state.core)
      → IsRunOf insns state.pc (after meaning program (length insns) state) (act_all meaning.units insns (at_start state.core))
  block_steps [] state stand same acts clear = record { core = refl; end = refl; pc = λ on. refl }
  block_steps (insn ∷ insns) state (there, all, stand) same acts clear =
      let made = acts_there insn state there all same (neither_first (ends_block insn) _ acts) in
      by_outcome (act meaning.units insn state.core) refl made
      (λ next. block_steps insns next)
    where
      by_outcome : (o : Outcome Core) → act meaning.units insn state.core ≡ o
          → step meaning program state ≡ then_onward state.pc (act meaning.units insn state.core)
          → ((next : State) → StandAt meaning program memory next.pc insns → HaveSameText program memory next.core.memory → AreActions insns
          → AllLeaveText meaning.units (in_text program) insns (at_start next.core)
          → IsRunOf insns next.pc (after meaning program (length insns) next) (act_all meaning.units insns (at_start next.core)))
          → IsRunOf (insn ∷ insns) state.pc (after meaning program (suc (length insns)) state) (act_all meaning.units (insn ∷ insns) (at_start state.core))
      by_outcome (Ended e) is made more =
          let ended = first_ends meaning program (length insns) state e (made ∙ ap (then_onward state.pc) is) in
          let stopped : act_all meaning.units (insn ∷ insns) (at_start state.core) ≡ record { state = state.core; end = Some e } =
          ap (λ o. act_all meaning.units insns (reached state.core o)) is ∙ over meaning.units insns state.core e in
          rw (ended, stopped) (record { core = refl; end = refl; pc = λ on. cc })
      by_outcome (Next core) is made more =
          let next : State = record { pc = following state.pc; core = core } in
          let went = first_goes_on meaning program (length insns) state next (made ∙ ap (then_onward state.pc) is) in
          let run : act_all meaning.units (insn ∷ insns) (at_start state.core) ≡ act_all meaning.units insns (at_start core) =
          ap (λ o. act_all meaning.units insns (reached state.core o)) is in
          let kept = kept_text insn state core is (clear.0 refl) same in
          let rest = more next stand kept (neither_second (ends_block insn) _ acts) (rw is at clear.1) in
          rw (went, run) (record { core = rest.core; end = rest.end; pc = rest.pc })
