-- Runs by two meanings that read the words alike.
use Rattle.std.proofs.Common.{◌≡◌, ℕ, zero, suc, ◌<◌, ◌≤◌, ◌↔◌, refl, ap, sym, subst, ◌∙◌, arith, List, [], ◌∷◌, Option, Some, None, find}
use Rattle.std.specs.Prelude.{Bool, true, false, ◌%◌, ◌==◌, ◌&&◌, is_none, if◌then◌else◌}
use Rattle.std.specs.List.{list_any}
use Rattle.std.specs.Option.{option_map}
use Rattle.std.proofs.lemmas.Bool.Decides.{nat_tests}
use Rattle.std.proofs.lemmas.List.{length-map}
use Rattle.ci_word.proofs.NumberLaws.{count_below-same, sum_below-same}
use Rattle.ci_isa.specs.declared.instruction.Insn.{Insn}
use Rattle.ci_isa.specs.declared.instruction.Insn.TheVariants.{Jalr, Unit}
use Rattle.ci_isa.specs.Table.{IsInsnAt}
use Rattle.ci_isa.proofs.RowCompleteness.{one_insn}
use Rattle.ci_isa.specs.Effects.{ends_block, is_unit}
use Rattle.ci_elf.specs.Executables.{Executable, IsTextWord, IsWellFormed, text_word}
use Rattle.ci_machine.specs.declared.ends.End.{End}
use Rattle.ci_machine.specs.Cores.{Core, hidden, register, values_in, with_registers}
use Rattle.ci_machine.specs.Outcomes.{Outcome, Next, Ended, Reached, reached, continued, from_end}
use Rattle.ci_machine.specs.Actions.{Units, act}
use Rattle.ci_machine.specs.Agreement.{act_all, AllLeaveText}
use Rattle.ci_machine.specs.Programs.{Program, State, in_text, loaded_program, opening}
use Rattle.ci_machine.specs.Steps.{Meaning, IsPlain, word_at, insn_in, fetched, then_onward, control, execute, stepped, step}
use Rattle.ci_machine.specs.Touches.{moved, touched}
use Rattle.ci_machine.specs.Runs.{Latencies, latency, after, before_step, is_made, step_cost}
use Rattle.ci_machine.specs.RunEvents.{jalr_target}
use Rattle.ci_machine.specs.Touches.{LeavesTextFor}
use Rattle.ci_machine.specs.Meanings.{GiveSame, StepAlike, GiveSameOfWords, RunAlike, AreOneOnWords, AreOneRun, ReadTextAlike}
use Rattle.ci_machine.specs.Words.{HoldsWords, IsOfWords, GivesWords}
use Rattle.ci_machine.proofs.WordLaws.{words_stay, values_words}
use Rattle.ci_machine.proofs.TestLaws.{by_test, both_first, both_second, neither_first, neither_second, some_is}
use Rattle.ci_machine.proofs.OpeningLaws.{later_insn}

-- ---- instructions

same_act : (left right : Units) (insn : Insn) (core : Core) → GiveSame left right insn core → act left insn core ≡ act right insn core
same_act left right (Unit number rd rs1 rs2 rs3) core same = ap (λ results. Next (with_registers core (rd ∷ hidden) results)) same
same_act left right insn core same = refl

no_unit : (left right : Units) (insn : Insn) (core : Core) → is_unit insn ≡ false → GiveSame left right insn core
no_unit left right (Unit number rd rs1 rs2 rs3) core none = cc
no_unit left right insn core none = tt

pub units_unused : (left right : Units) (insn : Insn) (core : Core) → is_unit insn ≡ false → act left insn core ≡ act right insn core
units_unused left right insn core none = same_act left right insn core (no_unit left right insn core none)

module _ (left right : Units) where
  same_continued : (insn : Insn) (run : Reached Core) → is_unit insn ≡ false → continued (act left insn) run ≡ continued (act right insn) run
  same_continued insn run none = λ i. continued (λ core. units_unused left right insn core none i) run

  pub lists_without_units : (insns : List Insn) (run : Reached Core) → list_any is_unit insns ≡ false → act_all left insns run ≡ act_all right insns run
  lists_without_units [] run none = refl
  lists_without_units (insn ∷ insns) run none =
      lists_without_units insns (continued (act left insn) run) (neither_second (is_unit insn) _ none)
      ∙ ap (act_all right insns) (same_continued insn run (neither_first (is_unit insn) _ none))

  pub leaving_without_units : (text : ℕ → Bool) (insns : List Insn) (run : Reached Core) → list_any is_unit insns ≡ false
      → AllLeaveText left text insns run → AllLeaveText right text insns run
  leaving_without_units text [] run none clear = tt
  leaving_without_units text (insn ∷ insns) run none clear = (
    clear.0,
    leaving_without_units text insns (continued (act right insn) run) (neither_second (is_unit insn) _ none)
        (subst (λ next. AllLeaveText left text insns next) (same_continued insn run (neither_first (is_unit insn) _ none)) clear.1),
  )

-- ---- steps and runs

targets_alike : (left right : Meaning) (program : Program) (state : State) (found : Option Insn) → fetched left program state ≡ found
    → fetched right program state ≡ found → jalr_target left program state ≡ jalr_target right program state
targets_alike left right program state None p q = rw (jalr_target, p, q) refl
targets_alike left right program state (Some (Jalr rd rs1 offset)) p q =
    rw (jalr_target, p, q)
    (ap (λ (o : Outcome State). elim o as (λ _. Option ℕ) [ Next next ↦ Some next.pc | Ended end ↦ None ])
    (ap (stepped left.units program state) p ∙ sym (ap (stepped right.units program state) q)))
targets_alike left right program state (Some insn) p q = rw (jalr_target, p, q) refl

module _ (left right : Meaning) (program : Program) where
  same_execution : (insn : Insn) (state : State) → GiveSame left.units right.units insn state.core
      → execute left.units program insn state ≡ execute right.units program insn state
  same_execution insn state same =
      ap (λ outcome. if ends_block insn then control program insn state.pc state.core else then_onward state.pc outcome)
      (same_act left.units right.units insn state.core same)

  same_step : (state : State) → StepAlike left right program state → step left program state ≡ step right program state
  same_step state alike = by_fetch (fetched left program state) alike.gives ∙ ap (stepped right.units program state) alike.fetches
    where
      by_fetch : (found : Option Insn) → ((insn : Insn) → found ≡ Some insn → GiveSame left.units right.units insn state.core)
          → stepped left.units program state found ≡ stepped right.units program state found
      by_fetch None gives = refl
      by_fetch (Some insn) gives = same_execution insn state (gives insn refl)

  same_runs : (n : ℕ) (state : State) → RunAlike left right program n state → after left program n state ≡ after right program n state
  same_runs zero state alike = refl
  same_runs (suc n) state alike =
      one_more (after left program n state) (alike n (omega arith))
      ∙ ap (continued (step right program)) (same_runs n state (λ i lt. alike i (omega arith)))
    where
      one_more : (run : Reached State) → (is_none run.end ≡ true → StepAlike left right program run.state)
          → continued (step left program) run ≡ continued (step right program) run
      one_more run alike = tested run.end alike
        where
          tested : (end : Option End) → (is_none end ≡ true → StepAlike left right program run.state)
              → from_end (step left program) run end ≡ from_end (step right program) run end
          tested None alike = ap (reached run.state) (same_step run.state (alike refl))
          tested (Some e) alike = refl

  module _ (n : ℕ) (state : State) (alike : RunAlike left right program n state) where
    first_runs : (m : ℕ) → m ≤ n → after left program m state ≡ after right program m state
    first_runs m le = same_runs m state (λ i lt. alike i (omega arith))

    same_cost : (latencies : Latencies) (i : ℕ) → i < n → is_made left program state i ≡ true
        → step_cost left program latencies (before_step left program state i) ≡ step_cost right program latencies (before_step right program state i)
    same_cost latencies i lt made =
        ap (λ (f : Option Insn). elim f as (λ _. ℕ) [ None ↦ 0 | Some insn ↦ latency latencies insn ]) (alike i lt made).fetches
        ∙ ap (λ run. step_cost right program latencies run.state) (first_runs i (omega arith))

    same_touched : (i : ℕ) → i < n → is_made left program state i ≡ true
        → touched left program (before_step left program state i) ≡ touched right program (before_step right program state i)
    same_touched i lt made =
        let core = (before_step left program state i).core in
        ap (λ (f : Option Insn). elim f as (λ _. Option ℕ) [ None ↦ None | Some insn ↦ find (in_text program) (moved insn core) ])
        (alike i lt made).fetches
        ∙ ap (λ run. touched right program run.state) (first_runs i (omega arith))

    same_target : (i : ℕ) → i < n → is_made left program state i ≡ true
        → jalr_target left program (before_step left program state i) ≡ jalr_target right program (before_step right program state i)
    same_target i lt made =
        targets_alike left right program (before_step left program state i) _ (alike i lt made).fetches refl
        ∙ ap (λ run. jalr_target right program run.state) (first_runs i (omega arith))

    made_too : (i : ℕ) → i < n → is_made right program state i ≡ true → is_made left program state i ≡ true
    made_too i lt made = ap (λ run. is_none run.end) (first_runs i (omega arith)) ∙ made

    made_there : (i : ℕ) → i < n → is_made left program state i ≡ true → is_made right program state i ≡ true
    made_there i lt made = sym (ap (λ run. is_none run.end) (first_runs i (omega arith))) ∙ made

    leaves_alike : LeavesTextFor left program n state ↔ LeavesTextFor right program n state
    leaves_alike = (
      λ clear i lt made. let here = made_too i lt made in sym (same_touched i lt here) ∙ clear i lt here,
      λ clear i lt made. same_touched i lt made ∙ clear i lt (made_there i lt made),
    )

    pub one_run : AreOneRun left right program n state
    one_run = record {
      runs = first_runs;
      costs = λ latencies.
          sum_below-same n _ _ _ _ (λ i lt. ap (λ run. is_none run.end) (first_runs i (omega arith))) (same_cost latencies);
      entered = λ address.
          count_below-same n _ _ (λ i lt. ap (λ run. is_none run.end && run.state.pc == address) (first_runs i (omega arith)));
      leaves_text = leaves_alike;
      tame = λ is_listed. (
        λ tame. record {
          leaves_text = leaves_alike.0 tame.leaves_text;
          listed = λ i target lt made led there.
              let here = made_too i lt made in tame.listed i target lt here (same_target i lt here ∙ led) there;
        },
        λ tame. record {
          leaves_text = leaves_alike.1 tame.leaves_text;
          listed = λ i target lt made led there.
              tame.listed i target lt (made_there i lt made) (sym (same_target i lt made) ∙ led) there;
        },
      );
    }

-- ---- meanings that read all words alike

module _ (left right : Meaning) (reads : (word : ℕ) → left.insn word ≡ right.insn word) (program : Program) (state : State)
    (gives : (word : ℕ) → GiveSame left.units right.units (left.insn word) state.core) where
  alike_by_words : StepAlike left right program state
  alike_by_words = record {
    fetches = λ i. if (state.pc % 4 == 0) && in_text program state.pc then option_map (λ w. reads w i) (word_at state.core.memory state.pc) else None;
    gives = λ insn is. insn_gives ((state.pc % 4 == 0) && in_text program state.pc) (word_at state.core.memory state.pc) insn is;
  }
    where
      insn_gives : (test : Bool) (word : Option ℕ) (insn : Insn) → (if test then option_map left.insn word else None) ≡ Some insn
          → GiveSame left.units right.units insn state.core
      insn_gives false word insn is = cc
      insn_gives true None insn is = cc
      insn_gives true (Some word) insn is = subst (λ i. GiveSame left.units right.units i state.core) (some_is is) (gives word)

same_of_words : (left right : Units) (insn : Insn) (core : Core) → HoldsWords core → GiveSameOfWords left right insn → GiveSame left right insn core
same_of_words left right (Unit number rd rs1 rs2 rs3) core holds gives =
    gives.1 _
    (record {
      count = omega (arith, length-map (left.further number) (register core));
      words = values_words core holds (rs1 ∷ rs2 ∷ rs3 ∷ left.further number);
    })
    ∙ ap (λ further. right.results number (values_in core (rs1 ∷ rs2 ∷ rs3 ∷ further))) gives.0
same_of_words left right insn core holds gives = tt

pub runs_of_words : (left right : Meaning) → AreOneOnWords left right → (program : Program) → GivesWords left → (n : ℕ) (state : State)
    → IsOfWords state → AreOneRun left right program n state
runs_of_words left right one program makes n state of_words =
    one_run left right program n state
    (λ i lt made.
    let holds = (words_stay left program makes i state of_words).core in
    alike_by_words left right one.reads program (before_step left program state i)
    (λ word. same_of_words left.units right.units (left.insn word) _ holds (one.gives word)))

-- no word stands for a unit by a plain meaning
pub plain_is_one : (left right : Meaning) → IsPlain left → IsPlain right → (program : Program) (n : ℕ) (state : State)
    → AreOneRun left right program n state
plain_is_one left right one other program n state =
    one_run left right program n state
    (λ i lt made. alike_by_words left right (λ word. one_insn word (left.insn word) (right.insn word) (one word) (other word)) program _
    (λ word. plain_gives (left.insn word) word (one word) _))
  where
    plain_gives : (insn : Insn) (word : ℕ) → IsInsnAt word insn → (core : Core) → GiveSame left.units right.units insn core
    plain_gives (Unit number rd rs1 rs2 rs3) word is core = absurd is.1
    plain_gives insn word is core = tt

-- ---- files without unit words

-- where the meanings read each word of the file's text as one instruction, which is no unit word
module _ (left right : Meaning) (file : Executable) (formed : IsWellFormed file)
    (agree : ReadTextAlike left right file) where
  alike_there : (input : List ℕ) (n : ℕ) → LeavesTextFor left (loaded_program file) n (opening file input)
      → StepAlike left right (loaded_program file) (before_step left (loaded_program file) (opening file input) n)
  alike_there input n clear =
      let state = before_step left (loaded_program file) (opening file input) n in
      by_test ((state.pc % 4 == 0) && in_text (loaded_program file) state.pc) (at_text state refl) (off_text state)
    where
      off_text : (state : State) → ((state.pc % 4 == 0) && in_text (loaded_program file) state.pc) ≡ false → StepAlike left right (loaded_program file) state
      off_text state none =
          let no_left : fetched left (loaded_program file) state ≡ None =
          ap (λ test. if test then option_map left.insn (word_at state.core.memory state.pc) else None) none in
          let no_right : fetched right (loaded_program file) state ≡ None =
          ap (λ test. if test then option_map right.insn (word_at state.core.memory state.pc) else None) none in
          record { fetches = no_left ∙ sym no_right; gives = λ insn is. let never : None ≡ Some insn = sym no_left ∙ is in cc }

      aligned : (k : ℕ) → (k == 0) ≡ true → k ≡ 0
      aligned k is = grind (arith, nat_tests)

      at_text : (state : State) → state ≡ before_step left (loaded_program file) (opening file input) n
          → ((state.pc % 4 == 0) && in_text (loaded_program file) state.pc) ≡ true → StepAlike left right (loaded_program file) state
      at_text state same is =
          let text : IsTextWord file.ranges state.pc =
          (aligned (state.pc % 4) (both_first (state.pc % 4 == 0) _ is), both_second (state.pc % 4 == 0) _ is) in
          let word = text_word file state.pc in
          let at_left : fetched left (loaded_program file) state ≡ Some (left.insn word) =
          ap (λ s. insn_in left (loaded_program file) s.core.memory state.pc) same ∙ later_insn file formed left left input n clear state.pc text in
          let at_right : fetched right (loaded_program file) state ≡ Some (right.insn word) =
          ap (λ s. insn_in right (loaded_program file) s.core.memory state.pc) same ∙ later_insn file formed left right input n clear state.pc text in
          record {
            fetches = at_left ∙ ap Some (agree state.pc text).0 ∙ sym at_right;
            gives = λ insn found.
                let this : left.insn word ≡ insn = some_is (sym at_left ∙ found) in
                subst (λ i. GiveSame left.units right.units i state.core) this
                (no_unit left.units right.units (left.insn word) state.core (agree state.pc text).1);
          }

  pub file_runs_alike : (input : List ℕ) (n : ℕ) → LeavesTextFor left (loaded_program file) n (opening file input)
      → AreOneRun left right (loaded_program file) n (opening file input)
  file_runs_alike input n clear =
      one_run left right (loaded_program file) n (opening file input) (λ i lt made. alike_there input i (λ j less. clear j (omega arith)))
