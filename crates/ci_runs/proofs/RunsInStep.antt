-- Two runs stay in step, by one step after the other.
use Rattle.std.specs.Prelude.{◌≡◌, ℕ, zero, suc, ◌<◌, ◌==◌, Bool, true, false, if◌then◌else◌, is_none, List, length, take, Option, Some, None}
use Rattle.std.specs.Option.{option_map}
use Rattle.std.specs.Prelude.{find}
use Rattle.std.proofs.Common.{refl, sym, ap, ◌∙◌, subst, arith, inl, inr, true≢false}
use Rattle.std.proofs.lemmas.Bool.{cases_lt, or_right}
use Rattle.ci_isa.specs.declared.instruction.Insn.{Insn}
use Rattle.ci_isa.specs.Sequences.{nth_insn}
use Rattle.ci_machine.specs.declared.ends.End.{End}
use Rattle.ci_machine.specs.declared.ends.End.TheVariants as stops
use Rattle.ci_machine.specs.Agreement.{AgreeOn, AgreeOutside}
use Rattle.ci_machine.specs.Blocks.{behind}
use Rattle.ci_machine.specs.Cores.{register}
use Rattle.ci_machine.specs.Outcomes.{Ended, Next, Outcome, Reached, continued, from_end, reached}
use Rattle.ci_machine.specs.Programs.{Program, State, in_text}
use Rattle.ci_machine.specs.RunEvents.{IsTame}
use Rattle.ci_machine.specs.Steps.{Meaning, fetched, following, step, stepped, word_at}
use Rattle.ci_machine.specs.Texts.{HasTextOf}
use Rattle.ci_machine.specs.Touches.{LeavesTextFor, moved, touched}
use Rattle.ci_machine.proofs.BlockSteps.{same_insn}
use Rattle.ci_machine.proofs.RelatedSteps.{leaving_one_more}
use Rattle.ci_machine.proofs.StandingLists.{behind_same, length_first, stands_last}
use Rattle.ci_machine.proofs.TestLaws.{by_end}
use Rattle.ci_machine.proofs.TextLaws.{text_stays_for}
use Rattle.ci_machine.specs.Blocks.{StandAt}
use Rattle.ci_rename.specs.InStep.{AgreeOnKnown, IsKnown}
use Rattle.ci_rename.proofs.KnownValues.{known_first, source_first}
use Rattle.ci_rename.proofs.PassingInStep.{StepsOn, action_pc, behind_more, live_agrees, steps_on}
use Rattle.ci_runs.specs.Places.{IsPlace, TwoRuns, at_leader, is_word, new, no_text, old}
use Rattle.ci_runs.proofs.Jumps.{jumping_one_more, no_jump, same_jump}
use Rattle.ci_runs.specs.RunsInStep.{AreInOne, JumpAlike, OpenAlike, RunsStayInStep, Standing}

module _ (runs : TwoRuns) (opens : OpenAlike runs) where
  abbrev meaning : Meaning
  meaning = runs.meaning

  abbrev program : Program
  program = runs.program

  abbrev text : ℕ → Bool
  text = in_text runs.program

  -- where both runs stand: before instruction k of the block at a leader, or where no instruction is fetched
  data Where (n : ℕ) : Type 0 where
    inside :
        (leader : ℕ) (listed : runs.is_listed leader ≡ true) (k : ℕ) → k < length (opens.standing leader listed).insns
        → (old runs n).state.pc ≡ behind (take k (opens.standing leader listed).insns) leader
        → AgreeOnKnown (runs.live leader) (opens.standing leader listed).insns (opens.standing leader listed).new k
        (old runs n).state.core (new runs n).state.core
        → Where n
    away : is_word program (old runs n).state.pc ≡ false → Where n

  record AreTogether (n : ℕ) : Type 0 where
    end : (old runs n).end ≡ (new runs n).end
    outside : AgreeOutside text (old runs n).state.core (new runs n).state.core
    pc : (old runs n).state.pc ≡ (new runs n).state.pc
    stand : Where n
    leaves : LeavesTextFor meaning program n runs.new_opens
    jumps : (i : ℕ) → i < n → JumpAlike meaning program runs.old_opens runs.new_opens i

  -- at a place
  standing_at : (n address : ℕ) → (old runs n).state.pc ≡ address → IsPlace runs address
      → AgreeOn (runs.live address) (old runs n).state.core (new runs n).state.core → Where n
  standing_at n address at (at_leader listed) agree =
      inside address listed 0 (opens.standing address listed).some at
      (known_first (runs.live address) (opens.standing address listed).insns (opens.standing address listed).new
      (old runs n).state.core (new runs n).state.core agree)
  standing_at n address at (no_text none) agree = away (ap (is_word program) at ∙ none)

  starts : AreTogether 0
  starts = record {
    end = refl;
    outside = opens.outside;
    pc = opens.pc;
    stand = standing_at 0 runs.old_opens.pc refl opens.place opens.agree;
    leaves = λ i below made. absurd (omega arith);
    jumps = λ i below made. absurd (omega arith);
  }

  -- where both states stay, so does this
  stays_where : (n m : ℕ) → (old runs m).state ≡ (old runs n).state → (new runs m).state ≡ (new runs n).state → Where n → Where m
  stays_where n m same also (away none) = away (ap (λ s. is_word program s.pc) same ∙ none)
  stays_where n m same also (inside leader listed k below at known) =
      inside leader listed k below (ap (λ s. s.pc) same ∙ at)
      (λ q p from is. ap (λ s. register s.core q) same ∙ known q p from is ∙ ap (λ s. register s.core p) (sym also))

  -- a step that ends changes nothing
  ended_same : (state : State) (o : Outcome State) (e : End) → (reached state o).end ≡ Some e → (reached state o).state ≡ state
  ended_same state (Next next) e ended = cc
  ended_same state (Ended end) e ended = refl

  -- ---- one step

  stopped : (run : Reached State) (e : End) → run.end ≡ Some e → continued (step meaning program) run ≡ run
  stopped run e ended = ap (from_end (step meaning program) run) ended

  goes : (run : Reached State) → run.end ≡ None → continued (step meaning program) run ≡ reached run.state (step meaning program run.state)
  goes run on = ap (from_end (step meaning program) run) on

  -- where no word is, nothing is fetched
  none_fetched : (state : State) → is_word program state.pc ≡ false → fetched meaning program state ≡ None
  none_fetched state none = ap (λ test. if test then option_map meaning.insn (word_at state.core.memory state.pc) else None) none

  step_ends : (state : State) → fetched meaning program state ≡ None → step meaning program state ≡ Ended (stops.Fetch state.pc)
  step_ends state none = ap (stepped meaning.units program state) none

  none_touched : (state : State) → fetched meaning program state ≡ None → touched meaning program state ≡ None
  none_touched state none =
      ap (λ (f : Option Insn). elim f as (λ _. Option ℕ) [ None ↦ None | Some insn ↦ find (in_text program) (moved insn state.core) ]) none

  -- an instruction of a block that stands where a run opened is fetched
  fetched_later : (first later : State) (insns : List Insn) (leader k : ℕ) → k < length insns → StandAt meaning program first.core.memory leader insns
      → HasTextOf program first.core later.core → later.pc ≡ behind (take k insns) leader
      → fetched meaning program later ≡ Some (nth_insn insns k)
  fetched_later first later insns leader k below stands text at =
      let (there, all) = stands_last meaning program first.core.memory insns k leader below stands in
      ap (λ pc. fetched meaning program (record later { pc = pc })) at
      ∙ sym (same_insn meaning program first.core.memory later.core.memory (behind (take k insns) leader) text.same all)
      ∙ there

  module _ (n : ℕ) (tame : IsTame meaning program runs.is_listed (suc n) runs.old_opens) (together : AreTogether n) where
    abbrev left : State
    left = (old runs n).state

    abbrev right : State
    right = (new runs n).state

    left_text : HasTextOf program runs.old_opens.core left.core
    left_text = text_stays_for meaning program n runs.old_opens opens.old_text (λ i below made. tame.leaves_text i (omega arith) made)

    right_text : HasTextOf program runs.new_opens.core right.core
    right_text = text_stays_for meaning program n runs.new_opens opens.new_text together.leaves

    over : (e : End) → (old runs n).end ≡ Some e → AreTogether (suc n)
    over e ended =
        let also : (new runs n).end ≡ Some e = sym together.end ∙ ended in
        record {
          end = rw (stopped (old runs n) e ended, stopped (new runs n) e also) together.end;
          outside = rw (stopped (old runs n) e ended, stopped (new runs n) e also) together.outside;
          pc = rw (stopped (old runs n) e ended, stopped (new runs n) e also) together.pc;
          stand =
              stays_where n (suc n) (ap (λ run. run.state) (stopped (old runs n) e ended)) (ap (λ run. run.state) (stopped (new runs n) e also))
              together.stand;
          leaves = leaving_one_more meaning program n runs.new_opens together.leaves
              (λ made. let never : is_none (Some e) ≡ true = ap is_none (sym also) ∙ made in cc);
          jumps = jumping_one_more meaning program n runs.old_opens runs.new_opens together.jumps
              (λ made. let never : is_none (Some e) ≡ true = ap is_none (sym also) ∙ made in cc);
        }

    module _ (on : (old runs n).end ≡ None) where
      also : (new runs n).end ≡ None
      also = sym together.end ∙ on

      clear : touched meaning program left ≡ None
      clear = tame.leaves_text n (omega arith) (ap is_none on)

      next_left : old runs (suc n) ≡ reached left (step meaning program left)
      next_left = goes (old runs n) on

      next_right : new runs (suc n) ≡ reached right (step meaning program right)
      next_right = goes (new runs n) also

      from_away : is_word program left.pc ≡ false → AreTogether (suc n)
      from_away none =
          let left_none = none_fetched left none in
          let right_none = none_fetched right (ap (is_word program) (sym together.pc) ∙ none) in
          let left_ends = next_left ∙ ap (reached left) (step_ends left left_none) in
          let right_ends = next_right ∙ ap (reached right) (step_ends right right_none) in
          let ended : (old runs (suc n)).end ≡ Some (stops.Fetch left.pc) = ap (λ run. run.end) left_ends in
          record {
            end = ended ∙ ap (λ pc. Some (stops.Fetch pc)) together.pc ∙ sym (ap (λ run. run.end) right_ends);
            outside = rw (left_ends, right_ends) together.outside;
            pc = ap (λ run. run.state.pc) left_ends ∙ together.pc ∙ sym (ap (λ run. run.state.pc) right_ends);
            stand = stays_where n (suc n) (ap (λ run. run.state) left_ends) (ap (λ run. run.state) right_ends) together.stand;
            leaves = leaving_one_more meaning program n runs.new_opens together.leaves (λ made. none_touched right right_none);
            jumps = jumping_one_more meaning program n runs.old_opens runs.new_opens together.jumps
                (λ made. (ap is_none on, no_jump meaning program right right_none ∙ sym (no_jump meaning program left left_none)));
          }

      module _ (leader : ℕ) (listed : runs.is_listed leader ≡ true) (k : ℕ) (below : k < length (opens.standing leader listed).insns)
          (at : left.pc ≡ behind (take k (opens.standing leader listed).insns) leader)
          (known : AgreeOnKnown (runs.live leader) (opens.standing leader listed).insns (opens.standing leader listed).new k left.core right.core) where
        abbrev block : Standing runs leader
        block = opens.standing leader listed

        same : length block.new ≡ length block.insns
        same = block.computes.same_length

        left_fetches : fetched meaning program left ≡ Some (nth_insn block.insns k)
        left_fetches = fetched_later runs.old_opens left block.insns leader k below block.old_stands left_text at

        right_fetches : fetched meaning program right ≡ Some (nth_insn block.new k)
        right_fetches =
            fetched_later runs.new_opens right block.new leader k (omega (arith, same)) block.new_stands right_text
            (sym together.pc ∙ at
            ∙ behind_same (take k block.insns) (take k block.new) leader
            (length_first block.insns k (omega arith) ∙ sym (length_first block.new k (omega (arith, same)))))

        steps : StepsOn meaning program (runs.live leader) block.insns block.new block.live_out block.computes block.plain block.entries k left right
        steps =
            steps_on meaning program (runs.live leader) block.insns block.new block.live_out block.computes block.plain block.entries k left right below
            together.pc together.outside known left_fetches right_fetches left_text.text.mapped right_text.text.mapped clear

        from_inside : AreTogether (suc n)
        from_inside = record {
          end = rw (next_left, next_right) steps.in_step.end;
          outside = rw (next_left, next_right) steps.in_step.outside;
          pc = by_end (old runs (suc n)).end
              (λ still. rw (next_left, next_right) (steps.in_step.pc (goes_on still)))
              (λ e ended. ap (λ s. s.pc) (left_same e ended) ∙ together.pc ∙ sym (ap (λ s. s.pc) (right_same e ended)));
          stand = by_end (old runs (suc n)).end stands
              (λ e ended. stays_where n (suc n) (left_same e ended) (right_same e ended) together.stand);
          leaves = leaving_one_more meaning program n runs.new_opens together.leaves (λ made. steps.clear);
          jumps = jumping_one_more meaning program n runs.old_opens runs.new_opens together.jumps
              (λ made. (
                ap is_none on,
                same_jump meaning program (nth_insn block.insns k) (nth_insn block.new k) left right (block.computes.each k below)
                    left_fetches right_fetches steps.in_step.end steps.in_step.pc,
              ));
        }
          where
            goes_on : (old runs (suc n)).end ≡ None → (reached left (step meaning program left)).end ≡ None
            goes_on still = sym (ap (λ run. run.end) next_left) ∙ still

            left_same : (e : End) → (old runs (suc n)).end ≡ Some e → (old runs (suc n)).state ≡ left
            left_same e ended =
                ap (λ run. run.state) next_left
                ∙ ended_same left (step meaning program left) e (sym (ap (λ run. run.end) next_left) ∙ ended)

            right_same : (e : End) → (old runs (suc n)).end ≡ Some e → (new runs (suc n)).state ≡ right
            right_same e ended =
                ap (λ run. run.state) next_right
                ∙ ended_same right (step meaning program right) e
                (sym steps.in_step.end ∙ sym (ap (λ run. run.end) next_left) ∙ ended)

            later_known : (old runs (suc n)).end ≡ None
                → AgreeOnKnown (runs.live leader) block.insns block.new (suc k) (old runs (suc n)).state.core (new runs (suc n)).state.core
            later_known still = rw (next_left, next_right) (steps.in_step.known (goes_on still))

            stands : (old runs (suc n)).end ≡ None → Where (suc n)
            stands still = elim (cases_lt (suc k) (length block.insns)) [
              | inl inner ↦
                  inside leader listed (suc k) inner
                  (ap (λ run. run.state.pc) next_left
                  ∙ action_pc meaning program left (nth_insn block.insns k) left_fetches (block.acts k inner) (goes_on still)
                  ∙ ap following at ∙ sym (behind_more block.insns k leader below))
                  (later_known still)
              | inr last ↦
                  let all : suc k ≡ length block.insns = omega arith in
                  let leads =
                  block.leads left k all at left_fetches (goes_on still)
                  (λ target is there. tame.listed n target (omega arith) (ap is_none on) is there) in
                  standing_at (suc n) (reached left (step meaning program left)).state.pc (ap (λ run. run.state.pc) next_left) leads.place
                  (λ r live.
                  live_agrees meaning program (runs.live leader) block.insns block.new block.live_out block.computes block.plain block.entries
                  (old runs (suc n)).state.core (new runs (suc n)).state.core
                  (subst (λ j. AgreeOnKnown (runs.live leader) block.insns block.new j (old runs (suc n)).state.core (new runs (suc n)).state.core) all
                  (later_known still)) r (leads.covered r live))
            ]

      from_there : Where n → AreTogether (suc n)
      from_there (away none) = from_away none
      from_there (inside leader listed k below at known) = from_inside leader listed k below at known

    one_more : AreTogether (suc n)
    one_more = by_end (old runs n).end (λ on. from_there on together.stand) over

  all_together : (n : ℕ) → IsTame meaning program runs.is_listed n runs.old_opens → AreTogether n
  all_together zero tame = starts
  all_together (suc n) tame = one_more n tame (all_together n (record {
    leaves_text = λ i below made. tame.leaves_text i (omega arith) made;
    listed = λ i target below made is there. tame.listed i target (omega arith) made is there;
  }))

  -- ---- what is said of them

  at_front : (n : ℕ) → Where n → runs.is_listed (old runs n).state.pc ≡ true
      → AgreeOn (runs.live (old runs n).state.pc) (old runs n).state.core (new runs n).state.core
  at_front n (away none) listed r live = absurd (true≢false (sym (opens.listed_word _ listed) ∙ none))
  at_front n (inside leader is zero below at known) listed r live =
      known r r (source_first (opens.standing leader is).new r ∙ sym (source_first (opens.standing leader is).insns r))
      (subst (IsKnown (runs.live leader)) (sym (source_first (opens.standing leader is).insns r))
      (or_right (r == 0) (runs.live leader r) (subst (λ pc. runs.live pc r ≡ true) at live)))
  at_front n (inside leader is (suc k) below at known) listed r live =
      absurd (true≢false (sym listed ∙ ap runs.is_listed at ∙ (opens.standing leader is).one_leader (suc k) (omega arith) below))

  pub in_one : (n : ℕ) → IsTame meaning program runs.is_listed n runs.old_opens → AreInOne runs n
  in_one n tame =
      let together = all_together n tame in
      record {
        end = together.end;
        outside = together.outside;
        pc = together.pc;
        live = at_front n together.stand;
        leaves = together.leaves;
        jumps = together.jumps;
      }

pub runs_stay : RunsStayInStep
runs_stay runs opens n tame = in_one runs opens n tame
