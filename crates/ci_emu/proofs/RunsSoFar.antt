-- What holds of a run in which no step has ended yet, and of the step that comes next.
use Rattle.std.proofs.Common.{◌≡◌, ℕ, ◌+◌, ◌*◌, ◌<◌, ◌≤◌, ◌^◌, ap, arith, subst, sym, ◌∙◌, length}
use Rattle.ci_isa.specs.declared.instruction.Insn.{Insn}
use Rattle.ci_machine.specs.Outcomes.{at_start}
use Rattle.ci_machine.specs.Programs.{Program, State, in_text}
use Rattle.ci_machine.specs.Runs.{Latencies, after}
use Rattle.ci_machine.specs.Steps.{Meaning}
use Rattle.ci_emu.specs.declared.steps.Outcome.TheVariants.{Next}
use Rattle.ci_emu.specs.declared.tally.Tally.{Tally}
use Rattle.ci_emu.specs.private.CountedSteps.{HasEntered, HasRoom, IsCountedStep}
use Rattle.ci_emu.specs.private.Counting.{IsCounted}
use Rattle.ci_emu.specs.private.Fetched.{IsTextBelow}
use Rattle.ci_emu.specs.private.Lines.{AreKept, AreKnown}
use Rattle.ci_emu.proofs.RunSteps.{HasFew, counted_more, few_more, has_room, stepped_to}
use Rattle.ci_emu.proofs.SameStart.{same_start}

-- So many steps of the program were made from the start, none of them ended, and the tally is theirs. The state that
-- they lead to is one of the same program.
pub record IsRunTo (Means : Meaning → Type 0) (cycles : ℕ → Insn → ℕ) (latencies : Latencies) (program : Program) (start : State)
    (i : ℕ) (here : Program) (now : State) (tally : Tally) : Type 0 where
  pub same : here ≡ program
  pub text : tally.counts.places ≡ program.text
  pub cost : tally.cost ≤ 4294967295 * i
  pub many : length tally.cache.words.items ≡ length tally.counts.by_place.items
  pub behind : IsTextBelow (in_text program) tally.touches.end
  pub begun : 0 < tally.touches.changes
  pub changes : tally.touches.changes ≤ i + 1
  pub kept : AreKept cycles tally.touches.changes tally.cache.words.items
  pub known : (meaning : Meaning) → Means meaning
      → AreKnown meaning program now.core.memory tally.touches.changes tally.cache.words.items
  pub few : HasFew program tally.counts i
  pub reached : (meaning : Meaning) → Means meaning → after meaning program i start ≡ at_start now
  pub counted : (meaning : Meaning) → Means meaning → IsCounted meaning program latencies start i tally

module _ (Means : Meaning → Type 0) (cycles : ℕ → Insn → ℕ) (latencies : Latencies) (program : Program) (start : State) (i : ℕ) where
  -- where a step was not made, all is as it was
  pub unmade : (here : Program) (now : State) (tally : Tally) (there : Program) (next : State) (later : Tally)
      → IsRunTo Means cycles latencies program start i here now tally → there ≡ here → next ≡ now → later ≡ tally
      → IsRunTo Means cycles latencies program start i there next later
  unmade here now tally there next later so_far same_program same_state same_tally =
      same_start (λ p s t. IsRunTo Means cycles latencies program start i p s t) here there now next tally later
      (sym same_program) (sym same_state) (sym same_tally) so_far

  module _ (here : Program) (now : State) (tally : Tally) (so_far : IsRunTo Means cycles latencies program start i here now tally) where
    -- there is room for one step more
    pub room_for_one : i < 2 ^ 32 → HasRoom Means cycles here now tally
    room_for_one below = record {
      text = so_far.text ∙ ap (λ (p : Program). p.text) (sym so_far.same);
      room = has_room program here so_far.same i tally.counts so_far.few below now.pc;
      cheap = let cost = so_far.cost in omega arith;
      many = so_far.many;
      behind = subst (λ p. IsTextBelow (in_text p) tally.touches.end) (sym so_far.same) so_far.behind;
      begun = so_far.begun;
      few = let changes = so_far.changes in omega arith;
      kept = so_far.kept;
      known = λ meaning means.
          subst (λ p. AreKnown meaning p now.core.memory tally.touches.changes tally.cache.words.items) (sym so_far.same)
          (so_far.known meaning means);
    }

    -- and behind it, where it did not end, it is a run of one step more
    pub one_step_more : (there : Program) (next : State) (later : Tally) → there ≡ here
        → IsCountedStep Means latencies here now tally next later Next → HasEntered cycles here now tally later
        → IsRunTo Means cycles latencies program start (i + 1) there next later
    one_step_more there next later stays made entered = record {
      same = stays ∙ so_far.same;
      text = entered.text ∙ so_far.text;
      cost = let more = entered.cost in let cost = so_far.cost in omega arith;
      many = entered.many;
      behind = subst (IsTextBelow (in_text program)) (sym entered.end) so_far.behind;
      begun = omega (arith, so_far.begun, entered.later);
      changes = omega (arith, so_far.changes, entered.few);
      kept = entered.kept;
      known = λ meaning means.
          subst (λ p. AreKnown meaning p next.core.memory later.touches.changes later.cache.words.items) so_far.same
          (made.known meaning means);
      few = few_more program here so_far.same i tally.counts so_far.few later.counts now.pc entered.entered;
      reached = stepped_to Means program start i here so_far.same now so_far.reached next Next made.stepped;
      counted = counted_more Means program start i here so_far.same now so_far.reached next Next made.stepped latencies tally later
          so_far.counted made.counted;
    }
