-- From a front both runs pass a block: to the next front, or to one end.
use Rattle.std.specs.Prelude.{Bool, true, false, if◌then◌else◌, is_none}
use Rattle.std.specs.FinSet as finite
use Rattle.std.specs.Option.{option_map}
use Rattle.std.proofs.Common.{◌≡◌, ℕ, suc, ◌+◌, ◌<◌, ◌≤◌, refl, sym, ap, ◌∙◌, subst, arith, inl, inr, true≢false, List, length, take, Some, None}
use Rattle.std.proofs.lemmas.Bool.{cases_lt}
use Rattle.ci_isa.specs.declared.instruction.Insn.{Insn}
use Rattle.ci_machine.specs.declared.ends.End.{End}
use Rattle.ci_machine.specs.declared.ends.End.TheVariants as ends
use Rattle.ci_machine.specs.Cores.{register}
use Rattle.ci_machine.specs.Outcomes.{reached, from_end}
use Rattle.ci_machine.specs.Agreement.{AgreeOutside}
use Rattle.ci_machine.specs.Programs.{Program, State, in_text}
use Rattle.ci_machine.specs.RunEvents.{jalr_target, IsTame, MetEnd}
use Rattle.ci_machine.specs.Runs.{after}
use Rattle.ci_machine.specs.Steps.{Meaning, step, stepped, word_at}
use Rattle.ci_machine.specs.Texts.{HasText, HasTextOf}
use Rattle.ci_machine.specs.Touches.{LeavesTextFor}
use Rattle.ci_machine.specs.Words.{IsOfWords, GivesWords}
use Rattle.ci_machine.specs.Blocks.{StandAt, behind, AreRelatedAt}
use Rattle.ci_machine.proofs.EndLaws.{no_end_before, ends_at}
use Rattle.ci_machine.proofs.JoinLaws.{counts_join}
use Rattle.ci_machine.proofs.RunLaws.{runs_join}
use Rattle.ci_machine.proofs.TestLaws.{by_end}
use Rattle.ci_machine.proofs.TextLaws.{text_stays_for}
use Rattle.ci_machine.proofs.WordLaws.{words_stay}
use Rattle.ci_rewrite.specs.Blocks.{live_behind}
use Rattle.ci_rewrite.specs.SameSteps.{PassAlike, EndAlike}
use Rattle.ci_rewrite.proofs.EndSteps.{passed_blocks_end_alike}
use Rattle.ci_rewrite.proofs.Steps.{folding_keeps_steps, last_is_fetched}
use Rattle.ci_runs.specs.Crossings.{Crossing, Meet, AtLeader, GoBy, block, fetch}
use Rattle.ci_runs.specs.Places.{TwoRuns, is_word, IsPlace, at_leader, no_text, LeadsTo, old, new}
use Rattle.ci_runs.specs.Fronts.{Passage, onward, together, inside, AreQuiet}
use Rattle.ci_runs.proofs.BlockRuns.{stands_later, output_stays, output_ended, leads_behind}

-- 0 is the only number below 1
zero_alone : (P : ℕ → Type 0) → P 0 → (d : ℕ) → d < 1 → P d
zero_alone P is d below = subst P (let same : 0 ≡ d = omega arith in same) is

-- where no word is, the run ends
ends_there : (meaning : Meaning) (program : Program) (state : State) → is_word program state.pc ≡ false
    → after meaning program 1 state ≡ record { state = state; end = Some (ends.Fetch state.pc) }
ends_there meaning program state none =
    ap (λ test. reached state (stepped meaning.units program state (if test then option_map meaning.insn (word_at state.core.memory state.pc) else None))) none

-- ---- from a front

module _ (runs : TwoRuns) (old_text : HasText runs.program runs.old_opens.core) (new_text : HasText runs.program runs.new_opens.core)
    (old_words : IsOfWords runs.old_opens) (new_words : IsOfWords runs.new_opens) (gives : GivesWords runs.meaning)
    (crossing : (leader : ℕ) → runs.is_listed leader ≡ true → Crossing runs leader)
    (k : ℕ) (meet : Meet runs k) (tame : IsTame runs.meaning runs.program runs.is_listed (k + 256) runs.old_opens) where
  abbrev meaning : Meaning
  meaning = runs.meaning

  abbrev program : Program
  program = runs.program

  abbrev text : ℕ → Bool
  text = in_text runs.program

  abbrev left : State
  left = (old runs k).state

  abbrev right : State
  right = (new runs k).state

  abbrev PassesFrom : Type 0
  PassesFrom = Passage text (Meet runs) (AtLeader runs) (GoBy runs crossing) (old runs) (new runs) k

  abbrev IsQuiet : ℕ → Type 0
  IsQuiet = AreQuiet text (Meet runs) (AtLeader runs) (GoBy runs crossing) (old runs) (new runs) k

  joined_old : (d : ℕ) → old runs (k + d) ≡ after meaning program d left
  joined_old d = runs_join meaning program k d runs.old_opens meet.old_on

  joined_new : (d : ℕ) → new runs (k + d) ≡ after meaning program d right
  joined_new d = runs_join meaning program k d runs.new_opens meet.new_on

  leaves_here : (m : ℕ) → m ≤ 256 → LeavesTextFor meaning program m left
  leaves_here m most =
      ((counts_join meaning program k m runs.old_opens meet.old_on).leaves_text.0 (λ i below made. tame.leaves_text i (omega arith) made)).1

  -- what is shown of both runs from the front on
  outside_there : (c d : ℕ) → AgreeOutside text (after meaning program c left).state.core (after meaning program d right).state.core
      → AgreeOutside text (old runs (k + c)).state.core (new runs (k + d)).state.core
  outside_there c d same =
      subst (λ run. AgreeOutside text run.state.core (new runs (k + d)).state.core) (sym (joined_old c))
      (subst (λ run. AgreeOutside text (after meaning program c left).state.core run.state.core) (sym (joined_new d)) same)

  output_there : (c d : ℕ) → (after meaning program c left).state.core.output ≡ left.core.output
      → (after meaning program d right).state.core.output ≡ right.core.output
      → (old runs (k + c)).state.core.output ≡ (new runs (k + d)).state.core.output
  output_there c d old_stays new_stays =
      ap (λ run. run.state.core.output) (joined_old c) ∙ old_stays ∙ meet.outside.output
      ∙ sym new_stays ∙ sym (ap (λ run. run.state.core.output) (joined_new d))

  -- ---- where no instruction is fetched

  passes_no_text : is_word program left.pc ≡ false → PassesFrom
  passes_no_text none =
      together 1 (ends.Fetch left.pc) (omega arith) (omega arith)
      (record {
        old_on = zero_alone (λ d. (old runs (k + d)).end ≡ None) (ap (λ run. run.end) (joined_old 0));
        new_on = zero_alone (λ d. (new runs (k + d)).end ≡ None) (ap (λ run. run.end) (joined_new 0));
        output = zero_alone (λ d. (old runs (k + d)).state.core.output ≡ (new runs (k + d)).state.core.output) (output_there 0 0 refl refl);
        apart = λ d some below. absurd (omega arith);
      })
      (fetch none refl)
      (ap (λ run. run.end) (joined_old 1 ∙ ended_old))
      (ap (λ run. run.end) (joined_new 1 ∙ ended_new) ∙ ap (λ pc. Some (ends.Fetch pc)) (sym meet.pc))
      (outside_there 1 1 (rw (ended_old, ended_new) meet.outside))
    where
      ended_old : after meaning program 1 left ≡ record { state = left; end = Some (ends.Fetch left.pc) }
      ended_old = ends_there meaning program left none

      ended_new : after meaning program 1 right ≡ record { state = right; end = Some (ends.Fetch right.pc) }
      ended_new = ends_there meaning program right (ap (is_word program) (sym meet.pc) ∙ none)

  -- ---- a block

  module _ (listed : runs.is_listed (old runs k).state.pc ≡ true) where
    abbrev here : Crossing runs (old runs k).state.pc
    here = crossing (old runs k).state.pc listed

    abbrev insns : List Insn
    insns = here.insns

    abbrev folded : List Insn
    folded = here.folded

    abbrev n : ℕ
    n = here.n

    within : n ≤ length insns
    within = here.block.actions.within

    almost : length insns ≤ suc n
    almost = here.block.actions.most

    few : length insns ≤ 256
    few = here.block.few

    old_has : HasTextOf program runs.old_opens.core left.core
    old_has = text_stays_for meaning program k runs.old_opens old_text (λ i below made. tame.leaves_text i (omega arith) made)

    new_has : HasTextOf program runs.new_opens.core right.core
    new_has = text_stays_for meaning program k runs.new_opens new_text meet.leaves

    old_stands : StandAt meaning program left.core.memory left.pc insns
    old_stands = stands_later meaning program runs.old_opens.core.memory left.core.memory old_has.same insns left.pc here.old_stands

    new_stands : StandAt meaning program right.core.memory right.pc folded
    new_stands =
        subst (λ pc. StandAt meaning program right.core.memory pc folded) meet.pc
        (stands_later meaning program runs.new_opens.core.memory right.core.memory new_has.same folded left.pc here.new_stands)

    leaves_block : LeavesTextFor meaning program n left
    leaves_block = leaves_here n (omega (arith, within, few))

    pass : PassAlike meaning program (live_behind insns n here.live_out) (behind (take n insns) left.pc) n left right
    pass =
        folding_keeps_steps meaning program (runs.live left.pc) insns folded n here.live_out left right
        here.block here.named here.serve here.keeps here.covers
        (record {
          pc = meet.pc;
          block = old_stands;
          folded_block = new_stands;
          words = (words_stay meaning program gives k runs.old_opens old_words).core;
          folded_words = (words_stay meaning program gives k runs.new_opens new_words).core;
          outside = meet.outside;
          registers = meet.agree;
        })
        leaves_block

    behind_alike : EndAlike meaning program (finite.contains here.live_out) (length insns) left right
    behind_alike =
        passed_blocks_end_alike meaning program insns folded n here.live_out (behind (take n insns) left.pc) left right
        here.block here.keeps.shape old_stands new_stands old_has.text.mapped new_has.text.mapped pass (leaves_here (length insns) few)

    -- no step begins at a listed leader but the first
    apart_inside : (d : ℕ) → 0 < d → d ≤ n → d < length insns → ¬ AtLeader runs (k + d)
    apart_inside d some le below there =
        let run = joined_old d in
        let pc_is : (old runs (k + d)).state.pc ≡ behind (take d insns) left.pc =
        ap (λ r. r.state.pc) run
        ∙ leads_behind meaning program insns n left here.block old_stands leaves_block d le (ap (λ r. r.end) (sym run) ∙ there.on) in
        true≢false (sym there.listed ∙ ap runs.is_listed pc_is ∙ here.one_leader d some below)

    -- ---- an access is refused

    passes_refused : (e : End) → (after meaning program n left).end ≡ Some e → PassesFrom
    passes_refused e ended =
        inside first.place second.place e (omega (arith, first.within, within, few)) (omega (arith, second.within, within, few))
        (pass.refused e ended)
        (record { ended = ap (λ r. r.end) (joined_old first.place) ∙ first.there; on = λ d below. ap (λ r. r.end) (joined_old d) ∙ first.on d below })
        (record { ended = ap (λ r. r.end) (joined_new second.place) ∙ second.there; on = λ d below. ap (λ r. r.end) (joined_new d) ∙ second.on d below })
        (outside_there first.place second.place
        (subst (λ r. AgreeOutside text r.state.core (after meaning program second.place right).state.core) first.stays
        (subst (λ r. AgreeOutside text (after meaning program n left).state.core r.state.core) second.stays pass.related.related.outside)))
        (λ c d. output_there c d
        (output_ended meaning program insns n left here.block old_stands leaves_block e ended c)
        (output_ended meaning program folded n right here.keeps.shape.is_block new_stands pass.leaves_text e also d))
        (λ d some below. apart_inside d some (omega (arith, first.within)) (omega (arith, first.within, within)))
      where
        also : (after meaning program n right).end ≡ Some e
        also = sym pass.related.related.end ∙ ended

        first : MetEnd meaning program left n e
        first = ends_at meaning program left n e ended

        second : MetEnd meaning program right n e
        second = ends_at meaning program right n e also

    -- ---- the actions come to no end

    module _ (on : (after meaning program n left).end ≡ None) where
      on_right : (after meaning program n right).end ≡ None
      on_right = sym pass.related.related.end ∙ on

      quiet : IsQuiet (length insns)
      quiet = record {
        old_on = λ d below. ap (λ r. r.end) (joined_old d) ∙ no_end_before meaning program left d n (omega (arith, almost)) on;
        new_on = λ d below. ap (λ r. r.end) (joined_new d) ∙ no_end_before meaning program right d n (omega (arith, almost)) on_right;
        output = λ d below. output_there d d
            (output_stays meaning program insns n left here.block old_stands leaves_block d (omega (arith, almost)))
            (output_stays meaning program folded n right here.keeps.shape.is_block new_stands pass.leaves_text d (omega (arith, almost)));
        apart = λ d some below. apart_inside d some (omega (arith, almost)) below;
      }

      goes_by : GoBy runs crossing k (length insns)
      goes_by = block listed
          (record {
            old_stands = old_stands;
            new_stands = new_stands;
            old_leaves = leaves_block;
            new_leaves = pass.leaves_text;
            old_goes = on;
            new_goes = on_right;
            apart = quiet.apart;
          })
          refl

      -- the place to which the block leads
      leads : (after meaning program (length insns) left).end ≡ None
          → LeadsTo runs here.live_out (after meaning program (length insns) left).state.pc
      leads goes = elim (cases_lt n (length insns)) [
        | inl below ↦
            let whole : suc n ≡ length insns = omega (arith, almost) in
            let last = (after meaning program n left).state in
            let made : after meaning program (length insns) left ≡ reached last (step meaning program last) =
            ap (λ m. after meaning program m left) (sym whole) ∙ ap (from_end (step meaning program) (after meaning program n left)) on in
            subst (λ run. LeadsTo runs here.live_out run.state.pc) (sym made)
            (here.on_from last below (pass.there on) (last_is_fetched meaning program insns n left here.block below old_stands leaves_block on)
            (ap (λ run. run.end) (sym made) ∙ goes)
            (λ target is. tame.listed (k + n) target (omega (arith, few)) (ap (λ run. is_none run.end) (joined_old n) ∙ ap is_none on)
            (ap (λ run. jalr_target meaning program run.state) (joined_old n) ∙ is)))
        | inr past ↦
            let whole : n ≡ length insns = omega (arith, within) in
            subst (λ m. LeadsTo runs here.live_out (after meaning program m left).state.pc) whole
            (subst (LeadsTo runs here.live_out) (sym (pass.there on)) (here.onto whole))
      ]

      -- the next front
      meets : (after meaning program (length insns) left).end ≡ None → Meet runs (k + length insns)
      meets goes = record {
        old_on = ap (λ r. r.end) (joined_old m) ∙ goes;
        new_on = ap (λ r. r.end) (joined_new m) ∙ sym related.related.end ∙ goes;
        pc = ap (λ r. r.state.pc) (joined_old m) ∙ related.pc goes ∙ sym (ap (λ r. r.state.pc) (joined_new m));
        place = subst (λ r. IsPlace runs r.state.pc) (sym (joined_old m)) there.place;
        outside = outside_there m m related.related.outside;
        agree = λ r is.
            ap (λ run. register run.state.core r) (joined_old m)
            ∙ related.related.registers goes r (there.covered r (ap (λ run. runs.live run.state.pc r) (sym (joined_old m)) ∙ is))
            ∙ sym (ap (λ run. register run.state.core r) (joined_new m));
        leaves = (counts_join meaning program k m runs.new_opens meet.new_on).leaves_text.1 (meet.leaves, behind_alike.leaves_text);
      }
        where
          m : ℕ
          m = length insns

          related : AreRelatedAt text (finite.contains here.live_out) (after meaning program (length insns) left) (after meaning program (length insns) right)
          related = behind_alike.related

          there : LeadsTo runs here.live_out (after meaning program (length insns) left).state.pc
          there = leads goes

      passes_last : PassesFrom
      passes_last = by_end (after meaning program (length insns) left).end
          (λ goes. onward (length insns) here.some few quiet goes_by (meets goes))
          (λ e ended. together (length insns) e here.some few quiet goes_by
          (ap (λ r. r.end) (joined_old (length insns)) ∙ ended)
          (ap (λ r. r.end) (joined_new (length insns)) ∙ sym behind_alike.related.related.end ∙ ended)
          (outside_there (length insns) (length insns) behind_alike.related.related.outside))

    passes_block : PassesFrom
    passes_block = by_end (after meaning program n left).end passes_last passes_refused

  -- Each front is passed.
  pub passes : PassesFrom
  passes = by_place meet.place
    where
      by_place : IsPlace runs left.pc → PassesFrom
      by_place (at_leader is) = passes_block is
      by_place (no_text none) = passes_no_text none
