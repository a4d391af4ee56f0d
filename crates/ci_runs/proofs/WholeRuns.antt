-- Whole runs of a file and of a rewritten one all of whose listed leaders have crossings.
use Rattle.std.specs.Prelude.{Bool, ◌↔◌, ◌&&◌, pos, ◌+ℤ◌, All}
use Rattle.std.specs.FinSet as finite
use Rattle.std.proofs.Common.{◌≡◌, ℕ, true, false, ◌+◌, ◌≤◌, refl, sym, ap, ◌∙◌, subst, arith, List, Some, None}
use Rattle.ci_live.specs.Sets.{at_leader}
use Rattle.ci_machine.specs.declared.ends.End.{End}
use Rattle.ci_machine.specs.Outcomes.{Reached}
use Rattle.ci_machine.specs.Agreement.{AgreeOutside}
use Rattle.ci_machine.specs.Extended.{latencies_with}
use Rattle.ci_machine.specs.Meanings.{AreOneRun}
use Rattle.ci_machine.specs.Programs.{Program, State, loaded_program, opening}
use Rattle.ci_machine.specs.RunEvents.{IsTame, entries}
use Rattle.ci_machine.specs.Runs.{Latencies, after, cost}
use Rattle.ci_machine.specs.Steps.{Meaning}
use Rattle.ci_machine.specs.Texts.{HasText}
use Rattle.ci_machine.specs.Touches.{LeavesTextFor}
use Rattle.ci_machine.proofs.ExtendedMeaning.{extended_gives_words, extended_runs_plain_files}
use Rattle.ci_machine.proofs.JoinLaws.{counts_stay}
use Rattle.ci_machine.proofs.OpeningLaws.{opening_text}
use Rattle.ci_machine.proofs.RunLaws.{ends_stay}
use Rattle.ci_machine.proofs.TestLaws.{no_end}
use Rattle.ci_machine.proofs.WordLaws.{opening_words}
use Rattle.ci_machine.specs.Outcomes.{is_access_fault}
use Rattle.ci_runs.specs.WholeRuns.{Rewriting, Saving, AreAlikeAt, AreAtFront, AreMachines, IsTameFor, is_among, new_run, old_run, saved, text}
use Rattle.ci_runs.specs.Crossings.{Meet, AtLeader, GoBy}
use Rattle.ci_runs.specs.Places.{TwoRuns, old, new}
use Rattle.ci_runs.specs.CrossedFiles.{AreCrossed, SaveAtLeaders, two_runs}
use Rattle.ci_runs.specs.Fronts.{Passage}
use Rattle.ci_runs.proofs.Accounts.{Balance, balance_grows, balance_stays, opening_balance}
use Rattle.ci_runs.proofs.Bound.{alike, balanced, meets}
use Rattle.ci_runs.proofs.ListedLeaders.{is_listed}
use Rattle.ci_runs.proofs.Passing.{passes}

-- a run that is over stays as it is
over : (meaning : Meaning) (program : Program) (opens : State) (m n : ℕ) (e : End) → (after meaning program m opens).end ≡ Some e
    → after meaning program (m + n) opens ≡ after meaning program m opens
over meaning program opens m n e ended = ends_stay meaning program m n opens (λ on. no_end _ e on ended)

-- a run that is tame is tame for fewer steps
tame_fewer : (meaning : Meaning) (program : Program) (is_listed : ℕ → Bool) (state : State) (m n : ℕ) → m ≤ n
    → IsTame meaning program is_listed n state → IsTame meaning program is_listed m state
tame_fewer meaning program is_listed state m n le tame = record {
  leaves_text = λ i below made. tame.leaves_text i (omega arith) made;
  listed = λ i target below made is there. tame.listed i target (omega arith) made is there;
}

-- what is said of an old run is said of one that reaches the same by these numbers of steps
same_old : (text : ℕ → Bool) (n : ℕ) (one other new : ℕ → Reached State) → one n ≡ other n → one (n + 256) ≡ other (n + 256)
    → AreAlikeAt text n other new → AreAlikeAt text n one new
same_old text n one other new now later alike = record {
  output = ap (λ run. run.state.core.output) now ∙ alike.output;
  old_ends = λ e is.
      let there = alike.old_ends e (ap (λ run. run.end) (sym now) ∙ is) in
      record {
        ended = there.ended;
        outside = subst (λ run. AgreeOutside text run.state.core (new (n + 256)).state.core) (sym now) there.outside;
      };
  new_ends = λ e is.
      let there = alike.new_ends e is in
      record {
        ended = ap (λ run. run.end) later ∙ there.ended;
        outside = subst (λ run. AgreeOutside text (new n).state.core run.state.core) (sym later) there.outside;
      };
  same_steps = λ e none. subst (λ run. run.end ≡ Some e ↔ (new n).end ≡ Some e) (sym now) (alike.same_steps e none);
}

module _ (rewriting : Rewriting) (plain extended : Meaning) (input : List ℕ)
    (machines : AreMachines rewriting plain extended input) (crossed : AreCrossed rewriting extended input) where
  abbrev runs : TwoRuns
  runs = two_runs rewriting extended input

  abbrev program : Program
  program = loaded_program rewriting.old

  abbrev opens : State
  opens = opening rewriting.old input

  abbrev listed : ℕ → Bool
  listed = is_among rewriting.live.leaders

  abbrev Tame : ℕ → Type 0
  Tame n = IsTame extended program listed n opens

  -- ---- by the extended meaning

  start : Meet runs 0
  start = record {
    old_on = refl;
    new_on = refl;
    pc = crossed.same_entry;
    place = crossed.entry;
    outside = crossed.outside;
    agree = λ r is. refl;
    leaves = λ i below made. absurd (omega arith);
  }

  pass : (k : ℕ) → Meet runs k → Tame (k + 256)
      → Passage (text rewriting) (Meet runs) (AtLeader runs) (GoBy runs crossed.crossing) (old runs) (new runs) k
  pass =
      passes runs (opening_text rewriting.old crossed.old_formed input)
      (subst (λ p. HasText p (opening rewriting.new input).core) crossed.same_program (opening_text rewriting.new crossed.new_formed input))
      (opening_words rewriting.old crossed.old_formed input crossed.old_of_bytes machines.bytes)
      (opening_words rewriting.new crossed.new_formed input crossed.new_of_bytes machines.bytes)
      (extended_gives_words rewriting.modules crossed.modules_are extended machines.is_extended)
      crossed.crossing

  -- ---- by both meanings

  one_run : (n : ℕ) → LeavesTextFor plain program n opens → AreOneRun plain extended program n opens
  one_run n leaves =
      (extended_runs_plain_files rewriting.modules plain extended machines.is_plain machines.is_extended rewriting.old input n
      crossed.old_formed crossed.plain leaves).0

  tame_also : (n : ℕ) → IsTameFor rewriting plain input n → Tame n
  tame_also n tame = ((one_run n tame.leaves_text).tame listed).0 tame

  -- Runs.
  pub runs_alike : (n : ℕ) → IsTameFor rewriting plain input (n + 256)
      → AreAlikeAt (text rewriting) n (old_run rewriting plain input) (new_run rewriting extended input)
  runs_alike n tame =
      subst (λ p. AreAlikeAt (text rewriting) n (old_run rewriting plain input) (λ m. after extended p m (opening rewriting.new input))) (sym crossed.same_program)
      (same_old (text rewriting) n (old_run rewriting plain input) (old runs) (new runs) (one.runs n (omega arith)) (one.runs (n + 256) (omega arith))
      (alike (text rewriting) (Meet runs) (AtLeader runs) (GoBy runs crossed.crossing) (old runs) (new runs)
      (over extended program opens) (over extended program (opening rewriting.new input)) Tame (tame_fewer extended program listed opens)
      pass start n (tame_also (n + 256) tame)))
    where
      one : AreOneRun plain extended program (n + 256) opens
      one = one_run (n + 256) tame.leaves_text

  -- Fronts.
  pub fronts_meet : (n : ℕ) → IsTameFor rewriting plain input (n + 256) → (old_run rewriting plain input n).end ≡ None
      → is_among rewriting.live.leaders (old_run rewriting plain input n).state.pc ≡ true
      → AreAtFront rewriting (old_run rewriting plain input n) (new_run rewriting extended input n)
  fronts_meet n tame on there =
      subst (λ p. AreAtFront rewriting (old_run rewriting plain input n) (after extended p n (opening rewriting.new input))) (sym crossed.same_program)
      (subst (λ run. AreAtFront rewriting run (new runs n)) (sym now) front)
    where
      now : old_run rewriting plain input n ≡ old runs n
      now = (one_run (n + 256) tame.leaves_text).runs n (omega arith)

      goes : (old runs n).end ≡ None
      goes = ap (λ run. run.end) (sym now) ∙ on

      at : listed (old runs n).state.pc ≡ true
      at = ap (λ run. listed run.state.pc) (sym now) ∙ there

      meet : Meet runs n
      meet =
          meets (text rewriting) (Meet runs) (AtLeader runs) (GoBy runs crossed.crossing) (old runs) (new runs)
          (over extended program opens) (over extended program (opening rewriting.new input)) Tame (tame_fewer extended program listed opens)
          pass start n (tame_also (n + 256) tame) goes (record { on = goes; listed = at })

      front : AreAtFront rewriting (old runs n) (new runs n)
      front = record {
        new_on = meet.new_on;
        pc = meet.pc;
        outside = meet.outside;
        live = λ r is. meet.agree r (ap (λ b. b && finite.contains (at_leader rewriting.live (old runs n).state.pc) r) at ∙ is);
      }

  -- ---- accounts

  module _ (latencies : Latencies) (savings : List Saving) (save : SaveAtLeaders rewriting extended input crossed latencies savings) where
    abbrev with_units : Latencies
    with_units = latencies_with latencies rewriting.modules

    leaders_listed : All (λ saving. listed saving.leader ≡ true) savings
    leaders_listed k d below = is_listed rewriting.live.leaders _ (save.listed k d below)

    abbrev Balanced : ℕ → Type 0
    Balanced = Balance runs crossed.crossing with_units savings leaders_listed

    -- Accounts.
    pub costs_less : (n : ℕ) (e : End) → IsTameFor rewriting plain input n → (old_run rewriting plain input n).end ≡ Some e → is_access_fault e ≡ false
        → pos (cost plain program latencies n opens)
        ≡ pos (cost extended (loaded_program rewriting.new) with_units n (opening rewriting.new input))
        +ℤ saved savings (entries plain program n opens)
    costs_less n e tame ended no_access =
        let further = (counts_stay plain program n 256 opens (λ on. no_end _ e on ended)).tame listed tame in
        let (one, same_costs) =
        extended_runs_plain_files rewriting.modules plain extended machines.is_plain machines.is_extended rewriting.old input n
        crossed.old_formed crossed.plain tame.leaves_text in
        let also = ap (λ run. run.end) (sym (one.runs n (omega arith))) ∙ ended in
        ap pos (same_costs latencies)
        ∙ balanced (text rewriting) (Meet runs) (AtLeader runs) (GoBy runs crossed.crossing) (old runs) (new runs)
        (over extended program opens) (over extended program (opening rewriting.new input)) Tame (tame_fewer extended program listed opens)
        pass Balanced
        (λ k m meet. balance_grows runs crossed.crossing with_units savings leaders_listed k m meet save.saves)
        (balance_stays runs crossed.crossing with_units savings leaders_listed)
        start (opening_balance runs crossed.crossing with_units savings leaders_listed) n e (tame_also (n + 256) further) also no_access
        ∙ (λ i. pos (cost extended (sym crossed.same_program i) with_units n (opening rewriting.new input)) +ℤ saved savings (λ a. sym (one.entered a) i))
