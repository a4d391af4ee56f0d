-- The run that a choice is made from is tame, and costs less by what the choice saves.
use Rattle.std.proofs.Common.{◌≡◌, ◌∙◌, ℕ, ◌+◌, ◌-◌, ◌%◌, pos, ◌+ℤ◌, inl, inr, List, reverse}
use Rattle.std.proofs.Common.{Option, Some, None, refl, sym, ap, subst, arith}
use Rattle.std.specs.Prelude.{Bool, true, false, ◌==◌, if◌then◌else◌}
use Rattle.std.specs.List.{Contains}
use Rattle.std.proofs.lemmas.Bool.{cases_lt, eqb-true}
use Rattle.ci_isa.specs.declared.instruction.Insn.{Insn}
use Rattle.ci_isa.specs.declared.instruction.Insn.TheVariants.{Jalr}
use Rattle.ci_lat.specs.Latencies.{Latencies}
use Rattle.ci_elf.specs.Executables.{Executable}
use Rattle.ci_block.specs.declared.blocks.Block.{Block}
use Rattle.ci_block.specs.Leaders.{target_of_jalr}
use Rattle.ci_live.specs.Analyses.{IsAnalysis}
use Rattle.ci_live.specs.Sets.{Sets}
use Rattle.ci_machine.specs.declared.ends.End.{End}
use Rattle.ci_machine.specs.declared.ends.End.TheVariants as ends
use Rattle.ci_machine.specs.Cores.{Core}
use Rattle.ci_machine.specs.Extended.{IsExtended, latencies_with}
use Rattle.ci_machine.specs.Outcomes.{Outcome, Next, Ended}
use Rattle.ci_machine.specs.Programs.{Program, State, at_pc, loaded_program, opening}
use Rattle.ci_machine.specs.RunEvents.{IsTame, entries, jalr_target}
use Rattle.ci_machine.specs.Runs.{before_step, cost}
use Rattle.ci_machine.specs.Steps.{Meaning, IsPlain, directed, fetched, step, stepped}
use Rattle.ci_machine.specs.Words.{AreBytes}
use Rattle.ci_machine.proofs.JoinLaws.{counts_stay}
use Rattle.ci_machine.proofs.SameRuns.{plain_is_one}
use Rattle.ci_machine.proofs.TestLaws.{no_end}
use Rattle.ci_emu.specs.declared.profile.Profile.{Profile}
use Rattle.ci_emu.specs.Profiles.{IsProfileOf, IsTouch, entries_in, targets_in}
use Rattle.ci_emu.specs.TableLatencies.{latencies_of}
use Rattle.ci_log.specs.Books.{Book}
use Rattle.ci_unit.specs.Units.{Unit}
use Rattle.ci_vemit.specs.Templates.{modules_of}
use Rattle.ci_machine.specs.Outcomes.{is_access_fault}
use Rattle.ci_select.specs.declared.plan.Plan.{Plan}
use Rattle.ci_select.specs.Instances.{instance_of, Instance}
use Rattle.ci_select.specs.Savings.{IsSaved}
use Rattle.ci_runs.specs.WholeRuns.{Rewriting, is_among, saved}
use Rattle.ci_runs.proofs.Accounts.{saved_same}
use Rattle.ci_runs.proofs.ListedLeaders.{is_listed, listed_there}
use Rattle.ci_runs.specs.ChosenFiles.{IsChosenFile, RunsAlike, rewriting_of}
use Rattle.ci_runs.specs.ProfiledRuns.{ChoicesSaveInProfile, ProfiledRunsAreTame, SavesInProfile}
use Rattle.ci_runs.proofs.ChosenFileLaws.{chosen_files_run_alike}
use Rattle.ci_runs.proofs.TakenSavings.{savings_are_listed}

-- ---- where a JALR leads

-- the pc that an outcome goes on at
abbrev next_pc : Outcome State → Option ℕ
next_pc outcome = elim outcome [ Next next ↦ Some next.pc | Ended end ↦ None ]

-- a target that the run goes on at is a multiple of four
directed_aligned : (to : ℕ) (core : Core) (target : ℕ) → next_pc (directed to core) ≡ Some target → target % 4 ≡ 0
directed_aligned to core target = tested (to % 4 == 0) refl
  where
    tested : (aligned : Bool) → (to % 4 == 0) ≡ aligned
        → next_pc (if aligned then Next (at_pc to core) else Ended (ends.Misaligned to)) ≡ Some target → target % 4 ≡ 0
    tested true is led = let same : to ≡ target = cc in subst (λ (t : ℕ). t % 4 ≡ 0) same (eqb-true (to % 4) 0 is)
    tested false is led = absurd (cc)

module _ (meaning : Meaning) (program : Program) where
  -- so is each target of a JALR
  target_aligned : (state : State) (target : ℕ) → jalr_target meaning program state ≡ Some target → target % 4 ≡ 0
  target_aligned state target leads = by_fetch (fetched meaning program state) refl
    where
      by_fetch : (found : Option Insn) → fetched meaning program state ≡ found → target % 4 ≡ 0
      by_fetch None is = let none : None ≡ Some target = rw (jalr_target, is) at leads in absurd (cc)
      by_fetch (Some (Jalr rd rs1 offset)) is =
          let led : next_pc (step meaning program state) ≡ Some target = rw (jalr_target, is) at leads in
          directed_aligned _ _ target
          (subst (λ o. next_pc o ≡ Some target) (ap (stepped meaning.units program state) is) led)
      by_fetch (Some insn) is = let none : None ≡ Some target = rw (jalr_target, is) at leads in absurd (cc)

-- ---- the run

-- one whole number is one number
one_number : (m n : ℕ) → pos m ≡ pos n → m ≡ n
one_number m n same = cc

-- the profiled run is tame
pub profiled_runs_are_tame : ProfiledRunsAreTame
profiled_runs_are_tame file table steps input named profile blocks live meaning profile_is alone analysis = record {
  leaves_text = subst (IsTouch meaning (loaded_program file) steps (opening file input)) alone profile_is.touched;
  listed = λ i target below made leads text.
      let before = before_step meaning (loaded_program file) (opening file input) i in
      let aligned = target_aligned meaning (loaded_program file) before target leads in
      let led = (profile_is.targets target).1 (record { place = i; within = below; made = made; leads = leads }) in
      let there = (analysis.listing.listed target).1 ((aligned, text), inl (target_of_jalr led)) in
      is_listed live.leaders target
      (subst (λ leaders. Contains leaders target) (sym analysis.blocks_are.by_leader ∙ analysis.live.leaders) there);
}

module _
    (file : Executable) (table : Latencies) (steps : ℕ) (input named : List ℕ) (profile : Profile)
    (blocks : List Block) (live : Sets) (plain : Meaning) (is_plain : IsPlain plain)
    (profile_is : IsProfileOf plain (loaded_program file) steps (opening file input) (latencies_of table) profile)
    (alone : profile.touched ≡ None) (analysis : IsAnalysis file (targets_in profile) named blocks live) where
  abbrev Tame : Meaning → ℕ → Type 0
  Tame meaning n = IsTame meaning (loaded_program file) (is_among live.leaders) n (opening file input)

  tame : Tame plain steps
  tame = profiled_runs_are_tame file table steps input named profile blocks live plain profile_is alone analysis

  -- on each plain machine
  tame_on_each : (meaning : Meaning) (n : ℕ) → IsPlain meaning → Tame plain n → Tame meaning n
  tame_on_each meaning n other by_one =
      let one = plain_is_one plain meaning is_plain other (loaded_program file) n (opening file input) in
      (one.tame (is_among live.leaders)).0
      by_one

  -- for any number of steps, where it ended
  tame_beyond : (end : End) (n : ℕ) → profile.end ≡ Some end → Tame plain n
  tame_beyond end n ended = elim (cases_lt n steps) [
    | inl fewer ↦ record {
      leaves_text = λ i below made. tame.leaves_text i (omega arith) made;
      listed = λ i target below made leads text. tame.listed i target (omega arith) made leads text;
    }
    | inr more ↦
        subst (Tame plain) (let sum : steps + (n - steps) ≡ n = omega arith in sum)
        ((counts_stay plain (loaded_program file) steps (n - steps) (opening file input)
        (λ on. no_end _ end on (sym profile_is.end ∙ ended))).tame (is_among live.leaders) tame)
  ]

  -- each listed leader is entered as often as the profile says
  entered : (address : ℕ) → is_among live.leaders address ≡ true
      → entries_in profile address ≡ entries plain (loaded_program file) steps (opening file input) address
  entered address among =
      let there =
      subst (λ leaders. Contains leaders address) (sym analysis.live.leaders ∙ analysis.blocks_are.by_leader)
      (listed_there live.leaders address among) in
      profile_is.entries address ((analysis.listing.listed address).0 there).0

  module _
      (plan : Plan) (book : Book) (units : List Unit) (new : List ℕ) (total : ℕ) (bytes : AreBytes input)
      (chosen : IsChosenFile (instance_of profile blocks live table plan) file book units new)
      (total_is : IsSaved (instance_of profile blocks live table plan) (reverse book.entries) total) where
    abbrev instance : Instance
    instance = instance_of profile blocks live table plan

    abbrev rewriting : Rewriting
    rewriting = rewriting_of instance file (modules_of units) new

    alike : RunsAlike instance file book (modules_of units) new
    alike = chosen_files_run_alike instance file book units new chosen

    -- how often each address is entered in the run
    abbrev in_run : ℕ → ℕ
    in_run = entries plain (loaded_program file) steps (opening file input)

    -- what the cuts save over it is the total
    saved_in_run : saved alike.savings in_run ≡ pos total
    saved_in_run =
        let listed = savings_are_listed analysis.live.leaders alike.savings_are in
        sym (saved_same (is_among live.leaders) alike.savings in_run (entries_in profile)
        (λ k d below. is_listed live.leaders _ (listed k d below)) entered)
        ∙ alike.sum total total_is

    abbrev new_cost : Meaning → ℕ
    new_cost extended =
        cost extended (loaded_program rewriting.new) (latencies_with (latencies_of table) rewriting.modules) steps
        (opening rewriting.new input)

    costs_less :
        (extended : Meaning) (end : End) → IsExtended rewriting.modules extended → profile.end ≡ Some end
        → is_access_fault end ≡ false → profile.cost ≡ new_cost extended + total
    costs_less extended end is_extended ended no_access =
        let accounts =
        alike.accounts (latencies_of table) (record { of_class = λ c. refl; pad = refl; read = refl }) plain extended
        input steps end (record { is_plain = is_plain; is_extended = is_extended; bytes = bytes }) tame
        (sym profile_is.end ∙ ended) no_access in
        let in_all = accounts ∙ ap (λ z. pos (new_cost extended) +ℤ z) saved_in_run in
        profile_is.cost ∙ one_number _ (new_cost extended + total) in_all

    saves : SavesInProfile rewriting table steps input profile total
    saves = record {
      tame = λ meaning other. tame_on_each meaning steps other tame;
      tame_on = λ meaning end n other ended. tame_on_each meaning n other (tame_beyond end n ended);
      costs = costs_less;
    }

-- a choice that is made from it saves its total there
pub choices_save_in_profile : ChoicesSaveInProfile
choices_save_in_profile file table steps input named profile blocks live plain plan book units new total is_plain bytes profile_is alone analysis chosen total_is =
    saves file table steps input named profile blocks live plain is_plain profile_is alone analysis plan book units new
    total bytes chosen total_is
