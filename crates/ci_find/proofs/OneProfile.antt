-- Files have one profiled run, or one reason why they have none.
use Rattle.std.proofs.Common.{◌≡◌, ℕ, ◌++◌, ◌∙◌, List, Option, Some, None, refl, sym, ap, subst, arith}
use Rattle.std.specs.Prelude.{is_none, is_some, ◌%◌, ◌==◌, ◌&&◌, if◌then◌else◌}
use Rattle.std.specs.List.{Contains}
use Rattle.std.specs.Option.{option_map}
use Rattle.ci_elf.specs.Executables.{Executable, IsAscending, IsTextWord}
use Rattle.ci_elf.proofs.OneImage.{image_is_one}
use Rattle.ci_elf.proofs.OneOrder.{ascending_is_one}
use Rattle.ci_isa.specs.declared.instruction.Insn.{Insn}
use Rattle.ci_isa.specs.declared.instruction.Insn.TheVariants.{Jalr}
use Rattle.ci_isa.proofs.RowCompleteness.{one_insn}
use Rattle.ci_lat.specs.Latencies.{Latencies}
use Rattle.ci_lat.specs.Faults.{table_of}
use Rattle.ci_machine.specs.Meanings.{AreOneRun}
use Rattle.ci_machine.specs.Programs.{Program, State, in_text, loaded_program, opening}
use Rattle.ci_machine.specs.Outcomes.{Outcome, Next, Ended}
use Rattle.ci_machine.specs.RunEvents.{jalr_target}
use Rattle.ci_machine.specs.Runs.{before_step, cost}
use Rattle.ci_machine.specs.Steps.{Meaning, IsPlain, fetched, stepped, word_at}
use Rattle.ci_machine.specs.Touches.{LeavesTextFor, touched}
use Rattle.ci_machine.proofs.SameRuns.{plain_is_one}
use Rattle.ci_block.specs.declared.blocks.Block.{Block}
use Rattle.ci_block.specs.Blocks.{AreBlocks}
use Rattle.ci_block.proofs.OneBlock.{blocks_are_one}
use Rattle.ci_block.proofs.OneListing.{listing_is_one}
use Rattle.ci_live.specs.Analyses.{IsAnalysis}
use Rattle.ci_live.specs.Sets.{Sets}
use Rattle.ci_live.proofs.NeededLaws.{has_sets}
use Rattle.ci_live.proofs.OneAnalysis.{analysis_is_one}
use Rattle.ci_emu.specs.declared.profile.Profile.{Profile}
use Rattle.ci_emu.specs.Profiles.{IsProfileOf, IsTarget, IsTouch, targets_in}
use Rattle.ci_emu.specs.TableLatencies.{latencies_of}
use Rattle.ci_select.specs.declared.plan.Plan.{Plan}
use Rattle.ci_select.specs.Instances.{instance_of}
use Rattle.ci_select.specs.AlikeInstances.{AreAlike}
use Rattle.ci_calls.specs.declared.refusals.Refusal.{Refusal}
use Rattle.ci_calls.specs.Files.{AreLatencies, input_bytes, optional_bytes}
use Rattle.ci_calls.specs.Refusals.{status_of}
use Rattle.ci_find.specs.Profiled.{IsProfiled, IsUnprofiled, Profiled, RunFiles, Settings, custom, instance_by, touches}

-- ---- the table and the input

-- a file that is given is one
pub one_given : (left right : Option (List ℕ)) → is_some left ≡ is_some right → optional_bytes left ≡ optional_bytes right
    → left ≡ right
one_given None None given same = refl
one_given None (Some y) given same = absurd (cc)
one_given (Some x) None given same = absurd (cc)
one_given (Some x) (Some y) given same = cc

-- of two files each is one
both_given : (table other input more : Option (List ℕ)) → is_some table ≡ is_some other → is_some input ≡ is_some more
    → optional_bytes table ++ optional_bytes input ≡ optional_bytes other ++ optional_bytes more
    → (table ≡ other) × (input ≡ more)
both_given None None input more given also same = (refl, one_given input more also same)
both_given None (Some y) input more given also same = absurd (cc)
both_given (Some x) None input more given also same = absurd (cc)
both_given (Some x) (Some y) input more given also same =
    let rest : optional_bytes input ≡ optional_bytes more = cc in
    (cc, one_given input more also rest)

-- bytes are one table
one_table : (bytes : Option (List ℕ)) (left right : Latencies) → AreLatencies bytes left → AreLatencies bytes right
    → left ≡ right
one_table None left right l r = l ∙ sym r
one_table (Some bytes) left right l r =
    let both : Some l.0 ≡ Some r.0 = sym l.1.1 ∙ r.1.1 in
    let same : l.0 ≡ r.0 = cc in
    l.3 ∙ ap table_of same ∙ sym r.3

module _ {settings : Settings} {executable : List ℕ} {others : List (List ℕ)}
    (left right : RunFiles settings executable others) where
  -- one table and one input are given
  same_files : (left.table ≡ right.table) × (left.input ≡ right.input)
  same_files =
      both_given left.table right.table left.input right.input (left.table_given ∙ sym right.table_given)
      (left.input_given ∙ sym right.input_given) (sym left.others_are ∙ right.others_are)

  -- the executable is one,
  pub same_file : left.file ≡ right.file
  same_file = image_is_one executable left.file right.file left.file_is right.file_is

  -- so are the latencies,
  same_latencies : left.latencies ≡ right.latencies
  same_latencies =
      one_table left.table left.latencies right.latencies left.latencies_are
      (subst (λ table. AreLatencies table right.latencies) (sym same_files.0) right.latencies_are)

  -- and what the program reads
  same_input : input_bytes left.input ≡ input_bytes right.input
  same_input = ap input_bytes same_files.1

-- ---- the targets of JALR

-- meanings that fetch the same lead to the same address
led_alike :
    (left right : Meaning) (program : Program) (state : State) (found : Option Insn) → fetched left program state ≡ found
    → fetched right program state ≡ found → jalr_target left program state ≡ jalr_target right program state
led_alike left right program state None p q = rw (jalr_target, p, q) refl
led_alike left right program state (Some (Jalr rd rs1 offset)) p q =
    rw (jalr_target, p, q)
    (ap (λ (o : Outcome State). elim o as (λ _. Option ℕ) [ Next next ↦ Some next.pc | Ended end ↦ None ])
    (ap (stepped left.units program state) p ∙ sym (ap (stepped right.units program state) q)))
led_alike left right program state (Some insn) p q = rw (jalr_target, p, q) refl

module _ (left right : Meaning) (plain : IsPlain left) (also : IsPlain right) (program : Program) where
  -- plain machines do
  leads_alike : (state : State) → jalr_target left program state ≡ jalr_target right program state
  leads_alike state =
      led_alike left right program state (fetched right program state)
      (λ i. if (state.pc % 4 == 0) && in_text program state.pc
      then option_map (λ word. one_insn word (left.insn word) (right.insn word) (plain word) (also word) i)
      (word_at state.core.memory state.pc)
      else None)
      refl

  -- so a target of the one run is one of the other
  target_there :
      (n : ℕ) (state : State) (address : ℕ) → IsTarget left program n state address
      → IsTarget right program n state address
  target_there n state address is =
      let one = plain_is_one left right plain also program n state in
      let same = one.runs is.place (omega (arith, is.within)) in
      record {
        place = is.place;
        within = is.within;
        made = ap (λ run. is_none run.end) (sym same) ∙ is.made;
        leads =
            ap (λ run. jalr_target right program run.state) (sym same)
            ∙ sym (leads_alike (before_step left program state is.place))
            ∙ is.leads;
      }

-- ---- two profiles of a run

module _
    (file : Executable) (input : List ℕ) (steps : ℕ) (latencies table : Latencies) {profile other : Profile}
    (left right : Meaning) (plain : IsPlain left) (also : IsPlain right)
    (l : IsProfileOf left (loaded_program file) steps (opening file input) (latencies_of latencies) profile)
    (r : IsProfileOf right (loaded_program file) steps (opening file input) (latencies_of table) other) where
  -- all plain machines make this run,
  one_run : AreOneRun left right (loaded_program file) steps (opening file input)
  one_run = plain_is_one left right plain also (loaded_program file) steps (opening file input)

  -- at one cost,
  pub same_cost : latencies ≡ table → profile.cost ≡ other.cost
  same_cost same =
      l.cost ∙ one_run.costs (latencies_of latencies)
      ∙ ap (λ t. cost right (loaded_program file) (latencies_of t) steps (opening file input)) same ∙ sym r.cost

  -- and its JALRs lead to the same addresses
  same_targets : targets_in profile ≡ targets_in other
  same_targets =
      ascending_is_one (λ a. a) (targets_in profile) (targets_in other) l.ascending r.ascending
      (λ address listed. (r.targets address).1
      (target_there left right plain also (loaded_program file) steps (opening file input) address
      ((l.targets address).0 listed)))
      (λ address listed. (l.targets address).1
      (target_there right left also plain (loaded_program file) steps (opening file input) address
      ((r.targets address).0 listed)))

  -- so the profiles make instances that say the same
  pub runs_alike :
      {blocks more : List Block} {live sets : Sets} {named : List ℕ} (plan limits : Plan) → IsAscending file.ranges
      → latencies ≡ table → plan ≡ limits → IsAnalysis file (targets_in profile) named blocks live
      → IsAnalysis file (targets_in other) named more sets
      → AreAlike (instance_of profile blocks live latencies plan) (instance_of other more sets table limits)
  runs_alike {blocks} {more} {live} {sets} {named} plan limits ascending same same_plan first second =
      let targets = targets_in profile in
      let again : IsAnalysis file targets named more sets =
      subst (λ ts. IsAnalysis file ts named more sets) (sym same_targets) second in
      let leaders = listing_is_one file targets named first.leaders again.leaders first.listing again.listing in
      let listed : (block : Block) → Contains blocks block → Contains live.leaders block.leader =
      has_sets blocks live first.live in
      let text : (block : Block) → Contains blocks block → IsTextWord file.ranges block.leader =
      λ block there. ((first.listing.listed block.leader).0
      (subst (λ (xs : List ℕ). Contains xs block.leader) (sym first.live.leaders ∙ first.blocks_are.by_leader)
      (listed block there))).0 in
      record {
        blocks =
            blocks_are_one file first.leaders blocks more ascending first.blocks_are
            (subst (λ (xs : List ℕ). AreBlocks file xs more) (sym leaders) again.blocks_are);
        live = λ block there.
            (analysis_is_one file targets named blocks more live sets block.leader ascending first again (listed block there)).1;
        entries = λ block there.
            l.entries block.leader (text block there) ∙ one_run.entered block.leader
            ∙ sym (r.entries block.leader (text block there));
        table = same;
        plan = same_plan;
      }

-- ---- the run of a file

module _ (file : Executable) (input : List ℕ) (steps : ℕ) (named : List ℕ) where
  -- it leaves the text alone
  leaves : {latencies : Latencies} {profile : Profile} {blocks : List Block} {live : Sets}
      (is : IsProfiled file latencies input steps named profile blocks live)
      → LeavesTextFor is.meaning (loaded_program file) steps (opening file input)
  leaves is =
      subst (IsTouch is.meaning (loaded_program file) steps (opening file input)) is.leaves_text is.profile_is.touched

  -- a file that is profiled is not refused
  pub run_or_refused : {latencies : Latencies} {profile : Profile} {blocks : List Block} {live : Sets} {refusal : Refusal}
      → IsProfiled file latencies input steps named profile blocks live → IsUnprofiled file input steps refusal → ⊥
  run_or_refused is (custom {position = position} first) = (rw first.there at (is.no_custom position first.text)) first.custom
  run_or_refused is (touches {meaning = meaning} {address = address} no_custom plain first) =
      let one = plain_is_one is.meaning meaning is.plain plain (loaded_program file) steps (opening file input) in
      let clear : touched meaning (loaded_program file)
      (before_step meaning (loaded_program file) (opening file input) first.place) ≡ None =
      one.leaves_text.0 (leaves is) first.place first.within first.made in
      let both : None ≡ Some address = sym clear ∙ first.touches in absurd cc

  -- it is refused with one status
  pub refused_once : {first second : Refusal} → IsUnprofiled file input steps first → IsUnprofiled file input steps second
      → status_of first ≡ status_of second
  refused_once (custom one) (custom other) = refl
  refused_once (custom {position = position} one) (touches no_custom plain other) =
      absurd ((rw one.there at (no_custom position one.text)) one.custom)
  refused_once (touches no_custom plain one) (custom {position = position} other) =
      absurd ((rw other.there at (no_custom position other.text)) other.custom)
  refused_once (touches no_custom plain one) (touches none also other) = refl

-- ---- the run of files

-- the files can't be chosen from
abbrev pub Unprofiled : Settings → List ℕ → List (List ℕ) → Refusal → Type 0
Unprofiled settings executable others refusal =
    (run : RunFiles settings executable others) × IsUnprofiled run.file (input_bytes run.input) settings.steps refusal

module _ {settings : Settings} {executable : List ℕ} {others : List (List ℕ)} where
  -- why one pair of files can't is why the other can't
  unprofiled_too : (left right : RunFiles settings executable others) {refusal : Refusal}
      → IsUnprofiled right.file (input_bytes right.input) settings.steps refusal
      → IsUnprofiled left.file (input_bytes left.input) settings.steps refusal
  unprofiled_too left right {refusal} is =
      subst (λ T. T)
      (λ i. IsUnprofiled (sym (same_file left right) i) (sym (same_input left right) i) settings.steps refusal) is

  -- files that are profiled are not refused
  pub profiled_or_not : {refusal : Refusal} → Profiled settings executable others
      → Unprofiled settings executable others refusal → ⊥
  profiled_or_not profiled (run, is) =
      run_or_refused profiled.files.file (input_bytes profiled.files.input) settings.steps settings.named
      profiled.is_profiled (unprofiled_too profiled.files run is)

  -- they are refused with one status
  pub unprofiled_once : {first second : Refusal} → Unprofiled settings executable others first
      → Unprofiled settings executable others second → status_of first ≡ status_of second
  unprofiled_once (run, one) (other, is) =
      refused_once run.file (input_bytes run.input) settings.steps settings.named one (unprofiled_too run other is)

  -- two choices from them are about instances that say the same
  pub profiled_alike : (left right : Profiled settings executable others) → AreAlike (instance_by left) (instance_by right)
  profiled_alike left right =
      let settled = left.is_profiled in
      let again =
      subst (λ T. T)
      (λ i. IsProfiled (sym (same_file left.files right.files) i) right.files.latencies
      (sym (same_input left.files right.files) i) settings.steps settings.named right.profile right.blocks right.live)
      right.is_profiled in
      runs_alike left.files.file (input_bytes left.files.input) settings.steps left.files.latencies right.files.latencies
      settled.meaning again.meaning settled.plain again.plain settled.profile_is again.profile_is settings.plan
      settings.plan left.files.file_is.ascending (same_latencies left.files right.files) refl settled.analysis
      again.analysis
