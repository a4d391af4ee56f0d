-- A renamed file runs in step with the original.
use Rattle.std.specs.Prelude.{◌≡◌, ℕ, ◌+◌, ◌*◌, ◌⊎◌, Bool, true, List, length}
use Rattle.std.specs.List.{Contains}
use Rattle.std.specs.FinSet as finite
use Rattle.std.specs.Ordering.{nat_cmp}
use Rattle.std.proofs.Common.{refl, sym, ap, ◌∙◌, subst, arith, inl, inr}
use Rattle.std.proofs.lemmas.Bool.{and_from}
use Rattle.ci_isa.specs.declared.instruction.Insn.{Insn}
use Rattle.ci_isa.specs.declared.instruction.Insn.TheVariants.{Ebreak}
use Rattle.ci_isa.specs.Sequences.{ReadFirst, Write, nth_insn}
use Rattle.ci_isa.proofs.LastWriter.{unwritten_before}
use Rattle.ci_elf.specs.Executables.{Executable, text_word}
use Rattle.ci_block.specs.Blocks.{IsBlockAt}
use Rattle.ci_block.specs.Leaders.{entry}
use Rattle.ci_block.specs.declared.blocks.Block.{Block}
use Rattle.ci_live.specs.Sets.{Sets, after_block, at_leader}
use Rattle.ci_machine.specs.Blocks.{StandAt}
use Rattle.ci_machine.specs.Programs.{Program, in_text, loaded_program, opening}
use Rattle.ci_machine.specs.RunEvents.{IsTame}
use Rattle.ci_machine.specs.Runs.{after}
use Rattle.ci_machine.specs.Steps.{IsPlain, Meaning}
use Rattle.ci_machine.specs.Texts.{HasText}
use Rattle.ci_rename.specs.InStep.{HasEntries}
use Rattle.ci_rename.specs.OtherRegisters.{ComputeAlike}
use Rattle.ci_rename.specs.RenamedFiles.{IsRenamedFile}
use Rattle.ci_runs.specs.ChangedFiles.{IsChangedFile}
use Rattle.ci_runs.specs.Places.{TwoRuns, at_leader as at_listed, runs_of}
use Rattle.ci_runs.specs.RenamedRuns.{AreInStepAt, RenamedFilesRunInStep, RenamedRunsAreTame}
use Rattle.ci_runs.specs.RunsInStep.{OpenAlike, Standing}
use Rattle.ci_runs.specs.WholeRuns.{is_among}
use Rattle.ci_runs.proofs.AlikeNeeds.{no_write, read_first}
use Rattle.ci_runs.proofs.ChangedFiles as files
use Rattle.ci_runs.proofs.ListedLeaders.{is_listed, listed_there}
use Rattle.ci_runs.proofs.RenamedWords as words
use Rattle.ci_runs.proofs.RunsInStep.{runs_stay}
use Rattle.ci_runs.proofs.Ways.{alone, leads_with}
use Rattle.ci_isa.proofs.RowCompleteness.{one_insn}
use Rattle.ci_machine.proofs.OpeningLaws.{opening_text}

module _ (old new : Executable) (live : Sets) (values changed : ℕ) (is : IsRenamedFile old new live values changed)
    (plain : Meaning) (is_plain : IsPlain plain) (input : List ℕ) where
  abbrev program : Program
  program = loaded_program old

  abbrev changed_is : IsChangedFile old new live
  changed_is = words.changed_is old new live values changed is

  abbrev runs : TwoRuns
  runs = runs_of old new live plain input

  same_program : loaded_program new ≡ program
  same_program = files.same_program old new live changed_is

  -- ---- a block

  module _ (block : Block) (there : Contains is.blocks block) where
    abbrev insns : List Insn
    insns = block.insns.items

    abbrev live_out : finite.FinSet nat_cmp
    live_out = after_block live block.leader

    at_leader_of : IsBlockAt old is.analysis.leaders block
    at_leader_of = files.at_leader_of old new live changed_is block there

    abbrev after_it : List Insn
    after_it = words.after_it old new live values changed is block there

    abbrev word : ℕ → ℕ
    word k = text_word old (block.leader + 4 * k)

    computes : ComputeAlike live_out insns after_it
    computes = words.computes old new live values changed is block there

    -- each stands where its file opens
    old_stands : StandAt plain program (opening old input).core.memory block.leader insns
    old_stands =
        files.old_stands old new live changed_is block there plain input
        (λ k below. one_insn (word k) (plain.insn (word k)) (nth_insn insns k) (is_plain (word k)) (words.reads old new live values changed is block there k below))

    new_stands : StandAt plain program (opening new input).core.memory block.leader after_it
    new_stands =
        files.new_stands old new live changed_is block there plain input after_it computes.same_length
        (λ k below.
        let written = text_word new (block.leader + 4 * k) in
        one_insn written (plain.insn written) (nth_insn after_it k) (is_plain written) (words.new_reads old new live values changed is block there k below))

    -- ---- what it needs

    entries : HasEntries (runs.live block.leader) insns live_out
    entries = record {
      read = λ k r below reads absent. at r (inl (read_first insns r (k, below, reads, absent)));
      live = λ r alive absent. at r (inr (alive, no_write insns r (λ j under. unwritten_before insns r (length insns) absent j under)));
    }
      where
        at : (r : ℕ) → ReadFirst insns r ⊎ ((finite.contains live_out r ≡ true) × ¬ Write insns r) → runs.live block.leader r ≡ true
        at = files.needs old new live changed_is block there

    -- ---- together

    standing : Standing runs block.leader
    standing = record {
      insns = insns;
      new = after_it;
      live_out = live_out;
      some = at_leader_of.some;
      computes = computes;
      plain = words.are_plain old new live values changed is block there;
      acts = λ k below. at_leader_of.one_terminator k (omega arith) Ebreak;
      entries = entries;
      old_stands = old_stands;
      new_stands = new_stands;
      one_leader = alone old new live changed_is plain input block there;
      leads = leads_with old new live changed_is plain input block there;
    }

  -- ---- the runs

  open_alike : OpenAlike runs
  open_alike = record {
    old_text = opening_text old (files.old_formed old new live changed_is) input;
    new_text = subst (λ p. HasText p (opening new input).core) same_program (opening_text new (files.new_formed old new live changed_is) input);
    pc = sym (ap (λ file. file.entry) is.new_is);
    place = at_listed (is_listed live.leaders old.entry entry_listed);
    outside = files.outside old new live changed_is input;
    agree = λ r is. refl;
    listed_word = λ address listed. files.word_tested old address (files.leader_is_word old new live changed_is address (listed_there live.leaders address listed));
    standing = λ leader listed.
        let found = files.block_there old new live changed_is leader (listed_there live.leaders leader listed) in
        subst (Standing runs) found.2 (standing found.0 found.1);
  }
    where
      entry_listed : Contains live.leaders old.entry
      entry_listed =
          subst (λ (leaders : List ℕ). Contains leaders old.entry) (files.same_leaders old new live changed_is)
          ((is.analysis.listing.listed old.entry).1 ((files.old_formed old new live changed_is).entry, inl (entry (λ i. old.entry))))

  pub in_step_at : (n : ℕ) → IsTame plain program (is_among live.leaders) n (opening old input)
      → AreInStepAt (in_text program) live (after plain program n (opening old input)) (after plain (loaded_program new) n (opening new input))
  in_step_at n tame =
      subst (λ p. AreInStepAt (in_text program) live (after plain program n (opening old input)) (after plain p n (opening new input))) (sym same_program)
      (let one = runs_stay runs open_alike n tame in
      record {
        end = one.end;
        outside = one.outside;
        pc = one.pc;
        fronts = λ listed r found. one.live listed r (and_from (is_among live.leaders _) (finite.contains (at_leader live _) r) listed found);
      })

  -- the second run is tame, too
  pub tame_at : (n : ℕ) (is_listed : ℕ → Bool) → IsTame plain program (is_among live.leaders) n (opening old input)
      → IsTame plain program is_listed n (opening old input) → IsTame plain (loaded_program new) is_listed n (opening new input)
  tame_at n is_listed tame also =
      subst (λ p. IsTame plain p is_listed n (opening new input)) (sym same_program)
      (let one = runs_stay runs open_alike n tame in
      record {
        leaves_text = one.leaves;
        listed = λ i target below made is there.
            let (made_before, same) = one.jumps i below made in
            also.listed i target below made_before (sym same ∙ is) there;
      })

pub renamed_files_run_in_step : RenamedFilesRunInStep
renamed_files_run_in_step old new live values changed is plain input n is_plain tame =
    in_step_at old new live values changed is plain is_plain input n tame

pub renamed_runs_are_tame : RenamedRunsAreTame
renamed_runs_are_tame old new live values changed is plain input n is_listed is_plain tame also =
    tame_at old new live values changed is plain is_plain input n is_listed tame also
