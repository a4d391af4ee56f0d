-- What a load says of its seed is one line.
use Rattle.std.proofs.Common.{◌≡◌, ◌∙◌, ℕ, List, [], ◌∷◌, ◌++◌, length, reverse, refl, sym, ap, subst, arith, lit<}
use Rattle.std.specs.Prelude.{codes}
use Rattle.std.specs.Fmt.{decimal}
use Rattle.std.proofs.lemmas.List.{length-map}
use Rattle.ci_reading.specs.Lines.{line}
use Rattle.ci_isa.specs.declared.instruction.Insn.{Insn}
use Rattle.ci_elf.specs.Executables.{Executable, IsImageOf, IsWellFormed}
use Rattle.ci_elf.specs.Frames.{frame_of}
use Rattle.ci_elf.proofs.ImageLaws.{formed_with}
use Rattle.ci_elf.proofs.OneImage.{image_is_one}
use Rattle.ci_elf.proofs.TextPlaceLaws.{formed}
use Rattle.ci_gen.specs.Programs.{AreWordsOf, IsProgramOf}
use Rattle.ci_gen.specs.Texts.{text_of}
use Rattle.ci_lat.specs.Latencies.{Latencies, usual}
use Rattle.ci_lat.proofs.SettingsFit.{usual_is_table}
use Rattle.ci_machine.specs.Extended.{latencies_with}
use Rattle.ci_machine.specs.Programs.{loaded_program, opening}
use Rattle.ci_machine.specs.Words.{AreBytes}
use Rattle.ci_machine.proofs.ExtendedMeaning.{extended_is_one}
use Rattle.ci_machine.proofs.SameRuns.{plain_is_one}
use Rattle.ci_machine.proofs.WordLaws.{opening_words}
use Rattle.ci_block.specs.Blocks.{AreInOrder}
use Rattle.ci_block.specs.Laws.{contents_of}
use Rattle.ci_live.specs.Analyses.{IsAnalysis}
use Rattle.ci_emu.specs.declared.profile.Profile.{Profile}
use Rattle.ci_emu.specs.Profiles.{targets_in}
use Rattle.ci_emu.specs.TableLatencies.{latencies_of}
use Rattle.ci_log.specs.declared.book.Entry.{Entry}
use Rattle.ci_log.specs.declared.book.Entry.TheVariants.{Best}
use Rattle.ci_unit.specs.Tables.{IsTable}
use Rattle.ci_unit.specs.Units.{Unit}
use Rattle.ci_vemit.specs.Templates.{modules_of}
use Rattle.ci_select.specs.declared.plan.Plan.{Plan}
use Rattle.ci_select.specs.Histories.{AreOneButLogs, without_log}
use Rattle.ci_select.specs.Instances.{AreBlocksOf, AreOfSomeFile, Instance, instance_of}
use Rattle.ci_select.specs.AlikeInstances.{AreAlike}
use Rattle.ci_select.specs.NewFiles.{IsNewFile, with_bytes}
use Rattle.ci_select.proofs.AlikeLaws.{given_up_alike, legal_alike, like_back, new_file_alike, saved_alike, units_alike}
use Rattle.ci_select.proofs.FreeLogs.{counts_alike, reversed_alike, rounds_alike, turned}
use Rattle.ci_select.proofs.NewFileLaws.{new_file_is_one}
use Rattle.ci_select.proofs.OneChoice.{choice_is_one}
use Rattle.ci_select.proofs.PresentIsOne.{blocks_in_order}
use Rattle.ci_select.proofs.SavingLaws.{savings_are_one}
use Rattle.ci_select.proofs.UnitLaws.{units_are_one}
use Rattle.ci_select.proofs.WordIsOne.{word_is_one}
use Rattle.ci_runs.proofs.UnitModules.{table_of_modules}
use Rattle.ci_calls.specs.declared.success.Success.{Success}
use Rattle.ci_find.specs.FindCommand.{is_spent, summary}
use Rattle.ci_find.specs.Laws.{LoadIsOne}
use Rattle.ci_find.specs.LoadCommand.{byte_digits, load_line, steps_of_load, IsExtendedCost, IsLoadMade, IsPlainRun, IsPlanOfLoad}
use Rattle.ci_find.proofs.OneChoice.{plan_is_one}
use Rattle.ci_find.proofs.OneProfile.{runs_alike, same_cost}

-- ---- the program

-- instructions have one list of words
words_are_one :
    (insns : List Insn) (left right : List ℕ) → AreWordsOf left insns → AreWordsOf right insns → left ≡ right
words_are_one [] [] [] l r = refl
words_are_one [] [] (w ∷ right) l r = absurd r
words_are_one [] (v ∷ left) right l r = absurd l
words_are_one (insn ∷ insns) [] right l r = absurd l
words_are_one (insn ∷ insns) (v ∷ left) [] l r = absurd r
words_are_one (insn ∷ insns) (v ∷ left) (w ∷ right) l r =
    λ i. word_is_one insn v w l.0 r.0 i ∷ words_are_one insns left right l.1 r.1 i

-- so a seed has one program
program_is_one : (seed : ℕ) (left right : List ℕ) → IsProgramOf seed left → IsProgramOf seed right → left ≡ right
program_is_one seed left right l r =
    l.bytes_are
    ∙ ap (λ words. frame_of words [] (0 ∷ [])) (words_are_one (text_of seed) l.words r.words l.words_are r.words_are)
    ∙ sym r.bytes_are

-- ---- the runs

-- the plain run has one output
output_is_one :
    (file : Executable) (latencies : Latencies) (steps : ℕ) {first second : Profile} {left right : List ℕ}
    → IsPlainRun file latencies steps first left → IsPlainRun file latencies steps second right → left ≡ right
output_is_one file latencies steps l r =
    let one = plain_is_one l.meaning r.meaning l.plain r.plain (loaded_program file) steps (opening file []) in
    l.output_is ∙ ap (λ run. run.state.core.output) (one.runs steps (omega arith)) ∙ sym r.output_is

no_bytes : AreBytes []
no_bytes k = lit< tt

-- the run with the units has one cost
extended_cost_is_one :
    (file : Executable) (units : List Unit) (latencies : Latencies) (steps left right : ℕ) → IsWellFormed file
    → AreBytes file.bytes → IsTable units → IsExtendedCost file units latencies steps left
    → IsExtendedCost file units latencies steps right → left ≡ right
extended_cost_is_one file units latencies steps left right formed bytes keep l r =
    let one =
    extended_is_one (modules_of units) (table_of_modules keep) l.meaning r.meaning l.extended r.extended
    (loaded_program file) steps (opening file []) (opening_words file formed [] bytes no_bytes) in
    l.cycles_are ∙ one.costs (latencies_with (latencies_of latencies) (modules_of units)) ∙ sym r.cycles_are

-- ---- two loads of one seed

limits_are_one : {left right : Plan} → IsPlanOfLoad left → IsPlanOfLoad right → left ≡ right
limits_are_one l r =
    plan_is_one (l.inputs ∙ sym r.inputs) (l.outputs ∙ sym r.outputs) (l.count ∙ sym r.count) (l.budget ∙ sym r.budget)

-- the numbers of entries that are one but for their logs
summary_is_one :
    {left right : List Entry} {units more : List Unit} {saved other : ℕ} → AreOneButLogs left right → units ≡ more
    → saved ≡ other → summary left units saved ≡ summary right more other
summary_is_one {left} {right} one same_units same_saved =
    let cuts = rounds_alike one in
    let skipped = counts_alike is_spent spent_kept one in
    λ i. codes "cuts " ++ decimal (cuts i) ++ codes " units " ++ decimal (length (same_units i)) ++ codes " skipped "
    ++ decimal (skipped i) ++ codes " gain " ++ decimal (same_saved i)
  where
    spent_kept : (entry : Entry) → is_spent (without_log entry) ≡ is_spent entry
    spent_kept (Best l cut log) = refl
    spent_kept entry = refl

module _
    (seed : ℕ) (read : List (List ℕ)) (left right : Success) (l : IsLoadMade seed read left)
    (r : IsLoadMade seed read right) where
  -- the file is one,
  same_file : l.file ≡ r.file
  same_file =
      let same = program_is_one seed r.file.bytes l.file.bytes r.program l.program in
      image_is_one l.file.bytes l.file r.file l.file_is.1 (subst (λ bytes. IsImageOf bytes r.file) same r.file_is.1)

  -- so both are runs of it,
  run : IsPlainRun l.file usual steps_of_load r.profile r.output
  run = subst (λ f. IsPlainRun f usual steps_of_load r.profile r.output) (sym same_file) r.run

  analysis : IsAnalysis l.file (targets_in r.profile) [] r.blocks r.live
  analysis = subst (λ f. IsAnalysis f (targets_in r.profile) [] r.blocks r.live) (sym same_file) r.analysis

  abbrev first : Instance
  first = instance_of l.profile l.blocks l.live usual l.plan

  abbrev second : Instance
  second = instance_of r.profile r.blocks r.live usual r.plan

  -- and the choices are about instances that say the same
  alike : AreAlike first second
  alike =
      runs_alike l.file [] steps_of_load usual usual l.run.meaning run.meaning l.run.plain run.plain l.run.profile_is
      run.profile_is l.plan r.plan l.file_is.1.ascending refl (limits_are_one l.plan_is r.plan_is) l.analysis analysis

  formed_file : IsWellFormed l.file
  formed_file = formed l.file.bytes l.file_is.0 l.file l.file_is.1

  of_blocks : AreBlocksOf l.file l.blocks l.live
  of_blocks = (targets_in l.profile, [], l.analysis)

  of_file : AreOfSomeFile l.blocks l.live
  of_file = (l.file, of_blocks, formed_file, l.file_of_bytes)

  order : AreInOrder l.blocks
  order = blocks_in_order first of_file

  -- the choice is one but for its logs,
  choices : AreOneButLogs l.book.entries r.book.entries
  choices =
      (choice_is_one first l.book r.book of_file usual_is_table l.legal l.given_up (legal_alike (like_back alike) r.legal)
      (given_up_alike (like_back alike) (reverse r.book.entries) r.given_up)).0

  back : AreOneButLogs (reverse r.book.entries) (reverse l.book.entries)
  back = reversed_alike (turned choices)

  -- so are its units,
  same_units : l.units ≡ r.units
  same_units =
      units_are_one first (reverse l.book.entries) l.units r.units order l.units_are
      (units_alike (like_back alike) back r.units_are)

  -- what it saves,
  same_saved : l.saved ≡ r.saved
  same_saved =
      savings_are_one first (reverse l.book.entries) l.saved r.saved order l.saved_is
      (saved_alike (like_back alike) back r.saved_is)

  -- the new file
  same_new : l.new_bytes ≡ r.new_bytes
  same_new =
      new_file_is_one first l.file (reverse l.book.entries) l.new_bytes r.new_bytes formed_file l.file_of_bytes of_blocks
      l.legal.entries l.new_is
      (new_file_alike (like_back alike) back
      (subst (λ f. IsNewFile second f (reverse r.book.entries) r.new_bytes) (sym same_file) r.new_is))
      l.new_of_bytes r.new_of_bytes

  -- and what its run costs
  same_new_cost : l.new_cost ≡ r.new_cost
  same_new_cost =
      let new_run : IsExtendedCost (with_bytes l.file l.new_bytes) l.units usual steps_of_load r.new_cost =
      subst (λ T. T)
      (λ i. IsExtendedCost (with_bytes (sym same_file i) (sym same_new i)) (sym same_units i) usual steps_of_load
      r.new_cost)
      r.new_run in
      extended_cost_is_one (with_bytes l.file l.new_bytes) l.units usual steps_of_load l.new_cost r.new_cost
      (formed_with l.file l.new_bytes l.new_is.text_alone.same_length formed_file) l.new_of_bytes l.units_keep l.new_run
      new_run

  -- so the line is one
  same_line : left.text.items ≡ right.text.items
  same_line =
      let blocks = sym (length-map l.blocks contents_of) ∙ ap length alike.blocks ∙ length-map r.blocks contents_of in
      let told = summary_is_one choices same_units same_saved in
      let old_cost = same_cost l.file [] steps_of_load usual usual l.run.meaning run.meaning l.run.plain run.plain
      l.run.profile_is run.profile_is refl in
      let output = output_is_one l.file usual steps_of_load l.run run in
      let line_is : load_line seed (length l.blocks) l.book.entries l.units l.saved l.profile.cost l.new_cost l.output
      ≡ load_line seed (length r.blocks) r.book.entries r.units r.saved r.profile.cost r.new_cost r.output =
      λ i. line (codes "load " ++ decimal seed ++ codes " blocks " ++ decimal (blocks i) ++ codes " " ++ told i
      ++ codes " cost " ++ decimal (old_cost i) ++ codes " " ++ decimal (same_new_cost i) ++ codes " output "
      ++ byte_digits (output i)) in
      l.text_is ∙ line_is ∙ sym r.text_is

pub load_is_one : LoadIsOne
load_is_one seed read left right l r = same_line seed read left right l r
