-- For private laws: a rewritten file all of whose listed leaders have crossings, on one input.
use Rattle.std.specs.Prelude.{◌≡◌, ℕ, ◌+ℤ◌, true, pos, List, All}
use Rattle.std.specs.List.{Contains}
use Rattle.ci_elf.specs.Executables.{IsWellFormed}
use Rattle.ci_block.specs.CustomWords.{HasNoCustomWord}
use Rattle.ci_verilog.specs.Modules.{IsModule}
use Rattle.ci_machine.specs.Agreement.{AgreeOutside}
use Rattle.ci_machine.specs.Extended.{latencies_with}
use Rattle.ci_machine.specs.Programs.{loaded_program, opening}
use Rattle.ci_machine.specs.Runs.{Latencies}
use Rattle.ci_machine.specs.Steps.{Meaning}
use Rattle.ci_machine.specs.Words.{AreBytes}
use Rattle.ci_rewrite.specs.Costs.{cost_of}
use Rattle.ci_runs.specs.WholeRuns.{Rewriting, Saving, is_among, text}
use Rattle.ci_runs.specs.FoldedFiles.{saved_at}
use Rattle.ci_runs.specs.Crossings.{Crossing}
use Rattle.ci_runs.specs.Places.{TwoRuns, IsPlace, runs_of}

-- both runs by the extended meaning, the listed leaders, and the registers that are live at them: elsewhere none are
abbrev pub two_runs : Rewriting → Meaning → List ℕ → TwoRuns
two_runs rewriting extended input = runs_of rewriting.old rewriting.new rewriting.live extended input

module _ (rewriting : Rewriting) (extended : Meaning) (input : List ℕ) where
  -- Both files are one program but for the words of the text, and open alike outside it. Their entry is a place, and
  -- each listed leader has a crossing.
  pub record AreCrossed : Type 0 where
    pub old_formed : IsWellFormed rewriting.old
    pub new_formed : IsWellFormed rewriting.new
    pub plain : HasNoCustomWord rewriting.old
    pub modules_are : All IsModule rewriting.modules
    pub same_program : loaded_program rewriting.new ≡ loaded_program rewriting.old
    pub same_entry : rewriting.old.entry ≡ rewriting.new.entry
    pub outside :
        AgreeOutside (text rewriting) (opening rewriting.old input).core (opening rewriting.new input).core
    pub old_of_bytes : AreBytes rewriting.old.bytes
    pub new_of_bytes : AreBytes rewriting.new.bytes
    pub entry : IsPlace (two_runs rewriting extended input) rewriting.old.entry
    pub crossing :
        (leader : ℕ) → is_among rewriting.live.leaders leader ≡ true
        → Crossing (two_runs rewriting extended input) leader

  -- At each listed leader the folded block costs less by what is saved there, and nothing is saved elsewhere.
  pub record SaveAtLeaders (crossed : AreCrossed) (latencies : Latencies) (savings : List Saving) : Type 0 where
    pub listed : All (λ saving. Contains rewriting.live.leaders saving.leader) savings
    pub saves :
        (leader : ℕ) (is : is_among rewriting.live.leaders leader ≡ true)
        → let crossing = crossed.crossing leader is in
        let all = latencies_with latencies rewriting.modules in
        pos (cost_of all crossing.insns) ≡ pos (cost_of all crossing.folded) +ℤ saved_at savings leader
