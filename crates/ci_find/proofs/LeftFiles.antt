-- What the names of a choice hold once its files are written.
use Rattle.std.proofs.Common.{◌≡◌, ◌≢◌, ◌∙◌, ℕ, inl, inr, List, [], ◌∷◌, map, cond, Some, refl, ap}
use Rattle.std.specs.Prelude.{⊤}
use Rattle.std.specs.Cmp.{eq_by_cmp_equiv}
use Rattle.std.specs.Cmp.Lexicographic.{nat_list_cmp_total}
use Rattle.std.specs.FinMap as finite
use Rattle.std.specs.FinMap.{get-insert}
use Rattle.ci_io.specs.Outcomes.{Files, with_file}
use Rattle.ci_calls.specs.declared.success.Written.{Written}
use Rattle.ci_calls.specs.Finishing.{with_files}
use Rattle.ci_calls.specs.Inputs.{Input}
use Rattle.ci_calls.proofs.Contents.{with_file-get}
use Rattle.ci_find.specs.FindCommand.{FindOutput, written}

-- ---- files that are put on a shelf

-- a name has what was put there
pub put_here : (name bytes : List ℕ) (files : Files) → finite.get (with_file name (Some bytes) files) name ≡ Some bytes
put_here name bytes files =
    get-insert nat_list_cmp_total files name bytes name
    ∙ ap (λ b. cond b (Some bytes) (finite.get files name)) ((eq_by_cmp_equiv nat_list_cmp_total).refl name)

-- another name has what it had
pub put_elsewhere : (name bytes : List ℕ) (files : Files) (other : List ℕ) → other ≢ name
    → finite.get (with_file name (Some bytes) files) other ≡ finite.get files other
put_elsewhere name bytes files other apart =
    elim (with_file-get name (Some bytes) files other) [
      | inl (same, has) ↦ absurd (apart same)
      | inr has ↦ has
    ]

-- files by names and bytes are put there, one after the other
abbrev pub with_pairs : List (List ℕ × List ℕ) → Files → Files
with_pairs [] files = files
with_pairs (pair ∷ pairs) files = with_pairs pairs (with_file pair.0 (Some pair.1) files)

-- so are those of a success
pub by_pairs : (writes : List Written) (files : Files) → with_files writes files ≡ with_pairs (map written writes) files
by_pairs [] files = refl
by_pairs (w ∷ writes) files = by_pairs writes (with_file w.name.now (Some w.bytes.items) files)

-- ---- the files of a choice

-- a name that none of the files has that are written
pub record IsElse (output : FindOutput) (name : List ℕ) : Type 0 where
  pub units : name ≢ output.units
  pub logs : name ≢ output.logs
  pub report : name ≢ output.report
  pub new : name ≢ output.new

-- no file that is read has the name of one that is written
abbrev pub AreElse : FindOutput → List Input → Type 0
AreElse output [] = ⊤
AreElse output (input ∷ inputs) = IsElse output input.name × AreElse output inputs

-- the names of the files that are written differ
pub record NamesDiffer (output : FindOutput) : Type 0 where
  pub new_of_report : output.report ≢ output.new
  pub new_of_logs : output.logs ≢ output.new
  pub new_of_units : output.units ≢ output.new
  pub report_of_logs : output.logs ≢ output.report
  pub report_of_units : output.units ≢ output.report
  pub logs_of_units : output.units ≢ output.logs

-- the names hold these texts, and each other name what it held
pub record AreThere (output : FindOutput) (held left : Files) (units logs report new : List ℕ) : Type 0 where
  pub units_there : finite.get left output.units ≡ Some units
  pub logs_there : finite.get left output.logs ≡ Some logs
  pub report_there : finite.get left output.report ≡ Some report
  pub new_there : finite.get left output.new ≡ Some new
  pub stays : (name : List ℕ) → IsElse output name → finite.get left name ≡ finite.get held name

module _ (output : FindOutput) (held : Files) (writes : List Written) (units logs report new : List ℕ)
    (apart : NamesDiffer output)
    (are : map written writes ≡ (output.units, units) ∷ (output.logs, logs) ∷ (output.report, report) ∷ (output.new, new) ∷ []) where
  -- the shelf behind the first file that is written, and so on
  abbrev behind_units : Files
  behind_units = with_file output.units (Some units) held

  abbrev behind_logs : Files
  behind_logs = with_file output.logs (Some logs) behind_units

  abbrev behind_report : Files
  behind_report = with_file output.report (Some report) behind_logs

  -- what is left is the shelf behind the last one
  left_is : with_files writes held ≡ with_file output.new (Some new) behind_report
  left_is = by_pairs writes held ∙ ap (λ pairs. with_pairs pairs held) are

  -- but for this one it has what was there before it
  not_new : (name : List ℕ) → name ≢ output.new → finite.get (with_files writes held) name ≡ finite.get behind_report name
  not_new name other = ap (λ files. finite.get files name) left_is ∙ put_elsewhere output.new new behind_report name other

  -- so the names hold what was written
  pub are_there : AreThere output held (with_files writes held) units logs report new
  are_there = record {
    units_there =
        not_new output.units apart.new_of_units
        ∙ put_elsewhere output.report report behind_logs output.units apart.report_of_units
        ∙ put_elsewhere output.logs logs behind_units output.units apart.logs_of_units ∙ put_here output.units units held;
    logs_there =
        not_new output.logs apart.new_of_logs
        ∙ put_elsewhere output.report report behind_logs output.logs apart.report_of_logs
        ∙ put_here output.logs logs behind_units;
    report_there = not_new output.report apart.new_of_report ∙ put_here output.report report behind_logs;
    new_there = ap (λ files. finite.get files output.new) left_is ∙ put_here output.new new behind_report;
    stays = λ name other.
        not_new name other.new ∙ put_elsewhere output.report report behind_logs name other.report
        ∙ put_elsewhere output.logs logs behind_units name other.logs
        ∙ put_elsewhere output.units units held name other.units;
  }
