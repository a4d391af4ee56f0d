-- The new file of a legal book is a folded file.
use Rattle.std.proofs.Common.{ℕ, List, [], reverse, refl, sym, subst}
use Rattle.std.specs.List.{Contains}
use Rattle.ci_elf.specs.Executables.{Executable}
use Rattle.ci_elf.proofs.TextChangeLaws.{text_may_change}
use Rattle.ci_elf.proofs.TextPlaceLaws.{formed}
use Rattle.ci_block.specs.declared.blocks.Block.{Block}
use Rattle.ci_machine.specs.Words.{AreBytes}
use Rattle.ci_log.specs.Books.{Book}
use Rattle.ci_unit.specs.Units.{Unit}
use Rattle.ci_vemit.specs.Templates.{modules_of}
use Rattle.ci_select.specs.Instances.{AreOfSomeFile, Instance}
use Rattle.ci_select.proofs.EachIsPresent.{each_block_is_present}
use Rattle.ci_select.proofs.PresentIsOne.{blocks_in_order}
use Rattle.ci_runs.specs.FoldedFiles.{IsFoldedBlock, IsFoldedFile}
use Rattle.ci_runs.specs.WholeRuns.{Saving}
use Rattle.ci_runs.proofs.FoldedFileLaws.{files_run_alike, files_meet, files_cost_less}
use Rattle.ci_runs.specs.ChosenFiles.{AreSavings, ChosenFilesRunAlike, IsChosenFile, rewriting_of}
use Rattle.ci_runs.proofs.TakenFolds.{folds_of}
use Rattle.ci_runs.proofs.TakenSavings.{saved_is_sum, savings_are_listed, savings_of}
use Rattle.ci_runs.proofs.UnitModules.{table_of_modules}

module _
    (instance : Instance) (file : Executable) (book : Book) (units : List Unit) (new : List ℕ)
    (chosen : IsChosenFile instance file book units new) where
  -- the file is of bytes, and its blocks are those of a file that keeps all rules,
  of_bytes : AreBytes file.bytes
  of_bytes = subst AreBytes (sym chosen.old_is.1.same_bytes) chosen.old_bytes

  of_file : AreOfSomeFile instance.blocks instance.live
  of_file = (file, chosen.blocks, formed chosen.old chosen.old_is.0 file chosen.old_is.1, of_bytes)

  -- in the new file each of them has cuts folded,
  folded_block :
      (savings : List Saving) → AreSavings instance (reverse book.entries) savings
      → (block : Block) → Contains instance.blocks block
      → IsFoldedBlock (rewriting_of instance file (modules_of units) new) instance.table savings instance.plan.limits
      block
  folded_block savings are block there =
      let (insns, present) = each_block_is_present instance book block chosen.legal there in
      let has =
      folds_of instance book units of_file chosen.table chosen.legal chosen.units_are chosen.units_keep
      (reverse book.entries) block.leader block.insns.items insns ([], refl) chosen.legal.entries
      (block, there, refl, refl) are present in
      record {
        insns = insns;
        gains = has.gains;
        folds = has.folds;
        words = λ k within. chosen.new_is.blocks block insns k there present within;
        gains_are = has.gains_are;
      }

  -- so it is a folded file
  folded_file :
      (savings : List Saving) → AreSavings instance (reverse book.entries) savings
      → IsFoldedFile (rewriting_of instance file (modules_of units) new) instance.table savings
  folded_file savings are = record {
    limits = instance.plan.limits;
    targets = chosen.blocks.0;
    named = chosen.blocks.1;
    blocks = instance.blocks;
    old_bytes = chosen.old;
    old_is = chosen.old_is;
    old_of_bytes = of_bytes;
    plain = chosen.no_custom;
    analysis = chosen.blocks.2;
    new_is = refl;
    new_of_bytes = chosen.new_bytes;
    text_alone = chosen.new_is.text_alone;
    modules_are = table_of_modules chosen.units_keep;
    each = folded_block savings are;
    listed = savings_are_listed chosen.blocks.2.live.leaders are;
  }

-- and runs as folded files do
pub chosen_files_run_alike : ChosenFilesRunAlike
chosen_files_run_alike instance file book units new chosen =
    let (savings, are) = savings_of instance (reverse book.entries) chosen.legal.entries in
    let folded = folded_file instance file book units new chosen savings are in
    let rewriting = rewriting_of instance file (modules_of units) new in
    record {
      savings = savings;
      savings_are = are;
      read = text_may_change chosen.old new file chosen.old_is chosen.new_is.text_alone;
      runs = files_run_alike rewriting instance.table savings folded;
      fronts = files_meet rewriting instance.table savings folded;
      accounts = files_cost_less rewriting instance.table savings folded;
      sum = λ total is. saved_is_sum (blocks_in_order instance (of_file instance file book units new chosen)) are is;
    }
