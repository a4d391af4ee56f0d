-- What `find` makes tells the best.
use Rattle.std.proofs.Common.{◌≡◌, ◌∙◌, ℕ, List, ◌∷◌, ◌++◌, Some, reverse, refl, ap}
use Rattle.std.specs.FinSet as finite
use Rattle.ci_log.specs.declared.book.Entry.{Entry}
use Rattle.ci_log.specs.declared.book.Entry.TheVariants.{Take}
use Rattle.ci_log.specs.Books.{Book}
use Rattle.ci_lat.specs.TableRules.{IsLatencyTable}
use Rattle.ci_unit.specs.Tables.{IsTable}
use Rattle.ci_unit.specs.Units.{Unit, unit_of}
use Rattle.ci_vemit.specs.Templates.{modules_of}
use Rattle.ci_vemit.proofs.UnitTexts.{units_spelt}
use Rattle.ci_select.specs.Instances.{Instance, AreOfSomeFile}
use Rattle.ci_select.specs.GivenUp.{GivesUpByNeed}
use Rattle.ci_select.specs.LegalBooks.{IsLegal}
use Rattle.ci_select.specs.PresentBlocks.{graph_at}
use Rattle.ci_select.specs.UnitNumbers.{AreUnits, IsUnitAt}
use Rattle.ci_select.proofs.PresentLaws.{blocks_in_order}
use Rattle.ci_select.proofs.TakenUnits.{takes_name_their_units}
use Rattle.ci_select.proofs.TruthLaws.{entries_are_true, takes_are_best}
use Rattle.ci_select.proofs.UnitLaws.{unit_is_one}
use Rattle.ci_runs.proofs.UnitModules.{module_computes}
use Rattle.ci_find.specs.Headline.{IsChosenCut, TellTheBest}
use Rattle.ci_find.specs.Laws.{ChoicesTellTheBest}
use Rattle.ci_find.specs.Profiled.{instance_by}
use Rattle.ci_find.proofs.ChoiceFiles.{chosen_file, of_some_file}

module _ (instance : Instance) (book : Book) (units : List Unit) (of_file : AreOfSomeFile instance.blocks instance.live)
    (table : IsLatencyTable instance.table) (legal : IsLegal instance book)
    (are : AreUnits instance (reverse book.entries) units) (keep : IsTable units)
    (given_up : GivesUpByNeed instance (reverse book.entries)) where
  -- a take is of the best cut, and the module of its number computes the unit of this cut
  take_is_chosen : (before behind : List Entry) (leader number : ℕ) → book.entries ≡ before ++ Take leader number ∷ behind
      → IsChosenCut instance (modules_of units) (reverse before) leader number
  take_is_chosen before behind leader number split =
      let order = blocks_in_order instance of_file in
      let (insns, cut, has_cut, best) = takes_are_best instance book before behind leader number of_file table legal split in
      let (named, at_take, at) = takes_name_their_units instance book units before behind leader number order legal are split in
      let unit = unit_of insns (graph_at instance leader insns) (finite.contains cut) in
      let own : IsUnitAt instance (reverse before) leader unit =
      record { insns = insns; cut = cut; has_cut = has_cut; unit_is = refl } in
      record {
        insns = insns;
        cut = cut;
        has_cut = has_cut;
        computes = module_computes units number unit (at ∙ ap Some (unit_is_one order at_take own)) keep;
        is_best = best;
      }

  -- so a legal book tells the best
  book_tells : TellTheBest instance (modules_of units) book
  book_tells = record {
    takes = take_is_chosen;
    searches = λ before behind entry split. entries_are_true instance book before behind entry of_file table legal split;
    given_up = given_up;
  }

-- and so does what `find` makes
pub choices_tell : ChoicesTellTheBest
choices_tell names settings read success made kept =
    let file = chosen_file names settings read success made kept in
    let choice = made.choice in (
      units_spelt choice.units choice.units_keep,
      book_tells (instance_by made.profiled) choice.book choice.units (of_some_file names settings read success made kept)
          file.table choice.legal choice.units_are choice.units_keep choice.given_up,
    )
