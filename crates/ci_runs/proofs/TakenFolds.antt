-- A present block behind a legal book is its first one with cuts folded, which the modules of the book's units compute.
use Rattle.std.proofs.Common.{◌≡◌, ℕ, ℤ, ◌+ℤ◌, inl, inr, true≢false, List, [], ◌∷◌, ◌++◌, reverse, Some, refl, sym}
use Rattle.std.proofs.Common.{◌∙◌, ap, append_assoc, subst}
use Rattle.std.specs.Prelude.{if◌then◌else◌, slice_get}
use Rattle.std.specs.FinSet as finite
use Rattle.std.specs.Ordering.{nat_cmp}
use Rattle.std.proofs.lemmas.Bool.{cases_eq, eq-eqb, ne_eqb}
use Rattle.std.proofs.lemmas.List.{reverse-append, reverse-reverse}
use Rattle.ci_isa.specs.declared.instruction.Insn.{Insn}
use Rattle.ci_lat.specs.TableRules.{IsLatencyTable}
use Rattle.ci_block.specs.Blocks.{AreInOrder}
use Rattle.ci_live.specs.Sets.{after_block}
use Rattle.ci_cut.specs.Gain.{gain}
use Rattle.ci_log.specs.declared.book.Entry.{Entry}
use Rattle.ci_log.specs.declared.book.Entry.TheVariants.{Take}
use Rattle.ci_log.specs.Books.{Book}
use Rattle.ci_unit.specs.Tables.{IsTable}
use Rattle.ci_unit.specs.Units.{Unit, unit_of}
use Rattle.ci_vemit.specs.Templates.{modules_of}
use Rattle.ci_rewrite.specs.FoldedBlock.{IsFolded}
use Rattle.ci_select.specs.Histories.{History}
use Rattle.ci_select.specs.Instances.{AreOfSomeFile, Instance}
use Rattle.ci_select.specs.LegalBooks.{IsLegal, IsLegalHistory}
use Rattle.ci_select.specs.PresentBlocks.{HasPresentCut, IsOriginal, IsPresent, graph_at, original}
use Rattle.ci_select.specs.UnitNumbers.{AreUnits, IsUnitAt}
use Rattle.ci_select.proofs.PresentIsOne.{blocks_in_order, present_before, present_cases, present_is_one}
use Rattle.ci_select.proofs.PresentIsOne.{search_takes_none}
use Rattle.ci_select.proofs.PresentLaws.{cut_is_best, take_is_due, take_is_small}
use Rattle.ci_select.proofs.TakenUnits.{takes_name_their_units}
use Rattle.ci_select.proofs.UnitLaws.{unit_is_one}
use Rattle.ci_runs.specs.FoldedFiles.{AreFolds, more, none as none_folded, saved_at, total}
use Rattle.ci_runs.specs.WholeRuns.{Saving}
use Rattle.ci_runs.specs.ChosenFiles.{AreSavings, none, of_search, of_take}
use Rattle.ci_runs.proofs.TakenSavings.{gain_is_one}
use Rattle.ci_runs.proofs.UnitModules.{module_computes, module_takes}

module _
    (instance : Instance) (book : Book) (units : List Unit) (of_file : AreOfSomeFile instance.blocks instance.live)
    (kept : IsLatencyTable instance.table) (legal : IsLegal instance book)
    (are : AreUnits instance (reverse book.entries) units) (keep : IsTable units) where
  -- the blocks are in the order of their leaders
  order : AreInOrder instance.blocks
  order = blocks_in_order instance of_file

  -- ---- the numbers of takes

  -- the history is that of the first entries of the book
  abbrev pub IsFront : History → Type 0
  IsFront history = (later : List Entry) × (reverse book.entries ≡ later ++ history)

  -- so is what stands before an entry of them
  front_behind : (entry : Entry) (history : History) → IsFront (entry ∷ history) → IsFront history
  front_behind entry history (later, split) =
      (later ++ entry ∷ [], split ∙ sym (append_assoc later (entry ∷ []) history))

  -- the unit of a cut that is taken next has the number of the take
  unit_at :
      {history : History} {leader number : ℕ} {insns : List Insn} {cut : finite.FinSet nat_cmp}
      → IsFront (Take leader number ∷ history) → HasPresentCut instance history leader insns cut
      → slice_get units number ≡ Some (unit_of insns (graph_at instance leader insns) (finite.contains cut))
  unit_at {history} {leader} {number} {insns} {cut} (later, split) has =
      let (unit, is, at) = named in
      at ∙ ap Some (unit_is_one order is (record { insns = insns; cut = cut; has_cut = has; unit_is = refl }))
    where
      turned : book.entries ≡ reverse history ++ Take leader number ∷ reverse later
      turned =
          sym (reverse-reverse book.entries) ∙ ap reverse split ∙ reverse-append later (Take leader number ∷ history)
          ∙ ap (λ entries. entries ++ reverse later) (reverse-append (Take leader number ∷ []) history)
          ∙ append_assoc (reverse history) (Take leader number ∷ []) (reverse later)

      named : (unit : Unit) × IsUnitAt instance history leader unit × (slice_get units number ≡ Some unit)
      named =
          subst (λ h. (unit : Unit) × IsUnitAt instance h leader unit × (slice_get units number ≡ Some unit))
          (reverse-reverse history)
          (takes_name_their_units instance book units (reverse history) (reverse later) leader number order legal are
          turned)

  -- ---- folds

  -- folds of a block, by the modules of the units
  abbrev pub Folds : ℕ → List Insn → List Insn → List ℤ → Type 0
  Folds leader first insns gains =
      AreFolds (modules_of units) (after_block instance.live leader) instance.table instance.plan.limits first insns
      gains

  -- one take folds one cut more
  one_more :
      {history : History} {leader number : ℕ} {first insns new : List Insn} {gains : List ℤ}
      {cut : finite.FinSet nat_cmp}
      → IsFront (Take leader number ∷ history) → IsLegalHistory instance (Take leader number ∷ history)
      → HasPresentCut instance history leader insns cut
      → IsFolded insns (graph_at instance leader insns) (finite.contains cut) number new
      → Folds leader first insns gains
      → Folds leader first new (gain (graph_at instance leader insns) (finite.contains cut) ∷ gains)
  one_more {history} {leader} {number} {insns = insns} {cut = cut} front right has is folds =
      let due = take_is_due right.0 in
      let unit = unit_of insns (graph_at instance leader insns) (finite.contains cut) in
      let at = unit_at front has in
      more (finite.contains cut) number folds
      (cut_is_best of_file kept right.1 (due.next.no_search leader) has).fits (take_is_small order right.1 due) is
      (module_computes units number unit at keep) (module_takes units number unit at)

  -- The folds of a block, and their gains, which are its savings.
  pub record HasFolds (leader : ℕ) (first insns : List Insn) (savings : List Saving) : Type 0 where
    pub gains : List ℤ
    pub folds : Folds leader first insns gains
    pub gains_are : saved_at savings leader ≡ total gains

  -- a take of another block keeps them,
  not_taken :
      (leader : ℕ) {first insns : List Insn} (saving : Saving) (savings : List Saving) → ¬ (saving.leader ≡ leader)
      → HasFolds leader first insns savings → HasFolds leader first insns (saving ∷ savings)
  not_taken leader saving savings other has = record {
    gains = has.gains;
    folds = has.folds;
    gains_are =
        ap (λ b. if b then saving.gain +ℤ saved_at savings leader else saved_at savings leader)
        (ne_eqb saving.leader leader other)
        ∙ has.gains_are;
  }

  -- and one of the block itself has its gain
  taken :
      (leader : ℕ) {first new : List Insn} (saving : Saving) (savings : List Saving) {gains : List ℤ} (g : ℤ)
      → saving.leader ≡ leader → saving.gain ≡ g → saved_at savings leader ≡ total gains
      → Folds leader first new (g ∷ gains) → HasFolds leader first new (saving ∷ savings)
  taken leader saving savings {gains} g its same before folds = record {
    gains = g ∷ gains;
    folds = folds;
    gains_are =
        ap (λ b. if b then saving.gain +ℤ saved_at savings leader else saved_at savings leader)
        (eq-eqb saving.leader leader its)
        ∙ (λ i. same i +ℤ before i);
  }

  -- so each present block has folds
  pub folds_of :
      (history : History) (leader : ℕ) (first insns : List Insn) {savings : List Saving} → IsFront history
      → IsLegalHistory instance history → IsOriginal instance leader first → AreSavings instance history savings
      → IsPresent instance history leader insns → HasFolds leader first insns savings
  folds_of history leader first insns front right is none present =
      let same : first ≡ insns = present_is_one instance [] leader first insns order (original is) present in
      record { gains = []; folds = subst (λ i. Folds leader first i []) same none_folded; gains_are = refl }
  folds_of history leader first insns front right is
      (of_search {history = before} {entry} searches savings) present =
      folds_of before leader first insns (front_behind entry before front) right.1 is savings
      (present_before (search_takes_none entry leader searches) present)
  folds_of history leader first new front right is
      (of_take {history = before} {leader = l} {number} {savings = others} {insns} {cut} savings has) present =
      let saving : Saving = record { leader = l; gain = gain (graph_at instance l insns) (finite.contains cut) } in
      let behind = front_behind (Take l number) before front in
      elim (cases_eq l leader) [
        | inl its ↦ elim (present_cases present) [
          | inl (other, earlier) ↦ absurd (true≢false (sym (eq-eqb l leader its) ∙ other))
          | inr (unit, same, refolded) ↦
              let own : HasPresentCut instance before leader refolded.insns refolded.cut =
              record { present = refolded.present; has_cut = refolded.has_cut } in
              let earlier = folds_of before leader first refolded.insns behind right.1 is savings refolded.present in
              taken leader saving others (gain (graph_at instance leader refolded.insns) (finite.contains refolded.cut))
              its (same_gain its own) earlier.gains_are
              (one_more (subst (λ e. IsFront (e ∷ before)) same front)
              (subst (λ e. IsLegalHistory instance (e ∷ before)) same right) own refolded.is_folded earlier.folds)
        ]
        | inr other ↦
            not_taken leader saving others other
            (folds_of before leader first new behind right.1 is savings
            (present_before (ne_eqb l leader other) present))
      ]
    where
      same_gain :
          l ≡ leader → {also : List Insn} {its_cut : finite.FinSet nat_cmp}
          → HasPresentCut instance before leader also its_cut
          → gain (graph_at instance l insns) (finite.contains cut)
          ≡ gain (graph_at instance leader also) (finite.contains its_cut)
      same_gain its {also} {its_cut} own =
          gain_is_one order has (subst (λ k. HasPresentCut instance before k also its_cut) (sym its) own)
          ∙ ap (λ k. gain (graph_at instance k also) (finite.contains its_cut)) its
