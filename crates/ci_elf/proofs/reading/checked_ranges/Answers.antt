use Rattle.std.proofs.Common.{◌≤◌, [], ◌∷◌, length, sym, ◌∙◌, ap, subst, arith, rules}
use Rattle.std.specs.List.{sum_by}
use Rattle.std.specs.List.Sorted.{IsPermutation}
use Rattle.std.proofs.lemmas.List.Sorted.{IsNonDecreasingBy-from_sort_by_key, IsPermutation-sym}
use Rattle.ci_elf.specs.Fields.{e_shnum, e_entry}
use Rattle.ci_elf.specs.Executables.{has_words, range_of, ranges_of, IsAscending, IsTextWord}
use Rattle.ci_elf.specs.Rules.{TextIsBounded, EntryIsText}
use Rattle.ci_elf.proofs.FieldLaws.{e_shnum_small}
use Rattle.ci_reading.proofs.BrokenLaws.{length_those}
use Rattle.ci_elf.proofs.CheckLaws.{handed_on, fault_here, fault_behind}
use Rattle.ci_elf.proofs.RangeLaws.{ascending, text_permuted}
use Rattle.ci_elf.proofs.reading.checked_ranges.Goals as goal

pub check_text_size-requires : goal.check_text_size-requires
unfolding ranges_of
check_text_size-requires c =
    omega (
      arith,
      e_shnum_small c.args.bytes.now (λ i. omega (arith, c.type_inv.bytes i)),
      length_those (has_words c.args.bytes.now) (range_of c.args.bytes.now) (e_shnum c.args.bytes.now),
      ap length (c.deref.ensures.value ∙ c.in_ok-ranges.ensures),
    )

pub returns-in_err-check_text_size-clause-test : goal.returns-in_err-check_text_size-clause-test
returns-in_err-check_text_size-clause-test c =
    handed_on c.args.bytes.now (TextIsBounded ∷ EntryIsText ∷ []) _ _ c.from_residual-in_err-check_text_size.ensures.1
    (fault_here c.args.bytes.now TextIsBounded (EntryIsText ∷ []) _
    (λ holds. c.in_err-check_text_size.ensures.0
    (subst (λ rs. sum_by (λ r. r.words) rs ≤ 262144) (sym (c.deref.ensures.value ∙ c.in_ok-ranges.ensures)) holds))
    c.in_err-check_text_size.ensures.1)

pub check_entry-requires : goal.check_entry-requires
check_entry-requires c =
    let moved = subst (λ rs. IsPermutation rs c.sort_unstable_by_key.new.self.items) c.in_ok-ranges.ensures c.sort_unstable_by_key.ensures.permutation in
    let order = IsNonDecreasingBy-from_sort_by_key (λ r. r.start) _ c.sort_unstable_by_key.ensures.sorted (λ a r q k. search rules) in
    subst IsAscending (sym c.deref-2.ensures.value)
    (ascending c.args.bytes.now c.requires.placed c.requires.sections c.requires.memory c.sort_unstable_by_key.new.self.items moved order)

pub returns-in_err-check_entry-clause-test : goal.returns-in_err-check_entry-clause-test
returns-in_err-check_entry-clause-test c =
    let moved = subst (λ rs. IsPermutation rs c.sort_unstable_by_key.new.self.items) c.in_ok-ranges.ensures c.sort_unstable_by_key.ensures.permutation in
    let bounded = subst (λ rs. sum_by (λ r. r.words) rs ≤ 262144) (c.deref.ensures.value ∙ c.in_ok-ranges.ensures) c.in_ok-check_text_size.ensures in
    handed_on c.args.bytes.now (TextIsBounded ∷ EntryIsText ∷ []) _ _ c.from_residual-in_err-check_entry.ensures.1
    (fault_behind c.args.bytes.now (TextIsBounded ∷ []) (EntryIsText ∷ []) _ (bounded, tt)
    (fault_here c.args.bytes.now EntryIsText [] _
    (λ holds. c.in_err-check_entry.ensures.0
    (subst (λ rs. IsTextWord rs c.entry.result) (sym c.deref-2.ensures.value)
    (subst (IsTextWord c.sort_unstable_by_key.new.self.items) (sym c.entry.ensures)
    (holds.0, text_permuted (ranges_of c.args.bytes.now) c.sort_unstable_by_key.new.self.items (e_entry c.args.bytes.now) moved holds.1))))
    c.in_err-check_entry.ensures.1))

pub returns-clause-test : goal.returns-clause-test
returns-clause-test c =
    let moved = subst (λ rs. IsPermutation rs c.sort_unstable_by_key.new.self.items) c.in_ok-ranges.ensures c.sort_unstable_by_key.ensures.permutation in
    let bounded = subst (λ rs. sum_by (λ r. r.words) rs ≤ 262144) (c.deref.ensures.value ∙ c.in_ok-ranges.ensures) c.in_ok-check_text_size.ensures in
    let known = subst (IsTextWord c.sort_unstable_by_key.new.self.items) c.entry.ensures
    (subst (λ rs. IsTextWord rs c.entry.result) c.deref-2.ensures.value c.in_ok-check_entry.ensures) in (
      bounded,
      (
        (
          known.0,
          text_permuted c.sort_unstable_by_key.new.self.items (ranges_of c.args.bytes.now) (e_entry c.args.bytes.now)
              (IsPermutation-sym _ _ moved) known.1,
        ),
        tt,
      ),
    )

pub returns-clause-ascending : goal.returns-clause-ascending
returns-clause-ascending c =
    let moved = subst (λ rs. IsPermutation rs c.sort_unstable_by_key.new.self.items) c.in_ok-ranges.ensures c.sort_unstable_by_key.ensures.permutation in
    let order = IsNonDecreasingBy-from_sort_by_key (λ r. r.start) _ c.sort_unstable_by_key.ensures.sorted (λ a r q k. search rules) in
    ascending c.args.bytes.now c.requires.placed c.requires.sections c.requires.memory c.sort_unstable_by_key.new.self.items moved order
