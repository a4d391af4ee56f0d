-- What the cut of a take saves: something, and little for each time that its block is entered.
use Rattle.std.proofs.Common.{◌≡◌, ℕ, zero, suc, ◌*◌, ◌<◌, ◌≤◌, Bool, true, false, List, [], ◌∷◌, length, Some, refl, ap, ◌∙◌, subst, inl, inr, arith}
use Rattle.std.specs.Prelude.{ℤ, pos, ◌<ℤ◌, ◌≤ℤ◌, ◌*ℤ◌, cond, filter, nat_lt, slice_get, unsigned_abs}
use Rattle.std.specs.FinSet as finite
use Rattle.std.specs.Ordering.{nat_cmp}
use Rattle.std.proofs.lemmas.Bool.{cases_eq}
use Rattle.std.proofs.lemmas.Bool.Decides.{nat_tests}
use Rattle.std.proofs.lemmas.Int.{ints, unsigned_abs-mul}
use Rattle.std.proofs.lemmas.Nat.{mul-le}
use Rattle.ci_lat.specs.TableRules.{IsLatencyTable}
use Rattle.ci_block.specs.Blocks.{AreInOrder}
use Rattle.ci_cut.specs.Gain.{gain}
use Rattle.ci_log.specs.declared.book.Entry.{Entry}
use Rattle.ci_log.specs.declared.book.Entry.TheVariants.{Take}
use Rattle.ci_select.specs.Histories.{History, HasCut, is_search_of, leader_of}
use Rattle.ci_select.specs.Instances.{Instance, AreOfSomeFile, entered}
use Rattle.ci_select.specs.PresentBlocks.{graph_at}
use Rattle.ci_select.specs.Candidates.{IsCandidate}
use Rattle.ci_select.specs.Dues.{IsSearchDue, at_first, after_take}
use Rattle.ci_select.specs.LegalBooks.{IsLegalHistory, IsRight}
use Rattle.ci_select.proofs.GainBounds.{gain_most}
use Rattle.ci_select.proofs.HistoryLaws.{kept_cut}
use Rattle.ci_select.proofs.PresentLaws.{blocks_in_order, cut_fits, cut_is_found, other_search, present_flows, present_is_sound, right_cases, take_is_due}

-- ---- blocks that were entered

-- what a filter keeps passes its test
kept_by :
    (p : ℕ → Bool) (ys : List ℕ) (y k x : ℕ) (b : Bool) → p y ≡ b
    → ((j : ℕ) → slice_get (filter p ys) j ≡ Some x → p x ≡ true)
    → slice_get (cond b (y ∷ filter p ys) (filter p ys)) k ≡ Some x → p x ≡ true
kept_by p ys y zero x true is rest at = let same : y ≡ x = cc in subst (λ z. p z ≡ true) same is
kept_by p ys y (suc k) x true is rest at = rest k at
kept_by p ys y k x false is rest at = rest k at

kept_passes : (p : ℕ → Bool) (xs : List ℕ) (k x : ℕ) → slice_get (filter p xs) k ≡ Some x → p x ≡ true
kept_passes p [] k x at = cc
kept_passes p (y ∷ ys) k x at = kept_by p ys y k x (p y) refl (λ j. kept_passes p ys j x) at

entered_is_entered : (instance : Instance) (k leader : ℕ) → slice_get (entered instance) k ≡ Some leader → 0 < instance.entries leader
entered_is_entered instance k leader at =
    let passes = kept_passes (λ l. nat_lt 0 (instance.entries l)) _ k leader at in
    some (instance.entries leader) passes
  where
    some : (n : ℕ) → nat_lt 0 n ≡ true → 0 < n
    some n passes = grind (arith, nat_tests)

-- blocks whose search is due were entered, and those that have a cut
record WereEntered (instance : Instance) (history : History) : Type 0 where
  by_due : (leader : ℕ) → IsSearchDue instance history leader → 0 < instance.entries leader
  by_cut : (leader : ℕ) (cut : finite.FinSet nat_cmp) → HasCut history leader cut → 0 < instance.entries leader

due_at_first : {instance : Instance} {leader : ℕ} → IsSearchDue instance [] leader → 0 < instance.entries leader
due_at_first {instance} {leader} (at_first first at) = entered_is_entered instance 0 leader at

due_behind :
    {instance : Instance} {history : History} {entry : Entry} {leader : ℕ} → IsRight instance history entry
    → WereEntered instance history → IsSearchDue instance (entry ∷ history) leader → 0 < instance.entries leader
due_behind {instance} {history} {entry} {leader} right before (at_first first at) =
    entered_is_entered instance (length (entry ∷ history)) leader at
due_behind {instance} {leader = leader} right before after_take =
    let candidate = (take_is_due right).next.candidate.candidate in
    before.by_cut leader candidate.cut candidate.has_cut.has_cut

cut_behind :
    {instance : Instance} {history : History} {entry : Entry} → IsRight instance history entry
    → WereEntered instance history → (leader : ℕ) (cut : finite.FinSet nat_cmp) → HasCut (entry ∷ history) leader cut
    → 0 < instance.entries leader
cut_behind {instance} {history} {entry} right before leader cut has = elim (right_cases right) [
  | inl is ↦ elim (cases_eq (leader_of entry) leader) [
    | inl its ↦ subst (λ l. 0 < instance.entries l) its (before.by_due (leader_of entry) is.is_due)
    | inr other ↦ before.by_cut leader cut (kept_cut (other_search entry leader other) has)
  ]
  | inr (l, unit, same, is) ↦ before.by_cut leader cut (kept_cut (ap (is_search_of leader) same) has)
]

were_entered : (instance : Instance) (history : History) → IsLegalHistory instance history → WereEntered instance history
were_entered instance [] legal = record {
  by_due = λ leader is. due_at_first is;
  by_cut = λ leader cut has. let none = has.found in cc;
}
were_entered instance (entry ∷ history) legal =
    let before = were_entered instance history legal.1 in
    record { by_due = λ leader is. due_behind legal.0 before is; by_cut = cut_behind legal.0 before }

-- ---- what the cut of a take saves

product_is : (more n : ℕ) (g : ℤ) → pos more ≡ g *ℤ pos n → more ≡ unsigned_abs g * n
product_is more n g is = ap unsigned_abs is ∙ unsigned_abs-mul g (pos n)

some_product : (more n : ℕ) (g : ℤ) → pos 0 <ℤ g → 0 < n → pos more ≡ g *ℤ pos n → 1 ≤ more
some_product more n g positive some is =
    let least : 1 ≤ unsigned_abs g = omega (arith, ints) in
    omega (arith, product_is more n g is, mul-le 1 1 (unsigned_abs g) n least some)

few_product : (more n : ℕ) (g : ℤ) → pos 0 <ℤ g → g ≤ℤ pos 256000 → pos more ≡ g *ℤ pos n → more ≤ 262144 * n
few_product more n g positive few is =
    let most : unsigned_abs g ≤ 262144 = omega (arith, ints) in
    omega (arith, product_is more n g is, mul-le (unsigned_abs g) n 262144 n most (omega arith))

module _ {instance : Instance} {history : History} {leader number more : ℕ} where
  -- it saves something,
  pub candidate_saves :
      AreInOrder instance.blocks → IsLegalHistory instance (Take leader number ∷ history)
      → IsCandidate instance history leader (pos more) → 1 ≤ more
  candidate_saves order legal candidate =
      let is = take_is_due legal.0 in
      let found = cut_is_found history order legal.1 (is.next.no_search leader) candidate.has_cut in
      let some = (were_entered instance history legal.1).by_cut leader candidate.cut candidate.has_cut.has_cut in
      some_product more (instance.entries leader) (gain (graph_at instance leader candidate.insns) (finite.contains candidate.cut))
      found.accepted.good.1 some candidate.saved_is

  -- and little
  pub candidate_saves_few :
      AreOfSomeFile instance.blocks instance.live → IsLatencyTable instance.table
      → IsLegalHistory instance (Take leader number ∷ history) → IsCandidate instance history leader (pos more)
      → more ≤ 262144 * instance.entries leader
  candidate_saves_few of_file kept legal candidate =
      let order = blocks_in_order instance of_file in
      let is = take_is_due legal.0 in
      let graph = graph_at instance leader candidate.insns in
      let found = cut_is_found history order legal.1 (is.next.no_search leader) candidate.has_cut in
      let fits = cut_fits order legal.1 (is.next.no_search leader) candidate.has_cut in
      let sound = present_is_sound of_file legal.1 candidate.has_cut.present in
      few_product more (instance.entries leader) (gain graph (finite.contains candidate.cut)) found.accepted.good.1
      (gain_most graph (finite.contains candidate.cut) (present_flows sound kept) fits) candidate.saved_is
