-- A walk over the items of a tree of pairs, and what it tells of them.
use Rattle.std.proofs.Common.{◌≡◌, ℕ, suc, ◌+◌, ◌<◌, ◌≤◌, inl, inr, List, [], ◌∷◌, ◌++◌, length, length-append, length-drop, append_assoc, drop}
use Rattle.std.proofs.Common.{get_or, None, Result, Ok, Err, refl, sym, ap, ◌∙◌, subst, arith}
use Rattle.std.proofs.lemmas.List.{drop_more, drop-drop, drop_at}
use Rattle.std.specs.List.{AllByRecursion}
use Rattle.ci_word.specs.Numbers.{count_below}
use Rattle.ci_cut.specs.declared.graph.Limits.{Limits}
use Rattle.ci_cut.specs.FlowGraph.{FlowGraph}
use Rattle.ci_cut.specs.Prefixes.{is_eligible, eligible_nodes}
use Rattle.ci_cut.proofs.Represented.{represents_kept}
use Rattle.ci_pair.specs.declared.log.PairItem.{PairItem}
use Rattle.ci_pair.specs.declared.log.PairItem.TheVariants.{B}
use Rattle.ci_pair.specs.declared.checking.PairWrong.{PairWrong}
use Rattle.ci_pair.specs.declared.terms.PairTerms.{PairTerms}
use Rattle.ci_pair.specs.declared.terms.PairDelays.{PairDelays}
use Rattle.ci_pair.specs.Pairs.{First, Second, Out}
use Rattle.ci_pair.specs.Prefixes.{PairPrefix, choices}
use Rattle.ci_pair.specs.Trees.{IsLeaf, IsTree, leaf, branch}
use Rattle.ci_pair.specs.private.States.{Represents, AreKeptFrom}
use Rattle.ci_pair.specs.private.Judged.{IsTreeAt, IsJudged, IsBranchOn}
use Rattle.ci_pair.specs.Rules.{Given, IsRight, reason_of, Station, stations, reason_at, IsRightAt, IsFirstWrongIn}
use Rattle.ci_cut.proofs.FirstWrongLaws as first_wrong
use Rattle.ci_cut.proofs.FirstWrongLaws.{all_both}

-- ---- delays

pub kept_on : (p q r : ℕ) (a b c : PairDelays) → q ≤ p → r ≤ p → AreKeptFrom q a b → AreKeptFrom r b c → AreKeptFrom p a c
kept_on p q r a b c below less first second = record {
  first = λ k from. second.first k (omega arith) ∙ first.first k (omega arith);
  second = λ k from. second.second k (omega arith) ∙ first.second k (omega arith);
}

pub kept_above : (p q : ℕ) (a b : PairDelays) → q ≤ p → AreKeptFrom q a b → AreKeptFrom p a b
kept_above p q a b below kept = record { first = λ k from. kept.first k (omega arith); second = λ k from. kept.second k (omega arith) }

pub pairs_kept : (graph : FlowGraph) (prefix : PairPrefix) (terms : PairTerms) (delays later : PairDelays) → Represents graph prefix terms delays
    → AreKeptFrom terms.first.place delays later → Represents graph prefix terms later
pairs_kept graph prefix terms delays later represents kept = record {
  first = represents_kept graph (choices First prefix) terms.first delays.first represents.first later.first kept.first;
  second = represents_kept graph (choices Second prefix) terms.second delays.second represents.second later.second
      (λ k from. kept.second k (omega (arith, from, represents.same_place)));
  same_place = represents.same_place;
  shared_is = represents.shared_is;
}

-- ---- trees in a list of items

tree_nonempty : {items : List PairItem} → IsTree items → 1 ≤ length items
tree_nonempty (leaf is) = omega arith
tree_nonempty (branch first second out) = omega arith

pub length-stations : {items : List PairItem} (tree : IsTree items) (prefix : PairPrefix) → length (stations tree prefix) ≡ length items
length-stations (leaf is) prefix = refl
length-stations (branch {first = firsts} {second = seconds} {out = outs} first second out) prefix =
    omega (
      arith,
      length-append (stations first (First ∷ prefix)) (stations second (Second ∷ prefix) ++ stations out (Out ∷ prefix)),
      length-append (stations second (Second ∷ prefix)) (stations out (Out ∷ prefix)),
      length-append firsts (seconds ++ outs),
      length-append seconds outs,
      length-stations first (First ∷ prefix),
      length-stations second (Second ∷ prefix),
      length-stations out (Out ∷ prefix),
    )

pub tree_within : (items : List PairItem) (place : ℕ) → IsTreeAt items place → place < length items
tree_within items place at_place =
    let parts = sym (length-drop place items) ∙ ap length at_place.is_split ∙ length-append at_place.one at_place.rest in
    omega (arith, parts, tree_nonempty at_place.tree)

-- the item at a place, and the items behind it
pub first_item : (items one rest : List PairItem) (place : ℕ) → place < length items → drop place items ≡ one ++ rest
    → get_or items place B ∷ drop (place + 1) items ≡ one ++ rest
first_item items one rest place within is = sym (drop_more items place B within) ∙ is

-- the trees below a branch
pub record SubTrees {one : List PairItem} (tree : IsTree one) (prefix : PairPrefix) (tail rest : List PairItem) : Type 0 where
  pub first : List PairItem
  pub second : List PairItem
  pub out : List PairItem
  pub first_tree : IsTree first
  pub second_tree : IsTree second
  pub out_tree : IsTree out
  pub is_tail : tail ≡ first ++ (second ++ (out ++ rest))
  pub are_stations : stations tree prefix ≡
      (record { prefix = prefix; item = B } ∷ (stations first_tree (First ∷ prefix)
      ++ (stations second_tree (Second ∷ prefix) ++ stations out_tree (Out ∷ prefix))))

pub sub_trees : {one : List PairItem} (tree : IsTree one) (prefix : PairPrefix) (item : PairItem) (tail rest : List PairItem)
    → item ∷ tail ≡ one ++ rest → item ≡ B → SubTrees tree prefix tail rest
sub_trees (leaf {item = here} is) prefix item tail rest splits branches =
    let same : here ≡ B = (cc) in
    absurd (subst IsLeaf same is)
sub_trees (branch {first = first} {second = second} {out = out} first_tree second_tree out_tree) prefix item tail rest splits branches =
    let behind : tail ≡ (first ++ (second ++ out)) ++ rest = (cc) in
    record {
      first = first;
      second = second;
      out = out;
      first_tree = first_tree;
      second_tree = second_tree;
      out_tree = out_tree;
      is_tail = behind ∙ append_assoc first (second ++ out) rest ∙ ap (λ xs. first ++ xs) (append_assoc second out rest);
      are_stations = refl;
    }

-- where a tree ends, the rest begins
pub behind_tree : (items one rest : List PairItem) (start end : ℕ) (tree : IsTree one) (prefix : PairPrefix) → drop start items ≡ one ++ rest
    → end ≡ start + length (stations tree prefix) → drop end items ≡ rest
behind_tree items one rest start end tree prefix splits ends =
    let at_end : end ≡ start + length one = omega (arith, ends, length-stations tree prefix) in
    ap (λ k. drop k items) at_end ∙ sym (drop-drop (length one) start items) ∙ ap (drop (length one)) splits ∙ drop_at one rest (length one) refl

-- ---- right and wrong items

module _ (graph : FlowGraph) (limits : Limits) (best : Given) where
  wrong_at : (prefix : PairPrefix) (item here : PairItem) (behind : List Station) → item ≡ here → ¬ IsRight graph limits best prefix item
      → IsFirstWrongIn graph limits best (record { prefix = prefix; item = here } ∷ behind) 0 (reason_of item)
  wrong_at prefix item here behind same wrong =
      subst (λ (i : PairItem). IsFirstWrongIn graph limits best (record { prefix = prefix; item = i } ∷ behind) 0 (reason_of item)) same
      (first_wrong.wrong_here (IsRightAt graph limits best) reason_at (record { prefix = prefix; item = item }) behind wrong)

  -- the first item is wrong
  pub wrong_here : {one : List PairItem} (tree : IsTree one) (prefix : PairPrefix) (item : PairItem) (tail rest : List PairItem)
      → item ∷ tail ≡ one ++ rest → ¬ IsRight graph limits best prefix item
      → IsFirstWrongIn graph limits best (stations tree prefix) 0 (reason_of item)
  wrong_here (leaf {item = here} is) prefix item tail rest splits wrong =
      let same : item ≡ here = (cc) in
      wrong_at prefix item here [] same wrong
  wrong_here (branch first second out) prefix item tail rest splits wrong =
      let same : item ≡ B = (cc) in
      wrong_at prefix item B (stations first (First ∷ prefix) ++ (stations second (Second ∷ prefix) ++ stations out (Out ∷ prefix))) same wrong

  -- the first item is right, and no branch
  pub right_alone : {one : List PairItem} (tree : IsTree one) (prefix : PairPrefix) (item : PairItem) (tail rest : List PairItem)
      (place : ℕ) → item ∷ tail ≡ one ++ rest → IsRight graph limits best prefix item
      → IsBranchOn graph place item None → (count_below place (is_eligible graph) ≡ 0 → eligible_nodes graph ≤ length prefix)
      → AllByRecursion (IsRightAt graph limits best) (stations tree prefix) × (length (stations tree prefix) ≡ 1)
  right_alone (leaf {item = here} is) prefix item tail rest place splits right alone whole =
      let same : item ≡ here = (cc) in
      ((subst (λ i. IsRight graph limits best prefix i) same right, tt), refl)
  right_alone (branch first second out) prefix item tail rest place splits right alone whole =
      let same : item ≡ B = (cc) in
      absurd (elim alone [
        | inl is ↦ subst IsLeaf same is
        | inr none ↦ let undecided : length prefix < eligible_nodes graph =
            subst (λ i. IsRight graph limits best prefix i) same right in omega (arith, whole none)
      ])

  module _ {one : List PairItem} (tree : IsTree one) (prefix : PairPrefix) (tail rest : List PairItem)
      (parts : SubTrees tree prefix tail rest) (right : IsRight graph limits best prefix B) (place : ℕ) where
    abbrev firsts : List Station
    firsts = stations parts.first_tree (First ∷ prefix)

    abbrev seconds : List Station
    seconds = stations parts.second_tree (Second ∷ prefix)

    abbrev outs : List Station
    outs = stations parts.out_tree (Out ∷ prefix)

    abbrev here : Station
    here = record { prefix = prefix; item = B }

    pub judged_by_first : (wrong : PairWrong) → IsJudged graph limits best firsts (place + 1) (Err wrong)
        → IsJudged graph limits best (stations tree prefix) place (Err wrong)
    judged_by_first wrong (number, is, item) =
        rw parts.are_stations (
          suc number,
          first_wrong.wrong_later (IsRightAt graph limits best) reason_at here (firsts ++ (seconds ++ outs)) number wrong.reason right (first_wrong.wrong_left (IsRightAt graph limits best) reason_at firsts (seconds ++ outs) number wrong.reason is),
          omega arith,
        )

    pub judged_by_second : (end : ℕ) (wrong : PairWrong) → IsJudged graph limits best firsts (place + 1) (Ok end)
        → IsJudged graph limits best seconds end (Err wrong) → IsJudged graph limits best (stations tree prefix) place (Err wrong)
    judged_by_second end wrong (all, ends) (number, is, item) =
        rw parts.are_stations (
          suc (length firsts + number),
          first_wrong.wrong_later (IsRightAt graph limits best) reason_at here (firsts ++ (seconds ++ outs)) (length firsts + number) wrong.reason right
              (first_wrong.wrong_right (IsRightAt graph limits best) reason_at firsts (seconds ++ outs) number wrong.reason all (first_wrong.wrong_left (IsRightAt graph limits best) reason_at seconds outs number wrong.reason is)),
          omega arith,
        )

    pub judged_by_out : (end last : ℕ) (result : Result ℕ PairWrong) → IsJudged graph limits best firsts (place + 1) (Ok end)
        → IsJudged graph limits best seconds end (Ok last) → IsJudged graph limits best outs last result
        → IsJudged graph limits best (stations tree prefix) place result
    judged_by_out end last (Ok done) (all, ends) (all_second, lasts) (all_out, is_done) =
        rw parts.are_stations (
          (right, all_both (IsRightAt graph limits best) firsts (seconds ++ outs) all (all_both (IsRightAt graph limits best) seconds outs all_second all_out)),
          omega (arith, length-append firsts (seconds ++ outs), length-append seconds outs),
        )
    judged_by_out end last (Err wrong) (all, ends) (all_second, lasts) (number, is, item) =
        rw parts.are_stations (
          suc (length firsts + (length seconds + number)),
          first_wrong.wrong_later (IsRightAt graph limits best) reason_at here (firsts ++ (seconds ++ outs)) (length firsts + (length seconds + number)) wrong.reason right
              (first_wrong.wrong_right (IsRightAt graph limits best) reason_at firsts (seconds ++ outs) (length seconds + number) wrong.reason all (first_wrong.wrong_right (IsRightAt graph limits best) reason_at seconds outs number wrong.reason all_second is)),
          omega arith,
        )
