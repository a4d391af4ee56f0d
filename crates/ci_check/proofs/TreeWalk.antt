-- A walk over the items of a tree, and what it tells of them.
use Rattle.std.proofs.Common.{◌≡◌, ℕ, suc, ◌+◌, ◌<◌, ◌≤◌, true, false, inl, inr, List, [], ◌∷◌, ◌++◌, length}
use Rattle.std.proofs.Common.{length-append, length-drop, append_assoc, drop, get_or, None, Result, Ok, Err, refl, sym}
use Rattle.std.proofs.Common.{ap, ◌∙◌, subst, arith}
use Rattle.std.proofs.lemmas.List.{drop_more, drop-drop, drop_at}
use Rattle.std.specs.List.{AllByRecursion}
use Rattle.ci_word.specs.Numbers.{count_below}
use Rattle.ci_cut.specs.declared.graph.Limits.{Limits}
use Rattle.ci_cut.specs.FlowGraph.{FlowGraph}
use Rattle.ci_log.specs.declared.log.Item.{Item}
use Rattle.ci_log.specs.declared.log.Item.TheVariants.{B}
use Rattle.ci_log.specs.Trees.{IsLeaf, IsTree, leaf, branch}
use Rattle.ci_check.specs.declared.checking.Wrong.{Wrong}
use Rattle.ci_cut.specs.declared.prefix.PrefixTerms.{PrefixTerms}
use Rattle.ci_cut.specs.Prefixes.{Prefix, is_eligible, eligible_nodes}
use Rattle.ci_cut.specs.Representation.{Represents}
use Rattle.ci_check.specs.Rules.{Given, IsRight, reason_of, Station, stations, reason_at, IsRightAt, IsFirstWrongIn}
use Rattle.ci_check.specs.Representation.{IsTreeAt, IsJudged, IsBranchOn}
use Rattle.ci_cut.proofs.FirstWrongLaws as first_wrong
use Rattle.ci_cut.proofs.FirstWrongLaws.{all_both}

-- ---- trees in a list of items

tree_nonempty : {items : List Item} → IsTree items → 1 ≤ length items
tree_nonempty (leaf is) = omega arith
tree_nonempty (branch first second) = omega arith

pub length-stations : {items : List Item} (tree : IsTree items) (prefix : Prefix) → length (stations tree prefix) ≡ length items
length-stations (leaf is) prefix = refl
length-stations (branch {taken = in_items} {left_out = out_items} first second) prefix =
    ap suc (length-append (stations first (true ∷ prefix)) (stations second (false ∷ prefix))
    ∙ (λ i. length-stations first (true ∷ prefix) i + length-stations second (false ∷ prefix) i)
    ∙ sym (length-append in_items out_items))

pub tree_within : (items : List Item) (place : ℕ) → IsTreeAt items place → place < length items
tree_within items place at_place =
    let parts = sym (length-drop place items) ∙ ap length at_place.is_split ∙ length-append at_place.one at_place.rest in
    omega (arith, parts, tree_nonempty at_place.tree)

-- the item at a place, and the items behind it
pub first_item : (items one rest : List Item) (place : ℕ) → place < length items → drop place items ≡ one ++ rest
    → get_or items place B ∷ drop (place + 1) items ≡ one ++ rest
first_item items one rest place within is = sym (drop_more items place B within) ∙ is

-- the trees below a branch
pub record SubTrees {one : List Item} (tree : IsTree one) (prefix : Prefix) (tail rest : List Item) : Type 0 where
  pub first : List Item
  pub second : List Item
  pub first_tree : IsTree first
  pub second_tree : IsTree second
  pub is_tail : tail ≡ first ++ (second ++ rest)
  pub are_stations : stations tree prefix ≡
      (record { prefix = prefix; item = B } ∷ (stations first_tree (true ∷ prefix)
      ++ stations second_tree (false ∷ prefix)))

pub sub_trees : {one : List Item} (tree : IsTree one) (prefix : Prefix) (item : Item) (tail rest : List Item)
    → item ∷ tail ≡ one ++ rest → item ≡ B → SubTrees tree prefix tail rest
sub_trees (leaf {item = here} is) prefix item tail rest splits branches =
    let same : here ≡ B = (cc) in
    absurd (subst IsLeaf same is)
sub_trees (branch {taken = first} {left_out = second} first_tree second_tree) prefix item tail rest splits branches =
    let behind : tail ≡ (first ++ second) ++ rest = (cc) in
    record {
      first = first;
      second = second;
      first_tree = first_tree;
      second_tree = second_tree;
      is_tail = behind
          ∙ append_assoc first second rest;
      are_stations = refl;
    }

-- where the first tree below a branch ends, the second begins
pub behind_first : (items rest : List Item) (start end : ℕ) {one : List Item} {tree : IsTree one} {prefix : Prefix}
    (parts : SubTrees tree prefix (drop start items) rest)
    → end ≡ start + length (stations parts.first_tree (true ∷ prefix)) → drop end items ≡ parts.second ++ rest
behind_first items rest start end {prefix = prefix} parts ends =
    let at_end : end ≡ start + length parts.first = omega (arith, ends, length-stations parts.first_tree (true ∷ prefix)) in
    ap (λ k. drop k items) at_end
    ∙ sym (drop-drop (length parts.first) start items)
    ∙ ap (drop (length parts.first)) parts.is_tail
    ∙ drop_at parts.first (parts.second ++ rest) (length parts.first) refl

-- ---- right and wrong items

module _ (graph : FlowGraph) (limits : Limits) (best : Given) where
  -- the first item is wrong
  wrong_at : (prefix : Prefix) (item here : Item) (behind : List Station) → item ≡ here → ¬ IsRight graph limits best prefix item
      → IsFirstWrongIn graph limits best (record { prefix = prefix; item = here } ∷ behind) 0 (reason_of item)
  wrong_at prefix item here behind same wrong =
      subst (λ (i : Item). IsFirstWrongIn graph limits best (record { prefix = prefix; item = i } ∷ behind) 0 (reason_of item)) same
      (first_wrong.wrong_here (IsRightAt graph limits best) reason_at (record { prefix = prefix; item = item }) behind wrong)

  pub wrong_here : {one : List Item} (tree : IsTree one) (prefix : Prefix) (item : Item) (tail rest : List Item)
      → item ∷ tail ≡ one ++ rest → ¬ IsRight graph limits best prefix item
      → IsFirstWrongIn graph limits best (stations tree prefix) 0 (reason_of item)
  wrong_here (leaf {item = here} is) prefix item tail rest splits wrong =
      let same : item ≡ here = (cc) in
      wrong_at prefix item here [] same wrong
  wrong_here (branch first second) prefix item tail rest splits wrong =
      let same : item ≡ B = (cc) in
      wrong_at prefix item B (stations first (true ∷ prefix) ++ stations second (false ∷ prefix)) same wrong

  -- the first item is right, and no branch
  pub right_alone : {one : List Item} (tree : IsTree one) (prefix : Prefix) (item : Item) (tail rest : List Item)
      (place : ℕ) → item ∷ tail ≡ one ++ rest → IsRight graph limits best prefix item
      → IsBranchOn graph place item None → (count_below place (is_eligible graph) ≡ 0 → eligible_nodes graph ≤ length prefix)
      → AllByRecursion (IsRightAt graph limits best) (stations tree prefix) × (length (stations tree prefix) ≡ 1)
  right_alone (leaf {item = here} is) prefix item tail rest place splits right alone whole =
      let same : item ≡ here = (cc) in
      ((subst (λ i. IsRight graph limits best prefix i) same right, tt), refl)
  right_alone (branch first second) prefix item tail rest place splits right alone whole =
      let same : item ≡ B = (cc) in
      absurd (elim alone [
        | inl is ↦ subst IsLeaf same is
        | inr none ↦ let undecided : length prefix < eligible_nodes graph =
            subst (λ i. IsRight graph limits best prefix i) same right in omega (arith, whole none)
      ])

  module _ {one : List Item} (tree : IsTree one) (prefix : Prefix) (tail rest : List Item)
      (parts : SubTrees tree prefix tail rest) (right : IsRight graph limits best prefix B) (place : ℕ) where
    pub judged_by_first : (wrong : Wrong) → IsJudged graph limits best (stations parts.first_tree (true ∷ prefix))
        (place + 1) (Err wrong) → IsJudged graph limits best (stations tree prefix) place (Err wrong)
    judged_by_first wrong (number, is, item) =
        let first = stations parts.first_tree (true ∷ prefix) in
        let second = stations parts.second_tree (false ∷ prefix) in
        rw parts.are_stations (
          suc number,
          first_wrong.wrong_later (IsRightAt graph limits best) reason_at (record { prefix = prefix; item = B })
              (first ++ second) number wrong.reason right
              (first_wrong.wrong_left (IsRightAt graph limits best) reason_at first second number wrong.reason is),
          omega arith,
        )

    pub judged_by_second : (end : ℕ) (result : Result ℕ Wrong)
        → IsJudged graph limits best (stations parts.first_tree (true ∷ prefix)) (place + 1) (Ok end)
        → IsJudged graph limits best (stations parts.second_tree (false ∷ prefix)) end result
        → IsJudged graph limits best (stations tree prefix) place result
    judged_by_second end (Ok last) (all, ends) (all_second, last_is) =
        let first = stations parts.first_tree (true ∷ prefix) in
        let second = stations parts.second_tree (false ∷ prefix) in
        rw parts.are_stations ((right, all_both (IsRightAt graph limits best) first second all all_second), omega (arith, length-append first second))
    judged_by_second end (Err wrong) (all, ends) (number, is, item) =
        let first = stations parts.first_tree (true ∷ prefix) in
        let second = stations parts.second_tree (false ∷ prefix) in
        rw parts.are_stations (
          suc (length first + number),
          first_wrong.wrong_later (IsRightAt graph limits best) reason_at (record { prefix = prefix; item = B })
              (first ++ second) (length first + number) wrong.reason right
              (first_wrong.wrong_right (IsRightAt graph limits best) reason_at first second number wrong.reason all is),
          omega arith,
        )

-- the walk went on from the tree of a prefix to that of another, of which what is judged holds of the first
pub record Goes (graph : FlowGraph) (limits : Limits) (best : Given) (items : List Item) (terms : PrefixTerms) (delays : List ℕ)
    (prefix : Prefix) {one : List Item} (tree : IsTree one) (start place : ℕ) (rest : List Item) : Type 0 where
  pub now : Prefix
  pub here : List Item
  pub here_tree : IsTree here
  pub represents : Represents graph now terms delays
  pub is_split : drop place items ≡ here ++ rest
  pub judged : (result : Result ℕ Wrong) → IsJudged graph limits best (stations here_tree now) place result
      → IsJudged graph limits best (stations tree prefix) start result

-- where the first tree below a branch is right and ends, the walk goes on where the node is left out
pub goes_left : {graph : FlowGraph} {limits : Limits} {best : Given} {items : List Item} {terms : PrefixTerms} {delays : List ℕ}
    {prefix : Prefix} {one : List Item} {tree : IsTree one} {start place : ℕ} {rest : List Item}
    (goes : Goes graph limits best items terms delays prefix tree start place rest)
    (parts : SubTrees goes.here_tree goes.now (drop (place + 1) items) rest) → IsRight graph limits best goes.now B
    → (end : ℕ) → IsJudged graph limits best (stations parts.first_tree (true ∷ goes.now)) (place + 1) (Ok end)
    → (terms_left : PrefixTerms) (delays_left : List ℕ) → Represents graph (false ∷ goes.now) terms_left delays_left
    → Goes graph limits best items terms_left delays_left prefix tree start end rest
goes_left {graph = graph} {limits = limits} {best = best} {items = items} {place = place} {rest = rest} goes parts right end first
    terms_left delays_left represents = record {
      now = false ∷ goes.now;
      here = parts.second;
      here_tree = parts.second_tree;
      represents = represents;
      is_split = behind_first items rest (place + 1) end parts first.1;
      judged = λ result second. goes.judged result
          (judged_by_second graph limits best goes.here_tree goes.now _ rest parts right place end result first second);
    }
